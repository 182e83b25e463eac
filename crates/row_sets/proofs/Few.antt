-- A few own writes in the order of their keys, and others of greater keys.
use Rattle.std.proofs.Common.{◌≡◌, ◌∙◌, ◌+◌, ◌-◌, ℕ, zero, suc, List, [], ◌∷◌, ◌++◌, Option, Some, None, Ok, Err, arith, refl, cond, true, false, ap, sym, subst, length, T, append-nil}
use Rattle.std.specs.Prelude.{slice_get}
use Rattle.std.specs.List.{AllByRecursion}
use Rattle.std.specs.BTreeMap.{insert_entry}
use Rattle.std.specs.declared.cmp.Ordering.{Ordering}
use Rattle.std.specs.declared.cmp.Ordering.TheVariants.{Less, Equal, Greater}
use Rattle.std.specs.Cmp.{IsTotalOrder}
use Rattle.std.specs.Ordering.{is_eq, is_gt, is_lt, eq_by_cmp, ordering_reverse}
use Rattle.std.specs.FinMap as finite
use Rattle.std.specs.FinMap.{from_entries, get-from_entries, get-insert, same_map}
use Rattle.std.specs.FinMap.Entries.{find, put, is_sorted, below_all, by_order, find-put}
use Rattle.rel_base.specs.declared.access.Read.{Read}
use Rattle.rel_base.specs.declared.schema.TableDef.{TableDef}
use Rattle.rel_base.specs.declared.value.Value.{Value}
use Rattle.rel_base.specs.OwnWrites.{Keyed, covered, set_row}
use Rattle.rel_base.specs.Value.{key_cmp, key_cmp-total, key_cmp-exact}
use Rattle.rel_base.proofs.Bits.{both, first, second, is_Less}
use Rattle.rel_base.proofs.Frames.{put_front}
use Rattle.row_sets.specs.Few.{place_from, put_over}
use Rattle.row_sets.specs.Overlay.{lay_keys, put_own}
use Rattle.row_sets.specs.declared.table_writes.OwnWrite.{OwnWrite}
use Rattle.row_sets.proofs.Entries.{insert_is_put}
use Rattle.row_sets.proofs.Places as places
use Rattle.row_sets.proofs.Places.{BelongsAt, StandsAt}

-- ---- the place of a key

pub found_at : {X : Type 0} (key : List Value) (es : List (List Value × X)) (place : ℕ) → place_from 0 key es ≡ Ok place → StandsAt key_cmp key es place
found_at key es place is = places.found_at key_cmp key_cmp-total key es place is

pub missed_at : {X : Type 0} (key : List Value) (es : List (List Value × X)) (place : ℕ) → T (is_sorted key_cmp es) → place_from 0 key es ≡ Err place → BelongsAt key_cmp key es place
missed_at key es place up is = places.missed_at key_cmp key_cmp-total key es place up is

-- ---- a key after the last one

pub is_Greater : (o : Ordering) → is_gt o ≡ true → o ≡ Greater
is_Greater Less h = cc
is_Greater Equal h = cc
is_Greater Greater h = refl

module _ {X : Type 0} (key : List Value) where
  -- each key stands before it where the last one does
  all_before : (es : List (List Value × X)) (i : ℕ) (last : List Value × X) → T (is_sorted key_cmp es) → i + 1 ≡ length es → slice_get es i ≡ Some last → key_cmp last.0 key ≡ Less
      → AllByRecursion (λ e. key_cmp e.0 key ≡ Less) es
  all_before [] i last up end is less = tt
  all_before (e ∷ []) zero last up end is less = let same : e ≡ last = cc in (subst (λ x. key_cmp x.0 key ≡ Less) (sym same) less, tt)
  all_before (e ∷ []) (suc i) last up end is less = absurd (omega (arith, end))
  all_before (e ∷ f ∷ es) zero last up end is less = absurd (omega (arith, end))
  all_before (e ∷ f ∷ es) (suc i) last up end is less =
      let rest = all_before (f ∷ es) i last (second (below_all key_cmp e.0 (f ∷ es)) _ up) (omega (arith, end)) is less in
      let next : key_cmp e.0 f.0 ≡ Less = is_Less _ (first (is_lt (key_cmp e.0 f.0)) _ (first _ _ up)) in
      (key_cmp-total.trans e.0 f.0 key next rest.0, rest)

  greater : (e : List Value × X) → key_cmp e.0 key ≡ Less → key_cmp key e.0 ≡ Greater
  greater e less = key_cmp-total.antisymm key e.0 ∙ ap ordering_reverse less

  missed_after : (es : List (List Value × X)) → AllByRecursion (λ e. key_cmp e.0 key ≡ Less) es → find key_cmp key es ≡ None
  missed_after [] before = refl
  missed_after (e ∷ es) before = ap (λ o. cond (is_eq o) (Some e.1) (find key_cmp key es)) (greater e before.0) ∙ missed_after es before.1

  place_after : (at : ℕ) (es : List (List Value × X)) → AllByRecursion (λ e. key_cmp e.0 key ≡ Less) es → place_from at key es ≡ Err (at + length es)
  place_after at [] before = ap Err (omega arith)
  place_after at (e ∷ es) before =
      let one : at + 1 + length es ≡ at + suc (length es) = omega arith in
      ap (λ o. by_order o (Err at) (Ok at) (place_from (at + 1) key es)) (greater e before.0) ∙ place_after (at + 1) es before.1 ∙ ap Err one

  -- a key after all others is not found, and its place is the end
  pub record IsPast (es : List (List Value × X)) : Type 0 where
    pub missing : find key_cmp key es ≡ None
    pub place : place_from 0 key es ≡ Err (length es)

  pub past : (es : List (List Value × X)) (last : List Value × X) → T (is_sorted key_cmp es) → slice_get es (length es - 1) ≡ Some last → key_cmp key last.0 ≡ Greater → IsPast es
  past [] last up is more = record { missing = refl; place = refl }
  past (e ∷ es) last up is more =
      let end : length (e ∷ es) - 1 + 1 ≡ length (e ∷ es) = omega arith in
      let before = all_before (e ∷ es) (length (e ∷ es) - 1) last up end is (key_cmp-total.antisymm last.0 key ∙ ap ordering_reverse more) in
      let all : 0 + length (e ∷ es) ≡ length (e ∷ es) = omega arith in
      record { missing = missed_after (e ∷ es) before; place = place_after 0 (e ∷ es) before ∙ ap Err all }

-- ---- as a finite map

module _ {K : Type 0} (R : K → K → Ordering) (total : IsTotalOrder R) (exact : (a b : K) → R a b ≡ Equal → a ≡ b) where
  pub own_put : (key : K) (before after : Option (List Value)) (es : List (K × OwnWrite)) → from_entries {R = R} (put R key (put_over before after (find R key es)) es) ≡ put_own (from_entries es) key before after
  own_put key before after es =
      same_map total exact _ _ (λ q.
      get-from_entries total (put R key (put_over before after (find R key es)) es) q
      ∙ find-put R total q key (put_over before after (find R key es)) es
      ∙ sym (get-insert total (from_entries es) key (put_over before after (find R key es)) q ∙ ap (cond (eq_by_cmp R q key) (Some (put_over before after (find R key es)))) (get-from_entries total es q)))
      ∙ ap (λ own. finite.insert (from_entries es) key (put_over before after own)) (sym (get-from_entries total es key))

pub put_is_own : (key : List Value) (before after : Option (List Value)) (es : List (List Value × OwnWrite))
    → from_entries {R = key_cmp} (put key_cmp key (put_over before after (find key_cmp key es)) es) ≡ put_own (from_entries es) key before after
put_is_own = own_put key_cmp key_cmp-total key_cmp-exact

-- ---- some before others

module _ {X : Type 0} (key : List Value) where
  -- a key that stands in the first part
  pub found_first : (xs ys : List (List Value × X)) (v : X) → find key_cmp key xs ≡ Some v → find key_cmp key (xs ++ ys) ≡ Some v
  found_first [] ys v is = cc
  found_first (x ∷ xs) ys v is =
      elim (eq_by_cmp key_cmp key x.0) as (λ b. cond b (Some x.1) (find key_cmp key xs) ≡ Some v → cond b (Some x.1) (find key_cmp key (xs ++ ys)) ≡ Some v)
      [ true ↦ λ is. is | false ↦ λ is. found_first xs ys v is ] is

  -- and one that does not
  pub found_later : (xs ys : List (List Value × X)) → find key_cmp key xs ≡ None → find key_cmp key (xs ++ ys) ≡ find key_cmp key ys
  found_later [] ys none = refl
  found_later (x ∷ xs) ys none =
      elim (eq_by_cmp key_cmp key x.0) as (λ b. cond b (Some x.1) (find key_cmp key xs) ≡ None → cond b (Some x.1) (find key_cmp key (xs ++ ys)) ≡ find key_cmp key ys)
      [ true ↦ λ none. cc | false ↦ λ none. found_later xs ys none ] none

-- the first part of entries in order is in order
below_first : {X : Type 0} (k : List Value) (xs ys : List (List Value × X)) → T (below_all key_cmp k (xs ++ ys)) → T (below_all key_cmp k xs)
below_first k [] ys below = tt
below_first k (x ∷ xs) ys below = both _ _ (first _ _ below) (below_first k xs ys (second (is_lt (key_cmp k x.0)) _ below))

pub sorted_first : {X : Type 0} (xs ys : List (List Value × X)) → T (is_sorted key_cmp (xs ++ ys)) → T (is_sorted key_cmp xs)
sorted_first [] ys up = tt
sorted_first (x ∷ xs) ys up = both _ _ (below_first x.0 xs ys (first _ _ up)) (sorted_first xs ys (second (below_all key_cmp x.0 (xs ++ ys)) _ up))

-- the last of the first part is put among the others
pub put_last : {X : Type 0} (xs ys : List (List Value × X)) (key : List Value) (v : X) → T (is_sorted key_cmp ((xs ++ (key, v) ∷ []) ++ ys)) → xs ++ insert_entry key_cmp ys key v ≡ (xs ++ (key, v) ∷ []) ++ ys
put_last [] ys key v up = insert_is_put key_cmp key v ys ∙ put_front key_cmp key v ys (first _ _ up)
put_last (x ∷ xs) ys key v up = ap (λ fs. x ∷ fs) (put_last xs ys key v (second (below_all key_cmp x.0 ((xs ++ (key, v) ∷ []) ++ ys)) _ up))

-- both parts are laid over rows, one after the other
pub lay_both : (def : TableDef) (read : Read) (rows : Keyed) (xs ys : List (List Value × OwnWrite)) → lay_keys def read rows (xs ++ ys) ≡ lay_keys def read (lay_keys def read rows xs) ys
lay_both def read rows [] ys = refl
lay_both def read rows (x ∷ xs) ys = lay_both def read (set_row rows x.0 (covered def read x.1.after)) xs ys

-- the first part alone
pub alone : {A : Type 0} (xs ys : List A) → length ys ≡ 0 → xs ++ ys ≡ xs
alone xs [] none = append-nil xs
alone xs (y ∷ ys) none = absurd (omega (arith, none))
