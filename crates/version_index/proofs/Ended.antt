-- The versions that walks back over a history make, the last one first.
use Rattle.std.proofs.Common.{◌≡◌, ◌∙◌, ℕ, suc, zero, ◌<◌, ◌==◌, List, [], ◌∷◌, ◌++◌, ◌&&◌, true, false, cond, Option, Some, None, refl, ap, sym, subst, All, slice_get, take, drop, length, append_assoc, reverse, arith}
use Rattle.std.specs.List.{find}
use Rattle.std.specs.Option.{IsSomeAnd, option_map}
use Rattle.std.specs.Ordering.{is_eq}
use Rattle.std.proofs.lemmas.Bool.Decides.{Decides-eqb}
use Rattle.std.proofs.lemmas.List.{append-nil, reverse-append, take_all}
use Rattle.std.proofs.lemmas.List.Elements.{All-head, All-tail}
use Rattle.rel_base.specs.declared.access.Place.{Place}
use Rattle.rel_base.specs.declared.value.Value.{Value}
use Rattle.rel_base.specs.Tables.{Stamped}
use Rattle.rel_base.specs.Value.{key_cmp}
use Rattle.rel_base.proofs.Bits.{not_true}
use Rattle.row_sets.specs.declared.versions.Lifespan.{Lifespan}
use Rattle.row_sets.specs.Lifespans.{is_of_table, place_of, ended_by, lifespan, lifespans}
use Rattle.version_index.specs.Chain.{IsLast, is_on}
use Rattle.version_index.specs.Heads.{head_of}
use Rattle.version_index.specs.Rows.{AreFirsts, write_of}
use Rattle.version_index.proofs.Lasts.{get_of_part, take_of_part, below_of_get}
use Rattle.version_index.proofs.Logged.{same_ref}
use Rattle.row_sets.proofs.Histories.{drop_next, same_parts, unwrapped}

-- the first of two places that is there
abbrev or_place : Option Place → Option Place → Option Place
or_place None later = later
or_place (Some place) later = Some place

or_none : (place : Option Place) → or_place place None ≡ place
or_none None = refl
or_none (Some place) = refl

-- ---- at most one version more

pub reverse_more : (made : List Lifespan) (row : Option (List Value)) (place : Place) (ended : Option Place) → reverse (made ++ lifespan row place ended) ≡ lifespan row place ended ++ reverse made
reverse_more made None place ended = ap reverse (append-nil made)
reverse_more made (Some row) place ended = reverse-append made (lifespan (Some row) place ended)

-- ---- the versions of one key

module _ (ref : ℕ × List Value) where
  -- where the first of some writes on the key stands
  abbrev first_on : List Stamped → Option Place
  first_on history = option_map place_of (find (is_on ref) history)

  -- the versions of the key, where a later write ends the last one
  abbrev pub ended_later : List Stamped → Option Place → List Lifespan
  ended_later [] ended = []
  ended_later (x ∷ xs) ended = cond (is_on ref x) (lifespan x.1.write.after (place_of x) (or_place (first_on xs) ended)) [] ++ ended_later xs ended

  -- where no later write does, they are the versions of the key
  pub ended_by_none : (history : List Stamped) → ended_later history None ≡ lifespans (is_on ref) history
  ended_by_none [] = refl
  ended_by_none (x ∷ xs) =
      elim (is_on ref x) as (λ b. is_on ref x ≡ b → cond b (lifespan x.1.write.after (place_of x) (or_place (first_on xs) None)) [] ++ ended_later xs None
      ≡ cond b (lifespan x.1.write.after (place_of x) (ended_by x xs)) [] ++ lifespans (is_on ref) xs) [
        | true ↦ λ on. (λ i. lifespan x.1.write.after (place_of x) ((or_none (first_on xs) ∙ ap (λ r. option_map place_of (find (is_on r) xs)) (sym (same_ref ref x on))) i) ++ ended_by_none xs i)
        | false ↦ λ off. ended_by_none xs
      ] refl

  none_found : (history : List Stamped) → All (λ x. is_on ref x ≡ false) history → find (is_on ref) history ≡ None
  none_found [] none = refl
  none_found (x ∷ xs) none = ap (λ b. cond b (Some x) (find (is_on ref) xs)) (All-head (λ y. is_on ref y ≡ false) x xs none) ∙ none_found xs (All-tail (λ y. is_on ref y ≡ false) x xs none)

  -- where no write is on the key, there is no version
  no_versions : (history : List Stamped) (ended : Option Place) → All (λ x. is_on ref x ≡ false) history → ended_later history ended ≡ []
  no_versions [] ended none = refl
  no_versions (x ∷ xs) ended none =
      ap (λ b. cond b (lifespan x.1.write.after (place_of x) (or_place (first_on xs) ended)) [] ++ ended_later xs ended) (All-head (λ y. is_on ref y ≡ false) x xs none)
      ∙ no_versions xs ended (All-tail (λ y. is_on ref y ≡ false) x xs none)

  -- the first write on the key stands before one that is on it, or is that one
  first_within : (xs : List Stamped) (number : ℕ) (x : Stamped) (ended : Option Place) → slice_get xs number ≡ Some x → is_on ref x ≡ true → or_place (first_on xs) ended ≡ or_place (first_on (take number xs)) (Some (place_of x))
  first_within [] number x ended there on = cc
  first_within (y ∷ ys) zero x ended there on =
      let same = unwrapped y x there in
      ap (λ b. or_place (option_map place_of (cond b (Some y) (find (is_on ref) ys))) ended) (ap (is_on ref) same ∙ on) ∙ ap (λ z. Some (place_of z)) same
  first_within (y ∷ ys) (suc number) x ended there on =
      elim (is_on ref y) as (λ b. or_place (option_map place_of (cond b (Some y) (find (is_on ref) ys))) ended ≡ or_place (option_map place_of (cond b (Some y) (find (is_on ref) (take number ys)))) (Some (place_of x))) [
        | true ↦ refl
        | false ↦ first_within ys number x ended there on
      ]

  -- the last write on the key makes the last version
  last_version : (xs : List Stamped) (number : ℕ) (x : Stamped) (ended : Option Place) → slice_get xs number ≡ Some x → IsLast (is_on ref) xs (Some number)
      → ended_later xs ended ≡ ended_later (take number xs) (Some (place_of x)) ++ lifespan x.1.write.after (place_of x) ended
  last_version [] number x ended there last = cc
  last_version (y ∷ ys) zero x ended there last =
      let same = unwrapped y x there in
      ap (λ b. cond b (lifespan y.1.write.after (place_of y) (or_place (first_on ys) ended)) [] ++ ended_later ys ended) last.0
      ∙ (λ i. lifespan y.1.write.after (place_of y) (or_place (option_map place_of (none_found ys last.1 i)) ended) ++ no_versions ys ended last.1 i)
      ∙ append-nil (lifespan y.1.write.after (place_of y) ended) ∙ ap (λ (z : Stamped). lifespan z.1.write.after (place_of z) ended) same
  last_version (y ∷ ys) (suc number) x ended there last =
      let on : is_on ref x ≡ true = subst (λ found. IsSomeAnd found (λ s. is_on ref s ≡ true)) there last.0 in
      (λ i. cond (is_on ref y) (lifespan y.1.write.after (place_of y) (first_within ys number x ended there on i)) [] ++ last_version ys number x ended there last i)
      ∙ sym (append_assoc (cond (is_on ref y) (lifespan y.1.write.after (place_of y) (or_place (first_on (take number ys)) (Some (place_of x)))) []) (ended_later (take number ys) (Some (place_of x)))
      (lifespan x.1.write.after (place_of x) ended))

  -- ---- a walk back along the writes on the key

  -- a part of the history from its start, with the last write on the key in it; its versions, and those that were made after it, are
  -- those of the history
  abbrev pub VersionWalk : List Stamped → Option ℕ → Option Place → List Lifespan → Type 0
  VersionWalk history place ended made = (part : ℕ) × IsLast (is_on ref) (take part history) place × (ended_later (take part history) ended ++ reverse made ≡ lifespans (is_on ref) history)

  pub versions_start : (history : List Stamped) (head : Option ℕ) → IsLast (is_on ref) history head → VersionWalk history head None []
  versions_start history head last =
      let whole : history ≡ take (length history) history = sym (take_all (length history) history (omega arith)) in (
        length history,
        subst (λ xs. IsLast (is_on ref) xs head) whole last,
        append-nil (ended_later (take (length history) history) None) ∙ ap (λ xs. ended_later xs None) (sym whole) ∙ ended_by_none history,
      )

  pub versions_end : (history : List Stamped) (ended : Option Place) (made : List Lifespan) → VersionWalk history None ended made → reverse made ≡ lifespans (is_on ref) history
  versions_end history ended made walk = ap (λ xs. xs ++ reverse made) (sym (no_versions (take walk.0 history) ended walk.1)) ∙ walk.2

  pub versions_back : (history : List Stamped) (number : ℕ) (x : Stamped) (earlier : Option ℕ) (ended : Option Place) (made : List Lifespan) → slice_get history number ≡ Some x
      → IsLast (is_on ref) (take number history) earlier → VersionWalk history (Some number) ended made
      → VersionWalk history earlier (Some (place_of x)) (made ++ lifespan x.1.write.after (place_of x) ended)
  versions_back history number x earlier ended made there link walk =
      let P : Stamped → Type 0 = λ s. is_on ref s ≡ true in
      let part = take walk.0 history in
      let own = lifespan x.1.write.after (place_of x) ended in
      let here : slice_get part number ≡ Some x = get_of_part P walk.0 number history walk.1.0 ∙ there in
      let before : take number part ≡ take number history = take_of_part P walk.0 number history walk.1.0 in (
        number,
        link,
        ap (λ xs. ended_later (take number history) (Some (place_of x)) ++ xs) (reverse_more made x.1.write.after (place_of x) ended)
            ∙ sym (append_assoc (ended_later (take number history) (Some (place_of x))) own (reverse made))
            ∙ ap (λ xs. (ended_later xs (Some (place_of x)) ++ own) ++ reverse made) (sym before)
            ∙ ap (λ xs. xs ++ reverse made) (sym (last_version part number x ended here walk.1)) ∙ walk.2,
      )

  -- the write at which a walk is, is on the key
  pub versions_on : (history : List Stamped) (number : ℕ) (x : Stamped) (ended : Option Place) (made : List Lifespan) → slice_get history number ≡ Some x → VersionWalk history (Some number) ended made → is_on ref x ≡ true
  versions_on history number x ended made there walk =
      let P : Stamped → Type 0 = λ s. is_on ref s ≡ true in
      subst (λ found. IsSomeAnd found P) (get_of_part P walk.0 number history walk.1.0 ∙ there) walk.1.0

  pub versions_below : (history : List Stamped) (number : ℕ) (ended : Option Place) (made : List Lifespan) → VersionWalk history (Some number) ended made → number < length history
  versions_below history number ended made walk =
      let P : Stamped → Type 0 = λ s. is_on ref s ≡ true in
      below_of_get P number history (subst (λ found. IsSomeAnd found P) (get_of_part P walk.0 number history walk.1.0) walk.1.0)

-- ---- the versions of one table

module _ (table : ℕ) (history : List Stamped) (number : ℕ) (x : Stamped) (there : slice_get history number ≡ Some x) where
  -- a write of another table makes none
  pub all_skip : (x.1.write.table ≡ table → ⊥) → lifespans (is_of_table table) (drop (suc number) history) ≡ lifespans (is_of_table table) (drop number history)
  all_skip other =
      ap (λ b. cond b (lifespan x.1.write.after (place_of x) (ended_by x (drop (suc number) history))) [] ++ lifespans (is_of_table table) (drop (suc number) history))
      (sym (not_true (x.1.write.table == table) (λ same. other ((Decides-eqb x.1.write.table table).0 same))))
      ∙ ap (lifespans (is_of_table table)) (sym (drop_next history number x there))

  -- a write of the table makes one where it leaves a row, and the next write on its key ends it
  pub all_step : (made : List Lifespan) (ended : Option Place) → x.1.write.table ≡ table → reverse made ≡ lifespans (is_of_table table) (drop (suc number) history)
      → ended ≡ option_map place_of (find (is_on (table, x.1.write.key)) (drop (suc number) history))
      → reverse (made ++ lifespan x.1.write.after (place_of x) ended) ≡ lifespans (is_of_table table) (drop number history)
  all_step made ended same behind is =
      let later = drop (suc number) history in
      let ends : ended ≡ ended_by x later = is ∙ ap (λ t. option_map place_of (find (is_on (t, x.1.write.key)) later)) (sym same) in
      reverse_more made x.1.write.after (place_of x) ended
      ∙ (λ i. lifespan x.1.write.after (place_of x) (ends i) ++ behind i)
      ∙ ap (λ b. cond b (lifespan x.1.write.after (place_of x) (ended_by x later)) [] ++ lifespans (is_of_table table) later) (sym ((Decides-eqb x.1.write.table table).1 same))
      ∙ ap (lifespans (is_of_table table)) (sym (drop_next history number x there))

  -- the write is the first one on its key from its number on
  pub firsts_step : (heads new : List (List Value × Option ℕ)) → AreFirsts table (suc number) history heads
      → ((key : List Value) → head_of new key ≡ cond (is_on (table, key) x) (Some number) (head_of heads key)) → AreFirsts table number history new
  firsts_step heads new firsts sets key =
      ap (write_of history) (sets key)
      ∙ elim (is_on (table, key) x) as (λ b. write_of history (cond b (Some number) (head_of heads key)) ≡ cond b (Some x) (find (is_on (table, key)) (drop (suc number) history))) [ true ↦ there | false ↦ firsts key ]
      ∙ ap (find (is_on (table, key))) (sym (drop_next history number x there))

  -- a write of another table is on none of its keys
  pub firsts_skip : (heads : List (List Value × Option ℕ)) → (x.1.write.table ≡ table → ⊥) → AreFirsts table (suc number) history heads → AreFirsts table number history heads
  firsts_skip heads other firsts =
      firsts_step heads heads firsts (λ key. ap (λ b. cond b (Some number) (head_of heads key)) (sym (same_parts table x.1.write.table (key_cmp key x.1.write.key)
      ∙ ap (λ b. b && is_eq (key_cmp key x.1.write.key)) (not_true (table == x.1.write.table) (λ same. other (sym ((Decides-eqb table x.1.write.table).0 same)))))))
