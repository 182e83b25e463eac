-- The entries of some tables, one table after the other.
use Rattle.std.proofs.Common.{◌≡◌, ◌∙◌, ℕ, List, [], ◌∷◌, ◌++◌, Bool, true, false, cond, not, Option, Some, None, refl, ap, sym, subst, T, is_some, length, ◌+◌}
use Rattle.std.specs.Prelude.{⊤}
use Rattle.std.specs.BTreeMap.{is_at}
use Rattle.std.specs.Map.{lookup, keys_of}
use Rattle.std.specs.List.{AllByRecursion}
use Rattle.std.specs.List.Sorted.{IsStrictlySortedBy}
use Rattle.std.specs.Cmp.{eq_by_cmp_equiv, nat_cmp_total, tied_itself}
use Rattle.std.specs.Ordering.{nat_cmp, is_eq, is_lt, eq_by_cmp, ordering_then}
use Rattle.std.specs.declared.cmp.Ordering.{Ordering}
use Rattle.std.specs.declared.cmp.Ordering.TheVariants.{Less, Equal, Greater}
use Rattle.std.specs.FinMap.{FinMap, entries, entries_sorted, get, get-entries, get-from_entries, get-insert, get-empty, empty, from_entries, same_map, contains_key, len, len-entries, len-insert, nat_cmp-IsAntisymmetric}
use Rattle.std.specs.FinMap.Entries.{find, is_sorted, below_all}
use Rattle.rel_base.specs.declared.value.Value.{Value}
use Rattle.rel_base.specs.Tables.{ref_cmp, ref_cmp-total, ref_cmp-exact}
use Rattle.rel_base.specs.Value.{key_cmp, key_cmp-total}
use Rattle.rel_base.proofs.Bits.{both, first, second, is_Equal}
use Rattle.row_sets.specs.Overlay.{flat, in_table, put_own, first_before}
use Rattle.row_sets.specs.declared.table_writes.OwnWrite.{OwnWrite}
use Rattle.row_sets.proofs.Entries.{entries_of_sorted}

-- keys of one table compare as the keys do
one_table : (table : ℕ) (k l : List Value) → ref_cmp (table, k) (table, l) ≡ key_cmp k l
one_table table k l = ap (λ o. ordering_then o (key_cmp k l)) (tied_itself nat_cmp_total table)

-- keys of different tables differ
apart_then : (o p : Ordering) → is_eq o ≡ false → is_eq (ordering_then o p) ≡ false
apart_then Less p apart = refl
apart_then Equal p apart = absurd (subst T apart tt)
apart_then Greater p apart = refl

less_then : (o p : Ordering) → o ≡ Less → T (is_lt (ordering_then o p))
less_then o p less = subst (λ r. T (is_lt (ordering_then r p))) (sym less) tt

-- what a table that may be there has at a key
abbrev pub get_in : {X : Type 0} → Option (FinMap key_cmp X) → List Value → Option X
get_in None key = None
get_in (Some own) key = get own key

abbrev pub Rising : {X : Type 0} → List (ℕ × FinMap key_cmp X) → Type 0
Rising tables = IsStrictlySortedBy nat_cmp (keys_of tables)

-- entries of tables above another
abbrev Above : {X : Type 0} → ℕ → List ((ℕ × List Value) × X) → Type 0
Above table [] = ⊤
Above table (e ∷ es) = (nat_cmp table e.0.0 ≡ Less) × Above table es

module _ {X : Type 0} where
  -- ---- they stand in order

  below_above : (table : ℕ) (key : List Value) (es : List ((ℕ × List Value) × X)) → Above table es → T (below_all ref_cmp (table, key) es)
  below_above table key [] above = tt
  below_above table key (e ∷ es) above = both _ _ (less_then (nat_cmp table e.0.0) (key_cmp key e.0.1) above.0) (below_above table key es above.1)

  below_next : (table : ℕ) (key : List Value) (es : List (List Value × X)) (more : List ((ℕ × List Value) × X)) → T (below_all key_cmp key es) → Above table more → T (below_all ref_cmp (table, key) (in_table table es ++ more))
  below_next table key [] more below above = below_above table key more above
  below_next table key (e ∷ es) more below above =
      both _ _ (subst (λ o. T (is_lt o)) (sym (one_table table key e.0)) (first _ _ below)) (below_next table key es more (second (is_lt (key_cmp key e.0)) _ below) above)

  sorted_next : (table : ℕ) (es : List (List Value × X)) (more : List ((ℕ × List Value) × X)) → T (is_sorted key_cmp es) → Above table more → T (is_sorted ref_cmp more) → T (is_sorted ref_cmp (in_table table es ++ more))
  sorted_next table [] more up above rest = rest
  sorted_next table (e ∷ es) more up above rest =
      both _ _ (below_next table e.0 es more (first _ _ up) above) (sorted_next table es more (second (below_all key_cmp e.0 es) _ up) above rest)

  above_next : (low table : ℕ) (es : List (List Value × X)) (more : List ((ℕ × List Value) × X)) → nat_cmp low table ≡ Less → Above low more → Above low (in_table table es ++ more)
  above_next low table [] more less above = above
  above_next low table (e ∷ es) more less above = (less, above_next low table es more less above)

  above_flat : (low : ℕ) (tables : List (ℕ × FinMap key_cmp X)) → AllByRecursion (λ table. nat_cmp low table ≡ Less) (keys_of tables) → Above low (flat tables)
  above_flat low [] less = tt
  above_flat low (own ∷ rest) less = above_next low own.0 (entries own.1) (flat rest) less.0 (above_flat low rest less.1)

  pub sorted_flat : (tables : List (ℕ × FinMap key_cmp X)) → Rising tables → T (is_sorted ref_cmp (flat tables))
  unfolding IsStrictlySortedBy
  sorted_flat [] rise = tt
  sorted_flat (own ∷ rest) rise = sorted_next own.0 (entries own.1) (flat rest) (entries_sorted own.1) (above_flat own.0 rest rise.0) (sorted_flat rest rise.1)

  -- so they are the entries of the map that they make
  pub entries_flat : (tables : List (ℕ × FinMap key_cmp X)) → Rising tables → entries (from_entries {R = ref_cmp} (flat tables)) ≡ flat tables
  entries_flat tables rise = entries_of_sorted ref_cmp ref_cmp-total ref_cmp-exact (flat tables) (sorted_flat tables rise)

  -- ---- what they have at a key

  find_same : (table : ℕ) (key : List Value) (es : List (List Value × X)) (more : List ((ℕ × List Value) × X)) → find ref_cmp (table, key) more ≡ None → find ref_cmp (table, key) (in_table table es ++ more) ≡ find key_cmp key es
  find_same table key [] more none = none
  find_same table key (e ∷ es) more none = λ i. cond (is_eq (one_table table key e.0 i)) (Some e.1) (find_same table key es more none i)

  find_other : (q : ℕ × List Value) (table : ℕ) (es : List (List Value × X)) (more : List ((ℕ × List Value) × X)) → is_at (nat_cmp q.0) table ≡ false → find ref_cmp q (in_table table es ++ more) ≡ find ref_cmp q more
  find_other q table [] more apart = refl
  find_other q table (e ∷ es) more apart =
      ap (λ b. cond b (Some e.1) (find ref_cmp q (in_table table es ++ more))) (apart_then (nat_cmp q.0 table) (key_cmp q.1 e.0) apart) ∙ find_other q table es more apart

  -- a table below others is not among them
  pub absent : (table : ℕ) (tables : List (ℕ × FinMap key_cmp X)) → AllByRecursion (λ other. nat_cmp table other ≡ Less) (keys_of tables) → lookup (is_at (nat_cmp table)) tables ≡ None
  absent table [] less = refl
  absent table (own ∷ rest) less = ap (λ o. cond (is_eq o) (Some own.1) (lookup (is_at (nat_cmp table)) rest)) less.0 ∙ absent table rest less.1

  pub find_flat : (tables : List (ℕ × FinMap key_cmp X)) → Rising tables → (q : ℕ × List Value) → find ref_cmp q (flat tables) ≡ get_in (lookup (is_at (nat_cmp q.0)) tables) q.1
  unfolding IsStrictlySortedBy
  find_flat [] rise q = refl
  find_flat (own ∷ rest) rise q =
      elim (is_at (nat_cmp q.0) own.0) as (λ b. is_at (nat_cmp q.0) own.0 ≡ b → find ref_cmp q (in_table own.0 (entries own.1) ++ flat rest) ≡ get_in (cond b (Some own.1) (lookup (is_at (nat_cmp q.0)) rest)) q.1) [
        | true ↦ λ tied.
            let same : q.0 ≡ own.0 = nat_cmp-IsAntisymmetric q.0 own.0 (is_Equal (nat_cmp q.0 own.0) tied) in
            let none : find ref_cmp (own.0, q.1) (flat rest) ≡ None = find_flat rest rise.1 (own.0, q.1) ∙ ap (λ found. get_in found q.1) (absent own.0 rest rise.0) in
            ap (λ table. find ref_cmp (table, q.1) (in_table own.0 (entries own.1) ++ flat rest)) same ∙ find_same own.0 q.1 (entries own.1) (flat rest) none ∙ sym (get-entries own.1 q.1)
        | false ↦ λ apart. find_other q own.0 (entries own.1) (flat rest) apart ∙ find_flat rest rise.1 q
      ] refl

  pub get_flat : (tables : List (ℕ × FinMap key_cmp X)) → Rising tables → (q : ℕ × List Value) → get (from_entries {R = ref_cmp} (flat tables)) q ≡ get_in (lookup (is_at (nat_cmp q.0)) tables) q.1
  get_flat tables rise q = get-from_entries ref_cmp-total (flat tables) q ∙ find_flat tables rise q

-- ---- a row is left at a key of a table

-- what a table has that was put in the place of another
get_set : {X : Type 0} (b : Bool) (own : FinMap key_cmp X) (found : Option (FinMap key_cmp X)) (key : List Value) → get_in (cond b (Some own) found) key ≡ cond b (get own key) (get_in found key)
get_set true own found key = refl
get_set false own found key = refl

module _ (tables : List (ℕ × FinMap key_cmp OwnWrite)) (rise : Rising tables) (table : ℕ) (own : FinMap key_cmp OwnWrite)
    (old : (key : List Value) → get own key ≡ get_in (lookup (is_at (nat_cmp table)) tables) key) (key : List Value) where
  abbrev all : FinMap ref_cmp OwnWrite
  all = from_entries {R = ref_cmp} (flat tables)

  -- the table has at its key what all have
  get_old : (k : List Value) → get own k ≡ get all (table, k)
  get_old k = old k ∙ sym (get_flat tables rise (table, k))

  -- whether the key is new
  pub new_key : not (contains_key own key) ≡ not (contains_key all (table, key))
  new_key = ap (λ found. not (is_some found)) (get_old key)

  pub flat_put : (next : List (ℕ × FinMap key_cmp OwnWrite)) → Rising next → (before after : Option (List Value)) → ((n : ℕ) → lookup (is_at (nat_cmp n)) next ≡ cond (is_at (nat_cmp table) n) (Some (put_own own key before after)) (lookup (is_at (nat_cmp n)) tables))
      → from_entries {R = ref_cmp} (flat next) ≡ put_own all (table, key) before after
  flat_put next rise_next before after sets =
      let new : OwnWrite = record { before = first_before before (get own key); after = after } in
      let same_new : new ≡ record { before = first_before before (get all (table, key)); after = after } = ap (λ found. record { before = first_before before found; after = after }) (get_old key) in
      same_map ref_cmp-total ref_cmp-exact _ _ (λ q.
      get_flat next rise_next q ∙ ap (λ found. get_in found q.1) (sets q.0)
      ∙ get_set (is_at (nat_cmp table) q.0) (put_own own key before after) (lookup (is_at (nat_cmp q.0)) tables) q.1
      ∙ elim (is_at (nat_cmp table) q.0) as (λ b. is_at (nat_cmp table) q.0 ≡ b → cond b (get (put_own own key before after) q.1) (get_in (lookup (is_at (nat_cmp q.0)) tables) q.1) ≡ cond (eq_by_cmp ref_cmp q (table, key)) (Some new) (get all q)) [
        | true ↦ λ tied.
            let same : table ≡ q.0 = nat_cmp-IsAntisymmetric table q.0 (is_Equal (nat_cmp table q.0) tied) in
            get-insert key_cmp-total own key new q.1 ∙ (λ i. cond (is_eq (sym (one_table table q.1 key) i)) (Some new) (get_old q.1 i)) ∙ ap (λ t. cond (eq_by_cmp ref_cmp (t, q.1) (table, key)) (Some new) (get all (t, q.1))) same
        | false ↦ λ apart.
            let other : is_eq (nat_cmp q.0 table) ≡ false = sym ((eq_by_cmp_equiv nat_cmp_total).symm table q.0) ∙ apart in
            sym (get_flat tables rise q) ∙ ap (λ b. cond b (Some new) (get all q)) (sym (apart_then (nat_cmp q.0 table) (key_cmp q.1 key) other))
      ] refl
      ∙ ap (λ w. cond (eq_by_cmp ref_cmp q (table, key)) (Some w) (get all q)) same_new
      ∙ sym (get-insert ref_cmp-total all (table, key) (record { before = first_before before (get all (table, key)); after = after }) q))

-- no writes have nothing at a key
pub none_in : (key : List Value) → get (empty {X = OwnWrite} {R = key_cmp}) key ≡ None
none_in key = get-empty key_cmp key

-- how many there are after one more
pub counted_put : (tables next : List (ℕ × FinMap key_cmp OwnWrite)) → Rising tables → Rising next → (ref : ℕ × List Value) (before after : Option (List Value)) (new : Bool)
    → from_entries {R = ref_cmp} (flat next) ≡ put_own (from_entries (flat tables)) ref before after → new ≡ not (contains_key (from_entries {R = ref_cmp} (flat tables)) ref)
    → length (flat next) ≡ cond new (length (flat tables) + 1) (length (flat tables))
counted_put tables next rise rise_next ref before after new put is =
    let all : FinMap ref_cmp OwnWrite = from_entries {R = ref_cmp} (flat tables) in
    sym (count next rise_next) ∙ ap len put ∙ len-insert ref_cmp-total all ref (record { before = first_before before (get all ref); after = after })
    ∙ ap (λ n. cond (contains_key all ref) n (n + 1)) (count tables rise) ∙ turned (contains_key all ref) (length (flat tables)) (length (flat tables) + 1) ∙ ap (λ b. cond b (length (flat tables) + 1) (length (flat tables))) (sym is)
  where
    count : (es : List (ℕ × FinMap key_cmp OwnWrite)) → Rising es → len (from_entries {R = ref_cmp} (flat es)) ≡ length (flat es)
    count es up = len-entries (from_entries {R = ref_cmp} (flat es)) ∙ ap length (entries_flat es up)

    turned : (b : Bool) (x y : ℕ) → cond b x y ≡ cond (not b) y x
    turned true x y = refl
    turned false x y = refl
