-- The rows that a read gets, key by key.
use Rattle.std.proofs.Common.{◌≡◌, ◌∙◌, ℕ, List, [], ◌∷◌, ◌++◌, Bool, true, false, ◌&&◌, ◌||◌, ◌==◌, cond, Option, Some, None, refl, ap, sym, subst, T, All, map}
use Rattle.std.specs.List.{filter, AllByRecursion}
use Rattle.std.specs.List.Sorted.{IsStrictlySortedBy}
use Rattle.std.specs.declared.cmp.Ordering.{Ordering}
use Rattle.std.specs.declared.cmp.Ordering.TheVariants.{Less, Equal}
use Rattle.std.specs.Ordering.{is_lt, eq_by_cmp, ordering_then}
use Rattle.std.specs.Cmp.{tied_itself, nat_cmp_total}
use Rattle.std.specs.FinMap.{entries, entries_sorted, get, get-entries}
use Rattle.std.specs.FinMap.Entries.{find, is_sorted, below_all, same_entries}
use Rattle.std.proofs.lemmas.List.Elements.{All-head, All-tail}
use Rattle.std.proofs.lemmas.Bool.Decides.{Decides-eqb}
use Rattle.rel_base.specs.declared.access.Read.{Read}
use Rattle.rel_base.specs.declared.access.Seen.{Seen}
use Rattle.rel_base.specs.declared.schema.TableDef.{TableDef}
use Rattle.rel_base.specs.declared.value.Value.{Value}
use Rattle.rel_base.specs.Access.{read_table, covers_row}
use Rattle.rel_base.specs.Tables.{Tables, ref_cmp, ref_cmp-total, ref_cmp-exact, is_read, rows}
use Rattle.rel_base.specs.Value.{key_cmp}
use Rattle.rel_base.proofs.Bits.{both, is_Equal}
use Rattle.rel_base.proofs.Commutes.{is_sorted-filter}
use Rattle.version_index.specs.Rows.{covered_row, rows_of_keys}
use Rattle.row_sets.proofs.Entries.{find-filter, kept_if}
use Rattle.row_sets.proofs.Histories.{unwrapped}

-- what holds of each entry, holds of one that is found
pub All-found : {K X : Type 0} (R : K → K → Ordering) (exact : (a b : K) → R a b ≡ Equal → a ≡ b) (P : K × X → Type 0) (q : K) (es : List (K × X)) (x : X) → All P es → find R q es ≡ Some x → P (q, x)
All-found R exact P q [] x all found = cc
All-found R exact P q (e ∷ es) x all found =
    elim (eq_by_cmp R q e.0) as (λ t. eq_by_cmp R q e.0 ≡ t → cond t (Some e.1) (find R q es) ≡ Some x → P (q, x)) [
      | true ↦ λ tied found. subst P (λ i. (sym (exact q e.0 (is_Equal (R q e.0) tied)) i, unwrapped e.1 x found i)) (All-head P e es all)
      | false ↦ λ apart found. All-found R exact P q es x (All-tail P e es all) found
    ] refl found

-- ---- rows key by key

module _ (def : TableDef) (read : Read) (tables : Tables) where
  -- the table of the read
  abbrev table : ℕ
  table = read_table read

  -- the entry of a key, where it is there and the read covers its row
  abbrev entry_of : List Value → Option Seen → List ((ℕ × List Value) × Seen)
  entry_of key None = []
  entry_of key (Some seen) = cond (covers_row def read seen.row) (((table, key), seen) ∷ []) []

  abbrev entries_of : List (List Value) → List ((ℕ × List Value) × Seen)
  entries_of [] = []
  entries_of (key ∷ keys) = entry_of key (get tables (table, key)) ++ entries_of keys

  -- whether a key of the table is among keys
  abbrev pub among_keys : ℕ × List Value → List (List Value) → Bool
  among_keys q [] = false
  among_keys q (key ∷ keys) = eq_by_cmp ref_cmp q (table, key) || among_keys q keys

  -- the rows of the entries are those of the keys
  rows_of_entry : (key : List Value) (found : Option Seen) (rest : List ((ℕ × List Value) × Seen)) → map (λ e. e.1) (entry_of key found ++ rest) ≡ covered_row def read found ++ map (λ e. e.1) rest
  rows_of_entry key None rest = refl
  rows_of_entry key (Some seen) rest =
      elim (covers_row def read seen.row) as (λ b. map (λ e. e.1) (cond b (((table, key), seen) ∷ []) [] ++ rest) ≡ cond b (seen ∷ []) [] ++ map (λ e. e.1) rest) [ true ↦ refl | false ↦ refl ]

  rows_of_entries : (keys : List (List Value)) → map (λ e. e.1) (entries_of keys) ≡ rows_of_keys def read tables table keys
  rows_of_entries [] = refl
  rows_of_entries (key ∷ keys) =
      rows_of_entry key (get tables (table, key)) (entries_of keys) ∙ ap (λ rows. covered_row def read (get tables (table, key)) ++ rows) (rows_of_entries keys)

  -- a lesser key stands below the entries of greater ones
  less_ref : (a b : List Value) → key_cmp a b ≡ Less → T (is_lt (ref_cmp (table, a) (table, b)))
  less_ref a b less = subst (λ o. T (is_lt (ordering_then o (key_cmp a b)))) (sym (tied_itself nat_cmp_total table)) (subst (λ o. T (is_lt o)) (sym less) tt)

  below_entry : (low key : List Value) (found : Option Seen) (rest : List ((ℕ × List Value) × Seen)) → key_cmp low key ≡ Less → T (below_all ref_cmp (table, low) rest)
      → T (below_all ref_cmp (table, low) (entry_of key found ++ rest))
  below_entry low key None rest less below = below
  below_entry low key (Some seen) rest less below =
      elim (covers_row def read seen.row) as (λ b. T (below_all ref_cmp (table, low) (cond b (((table, key), seen) ∷ []) [] ++ rest))) [ true ↦ both _ _ (less_ref low key less) below | false ↦ below ]

  below_entries : (low : List Value) (keys : List (List Value)) → AllByRecursion (λ key. key_cmp low key ≡ Less) keys → T (below_all ref_cmp (table, low) (entries_of keys))
  below_entries low [] less = tt
  below_entries low (key ∷ keys) less = below_entry low key (get tables (table, key)) (entries_of keys) less.0 (below_entries low keys less.1)

  sorted_entry : (key : List Value) (found : Option Seen) (rest : List ((ℕ × List Value) × Seen)) → T (below_all ref_cmp (table, key) rest) → T (is_sorted ref_cmp rest) → T (is_sorted ref_cmp (entry_of key found ++ rest))
  sorted_entry key None rest below sorted = sorted
  sorted_entry key (Some seen) rest below sorted =
      elim (covers_row def read seen.row) as (λ b. T (is_sorted ref_cmp (cond b (((table, key), seen) ∷ []) [] ++ rest))) [ true ↦ both _ _ below sorted | false ↦ sorted ]

  sorted_entries : (keys : List (List Value)) → IsStrictlySortedBy key_cmp keys → T (is_sorted ref_cmp (entries_of keys))
  unfolding IsStrictlySortedBy
  sorted_entries [] rise = tt
  sorted_entries (key ∷ keys) rise = sorted_entry key (get tables (table, key)) (entries_of keys) (below_entries key keys rise.0) (sorted_entries keys rise.1)

  -- what is found at a key of a table, where the read covers its row
  abbrev read_at : ℕ × List Value → Option Seen → Option Seen
  read_at q found = kept_if ref_cmp ref_cmp-exact (is_read def read) q found

  same_table : (table == table) ≡ true
  same_table = (Decides-eqb table table).1 refl

  -- a key that is among those of the entries: its row where the read covers it, and what is after is found at the key too
  found_here : (q : ℕ × List Value) (key : List Value) (found : Option Seen) (rest : List ((ℕ × List Value) × Seen)) → q ≡ (table, key) → eq_by_cmp ref_cmp q (table, key) ≡ true
      → (read_at q found ≡ None → find ref_cmp q rest ≡ None) → find ref_cmp q (entry_of key found ++ rest) ≡ read_at q found
  found_here q key None rest same tied behind = behind refl
  found_here q key (Some seen) rest same tied behind =
      let of_table : is_read def read (q, seen) ≡ covers_row def read seen.row = ap (λ r. (table == r.0) && covers_row def read seen.row) same ∙ ap (λ b. b && covers_row def read seen.row) same_table in
      elim (covers_row def read seen.row) as (λ b. covers_row def read seen.row ≡ b → find ref_cmp q (cond b (((table, key), seen) ∷ []) [] ++ rest) ≡ cond (is_read def read (q, seen)) (Some seen) None) [
        | true ↦ λ covers. ap (λ t. cond t (Some seen) (find ref_cmp q rest)) tied ∙ sym (ap (λ b. cond b (Some seen) None) (of_table ∙ covers))
        | false ↦ λ fails. let none = ap (λ b. cond b (Some seen) None) (of_table ∙ fails) in behind none ∙ sym none
      ] refl

  -- another key
  found_apart : (q : ℕ × List Value) (key : List Value) (found : Option Seen) (rest : List ((ℕ × List Value) × Seen)) → eq_by_cmp ref_cmp q (table, key) ≡ false → find ref_cmp q (entry_of key found ++ rest) ≡ find ref_cmp q rest
  found_apart q key None rest apart = refl
  found_apart q key (Some seen) rest apart =
      elim (covers_row def read seen.row) as (λ b. find ref_cmp q (cond b (((table, key), seen) ∷ []) [] ++ rest) ≡ find ref_cmp q rest) [
        | true ↦ ap (λ t. cond t (Some seen) (find ref_cmp q rest)) apart
        | false ↦ refl
      ]

  -- what is found among the entries of keys: the row of the key, where it is one of them and the read covers it
  find-entries_of : (q : ℕ × List Value) (keys : List (List Value)) → find ref_cmp q (entries_of keys) ≡ cond (among_keys q keys) (read_at q (get tables q)) None
  find-entries_of q [] = refl
  find-entries_of q (key ∷ keys) =
      let rest = find-entries_of q keys in
      elim (eq_by_cmp ref_cmp q (table, key)) as (λ t. eq_by_cmp ref_cmp q (table, key) ≡ t → find ref_cmp q (entry_of key (get tables (table, key)) ++ entries_of keys) ≡ cond (t || among_keys q keys) (read_at q (get tables q)) None) [
        | true ↦ λ tied.
            let same : q ≡ (table, key) = ref_cmp-exact q (table, key) (is_Equal (ref_cmp q (table, key)) tied) in
            let got : get tables (table, key) ≡ get tables q = ap (get tables) (sym same) in
            ap (λ found. find ref_cmp q (entry_of key found ++ entries_of keys)) got
            ∙ found_here q key (get tables q) (entries_of keys) same tied (λ none. rest ∙ either (among_keys q keys) (read_at q (get tables q)) none)
        | false ↦ λ apart. found_apart q key (get tables (table, key)) (entries_of keys) apart ∙ rest
      ] refl
    where
      either : (b : Bool) (found : Option Seen) → found ≡ None → cond b found None ≡ None
      either true found none = none
      either false found none = refl

  -- each row that the read gets is at one of the keys
  abbrev pub AllAmong : List (List Value) → Type 0
  AllAmong keys = (q : ℕ × List Value) (seen : Seen) → get tables q ≡ Some seen → is_read def read (q, seen) ≡ true → among_keys q keys ≡ true

  -- then those of the keys are all that it finds
  all_found : (keys : List (List Value)) → AllAmong keys → (q : ℕ × List Value) → cond (among_keys q keys) (read_at q (get tables q)) None ≡ read_at q (get tables q)
  all_found keys all q = go (get tables q) refl
    where
      go : (found : Option Seen) → get tables q ≡ found → cond (among_keys q keys) (read_at q found) None ≡ read_at q found
      go None is = elim (among_keys q keys) as (λ b. cond {A = Option Seen} b None None ≡ None) [ true ↦ refl | false ↦ refl ]
      go (Some seen) is =
          elim (is_read def read (q, seen)) as (λ b. is_read def read (q, seen) ≡ b → cond (among_keys q keys) (cond b (Some seen) None) None ≡ cond b (Some seen) None) [
            | true ↦ λ passes. ap (λ b. cond b (Some seen) None) (all q seen is passes)
            | false ↦ λ fails. elim (among_keys q keys) as (λ b. cond {A = Option Seen} b None None ≡ None) [ true ↦ refl | false ↦ refl ]
          ] refl

  -- and the rows of the keys are all that it gets
  pub rows_of_all : (keys : List (List Value)) → IsStrictlySortedBy key_cmp keys → AllAmong keys → rows_of_keys def read tables table keys ≡ rows def read tables
  rows_of_all keys rise all =
      sym (rows_of_entries keys) ∙ ap (map (λ e. e.1)) (same_entries ref_cmp ref_cmp-total ref_cmp-exact (entries_of keys) (filter (is_read def read) (entries tables)) (sorted_entries keys rise)
      (is_sorted-filter ref_cmp (is_read def read) (entries tables) (entries_sorted tables)) (λ q.
      find-entries_of q keys ∙ all_found keys all q
      ∙ sym (find-filter ref_cmp ref_cmp-exact (is_read def read) q (entries tables) (entries_sorted tables) ∙ ap (read_at q) (sym (get-entries tables q)))))
