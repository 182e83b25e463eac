-- The rows of one table that a read covers, as the tables have them.
use Rattle.std.proofs.Common.{◌≡◌, ◌∙◌, ℕ, List, [], ◌∷◌, Bool, true, false, ◌&&◌, ◌==◌, cond, Option, Some, None, Result, Ok, Err, IfOk, map, refl, ap, sym, subst, slice_get, nat_le, ◌<◌, ◌≤◌, arith}
use Rattle.std.specs.List.{filter}
use Rattle.std.specs.List.Sorted.{IsStrictlySortedBy}
use Rattle.std.specs.Map.{keys_of, lookup}
use Rattle.std.specs.Option.{option_map}
use Rattle.std.specs.declared.alloc.Global.{Global}
use Rattle.std.specs.declared.vec.Vec.{Vec}
use Rattle.std.specs.BTreeMap.{is_at}
use Rattle.std.specs.Ordering.{eq_by_cmp, is_eq, nat_cmp}
use Rattle.std.specs.Cmp.{eq_by_cmp_equiv, nat_cmp_total, tied_itself}
use Rattle.std.specs.FinMap.{FinMap, entries, entries_sorted, from_entries, get, get-entries, get-empty, nat_cmp-IsAntisymmetric}
use Rattle.std.specs.FinMap.Entries.{same_entries}
use Rattle.std.proofs.lemmas.Bool.Decides.{Decides-eqb, nat_tests}
use Rattle.std.proofs.lemmas.List.{append-nil}
use Rattle.rel_base.specs.declared.access.Read.{Read}
use Rattle.rel_base.specs.declared.access.Seen.{Seen}
use Rattle.rel_base.specs.declared.access.SeenRef.{SeenRef}
use Rattle.rel_base.specs.declared.schema.TableDef.{TableDef}
use Rattle.rel_base.specs.declared.value.Value.{Value}
use Rattle.rel_base.specs.Access.{covers_row, read_table}
use Rattle.rel_base.specs.Among.{rows_by, rows_in}
use Rattle.rel_base.specs.Lent.{seen_lent}
use Rattle.rel_base.specs.Tables.{Tables, Stamped, ref_cmp, ref_cmp-total, ref_cmp-exact, is_read, no_tables, rows, seen_at, set_stamped, set_write, write_ref, writes_up_to}
use Rattle.rel_base.specs.Value.{key_cmp, key_cmp-total, key_cmp-exact}
use Rattle.rel_base.proofs.Bits.{first_true, is_Equal, no_both, not_true, second_true}
use Rattle.rel_base.proofs.Commutes.{get-set_entry, is_sorted-filter}
use Rattle.row_sets.specs.Lifespans.{is_of_key}
use Rattle.row_sets.specs.Overlay.{flat, in_table}
use Rattle.row_sets.proofs.Entries.{entries_by_key, find-filter, get_is_lookup, kept_if}
use Rattle.row_sets.proofs.Flat.{find_flat, get_in, sorted_flat}
use Rattle.row_sets.proofs.Histories.{same_parts}
use Rattle.version_store.specs.Rows.{AreRows, covered_seen, row_at}

module _ (def : TableDef) (read : Read) where
  -- tables without rows
  pub rows_of_none : AreRows def read no_tables []
  rows_of_none key = ap (covered_seen def read) (sym (get-empty ref_cmp (read_table read, key)))

  -- a write of the table, whose row takes the place of the one at its key
  pub rows_set : (tables : Tables) (old new : List (List Value × SeenRef)) (s : Stamped) → s.1.write.table ≡ read_table read → AreRows def read tables old
      → ((q : List Value) → row_at new q ≡ cond (eq_by_cmp key_cmp s.1.write.key q) (covered_seen def read (seen_at s.0 s.1.pos s.1.write.after)) (row_at old q))
      → AreRows def read (set_write s.0 s.1.pos tables s.1.write) new
  rows_set tables old new s same are sets q =
      let tied : eq_by_cmp ref_cmp (read_table read, q) (write_ref s.1.write) ≡ eq_by_cmp key_cmp s.1.write.key q =
      same_parts (read_table read) s.1.write.table (key_cmp q s.1.write.key) ∙ ap (λ b. b && is_eq (key_cmp q s.1.write.key)) ((Decides-eqb (read_table read) s.1.write.table).1 (sym same))
      ∙ (eq_by_cmp_equiv key_cmp-total).symm q s.1.write.key in
      sets q
      ∙ ap (λ old_row. cond (eq_by_cmp key_cmp s.1.write.key q) (covered_seen def read (seen_at s.0 s.1.pos s.1.write.after)) old_row) (are q)
      ∙ covered_cond (eq_by_cmp key_cmp s.1.write.key q) (seen_at s.0 s.1.pos s.1.write.after) (get tables (read_table read, q))
      ∙ ap (λ b. covered_seen def read (cond b (seen_at s.0 s.1.pos s.1.write.after) (get tables (read_table read, q)))) (sym tied)
      ∙ ap (covered_seen def read) (sym (get-set_entry tables (write_ref s.1.write) (seen_at s.0 s.1.pos s.1.write.after) (read_table read, q)))
    where
      covered_cond : (b : Bool) (a c : Option Seen) → cond b (covered_seen def read a) (covered_seen def read c) ≡ covered_seen def read (cond b a c)
      covered_cond true a c = refl
      covered_cond false a c = refl

  -- a write of another table
  pub rows_other : (tables : Tables) (old : List (List Value × SeenRef)) (s : Stamped) → (s.1.write.table ≡ read_table read → ⊥) → AreRows def read tables old → AreRows def read (set_write s.0 s.1.pos tables s.1.write) old
  rows_other tables old s other are q =
      let apart : eq_by_cmp ref_cmp (read_table read, q) (write_ref s.1.write) ≡ false =
      same_parts (read_table read) s.1.write.table (key_cmp q s.1.write.key)
      ∙ ap (λ b. b && is_eq (key_cmp q s.1.write.key)) (not_true (read_table read == s.1.write.table) (λ same. other (sym ((Decides-eqb (read_table read) s.1.write.table).0 same)))) in
      are q ∙ ap (covered_seen def read) (sym (get-set_entry tables (write_ref s.1.write) (seen_at s.0 s.1.pos s.1.write.after) (read_table read, q)
      ∙ ap (λ b. cond b (seen_at s.0 s.1.pos s.1.write.after) (get tables (read_table read, q))) apart))

  -- the same, of a write in any block, where those up to a height count
  pub rows_other_step : (height : ℕ) (tables : Tables) (old : List (List Value × SeenRef)) (s : Stamped) → (s.1.write.table ≡ read_table read → ⊥) → AreRows def read tables old
      → AreRows def read (set_stamped tables (writes_up_to height (s ∷ []))) old
  rows_other_step height tables old s other are =
      elim (nat_le s.0 height) as (λ b. AreRows def read (set_stamped tables (cond b (s ∷ []) [])) old) [ true ↦ rows_other tables old s other are | false ↦ are ]

  pub rows_high_step : (height : ℕ) (tables : Tables) (old : List (List Value × SeenRef)) (s : Stamped) → height < s.0 → AreRows def read tables old → AreRows def read (set_stamped tables (writes_up_to height (s ∷ []))) old
  rows_high_step height tables old s high are =
      let fails : nat_le s.0 height ≡ false = grind (arith, nat_tests) in
      subst (λ b. AreRows def read (set_stamped tables (cond b (s ∷ []) [])) old) (sym fails) are

  pub rows_set_step : (height : ℕ) (tables : Tables) (old new : List (List Value × SeenRef)) (s : Stamped) → s.0 ≤ height → s.1.write.table ≡ read_table read → AreRows def read tables old
      → ((q : List Value) → row_at new q ≡ cond (eq_by_cmp key_cmp s.1.write.key q) (covered_seen def read (seen_at s.0 s.1.pos s.1.write.after)) (row_at old q))
      → AreRows def read (set_stamped tables (writes_up_to height (s ∷ []))) new
  rows_set_step height tables old new s low same are sets =
      let passes : nat_le s.0 height ≡ true = grind (arith, nat_tests) in
      subst (λ b. AreRows def read (set_stamped tables (cond b (s ∷ []) [])) new) (sym passes) (rows_set tables old new s same are sets)

  -- a covered row that is put in where the old one was taken out
  pub row_put : (tied : Bool) (old taken new : Option Seen) (block position : ℕ) (after : Option (List Value)) (row : List Value) → after ≡ Some row → covers_row def read row ≡ true → taken ≡ cond tied None old
      → new ≡ cond tied (Some (record { row = row; place = record { block = block; pos = position } })) taken → new ≡ cond tied (covered_seen def read (seen_at block position after)) old
  row_put tied old taken new block position after row is covers took put =
      let seen : Seen = record { row = row; place = record { block = block; pos = position } } in
      let whole : covered_seen def read (seen_at block position after) ≡ Some seen = ap (λ r. covered_seen def read (seen_at block position r)) is ∙ ap (λ b. cond b (Some seen) None) covers in
      put ∙ ap (cond tied (Some seen)) took ∙ twice (Some seen) tied ∙ ap (λ r. cond tied r old) (sym whole)
    where
      twice : (r : Option Seen) (b : Bool) → cond b r (cond b None old) ≡ cond b r old
      twice r true = refl
      twice r false = refl

  -- the rows of a read are those of its keys, in order
  pub rows_are : (tables : Tables) (es : List (List Value × Seen)) → IsStrictlySortedBy key_cmp (keys_of es) → ((key : List Value) → lookup (is_at (key_cmp key)) es ≡ covered_seen def read (get tables (read_table read, key)))
      → map (λ e. e.1) es ≡ rows def read tables
  unfolding IsStrictlySortedBy
  rows_are tables es rise are =
      let own : FinMap key_cmp Seen = from_entries {R = key_cmp} es in
      let one : List (ℕ × FinMap key_cmp Seen) = (read_table read, own) ∷ [] in
      let all : flat one ≡ filter (is_read def read) (entries tables) =
      same_entries ref_cmp ref_cmp-total ref_cmp-exact (flat one) (filter (is_read def read) (entries tables)) (sorted_flat one (tt, tt))
      (is_sorted-filter ref_cmp (is_read def read) (entries tables) (entries_sorted tables)) (λ q.
      find_flat one (tt, tt) q ∙ found q ∙ sym (find-filter ref_cmp ref_cmp-exact (is_read def read) q (entries tables) (entries_sorted tables) ∙ ap (kept_if ref_cmp ref_cmp-exact (is_read def read) q) (sym (get-entries tables q)))) in
      sym (rows_of_table (read_table read) es) ∙ ap (λ fs. map (λ e. e.1) (in_table (read_table read) fs)) (sym (entries_by_key es rise))
      ∙ ap (map (λ e. e.1)) (sym (append-nil (in_table (read_table read) (entries own)))) ∙ ap (map (λ e. e.1)) all
    where
      rows_of_table : (table : ℕ) (fs : List (List Value × Seen)) → map (λ e. e.1) (in_table table fs) ≡ map (λ e. e.1) fs
      rows_of_table table [] = refl
      rows_of_table table (f ∷ fs) = ap (λ rest. f.1 ∷ rest) (rows_of_table table fs)

      kept_read : (q : ℕ × List Value) (seen : Option Seen) → (read_table read == q.0) ≡ true → covered_seen def read seen ≡ kept_if ref_cmp ref_cmp-exact (is_read def read) q seen
      kept_read q None same = refl
      kept_read q (Some seen) same = sym (ap (λ b. cond (b && covers_row def read seen.row) (Some seen) None) same)

      kept_not : (q : ℕ × List Value) (seen : Option Seen) → (read_table read == q.0) ≡ false → None ≡ kept_if ref_cmp ref_cmp-exact (is_read def read) q seen
      kept_not q None other = refl
      kept_not q (Some seen) other = sym (ap (λ b. cond (b && covers_row def read seen.row) (Some seen) None) other)

      found : (q : ℕ × List Value) → get_in (cond (is_at (nat_cmp q.0) (read_table read)) (Some (from_entries {R = key_cmp} es)) None) q.1 ≡ kept_if ref_cmp ref_cmp-exact (is_read def read) q (get tables q)
      found q =
          elim (is_at (nat_cmp q.0) (read_table read)) as (λ b. is_at (nat_cmp q.0) (read_table read) ≡ b
          → get_in (cond b (Some (from_entries {R = key_cmp} es)) None) q.1 ≡ kept_if ref_cmp ref_cmp-exact (is_read def read) q (get tables q)) [
            | true ↦ λ tied.
                let same : q.0 ≡ read_table read = nat_cmp-IsAntisymmetric q.0 (read_table read) (is_Equal (nat_cmp q.0 (read_table read)) tied) in
                get_is_lookup key_cmp key_cmp-total key_cmp-exact es q.1 ∙ are q.1 ∙ ap (λ table. covered_seen def read (get tables (table, q.1))) (sym same)
                ∙ kept_read q (get tables q) ((Decides-eqb (read_table read) q.0).1 (sym same))
            | false ↦ λ apart. kept_not q (get tables q) (not_true (read_table read == q.0) (λ one.
                no_both (is_at (nat_cmp q.0) (read_table read)) (ap (λ table. is_eq (nat_cmp q.0 table)) ((Decides-eqb (read_table read) q.0).0 one) ∙ ap is_eq (tied_itself nat_cmp_total q.0)) apart))
          ] refl

-- rows that are lent by their keys, as they are seen
abbrev pub seens_at : List (List Value × SeenRef) → List (List Value × Seen)
seens_at es = map (λ e. (e.0, seen_lent e.1)) es

-- the row at a key is the one that is lent there
pub lookup_lent : (es : List (List Value × SeenRef)) (key : List Value) → lookup (is_at (key_cmp key)) (seens_at es) ≡ row_at es key
lookup_lent [] key = refl
lookup_lent (e ∷ es) key =
    elim (is_at (key_cmp key) e.0) as (λ b. cond b (Some (seen_lent e.1)) (lookup (is_at (key_cmp key)) (seens_at es)) ≡ option_map seen_lent (cond b (Some e.1) (lookup (is_at (key_cmp key)) es))) [
      | true ↦ refl
      | false ↦ lookup_lent es key
    ]

-- the keys are the same
pub keys_lent : (es : List (List Value × SeenRef)) → keys_of (seens_at es) ≡ keys_of es
keys_lent [] = refl
keys_lent (e ∷ es) = ap (λ keys. e.0 ∷ keys) (keys_lent es)

-- and so are the rows
pub values_lent : (es : List (List Value × SeenRef)) → map (λ e. e.1) (seens_at es) ≡ map seen_lent (map (λ e. e.1) es)
values_lent [] = refl
values_lent (e ∷ es) = ap (λ seens. seen_lent e.1 ∷ seens) (values_lent es)

-- one write more, of those up to a height
pub set_more : (tables : Tables) (height : ℕ) (s : Stamped) (rest : List Stamped)
    → set_stamped (set_stamped tables (writes_up_to height (s ∷ []))) (writes_up_to height rest) ≡ set_stamped tables (writes_up_to height (s ∷ rest))
set_more tables height s rest =
    elim (nat_le s.0 height) as (λ b. set_stamped (set_stamped tables (cond b (s ∷ []) [])) (writes_up_to height rest) ≡ set_stamped tables (cond b (s ∷ writes_up_to height rest) (writes_up_to height rest))) [ true ↦ refl | false ↦ refl ]

-- the rows of a read of declared tables
pub in_order_are : {E : Type 0} (defs : List TableDef) (def : TableDef) (read : Read) (tables : Tables) (es : List (List Value × SeenRef)) (result : Result (Vec SeenRef Global) E) → slice_get defs (read_table read) ≡ Some def
    → AreRows def read tables es → IfOk result (λ list. list.items ≡ map (λ e. e.1) es) → IfOk result (λ list. IsStrictlySortedBy key_cmp (keys_of es)) → IfOk result (λ list. map seen_lent list.items ≡ rows_in defs read tables)
in_order_are defs def read tables es (Ok list) declared are is rise =
    ap (map seen_lent) is ∙ sym (values_lent es)
    ∙ rows_are def read tables (seens_at es) (subst (IsStrictlySortedBy key_cmp) (sym (keys_lent es)) rise) (λ key. lookup_lent es key ∙ are key)
    ∙ sym (ap (λ found. rows_by found read tables) declared)
in_order_are defs def read tables es (Err e) declared are is rise = tt

-- ---- one key

-- a write up to a height on another key leaves the row of the key
pub row_after : (tables : Tables) (height : ℕ) (ref : ℕ × List Value) (s : Stamped) → (nat_le s.0 height && is_of_key ref.0 ref.1 s) ≡ true
    → get (set_stamped tables (writes_up_to height (s ∷ []))) ref ≡ seen_at s.0 s.1.pos s.1.write.after
row_after tables height ref s on =
    let low : nat_le s.0 height ≡ true = first_true (nat_le s.0 height) (is_of_key ref.0 ref.1 s) on in
    let own : is_of_key ref.0 ref.1 s ≡ true = second_true (nat_le s.0 height) (is_of_key ref.0 ref.1 s) on in
    ap (λ b. get (set_stamped tables (cond b (s ∷ []) [])) ref) low
    ∙ get-set_entry tables (write_ref s.1.write) (seen_at s.0 s.1.pos s.1.write.after) ref
    ∙ ap (λ b. cond b (seen_at s.0 s.1.pos s.1.write.after) (get tables ref)) own

-- a write above the height or on another key leaves the row of the key
pub row_kept : (tables : Tables) (height : ℕ) (ref : ℕ × List Value) (s : Stamped) → (nat_le s.0 height && is_of_key ref.0 ref.1 s) ≡ false
    → get (set_stamped tables (writes_up_to height (s ∷ []))) ref ≡ get tables ref
row_kept tables height ref s off =
    elim (nat_le s.0 height) as (λ b. (b && is_of_key ref.0 ref.1 s) ≡ false → get (set_stamped tables (cond b (s ∷ []) [])) ref ≡ get tables ref) [
      | true ↦ λ other. get-set_entry tables (write_ref s.1.write) (seen_at s.0 s.1.pos s.1.write.after) ref ∙ ap (λ b. cond b (seen_at s.0 s.1.pos s.1.write.after) (get tables ref)) other
      | false ↦ λ other. refl
    ] off
