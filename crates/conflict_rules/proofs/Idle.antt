-- Transactions that were not found have no write conflict and no edge.
use Rattle.std.proofs.Common.{All, IfSome, suc, zero, ap, arith, cond, false, inl, inr, refl, subst, sym, true, Bool, List, None, Option, Some, [], ◌∷◌, ◌+◌, ◌<◌, ◌∙◌, ◌≡◌, ◌||◌, ◌⊎◌, ℕ, ⊎_elim, IsSomeAnd, slice_get, length, ◌≤◌}
use Rattle.std.specs.Bool.{nat_eq}
use Rattle.std.specs.List.{list_any, position_from}
use Rattle.std.specs.Ordering.{eq_by_cmp}
use Rattle.std.proofs.lemmas.Bool.{eq-eqb, eqb-true, false≢true}
use Rattle.std.proofs.lemmas.List.Elements.{All-head, All-tail, recursion_from_All}
use Rattle.std.proofs.lemmas.Map.Views.{tells_apart}
use Rattle.std.proofs.lemmas.Option.{none-some, same_Some, slice_get_within}
use Rattle.std.specs.Ordering.{is_le, ordering_reverse}
use Rattle.std.specs.declared.cmp.Ordering.TheVariants.{Equal, Greater, Less}
use Rattle.std.specs.declared.cmp.Ordering.{Ordering}
use Rattle.conflict_rules.specs.Hashing.{key_place}
use Rattle.conflict_rules.specs.Marking.{AreReadsMarked, HasMarks, HasReadMarks, OnlyFound, has_value_in, has_write_at, is_cell_found, is_cell_place, is_marked, is_place_found, is_place_of, is_read_found, is_touched, is_value_found, is_value_marked, is_value_place, is_write_found, named_place, one_place, place_or, read_place, table_place, value_place, whole_place, write_place}
use Rattle.node_model.specs.Decide.{first_shared, is_shared}
use Rattle.node_model.specs.Edges.{touches}
use Rattle.node_model.specs.declared.result.Committed.{Committed}
use Rattle.rel_base.proofs.KeyOrder.{same_key}
use Rattle.rel_base.specs.Access.{PartFits, WriteFits, covers_some, hits_write, read_table}
use Rattle.rel_base.specs.Among.{WriteFitsIn}
use Rattle.rel_base.specs.Late.{hits_in, where_declared}
use Rattle.rel_base.specs.Row.{value_at}
use Rattle.rel_base.specs.Schema.{key_of_row}
use Rattle.rel_base.specs.Tables.{ref_cmp, ref_cmp-exact, write_ref}
use Rattle.rel_base.specs.Value.{value_cmp, value_cmp-exact, value_cmp-total, value_eq}
use Rattle.rel_base.specs.declared.access.Made.{Made}
use Rattle.rel_base.specs.declared.access.Read.TheVariants.{Point, Span}
use Rattle.rel_base.specs.declared.access.Read.{Read}
use Rattle.rel_base.specs.declared.access.Write.{Write}
use Rattle.rel_base.specs.declared.schema.TableDef.{TableDef}
use Rattle.rel_base.specs.declared.value.Value.{Value}
use Rattle.rel_base.proofs.Bits.{either, first_true, is_Equal, or_left, or_right, not_true, or_true, second_true}
use Rattle.rw_graph.proofs.Lists.{In, each_at, none_of}
use Rattle.rw_graph.specs.Fitting.{IsMember, WritesFit}
use Rattle.rw_graph.specs.Held.{holds}
use Rattle.rw_graph.specs.declared.bits.Bits.{Bits}

-- ---- tests of lists

some_of : {X : Type 0} (test : X → Bool) (items : List X) (item : X) → In item items → test item ≡ true → list_any test items ≡ true
some_of test [] item within is = absurd within
some_of test (x ∷ xs) item (inl same) is = ap (λ b. b || list_any test xs) (ap test same ∙ is)
some_of test (x ∷ xs) item (inr later) is = ap (λ b. test x || b) (some_of test xs item later is) ∙ or_true (test x)

no_place : {X : Type 0} (test : X → Bool) (start : ℕ) (items : List X) → ((item : X) → In item items → test item ≡ false) → position_from test start items ≡ None
no_place test start [] none = refl
no_place test start (x ∷ xs) none =
    ap (λ b. cond b (Some start) (position_from test (start + 1) xs)) (none x (inl refl)) ∙ no_place test (start + 1) xs (λ item within. none item (inr within))

-- ---- a read that hits a write has a place of it

-- a row that a point covers stands under its key
point_key : (def : TableDef) (table : ℕ) (key own : List Value) (part : Option (List Value)) → PartFits def own part → covers_some def (Point table key) part ≡ true → key ≡ own
point_key def table key own None fits covers = absurd (false≢true covers)
point_key def table key own (Some row) fits covers = sym (same_key (key_of_row def row) key covers) ∙ fits.1

own_key : (write : Write) (place : ℕ) → place ≡ write_place write → is_place_of write place ≡ true
own_key write place same = ap (λ b. b || nat_eq place (table_place write.table)) (eq-eqb place (write_place write) same)

own_table : (write : Write) (place : ℕ) → place ≡ table_place write.table → is_place_of write place ≡ true
own_table write place same = ap (λ b. nat_eq place (write_place write) || b) (eq-eqb place (table_place write.table) same) ∙ or_true (nat_eq place (write_place write))

whole_hit : (def : TableDef) (read : Read) (write : Write) → WriteFits def write → read_table read ≡ write.table
    → (covers_some def read write.before || covers_some def read write.after) ≡ true → is_place_of write (whole_place read) ≡ true
whole_hit def (Point table key) write fits same covers =
    let of_key : key ≡ write.key = ⊎_elim
    (λ before. point_key def table key write.key write.before fits.before before)
    (λ after. point_key def table key write.key write.after fits.after after)
    (either (covers_some def (Point table key) write.before) (covers_some def (Point table key) write.after) covers) in
    own_key write (key_place table key) (ap (λ t. key_place t key) same ∙ ap (key_place write.table) of_key)
whole_hit def (Span table column low high) write fits same covers = own_table write (table_place table) (ap table_place same)

-- ---- a span of one value that hits a write finds its value before or after it

squeezed : (o : Ordering) → is_le o ≡ true → is_le (ordering_reverse o) ≡ true → o ≡ Equal
squeezed Less up down = absurd (false≢true down)
squeezed Equal up down = refl
squeezed Greater up down = absurd (false≢true up)

one_between : (low value : Value) → is_le (value_cmp low value) ≡ true → is_le (value_cmp value low) ≡ true → low ≡ value
one_between low value up down = value_cmp-exact low value (squeezed (value_cmp low value) up (ap is_le (sym (value_cmp-total.antisymm value low)) ∙ down))

cell_hit : (def : TableDef) (table column : ℕ) (low high : Value) (row : Option (List Value)) → value_eq low high ≡ true
    → covers_some def (Span table column (Some low) (Some high)) row ≡ true → is_cell_place table column row (value_place table low) ≡ true
cell_hit def table column low high None same covers = absurd (false≢true covers)
cell_hit def table column low high (Some row) same covers =
    let value : Value = value_at row column in
    let equal : low ≡ high = value_cmp-exact low high (is_Equal (value_cmp low high) same) in
    let up : is_le (value_cmp low value) ≡ true = first_true (is_le (value_cmp low value)) (is_le (value_cmp value high)) covers in
    let down : is_le (value_cmp value low) ≡ true = subst (λ v. is_le (value_cmp value v) ≡ true) (sym equal) (second_true (is_le (value_cmp low value)) (is_le (value_cmp value high)) covers) in
    eq-eqb (value_place table low) (value_place table value) (ap (value_place table) (one_between low value up down))

where_chosen : {X : Type 0} (test : Bool) (found : Option X) (x : X) → cond test found None ≡ Some x → (test ≡ true) × (found ≡ Some x)
where_chosen true found x is = (refl, is)
where_chosen false found x is = absurd (none-some x is)

ends_hit : (def : TableDef) (table column : ℕ) (low high : Option Value) (write : Write) (place : ℕ) → table ≡ write.table → one_place table low high ≡ Some place
    → (covers_some def (Span table column low high) write.before || covers_some def (Span table column low high) write.after) ≡ true → is_value_place column write place ≡ true
ends_hit def table column None high write place same named covers = absurd (none-some place named)
ends_hit def table column (Some low) None write place same named covers = absurd (none-some place named)
ends_hit def table column (Some low) (Some high) write place same named covers =
    let told = where_chosen (value_eq low high) (Some (value_place table low)) place named in
    let here : value_place table low ≡ place = same_Some (value_place table low) place told.1 in
    let before : Bool = is_cell_place table column write.before (value_place table low) in
    let after : Bool = is_cell_place table column write.after (value_place table low) in
    let found : (before || after) ≡ true = ⊎_elim
    (λ covered. or_left before after (cell_hit def table column low high write.before told.0 covered))
    (λ covered. or_right before after (cell_hit def table column low high write.after told.0 covered))
    (either (covers_some def (Span table column (Some low) (Some high)) write.before) (covers_some def (Span table column (Some low) (Some high)) write.after) covers) in
    subst (λ p. is_value_place column write p ≡ true) here
    (subst (λ t. (is_cell_place t column write.before (value_place table low) || is_cell_place t column write.after (value_place table low)) ≡ true) same found)

named_hit : (def : TableDef) (column : ℕ) (read : Read) (write : Write) (place : ℕ) → read_table read ≡ write.table → named_place (Some column) read ≡ Some place
    → (covers_some def read write.before || covers_some def read write.after) ≡ true → is_value_place column write place ≡ true
named_hit def column (Point table key) write place same named covers = absurd (none-some place named)
named_hit def column (Span table by low high) write place same named covers =
    let told = where_chosen (nat_eq column by) (one_place table low high) place named in
    let at : column ≡ by = eqb-true column by told.0 in
    subst (λ c. is_value_place c write place ≡ true) (sym at) (ends_hit def table by low high write place same told.1 covers)

-- the places at which a read that hits a write finds it
abbrev Meets : Read → Write → Type 0
Meets read write = (is_place_of write (whole_place read) ≡ true) × ((column place : ℕ) → named_place (Some column) read ≡ Some place → is_value_place column write place ≡ true)

module _ (tables : List TableDef) where
  hit_by : (read : Read) (write : Write) (found : Option TableDef) → slice_get tables (read_table read) ≡ found → WriteFitsIn tables write
      → where_declared found (λ def. hits_write def read write) ≡ true → Meets read write
  hit_by read write None is fits hits = absurd (false≢true hits)
  hit_by read write (Some def) is fits hits =
      let same : read_table read ≡ write.table = eqb-true _ _ (first_true _ _ hits) in
      let here : slice_get tables write.table ≡ Some def = ap (slice_get tables) (sym same) ∙ is in
      let own : WriteFits def write = subst (λ o. IsSomeAnd o (λ d. WriteFits d write)) here fits in
      let covers : (covers_some def read write.before || covers_some def read write.after) ≡ true = second_true _ _ hits in
      (whole_hit def read write own same covers, λ column place named. named_hit def column read write place same named covers)

  hit_has_place : (read : Read) (write : Write) → WriteFitsIn tables write → hits_in tables read write ≡ true → Meets read write
  hit_has_place read write fits hits = hit_by read write (slice_get tables (read_table read)) refl fits hits

  -- reads touch no writes where no read has a place of a write
  untouched : (reads : List Made) (writes : List Write) → WritesFit tables writes
      → ((made : Made) → In made reads → (write : Write) → In write writes → Meets made.read write → ⊥) → touches tables reads writes ≡ false
  untouched reads writes fit never =
      none_of (λ made. list_any (hits_in tables made.read) writes) reads (λ made of_reads.
      none_of (hits_in tables made.read) writes (λ write of_writes.
      not_true (hits_in tables made.read write) (λ hits.
      never made of_reads write of_writes
      (hit_has_place made.read write (each_at (WriteFitsIn tables) writes (recursion_from_All (WriteFitsIn tables) writes fit) write of_writes) hits))))

-- ---- what was not found

module _ (words : List ℕ) (committed : List Committed) (found : Bits) (few : length committed ≤ 1024) where
  abbrev Finds : (ℕ → Bool) → Type 0
  Finds test = (number : ℕ) → number < 1024 → holds found (number + 1) ≡ test number

  not_found : (test : ℕ → Bool) → Finds test → (number : ℕ) (done : Committed) → slice_get committed number ≡ Some done → holds found (number + 1) ≡ false → test number ≡ true → ⊥
  not_found test finds number done at absent is =
      let within : number < length committed = slice_get_within committed number done at in
      false≢true (sym absent ∙ finds number (omega (arith, within, few)) ∙ is)

  pub no_clash : (writes : List Write) → HasMarks (λ done. has_write_at done.writes) (is_marked words) committed
      → Finds (λ number. list_any (λ write. is_marked words (write_place write) number) writes) → OnlyFound found committed (λ done. first_shared done.writes writes ≡ None)
  no_clash writes marks finds number done at absent =
      no_place (is_shared done.writes) 0 writes (λ write of_writes.
      none_of (λ other. eq_by_cmp ref_cmp (write_ref write) (write_ref other)) done.writes (λ other of_done.
      not_true (eq_by_cmp ref_cmp (write_ref write) (write_ref other)) (λ equal.
      let same : write_ref write ≡ write_ref other = tells_apart ref_cmp-exact (write_ref write) (write_ref other) equal in
      let place : write_place write ≡ write_place other = ap (λ ref. key_place ref.0 ref.1) same in
      let marked : is_marked words (write_place write) number ≡ true =
      marks number (write_place write) done at (some_of (λ w. is_place_of w (write_place write)) done.writes other of_done (own_key other (write_place write) place)) in
      not_found (λ n. list_any (λ w. is_marked words (write_place w) n) writes) finds number done at absent
      (some_of (λ w. is_marked words (write_place w) number) writes write of_writes marked))))

  out_found : (marked : Option ℕ) (read : Read) (write : Write) (writes : List Write) (number : ℕ) → In write writes → Meets read write
      → ((place : ℕ) → has_write_at writes place ≡ true → is_marked words place number ≡ true)
      → ((place : ℕ) → has_value_in marked writes place ≡ true → is_value_marked words place number ≡ true)
      → (named : Option ℕ) → named_place marked read ≡ named → is_place_found words (whole_place read) named number ≡ true
  out_found None read write writes number within meets whole values None is = whole (whole_place read) (some_of (λ w. is_place_of w (whole_place read)) writes write within meets.0)
  out_found None read write writes number within meets whole values (Some place) is = values place refl
  out_found (Some column) read write writes number within meets whole values None is = whole (whole_place read) (some_of (λ w. is_place_of w (whole_place read)) writes write within meets.0)
  out_found (Some column) read write writes number within meets whole values (Some place) is =
      values place (some_of (λ w. is_value_place column w place) writes write within (meets.1 column place is))

  pub no_edge_out : (tables : List TableDef) (marked : Option ℕ) (reads : List Made) → HasMarks (λ done. has_write_at done.writes) (is_marked words) committed
      → HasMarks (λ done. has_value_in marked done.writes) (is_value_marked words) committed → All (IsMember tables) committed
      → Finds (λ number. list_any (λ made. is_read_found marked words made.read number) reads) → OnlyFound found committed (λ done. touches tables reads done.writes ≡ false)
  no_edge_out tables marked reads marks values fit finds number done at absent =
      untouched tables reads done.writes (fits_at committed number done fit at) (λ made of_reads write of_done meets.
      let looked : is_read_found marked words made.read number ≡ true =
      out_found marked made.read write done.writes number of_done meets (λ place has. marks number place done at has) (λ place has. values number place done at has) (named_place marked made.read) refl in
      not_found (λ n. list_any (λ m. is_read_found marked words m.read n) reads) finds number done at absent
      (some_of (λ m. is_read_found marked words m.read number) reads made of_reads looked))
    where
      at_place : (all : List Committed) (number : ℕ) → All (IsMember tables) all → IfSome (slice_get all number) (IsMember tables)
      at_place [] number members = tt
      at_place (x ∷ xs) zero members = All-head (IsMember tables) x xs members
      at_place (x ∷ xs) (suc number) members = at_place xs number (All-tail (IsMember tables) x xs members)

      fits_at : (all : List Committed) (number : ℕ) (done : Committed) → All (IsMember tables) all → slice_get all number ≡ Some done → WritesFit tables done.writes
      fits_at all number done members at =
          let member : IsMember tables done = subst (λ o. IfSome o (IsMember tables)) at (at_place all number members) in member.writes

  by_place : (number : ℕ) (write : Write) (place : ℕ) → is_place_of write place ≡ true → is_marked words place number ≡ true
      → is_touched words write number ≡ true
  by_place number write place is marked = ⊎_elim
      (λ key.
      let own : is_marked words (write_place write) number ≡ true = subst (λ p. is_marked words p number ≡ true) (eqb-true place (write_place write) key) marked in
      ap (λ b. is_marked words (table_place write.table) number || b) own ∙ or_true (is_marked words (table_place write.table) number))
      (λ table.
      let own : is_marked words (table_place write.table) number ≡ true = subst (λ p. is_marked words p number ≡ true) (eqb-true place (table_place write.table) table) marked in
      ap (λ b. b || is_marked words (write_place write) number) own)
      (either (nat_eq place (write_place write)) (nat_eq place (table_place write.table)) is)

  cell_found : (number table column : ℕ) (row : Option (List Value)) (place : ℕ) → is_cell_place table column row place ≡ true → is_marked words place number ≡ true
      → is_cell_found words table column row number ≡ true
  cell_found number table column None place is marked = absurd (false≢true is)
  cell_found number table column (Some row) place is marked =
      subst (λ p. is_marked words p number ≡ true) (eqb-true place (value_place table (value_at row column)) is) marked

  value_found : (number column : ℕ) (write : Write) (place : ℕ) → is_value_place column write place ≡ true → is_marked words place number ≡ true → is_value_found (Some column) words write number ≡ true
  value_found number column write place is marked = ⊎_elim
      (λ before. or_left (is_cell_found words write.table column write.before number) (is_cell_found words write.table column write.after number) (cell_found number write.table column write.before place before marked))
      (λ after. or_right (is_cell_found words write.table column write.before number) (is_cell_found words write.table column write.after number) (cell_found number write.table column write.after place after marked))
      (either (is_cell_place write.table column write.before place) (is_cell_place write.table column write.after place) is)

  unnamed : (read : Read) → named_place None read ≡ None
  unnamed (Point table key) = refl
  unnamed (Span table column low high) = refl

  into_found : (marked : Option ℕ) (read : Read) (write : Write) (number : ℕ) → Meets read write → (named : Option ℕ) → named_place marked read ≡ named
      → is_marked words (place_or named (whole_place read)) number ≡ true → is_write_found marked words write number ≡ true
  into_found None read write number meets None is marks = by_place number write (whole_place read) meets.0 marks
  into_found None read write number meets (Some place) is marks = absurd (none-some place (sym (unnamed read) ∙ is))
  into_found (Some column) read write number meets None is marks =
      or_right (is_value_found (Some column) words write number) (is_touched words write number) (by_place number write (whole_place read) meets.0 marks)
  into_found (Some column) read write number meets (Some place) is marks =
      or_left (is_value_found (Some column) words write number) (is_touched words write number) (value_found number column write place (meets.1 column place is) marks)

  of_none : (marked : Option ℕ) (write : Write) (number : ℕ) → is_write_found None words write number ≡ true → is_write_found marked words write number ≡ true
  of_none None write number is = is
  of_none (Some column) write number is = or_right (is_value_found (Some column) words write number) (is_touched words write number) is

  own_mark : (column : Option ℕ) (number : ℕ) (reads : List Made) (made : Made) → In made reads → HasReadMarks column words number reads → is_marked words (read_place column made.read) number ≡ true
  own_mark column number reads made within marks =
      marks (read_place column made.read) (some_of (λ m. nat_eq (read_place column made.read) (read_place column m.read)) reads made within (eq-eqb (read_place column made.read) (read_place column made.read) refl))

  pub no_edge_into : (tables : List TableDef) (marked : Option ℕ) (writes : List Write) → AreReadsMarked marked words committed → WritesFit tables writes
      → Finds (λ number. list_any (λ write. is_write_found marked words write number) writes) → OnlyFound found committed (λ done. touches tables done.reads writes ≡ false)
  no_edge_into tables marked writes marks fit finds number done at absent =
      untouched tables done.reads writes fit (λ made of_done write of_writes meets.
      let looked : is_write_found marked words write number ≡ true = ⊎_elim
      (λ none. of_none marked write number (into_found None made.read write number meets (named_place None made.read) refl (own_mark None number done.reads made of_done none)))
      (λ some. into_found marked made.read write number meets (named_place marked made.read) refl (own_mark marked number done.reads made of_done some))
      (marks number done at) in
      not_found (λ n. list_any (λ w. is_write_found marked words w n) writes) finds number done at absent
      (some_of (λ w. is_write_found marked words w number) writes write of_writes looked))
