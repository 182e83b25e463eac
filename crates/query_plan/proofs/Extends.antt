-- How the tuples that begin with some rows are made of those that begin with one row more.
use Rattle.std.proofs.Common.{◌≡◌, ◌<◌, ℕ, zero, suc, List, [], ◌∷◌, ◌++◌, map, Bool, true, false, not, ◌&&◌, ◌||◌, ◌==◌, nat_lt, length, ◌+◌, Some, None, slice_get, refl, sym, ap, ◌∙◌, cond, arith, append_assoc, length-append}
use Rattle.std.specs.FinMap as finite
use Rattle.std.specs.List.{filter, flat_map, list_all}
use Rattle.std.proofs.lemmas.List.{map-append, map-id, append-nil}
use Rattle.std.proofs.lemmas.List.Elements.{filter-append}
use Rattle.std.proofs.lemmas.Bool.{ltb-true, le-ltb}
use Rattle.rel_base.specs.Among.{rows_in, rows_by}
use Rattle.rel_base.specs.Access.{covers_row, read_table}
use Rattle.rel_base.specs.Tables.{Tables, rows_among, is_read}
use Rattle.rel_base.specs.declared.access.Read.{Read}
use Rattle.rel_base.specs.declared.access.Seen.{Seen}
use Rattle.rel_base.specs.declared.schema.TableDef.{TableDef}
use Rattle.rel_base.specs.declared.value.Value.{Value}
use Rattle.query_plan.specs.Tuples.{at, choices, holds, holds_all, side_at, table_rows, tuples}
use Rattle.query_plan.specs.Walk.{covers_by, covers_in, extended, holds_at_last, holds_so_far, IsWide}
use Rattle.query_plan.specs.Ready.{is_ready, is_side_ready}
use Rattle.query_plan.specs.declared.select.Col.{Col}
use Rattle.query_plan.specs.declared.select.Comparison.{Comparison}
use Rattle.query_plan.specs.declared.select.Side.{Side}
use Rattle.query_plan.specs.declared.select.Side.TheVariants.{Field as Other, Given}

-- ---- lists

module _ {X Y : Type 0} where
  -- what adds nothing may be left out
  pub left_out : (f : X → List Y) (test : X → Bool) → ((x : X) → test x ≡ false → f x ≡ []) → (xs : List X) → flat_map f (filter test xs) ≡ flat_map f xs
  left_out f test none [] = refl
  left_out f test none (x ∷ xs) =
      elim (test x) as (λ b. test x ≡ b → flat_map f (cond b (x ∷ filter test xs) (filter test xs)) ≡ f x ++ flat_map f xs) [
        | true ↦ λ e. ap (λ ys. f x ++ ys) (left_out f test none xs)
        | false ↦ λ e. left_out f test none xs ∙ sym (ap (λ ys. ys ++ flat_map f xs) (none x e))
      ] refl

module _ {X : Type 0} where
  moved : (prefix : List X) (x : X) (lists : List (List X)) → map (λ xs. prefix ++ xs) (map (λ xs. x ∷ xs) lists) ≡ map (λ xs. (prefix ++ x ∷ []) ++ xs) lists
  moved prefix x [] = refl
  moved prefix x (list ∷ lists) = rw (append_assoc prefix (x ∷ []) list) (ap (λ ys. (prefix ++ x ∷ list) ∷ ys) (moved prefix x lists))

  -- lists that begin with some items, by the next item
  pub by_next : (test : List X → Bool) (prefix : List X) (lists : List (List X)) (items : List X) →
      filter test (map (λ xs. prefix ++ xs) (flat_map (λ x. map (λ xs. x ∷ xs) lists) items)) ≡ flat_map (λ x. filter test (map (λ xs. (prefix ++ x ∷ []) ++ xs) lists)) items
  by_next test prefix lists [] = refl
  by_next test prefix lists (x ∷ items) =
      ap (filter test) (map-append (λ xs. prefix ++ xs) (map (λ xs. x ∷ xs) lists) (flat_map (λ x. map (λ xs. x ∷ xs) lists) items))
      ∙ filter-append test (map (λ xs. prefix ++ xs) (map (λ xs. x ∷ xs) lists)) (map (λ xs. prefix ++ xs) (flat_map (λ x. map (λ xs. x ∷ xs) lists) items))
      ∙ ap (λ ys. filter test ys ++ filter test (map (λ xs. prefix ++ xs) (flat_map (λ x. map (λ xs. x ∷ xs) lists) items))) (moved prefix x lists)
      ∙ ap (λ ys. filter test (map (λ xs. (prefix ++ x ∷ []) ++ xs) lists) ++ ys) (by_next test prefix lists items)

  -- where no list with a beginning passes
  pub none_passes : (test : List X → Bool) (prefix : List X) → ((xs : List X) → test (prefix ++ xs) ≡ false) → (lists : List (List X)) → filter test (map (λ xs. prefix ++ xs) lists) ≡ []
  none_passes test prefix fails [] = refl
  none_passes test prefix fails (list ∷ lists) = rw (fails list) (none_passes test prefix fails lists)

  get_more : (xs ys : List X) (n : ℕ) → n < length xs → slice_get (xs ++ ys) n ≡ slice_get xs n
  get_more [] ys n below = absurd (omega (arith, below))
  get_more (x ∷ xs) ys zero below = refl
  get_more (x ∷ xs) ys (suc n) below = get_more xs ys n (omega (arith, below))

-- ---- comparisons

both_left : (a b : Bool) → (a && b) ≡ true → a ≡ true
both_left true b e = refl
both_left false b e = cc

both_right : (a b : Bool) → (a && b) ≡ true → b ≡ true
both_right true b e = e
both_right false b e = cc

at_more : (prefix more : List Seen) (col : Col) → nat_lt col.source (length prefix) ≡ true → at (prefix ++ more) col ≡ at prefix col
at_more prefix more col below = rw (get_more prefix more col.source (ltb-true col.source (length prefix) below)) refl

pub side_more : (prefix more : List Seen) (side : Side) → is_side_ready (length prefix) side ≡ true → side_at (prefix ++ more) side ≡ side_at prefix side
side_more prefix more (Other col) ready = at_more prefix more col ready
side_more prefix more (Given v) ready = refl

-- a comparison that speaks of the first sources alone is the same with more rows
pub holds_more : (prefix more : List Seen) (c : Comparison) → is_ready (length prefix) c ≡ true → holds (prefix ++ more) c ≡ holds prefix c
holds_more prefix more c ready =
    rw (
      at_more prefix more c.left (both_left (nat_lt c.left.source (length prefix)) (is_side_ready (length prefix) c.right) ready),
      side_more prefix more c.right (both_right (nat_lt c.left.source (length prefix)) (is_side_ready (length prefix) c.right) ready),
    ) refl

fails_one : (ready here there : Bool) → (ready ≡ true → there ≡ here) → (not ready || here) ≡ false → there ≡ false
fails_one true here there same e = same refl ∙ e
fails_one false here there same e = cc

fails_some : (one rest other others : Bool) → (one ≡ false → other ≡ false) → (rest ≡ false → others ≡ false) → (one && rest) ≡ false → (other && others) ≡ false
fails_some true rest true others f g e = g e
fails_some true rest false others f g e = refl
fails_some false rest true others f g e = cc (f refl)
fails_some false rest false others f g e = refl

-- where a comparison fails of some rows, no tuple begins with them
pub fails_for_all : (comparisons : List Comparison) (prefix more : List Seen) → holds_so_far comparisons (length prefix) prefix ≡ false → holds_all comparisons (prefix ++ more) ≡ false
fails_for_all [] prefix more e = cc
fails_for_all (c ∷ cs) prefix more e =
    fails_some (not (is_ready (length prefix) c) || holds prefix c) (holds_so_far cs (length prefix) prefix) (holds (prefix ++ more) c) (holds_all cs (prefix ++ more))
    (fails_one (is_ready (length prefix) c) (holds prefix c) (holds (prefix ++ more) c) (holds_more prefix more c)) (fails_for_all cs prefix more) e

pub none_extended : (tables : Tables) (comparisons : List Comparison) (prefix : List Seen) (sources : List ℕ) →
    holds_so_far comparisons (length prefix) prefix ≡ false → extended tables comparisons prefix sources ≡ []
none_extended tables comparisons prefix sources e = none_passes (holds_all comparisons) prefix (λ more. fails_for_all comparisons prefix more e) (choices (map (table_rows tables) sources))

one_tested : (ready was here there : Bool) → (was ≡ true → here ≡ there) → (not was || here) ≡ true → (not ready || (was || there)) ≡ (not ready || there)
one_tested ready true here there same e = rw (sym (same refl), e) refl
one_tested ready false here there same e = refl

two_tested : (one other rest others : Bool) → one ≡ other → rest ≡ others → (one && rest) ≡ (other && others)
two_tested one other rest others e f = rw (e, f) refl

-- only those that speak of the last source need a test
pub tested : (comparisons : List Comparison) (prefix : List Seen) (row : Seen) → holds_so_far comparisons (length prefix) prefix ≡ true →
    holds_at_last comparisons (length prefix) (prefix ++ row ∷ []) ≡ holds_so_far comparisons (length prefix + 1) (prefix ++ row ∷ [])
tested [] prefix row e = refl
tested (c ∷ cs) prefix row e =
    two_tested _ _ _ _
    (one_tested (is_ready (length prefix + 1) c) (is_ready (length prefix) c) (holds prefix c) (holds (prefix ++ row ∷ []) c) (λ ready. sym (holds_more prefix (row ∷ []) c ready))
    (both_left (not (is_ready (length prefix) c) || holds prefix c) (holds_so_far cs (length prefix) prefix) e))
    (tested cs prefix row (both_right (not (is_ready (length prefix) c) || holds prefix c) (holds_so_far cs (length prefix) prefix) e))

one_ready : (ready here : Bool) → ready ≡ true → (not ready || here) ≡ here
one_ready true here e = refl
one_ready false here e = cc

-- where each comparison can be tested
pub all_tested : (comparisons : List Comparison) (count : ℕ) (prefix : List Seen) → list_all (is_ready count) comparisons ≡ true → holds_so_far comparisons count prefix ≡ holds_all comparisons prefix
all_tested [] count prefix e = refl
all_tested (c ∷ cs) count prefix e =
    two_tested _ _ _ _
    (one_ready (is_ready count c) (holds prefix c) (both_left (is_ready count c) (list_all (is_ready count) cs) e))
    (all_tested cs count prefix (both_right (is_ready count c) (list_all (is_ready count) cs) e))

-- none is ready before the first row
pub none_tested : (comparisons : List Comparison) → holds_so_far comparisons 0 [] ≡ true
none_tested [] = refl
none_tested (c ∷ cs) = let none : nat_lt c.left.source 0 ≡ false = le-ltb c.left.source 0 (omega arith) in rw none (none_tested cs)

-- ---- tuples

pub extended_first : (tables : Tables) (comparisons : List Comparison) (sources : List ℕ) → extended tables comparisons [] sources ≡ tuples tables sources comparisons
extended_first tables comparisons sources = ap (filter (holds_all comparisons)) (map-id (choices (map (table_rows tables) sources)))

pub extended_next : (tables : Tables) (comparisons : List Comparison) (prefix : List Seen) (source : ℕ) (sources : List ℕ) →
    extended tables comparisons prefix (source ∷ sources) ≡ flat_map (λ row. extended tables comparisons (prefix ++ row ∷ []) sources) (table_rows tables source)
extended_next tables comparisons prefix source sources = by_next (holds_all comparisons) prefix (choices (map (table_rows tables) sources)) (table_rows tables source)

pub extended_last : (tables : Tables) (comparisons : List Comparison) (prefix : List Seen) → holds_all comparisons prefix ≡ true → extended tables comparisons prefix [] ≡ prefix ∷ []
extended_last tables comparisons prefix e = rw (append-nil prefix, e) refl

-- ---- reads

read_one : (def : TableDef) (read : Read) (entries : List ((ℕ × List Value) × Seen)) →
    rows_among def read entries ≡ filter (λ seen. covers_row def read seen.row) (map (λ e. e.1) (filter (λ e. read_table read == e.0.0) entries))
read_one def read [] = refl
read_one def read (entry ∷ entries) =
    elim (read_table read == entry.0.0) as (λ b.
    map (λ e. e.1) (cond (b && covers_row def read entry.1.row) (entry ∷ filter (is_read def read) entries) (filter (is_read def read) entries))
    ≡ filter (λ seen. covers_row def read seen.row) (map (λ e. e.1) (cond b (entry ∷ filter (λ e. read_table read == e.0.0) entries) (filter (λ e. read_table read == e.0.0) entries)))
    ) [
      | true ↦ elim (covers_row def read entry.1.row) as (λ b.
          map (λ e. e.1) (cond b (entry ∷ filter (is_read def read) entries) (filter (is_read def read) entries))
          ≡ cond b (entry.1 ∷ filter (λ seen. covers_row def read seen.row) (map (λ e. e.1) (filter (λ e. read_table read == e.0.0) entries))) (filter (λ seen. covers_row def read seen.row) (map (λ e. e.1) (filter (λ e. read_table read == e.0.0) entries)))
          ) [ true ↦ ap (λ rows. entry.1 ∷ rows) (read_one def read entries) | false ↦ read_one def read entries ]
      | false ↦ read_one def read entries
    ]

-- a read gets the rows of its table that it covers
pub read_rows : (defs : List TableDef) (read : Read) (tables : Tables) →
    rows_in defs read tables ≡ filter (λ seen. covers_in defs read seen.row) (table_rows tables (read_table read))
read_rows defs read tables =
    elim (slice_get defs (read_table read)) as (λ def. rows_by def read tables ≡ filter (λ seen. covers_by def read seen.row) (table_rows tables (read_table read))) [
      | None ↦ sym (nothing (table_rows tables (read_table read)))
      | Some def ↦ read_one def read (finite.entries tables)
    ]
  where
    nothing : (rows : List Seen) → filter (λ seen. covers_by None read seen.row) rows ≡ []
    nothing [] = refl
    nothing (row ∷ rows) = nothing rows

-- the rows of a read that is wide enough begin all tuples
pub read_enough : (defs : List TableDef) (comparisons : List Comparison) (prefix : List Seen) (read : Read) (tables : Tables) (sources : List ℕ) →
    IsWide defs comparisons prefix read →
    flat_map (λ row. extended tables comparisons (prefix ++ row ∷ []) sources) (rows_in defs read tables) ≡ extended tables comparisons prefix (read_table read ∷ sources)
read_enough defs comparisons prefix read tables sources wide =
    ap (flat_map (λ row. extended tables comparisons (prefix ++ row ∷ []) sources)) (read_rows defs read tables)
    ∙ left_out (λ row. extended tables comparisons (prefix ++ row ∷ []) sources) (λ seen. covers_in defs read seen.row) outside (table_rows tables (read_table read))
    ∙ sym (extended_next tables comparisons prefix (read_table read) sources)
  where
    decided : (here covers : Bool) → (here ≡ true → covers ≡ true) → covers ≡ false → here ≡ false
    decided true covers f e = sym (f refl) ∙ e
    decided false covers f e = refl

    outside : (row : Seen) → covers_in defs read row.row ≡ false → extended tables comparisons (prefix ++ row ∷ []) sources ≡ []
    outside row not_covered =
        none_extended tables comparisons (prefix ++ row ∷ []) sources
        (rw (length-append prefix (row ∷ []))
        (decided (holds_so_far comparisons (length prefix + 1) (prefix ++ row ∷ [])) (covers_in defs read row.row) (wide.covers row) not_covered))
