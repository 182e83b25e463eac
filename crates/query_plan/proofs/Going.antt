-- The rows of tuples, source by source.
use Rattle.std.proofs.Common.{◌≡◌, ◌<◌, ◌≤◌, ℕ, List, [], ◌∷◌, ◌++◌, map, drop, true, false, length, ◌+◌, ◌==◌, All, MatchOption, Option, Some, None, Result, Err, slice_get, refl, sym, ap, subst, ◌∙◌, arith, append_assoc, length-append}
use Rattle.std.specs.FinMap as finite
use Rattle.std.specs.Option.{option_map}
use Rattle.std.specs.List.{filter, flat_map, list_all}
use Rattle.std.proofs.lemmas.List.{append-nil, same_from_push, drop_all, drop_more, length-map, map-append}
use Rattle.std.proofs.lemmas.List.Elements.{All-nil, All-filter, All-map, All-same, All-push}
use Rattle.std.proofs.lemmas.Option.{get_or_from_slice_get, slice_get-map, slice_get_within}
use Rattle.rel_base.specs.Access.{read_table}
use Rattle.rel_base.specs.Among.{rows_in}
use Rattle.rel_base.specs.Tables.{Tables}
use Rattle.rel_base.specs.declared.access.Read.{Read}
use Rattle.rel_base.specs.declared.access.Seen.{Seen}
use Rattle.rel_base.specs.declared.schema.TableDef.{TableDef}
use Rattle.rel_base.specs.declared.value.Value.{Value}
use Rattle.query_plan.proofs.Extends.{none_tested, all_tested, extended_first, extended_last, none_extended, read_enough, read_rows, tested}
use Rattle.query_plan.specs.Cells.{IsEarly}
use Rattle.query_plan.specs.Tuples.{table_rows, tuples}
use Rattle.query_plan.specs.Walk.{Gathers, MayBegin, IsReadOf, Walks, covers_in, extended, going_by, going_on, holds_at_last, holds_so_far, plain_row, tables_of}
use Rattle.query_plan.specs.Ready.{is_ready}
use Rattle.query_plan.specs.declared.access.Step.{Step}
use Rattle.query_plan.specs.declared.fault.WalkFault.{WalkFault}
use Rattle.query_plan.specs.declared.fault.WalkFault.TheVariants as fault
use Rattle.query_plan.specs.declared.select.Col.{Col}
use Rattle.query_plan.specs.declared.select.Comparison.{Comparison}

tables_from : (steps : List Step) (n : ℕ) (step : Step) → slice_get steps n ≡ Some step → drop n (tables_of steps) ≡ step.table ∷ drop (n + 1) (tables_of steps)
tables_from steps n step e =
    let there : slice_get (tables_of steps) n ≡ Some step.table = slice_get-map (λ (s : Step). s.table) steps n ∙ ap (option_map (λ (s : Step). s.table)) e in
    drop_more (tables_of steps) n 0 (slice_get_within (tables_of steps) n step.table there)
    ∙ ap (λ t. t ∷ drop (n + 1) (tables_of steps)) (get_or_from_slice_get (tables_of steps) n step.table 0 there)

-- the rows of a read that is wide enough
pub reads_all : (defs : List TableDef) (tables : Tables) (cs : List Comparison) (columns : List Col) (steps : List Step) (prefix : List Seen) (step : Step) (read : Read) (rows : List Seen) →
    slice_get steps (length prefix) ≡ Some step → IsReadOf defs step.table cs prefix read → rows ≡ rows_in defs read tables →
    going_by tables cs columns (tables_of steps) prefix rows ≡ going_on tables cs columns (tables_of steps) prefix
unfolding going_by going_on
reads_all defs tables cs columns steps prefix step read rows found is e =
    ap (map (plain_row columns))
    (ap (flat_map (λ row. extended tables cs (prefix ++ row ∷ []) (drop (length prefix + 1) (tables_of steps)))) e
    ∙ read_enough defs cs prefix read tables (drop (length prefix + 1) (tables_of steps)) is.wide
    ∙ ap (λ t. extended tables cs prefix (t ∷ drop (length prefix + 1) (tables_of steps))) is.of_table
    ∙ sym (ap (extended tables cs prefix) (tables_from steps (length prefix) step found)))

pub read_early : (defs : List TableDef) (tables : Tables) (read : Read) (rows : List Seen) → All (λ entry. IsEarly entry.1) (finite.entries tables) → rows ≡ rows_in defs read tables → All IsEarly rows
read_early defs tables read rows early e =
    All-same IsEarly rows (filter (λ seen. covers_in defs read seen.row) (table_rows tables (read_table read))) (e ∙ read_rows defs read tables)
    (All-filter (λ seen. covers_in defs read seen.row) IsEarly (table_rows tables (read_table read))
    (All-map IsEarly (λ entry. entry.1) (filter (λ entry. read_table read == entry.0.0) (finite.entries tables))
    (All-filter (λ entry. read_table read == entry.0.0) (λ entry. IsEarly entry.1) (finite.entries tables) early)))

module _ (tables : Tables) (cs : List Comparison) (columns : List Col) where
  -- with no source left
  pub goes_last : (steps : List Step) (prefix : List Seen) → length prefix ≡ length steps → list_all (is_ready (length steps)) cs ≡ true → holds_so_far cs (length prefix) prefix ≡ true →
      plain_row columns prefix ∷ [] ≡ going_on tables cs columns (tables_of steps) prefix
  unfolding going_on
  goes_last steps prefix long ready held =
      let all_held = sym (all_tested cs (length prefix) prefix (ap (λ n. list_all (is_ready n) cs) long ∙ ready)) ∙ held in
      sym (ap (map (plain_row columns))
      (ap (extended tables cs prefix) (drop_all (length prefix) (tables_of steps) (omega (arith, length-map steps (λ (s : Step). s.table), long)))
      ∙ extended_last tables cs prefix all_held))

  pub by_none : (sources : List ℕ) (prefix : List Seen) → going_by tables cs columns sources prefix [] ≡ []
  unfolding going_by
  by_none sources prefix = refl

  by_more : (sources : List ℕ) (prefix : List Seen) (row : Seen) (rows : List Seen) →
      going_by tables cs columns sources prefix (row ∷ rows) ≡ going_on tables cs columns sources (prefix ++ row ∷ []) ++ going_by tables cs columns sources prefix rows
  unfolding going_by going_on
  by_more sources prefix row rows =
      map-append (plain_row columns) (extended tables cs (prefix ++ row ∷ []) (drop (length prefix + 1) sources)) (flat_map (λ row. extended tables cs (prefix ++ row ∷ []) (drop (length prefix + 1) sources)) rows)
      ∙ ap (λ n. map (plain_row columns) (extended tables cs (prefix ++ row ∷ []) (drop n sources)) ++ map (plain_row columns) (flat_map (λ row. extended tables cs (prefix ++ row ∷ []) (drop (length prefix + 1) sources)) rows)) (sym (length-append prefix (row ∷ [])))

  on_none : (sources : List ℕ) (prefix : List Seen) → holds_so_far cs (length prefix) prefix ≡ false → going_on tables cs columns sources prefix ≡ []
  unfolding going_on
  on_none sources prefix e = ap (map (plain_row columns)) (none_extended tables cs prefix (drop (length prefix) sources) e)

  -- a row with which a comparison fails
  pub passed_over : (sources : List ℕ) (prefix : List Seen) (row : Seen) (rows : List Seen) (made total : List (List Value)) → holds_so_far cs (length prefix) prefix ≡ true →
      holds_at_last cs (length prefix) (prefix ++ row ∷ []) ≡ false → made ++ going_by tables cs columns sources prefix (row ∷ rows) ≡ total → made ++ going_by tables cs columns sources prefix rows ≡ total
  passed_over sources prefix row rows made total held fails e =
      ap (λ more. made ++ (more ++ going_by tables cs columns sources prefix rows))
      (sym (on_none sources (prefix ++ row ∷ []) (ap (λ n. holds_so_far cs n (prefix ++ row ∷ [])) (length-append prefix (row ∷ [])) ∙ sym (tested cs prefix row held) ∙ fails)))
      ∙ ap (λ more. made ++ more) (sym (by_more sources prefix row rows))
      ∙ e

  -- a row that the tuples go on with
  pub gone_on : (sources : List ℕ) (prefix : List Seen) (row : Seen) (rows : List Seen) (made more total : List (List Value)) →
      more ≡ made ++ going_on tables cs columns sources (prefix ++ row ∷ []) → made ++ going_by tables cs columns sources prefix (row ∷ rows) ≡ total →
      more ++ going_by tables cs columns sources prefix rows ≡ total
  gone_on sources prefix row rows made more total is e =
      ap (λ ys. ys ++ going_by tables cs columns sources prefix rows) is
      ∙ append_assoc made (going_on tables cs columns sources (prefix ++ row ∷ [])) (going_by tables cs columns sources prefix rows)
      ∙ ap (λ ys. made ++ ys) (sym (by_more sources prefix row rows))
      ∙ e

  -- too many rows stay too many
  pub too_many : (sources : List ℕ) (prefix : List Seen) (row : Seen) (rows : List Seen) (made total : List (List Value)) →
      1000000 < length (made ++ going_on tables cs columns sources (prefix ++ row ∷ [])) → made ++ going_by tables cs columns sources prefix (row ∷ rows) ≡ total → 1000000 < length total
  too_many sources prefix row rows made total many e =
      let whole = sym (append_assoc made (going_on tables cs columns sources (prefix ++ row ∷ [])) (going_by tables cs columns sources prefix rows)) in
      let all = ap length (sym e ∙ ap (λ ys. made ++ ys) (by_more sources prefix row rows) ∙ whole) in
      omega (arith, many, all, length-append (made ++ going_on tables cs columns sources (prefix ++ row ∷ [])) (going_by tables cs columns sources prefix rows))

  pub goes_first : (sources : List ℕ) → going_on tables cs columns sources [] ≡ map (plain_row columns) (tuples tables sources cs)
  unfolding going_on
  goes_first sources = ap (map (plain_row columns)) (extended_first tables cs sources)

-- the beginning with one row more
pub prefix_more : (cs : List Comparison) (steps : List Step) (prefix : List Seen) (row : Seen) → MayBegin cs steps prefix → length prefix < length steps → IsEarly row →
    holds_at_last cs (length prefix) (prefix ++ row ∷ []) ≡ true → MayBegin cs steps (prefix ++ row ∷ [])
prefix_more cs steps prefix row is more early passes = record {
  within = omega (arith, more, length-append prefix (row ∷ []));
  early = All-push IsEarly prefix row is.early early;
  held = ap (λ n. holds_so_far cs n (prefix ++ row ∷ [])) (length-append prefix (row ∷ [])) ∙ sym (tested cs prefix row is.held) ∙ passes;
}

-- the last row is taken off
pub taken_off : (result : Option Seen) (old new before : List Seen) (last : Seen) → MatchOption result ((old ≡ []) × (new ≡ [])) (λ x. old ≡ new ++ x ∷ []) → old ≡ before ++ last ∷ [] → new ≡ before
taken_off None old new before last popped e = absurd (not_nil before last (sym e ∙ popped.0))
  where
    not_nil : (before : List Seen) (last : Seen) → before ++ last ∷ [] ≡ [] → ⊥
    not_nil [] last e = cc
    not_nil (x ∷ before) last e = cc
taken_off (Some x) old new before last popped e = (same_from_push new before x last (sym popped ∙ e)).0

module _ (tables : Tables) (cs : List Comparison) (columns : List Col) where
  pub stops : (sources : List ℕ) (prefix : List Seen) (row : Seen) (rows : List Seen) (made new old total : List (List Value)) (e : WalkFault) (r : Result (Unit {0}) WalkFault) → r ≡ Err e →
      Walks (Err e) made new (going_on tables cs columns sources (prefix ++ row ∷ [])) → made ++ going_by tables cs columns sources prefix (row ∷ rows) ≡ old ++ total → Walks r old new total
  stops sources prefix row rows made new old total fault.NoMemory r is walks e = subst (λ r. Walks r old new total) (sym is) tt
  stops sources prefix row rows made new old total fault.TooMany r is walks e =
      subst (λ r. Walks r old new total) (sym is) (too_many tables cs columns sources prefix row rows made (old ++ total) walks e)

  pub ends : (sources : List ℕ) (prefix : List Seen) (rows : List Seen) (made total : List (List Value)) → rows ≡ [] → made ++ going_by tables cs columns sources prefix rows ≡ total → made ≡ total
  ends sources prefix rows made total none e =
      sym (append-nil made)
      ∙ ap (λ more. made ++ more) (sym (ap (going_by tables cs columns sources prefix) none ∙ by_none tables cs columns sources prefix))
      ∙ e

pub prefix_none : (cs : List Comparison) (steps : List Step) → MayBegin cs steps []
prefix_none cs steps = record { within = omega arith; early = All-nil IsEarly; held = none_tested cs }

module _ (tables : Tables) (cs : List Comparison) (columns : List Col) where
  pub gathered : (sources : List ℕ) (old rows : List (List Value)) (first : List Seen) → old ≡ [] → first ≡ [] →
      (rows ≡ old ++ going_on tables cs columns sources first) × (length rows ≤ 1000000) →
      (rows ≡ map (plain_row columns) (tuples tables sources cs)) × (length (map (plain_row columns) (tuples tables sources cs)) ≤ 1000000)
  gathered sources old rows first none begin walks =
      let is : rows ≡ map (plain_row columns) (tuples tables sources cs) =
      walks.0 ∙ ap (λ ys. ys ++ going_on tables cs columns sources first) none ∙ ap (going_on tables cs columns sources) begin ∙ goes_first tables cs columns sources in
      (is, subst (λ ys. length ys ≤ 1000000) is walks.1)

  pub not_gathered : (sources : List ℕ) (old new : List (List Value)) (first : List Seen) (e : WalkFault) (r : Result (List (List Value)) WalkFault) → r ≡ Err e → old ≡ [] → first ≡ [] →
      Walks (Err e) old new (going_on tables cs columns sources first) → Gathers r (map (plain_row columns) (tuples tables sources cs))
  not_gathered sources old new first fault.NoMemory r is none begin walks = subst (λ r. Gathers r (map (plain_row columns) (tuples tables sources cs))) (sym is) tt
  not_gathered sources old new first fault.TooMany r is none begin walks =
      subst (λ r. Gathers r (map (plain_row columns) (tuples tables sources cs))) (sym is)
      (subst (λ ys. 1000000 < length ys) (ap (λ ys. ys ++ going_on tables cs columns sources first) none ∙ ap (going_on tables cs columns sources) begin ∙ goes_first tables cs columns sources) walks)
