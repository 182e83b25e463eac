-- The answer of a query of one source with groups or aggregates.
use Rattle.std.proofs.Common.{◌≡◌, ◌<◌, ◌≤◌, ℕ, List, [], ◌∷◌, ◌++◌, map, true, false, cond, length, Some, Err, slice_get, refl, sym, ap, subst, ◌∙◌, arith}
use Rattle.std.specs.List.{flat_map}
use Rattle.std.specs.Map.{values_of}
use Rattle.std.proofs.lemmas.Option.{same_Some}
use Rattle.rel_base.specs.Among.{rows_in}
use Rattle.rel_base.specs.Tables.{Tables}
use Rattle.rel_base.specs.declared.access.Read.{Read}
use Rattle.rel_base.specs.declared.access.Seen.{Seen}
use Rattle.rel_base.specs.declared.schema.TableDef.{TableDef}
use Rattle.rel_base.specs.declared.value.Value.{Value}
use Rattle.query_plan.proofs.Extends.{extended_first, read_enough}
use Rattle.query_plan.proofs.Grouped.{all_put, value_is}
use Rattle.query_plan.proofs.Plainly.{over_few, over_many}
use Rattle.query_plan.specs.Answer.{Group, all_of, alone, answer_over, is_grouped, item_of, ordered, put_one, put_tuples, rows_of, tuples_of}
use Rattle.query_plan.specs.Tallies.{kept, passing, put_all, tally_of, value_of}
use Rattle.query_plan.specs.Tuples.{holds_all, tuples}
use Rattle.query_plan.specs.Walk.{IsReadOf, extended, tables_of}
use Rattle.query_plan.specs.declared.access.Step.{Step}
use Rattle.query_plan.specs.declared.fault.AskFault.TheVariants as fault
use Rattle.query_plan.specs.declared.tally.Tally.{Tally}
use Rattle.query_plan.specs.declared.select.Comparison.{Comparison}
use Rattle.query_plan.specs.declared.select.Item.{Item}
use Rattle.query_plan.specs.declared.select.Select.{Select}

passing_is : (tables : Tables) (cs : List Comparison) (rows : List Seen) → passing cs rows ≡ flat_map (λ row. extended tables cs (row ∷ []) []) rows
passing_is tables cs [] = refl
passing_is tables cs (row ∷ rows) =
    elim (holds_all cs (row ∷ [])) as (λ b. cond b ((row ∷ []) ∷ passing cs rows) (passing cs rows) ≡ cond b ((row ∷ []) ∷ []) [] ++ flat_map (λ row. extended tables cs (row ∷ []) []) rows) [
      | true ↦ ap (λ ts. (row ∷ []) ∷ ts) (passing_is tables cs rows)
      | false ↦ passing_is tables cs rows
    ]

only_table : (steps : List Step) (step : Step) → length steps ≡ 1 → slice_get steps 0 ≡ Some step → step.table ∷ [] ≡ tables_of steps
only_table [] step one e = cc
only_table (s ∷ []) step one e = ap (λ (x : Step). x.table ∷ []) (sym (same_Some s step e))
only_table (s ∷ t ∷ steps) step one e = absurd (omega (arith, one))

-- the rows of a read that is wide enough, of the one source
pub only_source : (defs : List TableDef) (tables : Tables) (cs : List Comparison) (steps : List Step) (step : Step) (read : Read) (rows : List Seen) →
    length steps ≡ 1 → slice_get steps 0 ≡ Some step → IsReadOf defs step.table cs [] read → rows ≡ rows_in defs read tables → passing cs rows ≡ tuples tables (tables_of steps) cs
only_source defs tables cs steps step read rows one found is e =
    passing_is tables cs rows
    ∙ ap (flat_map (λ row. extended tables cs (row ∷ []) [])) e
    ∙ read_enough defs cs [] read tables [] is.wide
    ∙ ap (λ t. extended tables cs [] (t ∷ [])) is.of_table
    ∙ ap (extended tables cs []) (only_table steps step one found)
    ∙ extended_first tables cs (tables_of steps)

one_group : (group : Group) (items : List Item) → all_of value_of (map (tally_of group) items) ≡ all_of (item_of group) items
one_group group [] = refl
one_group group (item ∷ items) = ap (λ v. put_one v (all_of value_of (map (tally_of group) items))) (value_is group item) ∙ ap (put_one (item_of group item)) (one_group group items)

each_group : (items : List Item) (groups : List (List Value × Group)) →
    all_of (all_of value_of) (values_of (map (kept items) groups)) ≡ all_of (λ group. all_of (item_of group) items) (map (λ e. e.1) groups)
each_group items [] = refl
each_group items (e ∷ groups) =
    ap (λ row. put_one row (all_of (all_of value_of) (values_of (map (kept items) groups)))) (one_group e.1 items)
    ∙ ap (put_one (all_of (item_of e.1) items)) (each_group items groups)

-- the rows of the tallies are those of the query
grouped_rows : (select : Select) (ts : List (List Seen)) (entries : List (List Value × List Tally)) → is_grouped select ≡ true →
    entries ≡ put_all select.groups select.items [] ts → all_of (all_of value_of) (values_of entries) ≡ rows_of select ts
grouped_rows select ts entries grouped e =
    ap (λ es. all_of (all_of value_of) (values_of es)) (e ∙ all_put select.groups select.items [] ts)
    ∙ each_group select.items (put_tuples select.groups [] ts)
    ∙ ap (λ b. all_of (λ group. all_of (item_of group) select.items) (cond b (map (λ e. e.1) (put_tuples select.groups [] ts)) (map alone ts))) (sym grouped)

module _ (tables : Tables) (select : Select) (sources : List ℕ) (cs : List Comparison) (rows : List Seen) (from : sources ≡ select.sources) (where_ : cs ≡ select.comparisons)
    (all : passing cs rows ≡ tuples tables sources cs) where
  tuples_are : passing cs rows ≡ tuples_of tables select
  tuples_are = all ∙ ap (λ ss. tuples tables ss cs) from ∙ ap (tuples tables select.sources) where_

  pub many_grouply : 1000000 < length (passing cs rows) → answer_over tables select ≡ Err fault.TooMany
  many_grouply many = over_many tables select (subst (λ ts. 1000000 < length ts) tuples_are many)

  pub few_grouply : (entries : List (List Value × List Tally)) → is_grouped select ≡ true → (entries ≡ put_all select.groups select.items [] (passing cs rows)) × (length (passing cs rows) ≤ 1000000)
      → answer_over tables select ≡ ordered select.order (all_of (all_of value_of) (values_of entries))
  few_grouply entries grouped put =
      over_few tables select (subst (λ ts. length ts ≤ 1000000) tuples_are put.1)
      ∙ ap (ordered select.order) (sym (grouped_rows select (tuples_of tables select) entries grouped (put.0 ∙ ap (put_all select.groups select.items []) tuples_are)))
