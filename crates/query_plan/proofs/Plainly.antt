-- The answer to a query without groups and aggregates.
use Rattle.std.proofs.Common.{◌≡◌, ◌<◌, ◌≤◌, ℕ, List, [], ◌∷◌, map, Bool, true, false, cond, ◌||◌, length, Option, Some, None, Ok, Err, refl, sym, ap, subst, ◌∙◌}
use Rattle.std.specs.List.{list_any}
use Rattle.std.proofs.lemmas.Bool.{lt-ltb, le-ltb}
use Rattle.std.proofs.lemmas.List.{length-map}
use Rattle.rel_base.specs.Tables.{Tables}
use Rattle.rel_base.specs.declared.access.Seen.{Seen}
use Rattle.rel_base.specs.declared.value.Value.{Value}
use Rattle.query_plan.specs.Answer.{all_of, alone, answer_over, in_order, is_aggregate, is_grouped, is_some_col, item_of, ordered, plain_columns, plain_of, put_one, put_tuples, rows_of, tuples_of}
use Rattle.query_plan.specs.Tuples.{at, tuples}
use Rattle.query_plan.specs.Walk.{plain_row}
use Rattle.query_plan.specs.declared.select.Col.{Col}
use Rattle.query_plan.specs.declared.select.Comparison.{Comparison}
use Rattle.query_plan.specs.declared.select.Item.{Item}
use Rattle.query_plan.specs.declared.select.Item.TheVariants.{Plain, Count, Sum, Min, Max}
use Rattle.query_plan.specs.declared.select.Select.{Select}
use Rattle.query_plan.specs.declared.fault.AskFault.TheVariants as fault

-- ---- the fields of items

put_parts : (x : Option Col) (xs : Option (List Col)) (columns : List Col) → put_one x xs ≡ Some columns → (c : Col) × (cs : List Col) × (x ≡ Some c) × (xs ≡ Some cs) × (columns ≡ c ∷ cs)
put_parts None xs columns e = cc
put_parts (Some c) None columns e = cc
put_parts (Some c) (Some cs) columns e = (c, cs, refl, refl, cc)

plain_item : (item : Item) (col : Col) → plain_of item ≡ Some col → item ≡ Plain col
plain_item (Plain c) col e = cc
plain_item Count col e = cc
plain_item (Sum c) col e = cc
plain_item (Min c) col e = cc
plain_item (Max c) col e = cc

all_plain : (items : List Item) (columns : List Col) → all_of plain_of items ≡ Some columns → items ≡ map Plain columns
all_plain [] columns e = let none : columns ≡ [] = cc in ap (map Plain) (sym none)
all_plain (item ∷ items) columns e =
    let p = put_parts (plain_of item) (all_of plain_of items) columns e in
    ap (λ i. i ∷ items) (plain_item item p.0 p.2) ∙ ap (λ is. Plain p.0 ∷ is) (all_plain items p.1 p.3) ∙ ap (map Plain) (sym p.4)

put_none : (x : Option Col) (xs : Option (List Col)) → put_one x xs ≡ None → (rest : Bool) → (xs ≡ None → rest ≡ true) → (first : Bool) → (x ≡ None → first ≡ true) → (first || rest) ≡ true
put_none None xs e rest f first g = ap (λ b. b || rest) (g refl)
put_none (Some c) None e rest f true g = refl
put_none (Some c) None e rest f false g = f refl
put_none (Some c) (Some cs) e rest f first g = cc

no_plain_item : (item : Item) → plain_of item ≡ None → is_aggregate item ≡ true
no_plain_item (Plain c) e = cc
no_plain_item Count e = refl
no_plain_item (Sum c) e = refl
no_plain_item (Min c) e = refl
no_plain_item (Max c) e = refl

some_aggregate : (items : List Item) → all_of plain_of items ≡ None → list_any is_aggregate items ≡ true
some_aggregate [] e = cc
some_aggregate (item ∷ items) e =
    put_none (plain_of item) (all_of plain_of items) e (list_any is_aggregate items) (some_aggregate items) (is_aggregate item) (no_plain_item item)

-- where items are not all fields, or there are groups, the query is one with groups
pub not_plain : (select : Select) → plain_columns select ≡ None → is_grouped select ≡ true
not_plain select e =
    elim (is_some_col select.groups) as (λ b. cond b None (all_of plain_of select.items) ≡ None → (b || list_any is_aggregate select.items) ≡ true) [
      | true ↦ λ h. refl
      | false ↦ λ h. some_aggregate select.items h
    ] e

-- ---- their rows

pub none_aggregate : (columns : List Col) → list_any is_aggregate (map Plain columns) ≡ false
none_aggregate [] = refl
none_aggregate (col ∷ columns) = none_aggregate columns

plain_parts : (select : Select) (columns : List Col) → plain_columns select ≡ Some columns → (is_grouped select ≡ false) × (select.items ≡ map Plain columns)
plain_parts select columns e =
    elim (is_some_col select.groups) as (λ b. cond b None (all_of plain_of select.items) ≡ Some columns → ((b || list_any is_aggregate select.items) ≡ false) × (select.items ≡ map Plain columns)) [
      | true ↦ λ h. absurd cc
      | false ↦ λ h. (ap (list_any is_aggregate) (all_plain select.items columns h) ∙ none_aggregate columns, all_plain select.items columns h)
    ] e

one_row : (columns : List Col) (tuple : List Seen) → all_of (item_of (alone tuple)) (map Plain columns) ≡ Some (plain_row columns tuple)
one_row [] tuple = refl
one_row (col ∷ columns) tuple = ap (put_one (Some (at tuple col))) (one_row columns tuple)

all_rows : (columns : List Col) (ts : List (List Seen)) → all_of (λ group. all_of (item_of group) (map Plain columns)) (map alone ts) ≡ Some (map (plain_row columns) ts)
all_rows columns [] = refl
all_rows columns (t ∷ ts) =
    ap (λ row. put_one row (all_of (λ group. all_of (item_of group) (map Plain columns)) (map alone ts))) (one_row columns t)
    ∙ ap (put_one (Some (plain_row columns t))) (all_rows columns ts)

plain_rows : (select : Select) (columns : List Col) (ts : List (List Seen)) → plain_columns select ≡ Some columns → rows_of select ts ≡ Some (map (plain_row columns) ts)
plain_rows select columns ts e =
    let parts = plain_parts select columns e in
    ap (λ b. all_of (λ group. all_of (item_of group) select.items) (cond b (map (λ e. e.1) (put_tuples select.groups [] ts)) (map alone ts))) parts.0
    ∙ ap (λ is. all_of (λ group. all_of (item_of group) is) (map alone ts)) parts.1
    ∙ all_rows columns ts

-- ---- the answer

pub over_many : (tables : Tables) (select : Select) → 1000000 < length (tuples_of tables select) → answer_over tables select ≡ Err fault.TooMany
over_many tables select many =
    ap (λ b. cond b (Err fault.TooMany) (ordered select.order (rows_of select (tuples_of tables select)))) (lt-ltb 1000000 (length (tuples_of tables select)) many)

pub over_few : (tables : Tables) (select : Select) → length (tuples_of tables select) ≤ 1000000 → answer_over tables select ≡ ordered select.order (rows_of select (tuples_of tables select))
over_few tables select few =
    ap (λ b. cond b (Err fault.TooMany) (ordered select.order (rows_of select (tuples_of tables select)))) (le-ltb 1000000 (length (tuples_of tables select)) few)

module _ (tables : Tables) (select : Select) (sources : List ℕ) (cs : List Comparison) (columns : List Col) (from : sources ≡ select.sources) (where_ : cs ≡ select.comparisons) where
  same_tuples : tuples tables sources cs ≡ tuples_of tables select
  same_tuples = ap (λ ss. tuples tables ss cs) from ∙ ap (tuples tables select.sources) where_

  same_length : length (map (plain_row columns) (tuples tables sources cs)) ≡ length (tuples_of tables select)
  same_length = length-map (tuples tables sources cs) (plain_row columns) ∙ ap length same_tuples

  pub many_plainly : 1000000 < length (map (plain_row columns) (tuples tables sources cs)) → answer_over tables select ≡ Err fault.TooMany
  many_plainly many = over_many tables select (subst (λ n. 1000000 < n) same_length many)

  pub few_plainly : (rows : List (List Value)) → plain_columns select ≡ Some columns → rows ≡ map (plain_row columns) (tuples tables sources cs) → length (map (plain_row columns) (tuples tables sources cs)) ≤ 1000000
      → answer_over tables select ≡ Ok (in_order select.order rows)
  few_plainly rows plain is few =
      over_few tables select (subst (λ n. n ≤ 1000000) same_length few)
      ∙ ap (ordered select.order) (plain_rows select columns (tuples_of tables select) plain ∙ ap (λ ts. Some (map (plain_row columns) ts)) (sym same_tuples) ∙ ap Some (sym is))
