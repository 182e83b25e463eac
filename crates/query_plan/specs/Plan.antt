-- How the rows of a source are read.
use Rattle.std.specs.Prelude.{ℕ, List, [], ◌∷◌, ◌+◌, map, Bool, cond, ◌||◌, Option, Some, None, slice_get}
use Rattle.std.specs.List.{list_all, list_any}
use Rattle.rel_base.specs.Schema.{span_columns}
use Rattle.rel_base.specs.declared.schema.TableDef.{TableDef}
use Rattle.query_plan.specs.Reads.{bounds}
use Rattle.query_plan.specs.declared.access.Access.{Access}
use Rattle.query_plan.specs.declared.access.Access.TheVariants as access
use Rattle.query_plan.specs.declared.access.Bound.{Bound}
use Rattle.query_plan.specs.declared.access.Step.{Step}
use Rattle.query_plan.specs.declared.select.Select.{Select}
use Rattle.query_plan.specs.declared.access.Bound.TheVariants.{Exact, Low, High}
use Rattle.query_plan.specs.declared.select.Comparison.{Comparison}

abbrev pub is_bound : List Comparison → ℕ → Bound → ℕ → Bool
is_bound comparisons source bound column = list_any (bounds source column bound) comparisons

-- the comparisons give each value of a key
abbrev pub are_given : List Comparison → ℕ → List ℕ → Bool
are_given comparisons source key = list_all (is_bound comparisons source Exact) key

abbrev pub is_spanned : List Comparison → ℕ → ℕ → Bool
is_spanned comparisons source column = is_bound comparisons source Low column || is_bound comparisons source High column

-- the span by the first of some columns that the comparisons bound, or else another access
abbrev pub span_or : List Comparison → ℕ → List ℕ → Access → Access
span_or comparisons source [] other = other
span_or comparisons source (column ∷ columns) other = cond (is_spanned comparisons source column) (access.Span column) (span_or comparisons source columns other)

-- by the key, else by the first key column or else the first indexed one that is bounded, else all
abbrev pub way_of : TableDef → ℕ → List Comparison → Access
way_of def source comparisons = cond (are_given comparisons source def.key) access.Point (span_or comparisons source (span_columns def) access.Whole)

abbrev pub access_of : Option TableDef → ℕ → List Comparison → Access
access_of None source comparisons = access.Whole
access_of (Some def) source comparisons = way_of def source comparisons

-- a source and how its rows are read
abbrev pub step_of : List TableDef → List Comparison → ℕ → ℕ → Step
step_of tables comparisons source table = record { table = table; access = access_of (slice_get tables table) source comparisons }

-- sources, numbered from one on
abbrev pub steps_from : List TableDef → List Comparison → ℕ → List ℕ → List Step
steps_from tables comparisons source [] = []
steps_from tables comparisons source (table ∷ rest) = step_of tables comparisons source table ∷ steps_from tables comparisons (source + 1) rest

abbrev pub steps_of : List TableDef → Select → List Step
steps_of tables select = steps_from tables select.comparisons 0 select.sources

-- how the rows of each source are read
abbrev pub plan_of : List TableDef → Select → List Access
plan_of tables select = map (λ step. step.access) (steps_of tables select)
