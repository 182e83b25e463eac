-- The sources of a query that may be read so.
use Rattle.std.specs.Prelude.{◌≡◌, ◌≤◌, List, All, Contains, IsSome, IsSomeAnd, slice_get, length, true}
use Rattle.std.specs.List.{list_all}
use Rattle.rel_base.specs.Schema.{span_columns}
use Rattle.rel_base.specs.declared.schema.TableDef.{TableDef}
use Rattle.query_plan.specs.declared.access.Access.{Access}
use Rattle.query_plan.specs.declared.access.Access.TheVariants as access
use Rattle.query_plan.specs.declared.access.Step.{Step}
use Rattle.query_plan.specs.declared.select.Select.{Select}
use Rattle.query_plan.specs.Answer.{is_grouped}
use Rattle.query_plan.specs.Ready.{is_ready}

-- a span is by a column by which the table may be read
abbrev pub AccessFits : TableDef → Access → Type 0
AccessFits def (access.Span column) = Contains (span_columns def) column
AccessFits def _ = Unit {0}

-- the table of a source is declared, and may be read so
abbrev pub StepFits : List TableDef → Step → Type 0
StepFits defs step = IsSomeAnd (slice_get defs step.table) (λ def. AccessFits def step.access)

-- a query is one over tables: it has at most 4 sources, which are declared, its comparisons speak of these, and only a query of one
-- source has groups or aggregates
pub record IsSelectOver (tables : List TableDef) (select : Select) : Type 0 where
  pub declared : All (λ table. IsSome (slice_get tables table)) select.sources
  pub few : length select.sources ≤ 4
  pub ready : list_all (is_ready (length select.sources)) select.comparisons ≡ true
  pub one : is_grouped select ≡ true → length select.sources ≡ 1
