-- The steps of a query over tables.
use Rattle.std.proofs.Common.{◌≡◌, ℕ, List, [], ◌∷◌, true, false, cond, ◌+◌, length, All, Contains, Option, Some, None, slice_get, refl, ap, sym, ◌∙◌}
use Rattle.std.specs.Prelude.{IsSome, IsSomeAnd}
use Rattle.std.proofs.lemmas.List.{length-map}
use Rattle.std.proofs.lemmas.List.Elements.{All-nil, All-cons, All-head, All-tail, All-contains_itself}
use Rattle.rel_base.specs.Schema.{span_columns}
use Rattle.rel_base.specs.declared.schema.TableDef.{TableDef}
use Rattle.query_plan.specs.Fits.{AccessFits, StepFits}
use Rattle.query_plan.specs.Plan.{access_of, are_given, is_spanned, span_or, step_of, steps_from, way_of}
use Rattle.query_plan.specs.Walk.{tables_of}
use Rattle.query_plan.specs.declared.access.Access.TheVariants as access
use Rattle.query_plan.specs.declared.access.Step.{Step}
use Rattle.query_plan.specs.declared.select.Comparison.{Comparison}

span_fits : (def : TableDef) (cs : List Comparison) (source : ℕ) (columns : List ℕ) → All (Contains (span_columns def)) columns → AccessFits def (span_or cs source columns access.Whole)
span_fits def cs source [] all = tt
span_fits def cs source (column ∷ columns) all =
    elim (is_spanned cs source column) as (λ b. AccessFits def (cond b (access.Span column) (span_or cs source columns access.Whole))) [
      | true ↦ All-head (Contains (span_columns def)) column columns all
      | false ↦ span_fits def cs source columns (All-tail (Contains (span_columns def)) column columns all)
    ]

way_fits : (def : TableDef) (source : ℕ) (cs : List Comparison) → AccessFits def (way_of def source cs)
way_fits def source cs =
    elim (are_given cs source def.key) as (λ b. AccessFits def (cond b access.Point (span_or cs source (span_columns def) access.Whole))) [
      | true ↦ tt
      | false ↦ span_fits def cs source (span_columns def) (All-contains_itself (span_columns def))
    ]

access_fits : (source : ℕ) (cs : List Comparison) (def : Option TableDef) → IsSome def → IsSomeAnd def (λ d. AccessFits d (access_of def source cs))
access_fits source cs None some = absurd (cc)
access_fits source cs (Some def) some = way_fits def source cs

pub steps_fit : (defs : List TableDef) (cs : List Comparison) (source : ℕ) (tables : List ℕ) → All (λ table. IsSome (slice_get defs table)) tables → All (StepFits defs) (steps_from defs cs source tables)
steps_fit defs cs source [] all = All-nil (StepFits defs)
steps_fit defs cs source (table ∷ rest) all =
    All-cons (StepFits defs) (step_of defs cs source table) (steps_from defs cs (source + 1) rest)
    (access_fits source cs (slice_get defs table) (All-head (λ table. IsSome (slice_get defs table)) table rest all))
    (steps_fit defs cs (source + 1) rest (All-tail (λ table. IsSome (slice_get defs table)) table rest all))

pub tables_of_steps : (defs : List TableDef) (cs : List Comparison) (source : ℕ) (tables : List ℕ) → tables_of (steps_from defs cs source tables) ≡ tables
tables_of_steps defs cs source [] = refl
tables_of_steps defs cs source (table ∷ rest) = ap (λ ts. table ∷ ts) (tables_of_steps defs cs (source + 1) rest)

pub as_many_steps : (defs : List TableDef) (cs : List Comparison) (source : ℕ) (tables : List ℕ) → length (steps_from defs cs source tables) ≡ length tables
as_many_steps defs cs source tables = sym (length-map (steps_from defs cs source tables) (λ (step : Step). step.table)) ∙ ap length (tables_of_steps defs cs source tables)
