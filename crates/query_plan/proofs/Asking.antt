-- A query over declared tables may be asked of a store.
use Rattle.std.proofs.Common.{◌≡◌, ◌<◌, ◌≤◌, ◌^◌, ℕ, List, All, length, true, false, Option, Some, None, refl, ap, ◌∙◌, arith}
use Rattle.std.specs.Option.{is_some}
use Rattle.std.specs.List.{list_all}
use Rattle.rel_base.specs.Tables.{Stamped, tables_at}
use Rattle.rel_base.specs.declared.schema.TableDef.{TableDef}
use Rattle.query_plan.proofs.Heights.{all_early}
use Rattle.query_plan.proofs.StepsFit.{as_many_steps, steps_fit, tables_of_steps}
use Rattle.query_plan.specs.Answer.{is_grouped}
use Rattle.query_plan.specs.Fits.{IsSelectOver}
use Rattle.query_plan.specs.Plan.{steps_of}
use Rattle.query_plan.specs.Ready.{is_ready}
use Rattle.query_plan.specs.Walk.{CanAsk, tables_of}
use Rattle.query_plan.specs.declared.select.Select.{Select}

pub none_of : {X : Type 0} → (o : Option X) → is_some o ≡ false → o ≡ None
none_of None e = refl
none_of (Some x) e = cc

module _ (tables : List TableDef) (select : Select) (over : IsSelectOver tables select) where
  many : length (steps_of tables select) ≡ length select.sources
  many = as_many_steps tables select.comparisons 0 select.sources

  pub sources_of_steps : tables_of (steps_of tables select) ≡ select.sources
  sources_of_steps = tables_of_steps tables select.comparisons 0 select.sources

  pub can_ask : (sealed height : ℕ) (history : List Stamped) → sealed < 2 ^ 63 → All (λ stamped. stamped.0 ≤ sealed) history
      → CanAsk tables (tables_at height history) select.comparisons (steps_of tables select)
  can_ask sealed height history small upto = record {
    fits = steps_fit tables select.comparisons 0 select.sources over.declared;
    few = omega (arith, many, over.few);
    ready = ap (λ n. list_all (is_ready n) select.comparisons) many ∙ over.ready;
    early = all_early sealed height history small upto;
  }

  pub one_step : is_grouped select ≡ true → length (steps_of tables select) ≡ 1
  one_step grouped = many ∙ over.one grouped
