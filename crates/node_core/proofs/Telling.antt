-- What a node tells of its state, and what that comes to.
use Rattle.std.proofs.Common.{List, [], ap, arith, cond, false, length, subst, sym, take, true, zero, suc, ◌+◌, ◌∙◌, ◌≡◌, ◌≤◌, ◌∷◌, ℕ}
use Rattle.std.proofs.lemmas.Bool.Decides.{nat_tests}
use Rattle.std.specs.Prelude.{nat_le}
use Rattle.block_work.proofs.Replayed.{results_run_again}
use Rattle.block_work.specs.Chain.{HoldsChain}
use Rattle.node_core.proofs.Journal.{core_of}
use Rattle.node_core.proofs.Settled.{height_is}
use Rattle.node_core.specs.Core.{results_in}
use Rattle.node_core.specs.Kept.{IsNode, Kept, world_in}
use Rattle.node_core.specs.Looking.{looks, sealed_blocks}
use Rattle.node_core.specs.declared.answers.Looked.TheVariants as looked
use Rattle.node_core.specs.declared.answers.Looked.{Looked}
use Rattle.node_model.specs.History.{snapshot}
use Rattle.node_model.specs.Journals.{delivered}
use Rattle.proc_syntax.specs.Declaring.{tables_of}
use Rattle.proc_syntax.specs.declared.call.Block.{Block}
use Rattle.rel_base.specs.Among.{rows_in}
use Rattle.rel_base.specs.Tables.{Stamped, tables_at}
use Rattle.rel_base.specs.declared.access.Read.{Read}
use Rattle.rel_base.specs.declared.access.Seen.{Seen}
use Rattle.rel_base.specs.declared.schema.TableDef.{TableDef}
use Rattle.schedule_laws.proofs.Folding.{schedules_fold}
use Rattle.schedule_laws.specs.Scheduled.{IsOfFold}
use Rattle.serial_laws.specs.Chained.{AreNumbered}
use Rattle.serial_laws.specs.InOrder.{EachInOrder}

numbered_front : (number count : ℕ) (blocks : List Block) → AreNumbered number blocks → AreNumbered number (take count blocks)
numbered_front number zero blocks are = tt
numbered_front number (suc count) [] are = tt
numbered_front number (suc count) (block ∷ blocks) are = (are.0, numbered_front (number + 1) count blocks are.1)

module _ (kept : Kept) (node : IsNode kept) where
  -- whatever the schedule was
  pub folds : IsOfFold kept.app kept.journal (world_in kept)
  folds = schedules_fold kept.app kept.journal node.legal

  -- the results tell orders in which the blocks run again
  pub replays : EachInOrder kept.app (sealed_blocks (core_of kept)) (results_in (core_of kept))
  replays =
      subst (EachInOrder kept.app (sealed_blocks (core_of kept))) node.holds.results
      (results_run_again kept.app (sealed_blocks (core_of kept)) kept.history kept.results (numbered_front 1 (length (world_in kept).sealed) (delivered kept.journal) folds.numbered)
      (subst (λ sealed. HoldsChain (tables_of kept.app) sealed kept.history kept.results) folds.sealed node.holds))

  pub look_high : (height sealed : ℕ) (read : Read) → sealed ≡ length kept.results → sealed + 1 ≤ height → looked.TooHigh sealed ≡ looks (core_of kept) height read
  look_high height sealed read at above =
      let so : sealed ≡ length (world_in kept).sealed = at ∙ height_is kept node in
      let over : nat_le height (length (world_in kept).sealed) ≡ false = grind (arith, nat_tests) in
      ap (λ n. looked.TooHigh n) so
      ∙ sym (ap (λ b. cond {A = Looked} b (looked.Rows (rows_in (tables_of kept.app) read (snapshot height (world_in kept).sealed))) (looked.TooHigh (length (world_in kept).sealed))) over)

  pub look_rows : (height sealed : ℕ) (read : Read) (rows : List Seen) → sealed ≡ length kept.results → height ≤ sealed → rows ≡ rows_in kept.tables read (tables_at height kept.history) → looked.Rows rows ≡ looks (core_of kept) height read
  look_rows height sealed read rows at within are =
      let so : sealed ≡ length (world_in kept).sealed = at ∙ height_is kept node in
      let upto : nat_le height (length (world_in kept).sealed) ≡ true = grind (arith, nat_tests) in
      ap (λ (seen : List Seen). looked.Rows seen)
      (are ∙ ap (λ (tables : List TableDef). rows_in tables read (tables_at height kept.history)) node.sound.declared ∙ ap (λ (history : List Stamped). rows_in (tables_of kept.app) read (tables_at height history)) node.holds.writes)
      ∙ sym (ap (λ b. cond {A = Looked} b (looked.Rows (rows_in (tables_of kept.app) read (snapshot height (world_in kept).sealed))) (looked.TooHigh (length (world_in kept).sealed))) upto)
