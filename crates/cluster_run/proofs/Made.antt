-- What turns add to the entries of a pass.
use Rattle.std.proofs.Common.{Err, IfOk, Ok, OnErr, Option, Result, Some, ap, arith, length, ◌++◌, ◌∙◌, ◌≡◌, ◌≤◌, ◌∷◌, []}
use Rattle.std.proofs.lemmas.List.{length-append}
use Rattle.cluster_run.specs.Standing.{HasMade}
use Rattle.node_core.specs.Core.{Core, entries_for}
use Rattle.node_model.specs.Journals.{world}
use Rattle.node_model.specs.Steps.{Answer, Ask, reply}
use Rattle.node_model.specs.declared.journal.Entry.{Entry}
use Rattle.node_model.specs.declared.journal.Event.{Event}
use Rattle.node_shared.specs.Turn.{IsDelivery, IsLook, IsTurn}
use Rattle.proc_syntax.specs.declared.call.Block.{Block}
use Rattle.proc_syntax.specs.declared.tree.App.{App}
use Rattle.rel_base.specs.declared.storied.Storied.{Ghosts}
use Rattle.turn_lock.specs.Passes.{mine, pass_base, pass_number}
use Rattle.turn_lock.specs.declared.pass.Pass.{Pass}

module _ {ghosts : Ghosts Core App Entry} (old new : Pass Core App Entry ghosts) where
  -- no turn takes one back
  pub turn_keeps : (ask : Ask) (answer : Answer) → IsTurn old new ask answer → length (mine old) ≤ length (mine new)
  turn_keeps ask answer turn =
      omega (arith, ap length turn.own ∙ length-append (mine old) (entries_for (pass_number old) (reply (pass_base old) (world (pass_base old) turn.journal) ask).1))

  look_keeps : IsLook old new → length (mine old) ≤ length (mine new)
  look_keeps look = omega (arith, ap length look.same)

  pub keeps : {A M : Type 0} (r : Result A M) (ask : Ask) (answer : A → Answer) → IfOk r (λ got. IsTurn old new ask (answer got)) → OnErr r (IsLook old new) → length (mine old) ≤ length (mine new)
  keeps (Ok got) ask answer turn err = turn_keeps ask (answer got) turn
  keeps (Err refused) ask answer turn err = look_keeps err

  -- where more is said of what memory ran out for
  pub keeps_both : {A M : Type 0} (P : Type 0) (r : Result A M) (ask : Ask) (answer : A → Answer) → IfOk r (λ got. IsTurn old new ask (answer got)) → OnErr r (IsLook old new × P) → length (mine old) ≤ length (mine new)
  keeps_both P (Ok got) ask answer turn err = turn_keeps ask (answer got) turn
  keeps_both P (Err refused) ask answer turn err = look_keeps err.0

  pub delivery_keeps : {A M : Type 0} (r : Result A M) (block : Block) (answer : A → Answer) → IfOk r (λ got. IsDelivery old new block (answer got)) → OnErr r (IsLook old new) → length (mine old) ≤ length (mine new)
  delivery_keeps (Ok got) block answer delivery err = turn_keeps _ (answer got) delivery.turn
  delivery_keeps (Err refused) block answer delivery err = look_keeps err

  -- a turn with an event adds one
  pub turn_makes : (ask : Ask) (answer : Answer) (turn : IsTurn old new ask answer) (event : Event) → (reply (pass_base old) (world (pass_base old) turn.journal) ask).1 ≡ Some event → HasMade old new
  turn_makes ask answer turn event is =
      omega (arith, ap length (turn.own ∙ ap (λ (o : Option Event). mine old ++ entries_for (pass_number old) o) is) ∙ length-append (mine old) (record { actor = pass_number old; event = event } ∷ []))
