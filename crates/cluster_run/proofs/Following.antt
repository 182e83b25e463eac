-- Calls that follow one another.
use Rattle.std.proofs.Common.{Bool, None, Option, arith, false, inl, inr, length, refl, true, ◌∙◌, ◌≡◌, ◌≤◌}
use Rattle.cluster_run.specs.Standing.{Comes, Has, KeepsBlocks, MayLookAgain, Runs, SameBlocks, Stands}
use Rattle.node_core.specs.Core.{Core}
use Rattle.node_core.specs.InHand.{InHand}
use Rattle.node_model.specs.declared.journal.Entry.{Entry}
use Rattle.node_model.specs.declared.journal.Pick.{Pick}
use Rattle.proc_syntax.specs.declared.tree.App.{App}
use Rattle.rel_base.specs.declared.storied.Storied.{Ghosts}
use Rattle.turn_lock.specs.Passes.{HoldsNoTurn, IsSameHolder, IsSamePass, mine, pass_number}
use Rattle.turn_lock.specs.declared.lock.TurnLock.{TurnLock}
use Rattle.turn_lock.specs.declared.pass.Pass.{Pass}

module _ {ghosts : Ghosts Core App Entry} where
  pub same_then : {one two three : Pass Core App Entry ghosts} → IsSamePass one two → IsSamePass two three → IsSamePass one three
  same_then first then = record {
    same_lock = then.same_lock ∙ first.same_lock;
    same_number = then.same_number ∙ first.same_number;
    same_base = then.same_base ∙ first.same_base;
    same_made = then.same_made ∙ first.same_made;
    same_left = then.same_left ∙ first.same_left;
    same_joined = then.same_joined ∙ first.same_joined;
  }

  -- a turn that keeps the pass's entries, and what follows it
  pub comes_after : {one two three : Pass Core App Entry ghosts} {work : Option InHand} → IsSamePass one two → length (mine one) ≤ length (mine two) → Comes two three work → Comes one three work
  comes_after first entries then = record { same = same_then first then.same; no_turn = then.no_turn; hand = then.hand; entries = omega (arith, entries, then.entries) }

  pub comes_then : {one two three : Pass Core App Entry ghosts} {between work : Option InHand} → Comes one two between → Comes two three work → Comes one three work
  comes_then first then = comes_after first.same first.entries then

  -- a run that follows
  pub runs_look : (one two three : Pass Core App Entry ghosts) (pick : Pick) → length (mine one) ≤ length (mine two) → (ran : Bool) → Runs two three pick ran → MayLookAgain one three
  runs_look one two three pick entries true runs = inl (omega (arith, entries, runs.0))
  runs_look one two three pick entries false none = inr (pick, none)

  -- so that the pass stands there as it stood before
  pub stands_then : {turns : TurnLock Core App Entry} {old new : Pass Core App Entry ghosts} {before work : Option InHand} → Stands turns old before → Comes old new work → Stands turns new work
  stands_then was comes = record { lock = comes.same.same_lock ∙ was.lock; no_turn = comes.no_turn; hand = comes.hand }

  pub holder_then : {one two three : Pass Core App Entry ghosts} → IsSameHolder one two → IsSameHolder two three → IsSameHolder one three
  holder_then first then = record {
    same_lock = then.same_lock ∙ first.same_lock;
    same_number = then.same_number ∙ first.same_number;
    same_base = then.same_base ∙ first.same_base;
  }

  pub blocks_then : {one two three : Pass Core App Entry ghosts} → SameBlocks one two → SameBlocks two three → SameBlocks one three
  blocks_then first then = record { delivered_same = then.delivered_same ∙ first.delivered_same; in_work_same = then.in_work_same ∙ first.in_work_same }

  -- turns of the same holder
  pub holder_goes : {one two three : Pass Core App Entry ghosts} → IsSameHolder one two → IsSamePass two three → IsSameHolder one three
  holder_goes first then = record {
    same_lock = then.same_lock ∙ first.same_lock;
    same_number = then.same_number ∙ first.same_number;
    same_base = then.same_base ∙ first.same_base;
  }

  pub keeps_then : {one two three : Pass Core App Entry ghosts} → KeepsBlocks one two → KeepsBlocks two three → KeepsBlocks one three
  keeps_then first then = record { same = holder_then first.same then.same; no_turn = then.no_turn; hand = then.hand; blocks = blocks_then first.blocks then.blocks }

  pub stands_kept : {turns : TurnLock Core App Entry} {old new : Pass Core App Entry ghosts} {before : Option InHand} → Stands turns old before → KeepsBlocks old new → Stands turns new None
  stands_kept was keeps = record { lock = keeps.same.same_lock ∙ was.lock; no_turn = keeps.no_turn; hand = keeps.hand }

  -- where the pass is the processor's
  pub blocks_later : {one two three : Pass Core App Entry ghosts} → IsSamePass one two → (pass_number one ≡ 0 → SameBlocks one two) → (pass_number two ≡ 0 → SameBlocks two three) → pass_number one ≡ 0 → SameBlocks one three
  blocks_later same first then zero = blocks_then (first zero) (then (same.same_number ∙ zero))

  -- before the first of them

  pub same_self : (pass : Pass Core App Entry ghosts) → IsSamePass pass pass
  same_self pass = record { same_lock = refl; same_number = refl; same_base = refl; same_made = refl; same_left = refl; same_joined = refl }

  pub comes_self : (pass : Pass Core App Entry ghosts) (work : Option InHand) → HoldsNoTurn pass → Has pass work → Comes pass pass work
  comes_self pass work no_turn hand = record { same = same_self pass; no_turn = no_turn; hand = hand; entries = omega arith }

  pub blocks_self : (pass : Pass Core App Entry ghosts) → SameBlocks pass pass
  blocks_self pass = record { delivered_same = refl; in_work_same = refl }
