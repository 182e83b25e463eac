-- What each call of a held job leaves in hand, whether or not memory was wanting.
use Rattle.std.proofs.Common.{Bool, Err, IfErr, IfOk, IfSome, None, Ok, OnErr, OnOk, Option, Result, Some, cond, false, inl, inr, length, subst, sym, true, ◌+◌, ◌∙◌, ◌≡◌}
use Rattle.cluster_run.proofs.Hands.{claim_has, claim_made, finish_has, finish_over, none_taken, read_has}
use Rattle.cluster_run.proofs.Quiet.{step_blocks}
use Rattle.cluster_run.proofs.Turning.{look_blocks, look_none, look_work}
use Rattle.cluster_run.specs.Standing.{Has, HasNone, HasWork, IsFurther, IsOver, Leaves, SameBlocks, Stands, Takes, left_of}
use Rattle.node_core.specs.Answers.{claimed_as, finished_as, got_as, is_gone}
use Rattle.node_core.specs.Core.{Core, IsHeld}
use Rattle.node_core.specs.Hands.{IsAnswered, IsClaimed}
use Rattle.node_core.specs.InHand.{InHand, IsSameRun}
use Rattle.node_core.specs.declared.answers.Finished.{Finished}
use Rattle.node_core.specs.declared.answers.Got.{Got}
use Rattle.node_model.specs.Steps.{ToClaim, ToFinish, ToRead}
use Rattle.node_model.specs.declared.journal.Entry.{Entry}
use Rattle.node_model.specs.declared.journal.Pick.{Pick}
use Rattle.node_shared.specs.Turn.{IsLook, IsTurn, node_seen}
use Rattle.proc_syntax.specs.declared.tree.App.{App}
use Rattle.rel_base.specs.declared.storied.Storied.{Ghosts}
use Rattle.turn_lock.specs.Passes.{HoldsNoTurn, IsPassOf, IsSamePass, pass_number}
use Rattle.turn_lock.specs.declared.lock.TurnLock.{TurnLock}
use Rattle.turn_lock.specs.declared.pass.Pass.{Pass}

module _ {ghosts : Ghosts Core App Entry} where
  -- a job that has run on is the same for its node
  pub ran_on : (pass : Pass Core App Entry ghosts) (old new : InHand) → IsSameRun old new → HasWork pass old → HasWork pass new
  ran_on pass old new same has = subst (HasWork pass) (sym same) (record {
    true_to = has.true_to;
    actor = has.actor;
    held = record { app = has.held.app; holds = has.held.holds; time = has.held.time };
    only = has.only;
    settled = has.settled;
  })

  pub ran_stands : (turns : TurnLock Core App Entry) (pass : Pass Core App Entry ghosts) (old new : InHand) → IsSameRun old new → Stands turns pass (Some old) → Stands turns pass (Some new)
  ran_stands turns pass old new same was = record { lock = was.lock; no_turn = was.no_turn; hand = ran_on pass old new same was.hand }

  -- and what a step leaves of it is the same
  pub ran_leaves : {M : Type 0} (pass : Pass Core App Entry ghosts) (old new : InHand) → IsSameRun old new → (r : Result (Option InHand) M) → IfOk r (Leaves pass new) → IfOk r (Leaves pass old)
  ran_leaves pass old new same (Ok None) leaves = subst (λ (one : InHand). IsOver pass one.job) same leaves
  ran_leaves pass old new same (Ok (Some work)) leaves = subst (λ (one : InHand). (work.job ≡ one.job) × IsFurther one work) same leaves
  ran_leaves pass old new same (Err refused) leaves = tt

  -- two stretches with the same blocks
  pub same_trans : (one two three : Pass Core App Entry ghosts) → IsSamePass one two → (pass_number one ≡ 0 → SameBlocks one two) → (pass_number two ≡ 0 → SameBlocks two three) → pass_number one ≡ 0 → SameBlocks one three
  same_trans one two three same first then zero = let p = first zero in let q = then (same.same_number ∙ zero) in record {
    delivered_same = q.delivered_same ∙ p.delivered_same;
    in_work_same = q.in_work_same ∙ p.in_work_same;
  }

  module _ {M : Type 0} (old new : Pass Core App Entry ghosts) (same : IsSamePass old new) where
    -- a claim
    pub claim_leaves : (pick : Pick) (r : Result (Option InHand) M) → HasNone old → IfOk r (λ got. IsTurn old new (ToClaim pick) (claimed_as got)) → IfOk r (λ got. IfSome got (IsHeld (node_seen new)))
        → IfOk r (λ got. IfSome got (IsClaimed (pass_number old))) → OnErr r (IsLook old new) → Has new (left_of r)
    claim_leaves pick (Ok got) has turn held fresh err = claim_has old new same pick has got turn held fresh
    claim_leaves pick (Err refused) has turn held fresh err = look_none old new same has.true_to err has

    pub claim_takes : (pick : Pick) (r : Result (Option InHand) M) → HasNone old → IfOk r (λ got. IsTurn old new (ToClaim pick) (claimed_as got)) → IfOk r (Takes old new pick)
    claim_takes pick (Ok None) has turn = none_taken old new same pick has turn
    claim_takes pick (Ok (Some work)) has turn = claim_made old new same pick has work.job turn
    claim_takes pick (Err refused) has turn = tt

    pub claim_blocks : (pick : Pick) (r : Result (Option InHand) M) → HasNone old → IfOk r (λ got. IsTurn old new (ToClaim pick) (claimed_as got)) → OnErr r (IsLook old new) → pass_number old ≡ 0 → SameBlocks old new
    claim_blocks pick (Ok got) has turn err = step_blocks old new same (ToClaim pick) (claimed_as got) has.true_to turn tt
    claim_blocks pick (Err refused) has turn err = look_blocks old new same has.true_to err

    module _ (work : InHand) (has : HasWork old work) where
      -- a read
      pub read_leaves : (r : Result Got M) (work' : InHand) → IfOk r (λ got. IsTurn old new (ToRead work.job) (got_as got)) → IfOk r (λ got. IsHeld (node_seen new) work') → IfOk r (λ got. IsAnswered got work work')
          → OnErr r (IsLook old new × (work' ≡ work)) → HasWork new work'
      read_leaves (Ok got) work' turn held answered err = read_has old new same work has got turn work' held answered
      read_leaves (Err refused) work' turn held answered err = subst (HasWork new) (sym err.1) (look_work old new same has.true_to err.0 work has)

      pub read_further : (r : Result Got M) (work' : InHand) → work.gone ≡ false → IfOk r (λ got. IsAnswered got work work') → OnOk r ((work'.job ≡ work.job) × IsFurther work work')
      read_further (Ok got) work' here answered = (answered.job, by (is_gone got) answered.gone answered.reads)
        where
          by : (b : Bool) → work'.gone ≡ b → length work'.told.fed ≡ cond b (length work.told.fed) (length work.told.fed + 1) → IsFurther work work'
          by true gone reads = inr (here, gone)
          by false gone reads = inl reads
      read_further (Err refused) work' here answered = tt

      pub read_blocks : (r : Result Got M) (work' : InHand) → IfOk r (λ got. IsTurn old new (ToRead work.job) (got_as got)) → OnErr r (IsLook old new × (work' ≡ work)) → pass_number old ≡ 0 → SameBlocks old new
      read_blocks (Ok got) work' turn err = step_blocks old new same (ToRead work.job) (got_as got) has.true_to turn tt
      read_blocks (Err refused) work' turn err = look_blocks old new same has.true_to err.0

      -- an end
      pub finish_free : (turns : TurnLock Core App Entry) (r : Result Finished (InHand × M)) → IsPassOf turns old → HoldsNoTurn new → IfOk r (λ got. IsTurn old new (ToFinish work.job) (finished_as got)) → OnOk r (Stands turns new None)
      finish_free turns (Ok got) lock no_turn turn = record { lock = same.same_lock ∙ lock; no_turn = no_turn; hand = finish_has old new same work has (finished_as got) turn }
      finish_free turns (Err refused) lock no_turn turn = tt

      pub finish_ends : (r : Result Finished (InHand × M)) → IfOk r (λ got. IsTurn old new (ToFinish work.job) (finished_as got)) → OnOk r (IsOver new work.job)
      finish_ends (Ok got) turn = finish_over old new same work has (finished_as got) turn
      finish_ends (Err refused) turn = tt

      pub finish_back : (turns : TurnLock Core App Entry) (r : Result Finished (InHand × M)) → IsPassOf turns old → HoldsNoTurn new → OnErr r (IsLook old new) → IfErr r (λ refused. refused.0 ≡ work)
          → IfErr r (λ refused. Stands turns new (Some refused.0))
      finish_back turns (Ok got) lock no_turn err back = tt
      finish_back turns (Err refused) lock no_turn err back = record {
        lock = same.same_lock ∙ lock;
        no_turn = no_turn;
        hand = subst (HasWork new) (sym back) (look_work old new same has.true_to err work has);
      }

      pub finish_blocks : (r : Result Finished (InHand × M)) → IfOk r (λ got. IsTurn old new (ToFinish work.job) (finished_as got)) → OnErr r (IsLook old new) → pass_number old ≡ 0 → SameBlocks old new
      finish_blocks (Ok got) turn err = step_blocks old new same (ToFinish work.job) (finished_as got) has.true_to turn tt
      finish_blocks (Err refused) turn err = look_blocks old new same has.true_to err
