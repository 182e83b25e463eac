-- What a turn leaves to its pass, and what it changes for it.
use Rattle.std.proofs.Common.{Bool, List, Option, Some, [], ap, cond, false, find, refl, subst, sym, true, ◌++◌, ◌∙◌, ◌≡◌, ◌∷◌, ℕ}
use Rattle.std.proofs.lemmas.Bool.{false≢true}
use Rattle.std.specs.Option.{is_some, option_map}
use Rattle.cluster_run.proofs.Arriving.{BringsNone, arrived-append, brings_none}
use Rattle.cluster_run.specs.Arrivals.{arrived}
use Rattle.cluster_run.specs.Standing.{HasNone, HasWork, HoldsOnly, IsTrue, SameBlocks, delivered_by, state_seen}
use Rattle.node_core.proofs.Journal.{world_grown}
use Rattle.node_core.specs.Core.{Core, IsHeld, entries_for}
use Rattle.node_core.specs.InHand.{InHand}
use Rattle.node_model.specs.Events.{has_told, is_settled}
use Rattle.node_model.specs.History.{SealedBlock}
use Rattle.node_model.specs.Journals.{IsLegal, delivered, world}
use Rattle.node_model.specs.Steps.{Answer, Ask, noted, reply}
use Rattle.node_model.specs.World.{HoldsNone, World}
use Rattle.node_model.specs.declared.journal.Entry.{Entry}
use Rattle.node_model.specs.declared.journal.Event.{Event}
use Rattle.node_shared.proofs.Turns.{all_own, found_held, turns_find_own}
use Rattle.node_shared.specs.Turn.{IsFound, IsLook, IsTurn, node_seen}
use Rattle.proc_syntax.specs.declared.call.Tx.{Tx}
use Rattle.proc_syntax.specs.declared.tree.App.{App}
use Rattle.rel_base.proofs.Stories.{entries_grown}
use Rattle.rel_base.specs.declared.storied.Storied.{Ghosts}
use Rattle.schedule_laws.specs.Scheduled.{block_in}
use Rattle.schedule_laws.specs.Stable.{IsLater, entries_by}
use Rattle.schedule_laws.proofs.Folding.{delivered-append}
use Rattle.turn_lock.specs.Passes.{IsSamePass, mine, pass_base, pass_number, seen}
use Rattle.turn_lock.specs.declared.pass.Pass.{Pass}

-- an id that is settled is settled still once more is sealed
settled_more : (id : List ℕ) (sealed more : List SealedBlock) → is_settled id sealed ≡ true → is_settled id (sealed ++ more) ≡ true
settled_more id [] more is = absurd (false≢true is)
settled_more id (x ∷ xs) more is = by (has_told id x) (settled_more id xs more) is
  where
    by : (b : Bool) → (is_settled id xs ≡ true → is_settled id (xs ++ more) ≡ true) → is_some (option_map (λ (block : SealedBlock). block.number) (cond b (Some x) (find (has_told id) xs))) ≡ true
        → is_some (option_map (λ (block : SealedBlock). block.number) (cond b (Some x) (find (has_told id) (xs ++ more)))) ≡ true
    by true rest is = refl
    by false rest is = rest is

module _ {ghosts : Ghosts Core App Entry} (old new : Pass Core App Entry ghosts) (same : IsSamePass old new) where
  -- ---- a pass that others may have gone ahead of

  module _ (was : IsTrue old) (journal : List Entry) (found : IsFound (pass_base old) (pass_number old) (seen old) (mine old) journal) where
    -- the state that a turn finds
    pub found_later : IsLater (pass_base old) (pass_number old) (state_seen old) (world (pass_base old) journal)
    found_later = turns_find_own (pass_base old) (pass_number old) (seen old) (mine old) journal was.own found

    pub finds_none : HoldsNone (state_seen old) (pass_number old) → HoldsNone (world (pass_base old) journal) (pass_number old)
    finds_none none number job holds = none number job ((found_later.held number job).1 holds)

    pub finds_only : (one : ℕ) → HoldsOnly (state_seen old) (pass_number old) one → HoldsOnly (world (pass_base old) journal) (pass_number old) one
    finds_only one only number job holds = only number job ((found_later.held number job).1 holds)

    pub finds_held : (work : InHand) → work.actor ≡ pass_number old → IsHeld (node_seen old) work → IsHeld (record { app = pass_base old; journal = journal }) work
    finds_held work actor held = found_held (pass_base old) (pass_number old) (seen old) (mine old) journal was.own found work actor held

    pub finds_settled : (id : List ℕ) → is_settled id (state_seen old).sealed ≡ true → is_settled id (world (pass_base old) journal).sealed ≡ true
    finds_settled id is = subst (λ (sealed : List SealedBlock). is_settled id sealed ≡ true) (sym found_later.sealed) (settled_more id (state_seen old).sealed found_later.more is)

  -- what is shown of the new pass, by what the old one tells of node and number
  none_new : IsTrue new → HoldsNone (state_seen new) (pass_number old) → HasNone new
  none_new is none = record { true_to = is; none = subst (HoldsNone (state_seen new)) (sym same.same_number) none }

  work_new : (work : InHand) → IsTrue new → work.actor ≡ pass_number old → IsHeld (node_seen new) work → HoldsOnly (state_seen new) (pass_number old) work.job
      → (work.gone ≡ true → is_settled work.told.tx.id (state_seen new).sealed ≡ true) → HasWork new work
  work_new work is actor held only settled = record {
    true_to = is;
    actor = actor ∙ sym same.same_number;
    held = held;
    only = subst (λ n. HoldsOnly (state_seen new) n work.job) (sym same.same_number) only;
    settled = settled;
  }

  -- ---- a look

  module _ (was : IsTrue old) (look : IsLook old new) where
    app_new : pass_base new ≡ pass_base old
    app_new = same.same_base

    pub look_true : IsTrue new
    look_true = record {
      legal = subst (λ (a : App). IsLegal a (seen new)) (sym app_new) look.found.legal;
      own = subst (λ n. entries_by n (seen new) ≡ mine new) (sym same.same_number) (look.found.own ∙ sym look.same);
      brought = ap arrived look.same ∙ was.brought;
    }

    look_state : state_seen new ≡ world (pass_base old) (seen new)
    look_state = ap (λ (a : App). world a (seen new)) app_new

    pub look_none : HasNone old → HasNone new
    look_none has = none_new look_true (subst (λ (w : World). HoldsNone w (pass_number old)) (sym look_state) (finds_none was (seen new) look.found has.none))

    pub look_work : (work : InHand) → HasWork old work → HasWork new work
    look_work work has =
        work_new work look_true has.actor (subst (λ (a : App). IsHeld (record { app = a; journal = seen new }) work) (sym app_new) (finds_held was (seen new) look.found work has.actor has.held))
        (subst (λ (w : World). HoldsOnly w (pass_number old) work.job) (sym look_state) (finds_only was (seen new) look.found work.job has.only))
        (λ gone. subst (λ (w : World). is_settled work.told.tx.id w.sealed ≡ true) (sym look_state) (finds_settled was (seen new) look.found work.told.tx.id (has.settled gone)))

    pub look_blocks : pass_number old ≡ 0 → SameBlocks old new
    look_blocks zero = record {
      delivered_same = ap delivered look.same;
      in_work_same = ap (λ (w : World). block_in w.work) look_state ∙ ap block_in ((found_later was (seen new) look.found).own_work zero);
    }

  -- ---- a step

  module _ (ask : Ask) (answer : Answer) (was : IsTrue old) (turn : IsTurn old new ask answer) where
    -- the state in which it is made, and its event
    abbrev pub at : World
    at = world (pass_base old) turn.journal

    abbrev pub event : Option Event
    event = (reply (pass_base old) at ask).1

    pub answer_is : answer ≡ (reply (pass_base old) at ask).0
    answer_is = ap (λ (p : Answer × Core). p.0) turn.step

    seen_is : seen new ≡ turn.journal ++ entries_for (pass_number old) event
    seen_is = ap (λ (p : Answer × Core). p.1.journal) turn.step

    pub step_true : BringsNone ask → IsTrue new
    step_true none = record {
      legal = subst (λ (a : App). IsLegal a (seen new)) (sym same.same_base) turn.legal;
      own = subst (λ n. entries_by n (seen new) ≡ mine new) (sym same.same_number)
          (entries_grown (λ (entry : Entry). entry.actor) (pass_number old) turn.journal (entries_for (pass_number old) event) (mine old) (seen new) seen_is (all_own (pass_number old) event) turn.found.own ∙ sym turn.own);
      brought = ap arrived turn.own ∙ (arrived-append (mine old) (entries_for (pass_number old) event)
          ∙ (ap (λ (txs : List Tx). txs ++ arrived (entries_for (pass_number old) event)) was.brought ∙ brings_none (pass_base old) at (pass_number old) ask none));
    }

    -- the state after it
    pub step_state : (o : Option Event) → event ≡ o → state_seen new ≡ noted (pass_base old) at (pass_number old) o
    step_state o is =
        ap (λ (a : App). world a (seen new)) same.same_base
        ∙ (ap (world (pass_base old)) seen_is ∙ (world_grown (pass_base old) turn.journal (pass_number old) event ∙ ap (noted (pass_base old) at (pass_number old)) is))

    pub step_delivers : (o : Option Event) → event ≡ o → delivered_by new ≡ delivered_by old ++ delivered (entries_for (pass_number old) o)
    step_delivers o is =
        ap delivered turn.own ∙ (delivered-append (mine old) (entries_for (pass_number old) event) ∙ ap (λ (e : Option Event). delivered_by old ++ delivered (entries_for (pass_number old) e)) is)

    -- the processor finds the block in work as it left it
    pub at_work : pass_number old ≡ 0 → at.work ≡ (state_seen old).work
    at_work zero = (found_later was turn.journal turn.found).own_work zero

    pub step_none : BringsNone ask → HoldsNone (state_seen new) (pass_number old) → HasNone new
    step_none quiet none = none_new (step_true quiet) none

    pub step_job : BringsNone ask → (work : InHand) → work.actor ≡ pass_number old → IsHeld (node_seen new) work → HoldsOnly (state_seen new) (pass_number old) work.job
        → (work.gone ≡ true → is_settled work.told.tx.id (state_seen new).sealed ≡ true) → HasWork new work
    step_job quiet work actor held only settled = work_new work (step_true quiet) actor held only settled
