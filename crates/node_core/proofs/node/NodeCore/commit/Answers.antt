use Rattle.std.proofs.Common.{None, Some, [], ap, arith, length, rules, refl, subst, sym, ◌+◌, ◌++◌, ◌∙◌, ◌≡◌, ◌≤◌, ◌∷◌}
use Rattle.std.specs.Prelude.{vec_capacity, vec_len}
use Rattle.node_core.proofs.Settled.{works_on}
use Rattle.node_core.proofs.Commit_steps.{by_job_kept, commit_same, commit_steps, early_kept, few_decided, fewer, no_block, not_ready, replies, taken_held}
use Rattle.node_core.proofs.Due_jobs.{by_job_of, early_of, is_done}
use Rattle.node_core.specs.Answers.{decided_as}
use Rattle.node_core.specs.Core.{Core, Steps}
use Rattle.node_core.specs.Due.{due_by}
use Rattle.node_core.specs.Rows.{count_held}
use Rattle.node_core.specs.declared.due.Due.TheVariants as stand
use Rattle.node_model.specs.Steps.{Decided, NoBlock, NotReady, ToCommit}
use Rattle.node_model.specs.declared.journal.Event.TheVariants as event
use Rattle.proc_syntax.specs.Declaring.{tables_of}
use Rattle.node_core.proofs.node.NodeCore.commit.Goals as goal

pub next_pos-pos-requires : goal.next_pos-pos-requires
next_pos-pos-requires g c =
    let here : c.self.inside.work ≡ Some c.in-Some.working = search rules in
    record { few = few_decided _ c.self.invariant.0 c.in-Some.working here }

-- ---- without a run

pub abort_due-requires-clause-few : goal.abort_due-requires-clause-few
abort_due-requires-clause-few g c =
    let s = c.self.inside in
    let here : s.work ≡ Some c.in-Some.working = search rules in
    let is : stand.Early c.in-Early.cause ≡ due_by s.chain.app.value.app s.ids c.in-Some.working s.jobs = search rules in
    let early = early_of s.chain.app.value.app s.ids c.in-Some.working s.jobs c.in-Early.cause (sym is) in
    fewer _ c.self.invariant.0 c.in-Some.working here early.tx early.next

pub invariant_of-self-in_err-abort_due-in-Early : goal.invariant_of-self-in_err-abort_due-in-Early
invariant_of-self-in_err-abort_due-in-Early g c =
    let s = c.self.inside in
    let here : s.work ≡ Some c.in-Some.working = search rules in
    let failed = c.in_err-abort_due-in-Early.ensures in (
      commit_same _ c.self.invariant.0 c.in-Some.working here c.abort_due.new.working c.abort_due.new.ids failed.block failed.same
          (failed.consistent (tables_of s.chain.app.value.app) (works_on _ c.self.invariant.0 c.in-Some.working here).consistent) failed.same_places s.jobs refl c.make_room.new.journal.items c.make_room.ensures.items,
      omega (arith, c.make_room.ensures.len, c.make_room.ensures.capacity, c.self.invariant.1),
    )

pub invariant_of-self-in-Early : goal.invariant_of-self-in-Early
invariant_of-self-in-Early g c =
    let s = c.self.inside in
    let here : s.work ≡ Some c.in-Some.working = search rules in
    let is : stand.Early c.in-Early.cause ≡ due_by s.chain.app.value.app s.ids c.in-Some.working s.jobs = search rules in
    let early = early_of s.chain.app.value.app s.ids c.in-Some.working s.jobs c.in-Early.cause (sym is) in
    let told = replies _ c.self.invariant.0 c.in-Some.working here c.next_pos-pos.result (stand.Early c.in-Early.cause) c.next_pos-pos.ensures is in
    let more : c.note_decided.new.journal.items ≡ s.journal.items ++ record { actor = c.args.actor; event = event.Commit c.next_pos-pos.result } ∷ [] = search rules in
    let fits : vec_len c.note_decided.new.journal + count_held s.jobs ≤ vec_capacity c.note_decided.new.journal = search rules in
    let did = c.in_ok-abort_due-in-Early.ensures in (
      early_kept _ c.self.invariant.0 c.in-Some.working here c.args.actor c.next_pos-pos.result c.requires.processor told c.note_decided.new.journal.items more c.in-Early.cause early c.abort_due.new.working
          c.abort_due.new.ids (did.decided early.tx early.next) (did.consistent (tables_of s.chain.app.value.app) (works_on _ c.self.invariant.0 c.in-Some.working here).consistent),
      fits,
    )

pub returns-in_ok-abort_due-in-Early-clause-step : goal.returns-in_ok-abort_due-in-Early-clause-step
returns-in_ok-abort_due-in-Early-clause-step g c =
    let s = c.self.inside in
    let here : s.work ≡ Some c.in-Some.working = search rules in
    let is : stand.Early c.in-Early.cause ≡ due_by s.chain.app.value.app s.ids c.in-Some.working s.jobs = search rules in
    let told = replies _ c.self.invariant.0 c.in-Some.working here c.next_pos-pos.result (stand.Early c.in-Early.cause) c.next_pos-pos.ensures is in
    let more : c.note_decided.new.journal.items ≡ s.journal.items ++ record { actor = c.args.actor; event = event.Commit c.next_pos-pos.result } ∷ [] = search rules in
    subst (λ a. Steps c.args.self.now c.args.actor ToCommit (decided_as a) (record { app = s.chain.app.value.app; journal = c.note_decided.new.journal.items })) (sym c.note_decided.ensures.answer)
    (subst (λ (core : Core). Steps core c.args.actor ToCommit (Decided c.next_pos-pos.result) (record { app = s.chain.app.value.app; journal = c.note_decided.new.journal.items })) c.self.view_is
    (commit_steps _ c.self.invariant.0 c.in-Some.working here c.args.actor c.next_pos-pos.result c.requires.processor told c.note_decided.new.journal.items more))

-- ---- by what is recorded of a job

pub decide_due-requires-clause-done : goal.decide_due-requires-clause-done
decide_due-requires-clause-done g c =
    let s = c.self.inside in
    let is : stand.Done c.in-Done.number ≡ due_by s.chain.app.value.app s.ids c.in-Some.working s.jobs = search rules in
    let found = by_job_of s.chain.app.value.app s.ids c.in-Some.working s.jobs c.in-Done.number (sym is) in
    is_done _ c.self.invariant.0 c.in-Some.working c.in-Done.number found

pub decide_due-requires-clause-few : goal.decide_due-requires-clause-few
decide_due-requires-clause-few g c =
    let s = c.self.inside in
    let here : s.work ≡ Some c.in-Some.working = search rules in
    let is : stand.Done c.in-Done.number ≡ due_by s.chain.app.value.app s.ids c.in-Some.working s.jobs = search rules in
    let found = by_job_of s.chain.app.value.app s.ids c.in-Some.working s.jobs c.in-Done.number (sym is) in
    fewer _ c.self.invariant.0 c.in-Some.working here found.tx found.next

pub invariant_of-self-in_err-decide_due-in-Done : goal.invariant_of-self-in_err-decide_due-in-Done
invariant_of-self-in_err-decide_due-in-Done g c =
    let s = c.self.inside in
    let here : s.work ≡ Some c.in-Some.working = search rules in
    let failed = c.in_err-decide_due-in-Done.ensures in
    let counted : count_held c.decide_due.new.jobs ≡ count_held s.jobs = ap count_held failed.same_rows in (
      commit_same _ c.self.invariant.0 c.in-Some.working here c.decide_due.new.working c.decide_due.new.ids failed.block failed.same failed.consistent failed.same_places c.decide_due.new.jobs failed.same_rows
          c.make_room-in-Done.new.journal.items c.make_room-in-Done.ensures.items,
      omega (arith, counted, c.make_room-in-Done.ensures.len, c.make_room-in-Done.ensures.capacity, c.self.invariant.1),
    )

pub invariant_of-self-in-Done : goal.invariant_of-self-in-Done
invariant_of-self-in-Done g c =
    let s = c.self.inside in
    let here : s.work ≡ Some c.in-Some.working = search rules in
    let is : stand.Done c.in-Done.number ≡ due_by s.chain.app.value.app s.ids c.in-Some.working s.jobs = search rules in
    let found = by_job_of s.chain.app.value.app s.ids c.in-Some.working s.jobs c.in-Done.number (sym is) in
    let told = replies _ c.self.invariant.0 c.in-Some.working here c.next_pos-pos.result (stand.Done c.in-Done.number) c.next_pos-pos.ensures is in
    let more : c.note_decided-in-Done.new.journal.items ≡ s.journal.items ++ record { actor = c.args.actor; event = event.Commit c.next_pos-pos.result } ∷ [] = search rules in
    let fits : vec_len c.note_decided-in-Done.new.journal + count_held s.jobs ≤ vec_capacity c.note_decided-in-Done.new.journal = search rules in
    let did = c.in_ok-decide_due-in-Done.ensures in
    let counted : count_held c.decide_due.new.jobs ≡ count_held s.jobs = ap count_held did.rows ∙ taken_held _ c.self.invariant.0 c.in-Some.working here c.in-Done.number found in (
      by_job_kept _ c.self.invariant.0 c.in-Some.working here c.args.actor c.next_pos-pos.result c.requires.processor told c.note_decided-in-Done.new.journal.items more c.in-Done.number found
          c.decide_due.new.working c.decide_due.new.ids c.decide_due.new.jobs
          (did.decided found.tx found.next (is_done _ c.self.invariant.0 c.in-Some.working c.in-Done.number found)) did.consistent did.rows,
      omega (arith, counted, fits),
    )

pub returns-in_ok-decide_due-in-Done-clause-step : goal.returns-in_ok-decide_due-in-Done-clause-step
returns-in_ok-decide_due-in-Done-clause-step g c =
    let s = c.self.inside in
    let here : s.work ≡ Some c.in-Some.working = search rules in
    let is : stand.Done c.in-Done.number ≡ due_by s.chain.app.value.app s.ids c.in-Some.working s.jobs = search rules in
    let told = replies _ c.self.invariant.0 c.in-Some.working here c.next_pos-pos.result (stand.Done c.in-Done.number) c.next_pos-pos.ensures is in
    let more : c.note_decided-in-Done.new.journal.items ≡ s.journal.items ++ record { actor = c.args.actor; event = event.Commit c.next_pos-pos.result } ∷ [] = search rules in
    subst (λ a. Steps c.args.self.now c.args.actor ToCommit (decided_as a) (record { app = s.chain.app.value.app; journal = c.note_decided-in-Done.new.journal.items })) (sym c.note_decided-in-Done.ensures.answer)
    (subst (λ (core : Core). Steps core c.args.actor ToCommit (Decided c.next_pos-pos.result) (record { app = s.chain.app.value.app; journal = c.note_decided-in-Done.new.journal.items })) c.self.view_is
    (commit_steps _ c.self.invariant.0 c.in-Some.working here c.args.actor c.next_pos-pos.result c.requires.processor told c.note_decided-in-Done.new.journal.items more))

-- ---- nothing is decided

pub returns-in-None-clause-step : goal.returns-in-None-clause-step
returns-in-None-clause-step g c =
    let s = c.self.inside in
    let none : s.work ≡ None = search rules in
    let at : c.height-sealed.result ≡ length s.chain.blocks = search rules in
    subst (λ (core : Core). Steps core c.args.actor ToCommit (NoBlock c.height-sealed.result) (record { app = s.chain.app.value.app; journal = s.journal.items })) c.self.view_is
    (no_block _ c.self.invariant.0 c.args.actor c.height-sealed.result at none)

pub returns-in-Waits-clause-step : goal.returns-in-Waits-clause-step
returns-in-Waits-clause-step g c =
    let s = c.self.inside in
    let here : s.work ≡ Some c.in-Some.working = search rules in
    let is : stand.Waits c.in-Waits.holder ≡ due_by s.chain.app.value.app s.ids c.in-Some.working s.jobs = search rules in
    subst (λ (core : Core). Steps core c.args.actor ToCommit (NotReady c.next_pos-pos.result c.in-Waits.holder) (record { app = s.chain.app.value.app; journal = s.journal.items })) c.self.view_is
    (not_ready _ c.self.invariant.0 c.in-Some.working here c.args.actor c.next_pos-pos.result c.in-Waits.holder c.next_pos-pos.ensures is)
