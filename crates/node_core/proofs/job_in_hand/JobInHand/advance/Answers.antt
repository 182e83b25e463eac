use Rattle.std.proofs.Common.{None, Some, false, refl, rules, subst, true, ◌||◌, ◌≡◌}
use Rattle.std.specs.Prelude.{IsSome}
use Rattle.node_core.proofs.Going.{ready_goes, wants_goes}
use Rattle.node_core.proofs.Hand.{asked, at_end}
use Rattle.node_core.specs.Hands.{GoesOn}
use Rattle.node_core.specs.declared.answers.Next.TheVariants as next
use Rattle.node_core.proofs.job_in_hand.JobInHand.advance.Goals as goal

pub invariant_of-self-in-Rows : goal.invariant_of-self-in-Rows
invariant_of-self-in-Rows c =
    let s = c.self.inside in
    let goes : s.ended ≡ false = search rules in
    let whole : s.cut ≡ false = search rules in
    asked s.tx.value s.machine c.next.new.self s.wants s.ended s.cut c.in_ok-read.field-0 c.in-Rows.read c.self.invariant goes whole c.in-Rows.is c.in_ok-read.ensures.tells c.in_ok-read.ensures.reads
    c.in_ok-read.ensures.fits

pub invariant_of-self-in-Ended : goal.invariant_of-self-in-Ended
invariant_of-self-in-Ended c =
    let s = c.self.inside in
    let none : s.wants ≡ None = search rules in
    at_end s.tx.value s.machine c.next.new.self s.wants s.ended s.cut c.in_ok-read.field-0 c.self.invariant none c.in-Ended.is c.in_ok-read.ensures.tells c.in_ok-read.ensures.reads

pub returns-then-self-2-clause-may : goal.returns-then-self-2-clause-may
returns-then-self-2-clause-may c =
    let s = c.self.inside in
    let ready : (s.cut || s.ended) ≡ true = search rules in
    subst (GoesOn next.Ready) c.self.view_is (ready_goes s.tx.value _ s.wants s.ended c.self.invariant ready)

pub returns-then-is_some-clause-may : goal.returns-then-is_some-clause-may
returns-then-is_some-clause-may c =
    let s = c.self.inside in
    let some : IsSome s.wants = search rules in
    subst (GoesOn next.Wants) c.self.view_is (wants_goes s.tx.value _ s.wants s.ended c.self.invariant some)

pub returns-in-Rows-clause-may : goal.returns-in-Rows-clause-may
returns-in-Rows-clause-may c =
    let s = c.self.inside in
    let goes : s.ended ≡ false = search rules in
    let whole : s.cut ≡ false = search rules in
    wants_goes s.tx.value _ (Some c.in-Rows.read) s.ended
    (asked s.tx.value s.machine c.next.new.self s.wants s.ended s.cut c.in_ok-read.field-0 c.in-Rows.read c.self.invariant goes whole c.in-Rows.is c.in_ok-read.ensures.tells c.in_ok-read.ensures.reads
    c.in_ok-read.ensures.fits)
    refl

pub returns-in-Ended-clause-may : goal.returns-in-Ended-clause-may
returns-in-Ended-clause-may c =
    let s = c.self.inside in
    let none : s.wants ≡ None = search rules in
    let hand = at_end s.tx.value s.machine c.next.new.self s.wants s.ended s.cut c.in_ok-read.field-0 c.self.invariant none c.in-Ended.is c.in_ok-read.ensures.tells c.in_ok-read.ensures.reads in
    let ready : (s.cut || true) ≡ true = search rules in
    ready_goes s.tx.value _ s.wants true hand ready
