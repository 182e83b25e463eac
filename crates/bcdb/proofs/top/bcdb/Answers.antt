use Rattle.std.proofs.Common.{IfSome, Option, ap, refl, subst, sym, ◌≡◌, ◌⊎◌}
use Rattle.std.specs.Prelude.{Err}
use Rattle.bcdb.proofs.top.bcdb.Goals as goal
use Rattle.bcdb.specs.Answer.{Writes, read_refused}
use Rattle.bcdb.proofs.Agreeing.{told_as_run}
use Rattle.bcdb.proofs.Orders.{told_in_order}
use Rattle.bcdb.proofs.Whole.{completed_refused, completed_told, ends_by_words, whole_refused, whole_told}
use Rattle.bcdb.specs.Plan.{RoseAt, RoseIn, plan_of}
use Rattle.bcdb.specs.declared.status.Status.TheVariants.{ReadFault}
use Rattle.bcdb.specs.Traced.{EndsTraced}
use Rattle.cli_words.specs.Language.{settings_of, texts}
use Rattle.cli_words.specs.declared.settings.Settings.{Settings}

pub returns-in-Ok-clause-ends : goal.returns-in-Ok-clause-ends
returns-in-Ok-clause-ends g c =
    let before = g.W.Sink.written c.args.out.now in
    let now = g.W.Sink.written c.serve.new.out in
    let was = g.S.Shelf.faults c.args.shelf.now in
    let is = g.S.Shelf.faults c.serve.new.shelf in
    subst (λ (found : Option Settings). IfSome (g.S.Shelf.told c.args.shelf.now) (λ files.
    (EndsTraced found files c.serve.result before now × (is ≡ was)) ⊎ (Writes read_refused c.serve.result before now × RoseIn (plan_of found) files was is))) (sym c.in-Ok.ensures.ok) c.serve.ensures.ends

pub returns-in-Ok-clause-complete : goal.returns-in-Ok-clause-complete
returns-in-Ok-clause-complete g c =
    let was = g.S.Shelf.faults c.args.shelf.now in
    let is = g.S.Shelf.faults c.serve.new.shelf in
    completed_told _ (g.S.Shelf.told c.args.shelf.now) c.serve.result (g.W.Sink.written c.args.out.now) (g.W.Sink.written c.serve.new.out) was is _
    (returns-in-Ok-clause-ends g c)
    (subst (λ (found : Option Settings). c.serve.result ≡ ReadFault → RoseAt (plan_of found) was is) (sym c.in-Ok.ensures.ok) c.serve.ensures.read)
    c.serve.ensures.write

pub returns-in-Ok-clause-done : goal.returns-in-Ok-clause-done
returns-in-Ok-clause-done g c =
    whole_told _ (g.S.Shelf.told c.args.shelf.now) c.serve.result (g.W.Sink.written c.args.out.now) (g.W.Sink.written c.serve.new.out) (g.S.Shelf.faults c.args.shelf.now)
    (g.S.Shelf.faults c.serve.new.shelf) (returns-in-Ok-clause-ends g c)

pub returns-in-Err-clause-complete : goal.returns-in-Err-clause-complete
returns-in-Err-clause-complete g c =
    completed_refused _ (g.S.Shelf.told c.args.shelf.now) c.in-Err.fault c.refuse_words.result _ _ (λ usage. c.in-Err.ensures.usage.0 (ap Err usage)) (λ short. (c.refuse_words.ensures.memory short).0)

pub returns-in-Err-clause-done : goal.returns-in-Err-clause-done
returns-in-Err-clause-done g c =
    whole_refused _ (g.S.Shelf.told c.args.shelf.now) c.in-Err.fault c.refuse_words.result (g.W.Sink.written c.args.out.now) (g.W.Sink.written c.refuse_words.new.out)
    c.refuse_words.ensures.usage (λ short. (c.refuse_words.ensures.memory short).0)

pub returns-in-Ok-clause-replays : goal.returns-in-Ok-clause-replays
returns-in-Ok-clause-replays g c = told_in_order (settings_of (texts c.args.words.now)) (g.S.Shelf.told c.args.shelf.now)

pub returns-in-Ok-clause-agrees : goal.returns-in-Ok-clause-agrees
returns-in-Ok-clause-agrees g c = told_as_run (settings_of (texts c.args.words.now)) (g.S.Shelf.told c.args.shelf.now)

pub returns-in-Err-clause-replays : goal.returns-in-Err-clause-replays
returns-in-Err-clause-replays g c = told_in_order (settings_of (texts c.args.words.now)) (g.S.Shelf.told c.args.shelf.now)

pub returns-in-Err-clause-agrees : goal.returns-in-Err-clause-agrees
returns-in-Err-clause-agrees g c = told_as_run (settings_of (texts c.args.words.now)) (g.S.Shelf.told c.args.shelf.now)

pub returns-in-Ok-clause-read : goal.returns-in-Ok-clause-read
returns-in-Ok-clause-read g c =
    let was = g.S.Shelf.faults c.args.shelf.now in
    let is = g.S.Shelf.faults c.serve.new.shelf in
    subst (λ (found : Option Settings). c.serve.result ≡ ReadFault → RoseAt (plan_of found) was is) (sym c.in-Ok.ensures.ok) c.serve.ensures.read

pub returns-in-Err-clause-ends : goal.returns-in-Err-clause-ends
returns-in-Err-clause-ends g c =
    ends_by_words (settings_of (texts c.args.words.now)) (g.S.Shelf.told c.args.shelf.now) c.in-Err.fault c.refuse_words.result (g.W.Sink.written c.args.out.now)
    (g.W.Sink.written c.refuse_words.new.out) _ _ (λ usage. c.in-Err.ensures.usage.0 (ap Err usage)) c.refuse_words.ensures.usage c.refuse_words.ensures.memory refl
