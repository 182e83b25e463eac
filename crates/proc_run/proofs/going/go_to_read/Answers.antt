use Rattle.std.proofs.Common.{arith}
use Rattle.std.proofs.lemmas.Grind.{elements}
use Rattle.std.proofs.Common.{◌≡◌, [], ◌++◌, ap, sym, subst, ◌∙◌}
use Rattle.proc_syntax.specs.Declaring.{tables_of}
use Rattle.row_sets.specs.Overlay.{AreFound}
use Rattle.proc_run.specs.Remains.{state}
use Rattle.proc_run.specs.MachineView.{given_of}
use Rattle.proc_run.proofs.Sounds.{given_none, sound_gone}
use Rattle.proc_run.proofs.going.go_to_read.Goals as goal

pub returns-clause-sound : goal.returns-clause-sound
returns-clause-sound c = λ tx time s.
    let app = c.args.app.now.app in
    let gone = c.go_on.new.run in
    let fed : gone.made.items ++ given_of c.go_on.new.phase ≡ c.args.run.now.made.items ++ given_of c.args.phase.now =
    ap (λ g. gone.made.items ++ g) (given_none c.go_on.new.phase c.go_on.ensures.settled)
    ∙ ap (λ made. made.items ++ []) c.go_on.ensures.made
    ∙ ap (λ g. c.settle.new.run.made.items ++ g) (sym (given_none c.settle.new.phase c.in_ok-settle.ensures.settled))
    ∙ c.settle.ensures.fed
    ∙ ap (λ l. l ++ given_of c.args.phase.now) c.in_ok-reserve.ensures.items in
    sound_gone app tx time c.args.number c.tables-tables.result.now c.code-code.result.now c.body_at.result.now
    c.args.phase.now c.go_on.new.phase c.args.spots.now.items c.reserve-2.new.self.items c.go_on.new.spots.items
    c.args.run.now gone (record (state c.args.run.now) { made = c.reserve.new.self.items })
    c.tables-tables.ensures.tables c.code-code.ensures c.body_at.ensures c.in_ok-reserve-2.ensures.items
    (ap (λ items. record (state c.args.run.now) { made = items }) c.in_ok-reserve.ensures.items)
    s
    (λ S. c.go_on.ensures.remains S ∙ c.settle.ensures.remains c.code-code.result.now.columns S c.body_at.result.now)
    fed
    (λ S a f. subst (λ own. AreFound (tables_of app) S own) (sym c.go_on.ensures.own) (c.settle.ensures.found (tables_of app) S a f))
    c.go_on.ensures.steps c.go_on.ensures.fits c.go_on.ensures.settled c.go_on.ensures.list

pub returns-in_err-settle-clause-sound : goal.returns-in_err-settle-clause-sound
returns-in_err-settle-clause-sound c = grind (arith, elements)
