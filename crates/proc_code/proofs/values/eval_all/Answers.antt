use Rattle.std.proofs.Common.{arith}
use Rattle.std.proofs.lemmas.Grind.{common_steps}
use Rattle.std.proofs.Common.{◌≡◌, ◌<◌, length, refl, rules}
use Rattle.std.specs.Prelude.{slice_index_or}
use Rattle.proc_code.specs.Coded.{worth_of, worths_of}
use Rattle.proc_code.proofs.Walked.{gathered}
use Rattle.proc_code.proofs.values.eval_all.Goals as goal

pub loop-term-preserved : goal.loop-term-preserved
loop-term-preserved g c =
    let within : c.loop-term.term-index < length c.args.terms.now = search rules in
    let here : slice_index_or c.args.terms.now c.loop-term.term-index c.term-item.result ≡ c.term-item.result = search rules in
    let columns = c.args.columns.now in
    let environment = g.E.Variables.environment c.args.environment.now in
    gathered (λ x. worth_of columns x environment) (λ xs. worths_of columns xs environment) (λ x rest. refl) c.args.terms.now c.loop-term.term-index c.term-item.result c.loop-term.values c.push.new.self c.in_ok-value.value
    (worths_of columns c.args.terms.now environment) within here c.loop-term.invariant c.in_ok-push.ensures.ok c.in_ok-value.ensures

pub returns : goal.returns
returns g c = grind (arith, common_steps)
