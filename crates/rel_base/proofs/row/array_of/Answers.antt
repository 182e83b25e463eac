use Rattle.std.proofs.Common.{◌≡◌, ◌≤◌, ◌∙◌, arith, length, rules, sym}
use Rattle.std.proofs.lemmas.List.{take_all}
use Rattle.rel_base.proofs.row.array_of.Goals as goal

-- all are copied
pub returns : goal.returns
returns g c =
    let past = c.loop-at-test.false in
    let made = c.loop-at.invariant.1 in
    let values : length c.args.values.now ≡ g.row.N = search rules in
    sym (take_all c.loop-at.at c.loop-at.made (omega (arith, past, made))) ∙ c.loop-at.invariant.0 ∙ take_all c.loop-at.at c.args.values.now (omega (arith, past, values))
