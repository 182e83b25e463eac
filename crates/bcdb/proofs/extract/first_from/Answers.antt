use Rattle.std.proofs.Common.{arith, false, length, rules, sym, true, ◌≡◌, ◌≤◌, ◌∙◌}
use Rattle.bcdb.proofs.HistoryParts.{from_end}
use Rattle.bcdb.proofs.extract.first_from.Goals as goal

pub returns-then-not-is_before : goal.returns-then-not-is_before
returns-then-not-is_before g c =
    let high : c.is_before.result ≡ false = search rules in
    sym (c.is_before.ensures.other high) ∙ c.loop-at.invariant

pub loop-at-preserved : goal.loop-at-preserved
loop-at-preserved g c =
    let low : c.is_before.result ≡ true = search rules in
    c.is_before.ensures.before low ∙ c.loop-at.invariant

pub returns : goal.returns
returns g c =
    let history = g.V.Versions.history c.args.versions.now in
    let ended : c.count-count.result ≤ c.loop-at.at = search rules in
    let many : c.count-count.result ≡ length history = c.count-count.ensures in
    from_end c.args.number c.loop-at.at c.count-count.result history (omega (arith, ended, many)) (omega (arith, many)) ∙ c.loop-at.invariant
