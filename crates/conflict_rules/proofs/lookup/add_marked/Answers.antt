use Rattle.std.proofs.Common.{arith, rules, ◌≤◌}
use Rattle.conflict_rules.proofs.Looked.{looked_all, looked_next}
use Rattle.conflict_rules.proofs.lookup.add_marked.Goals as goal

pub loop-index-preserved : goal.loop-index-preserved
loop-index-preserved c =
    looked_next c.args.words.now c.args.place c.args.found.now c.loop-index.index c.word_at.result c.loop-index.found c.add_word.new.self c.word_at.ensures c.loop-index.invariant c.add_word.ensures

pub returns : goal.returns
returns c =
    let ended : c.groups-index-end.result ≤ c.loop-index.index = search rules in
    looked_all c.args.words.now c.args.place c.args.found.now c.loop-index.index c.loop-index.found c.loop-index.invariant (λ number within above. c.groups-index-end.ensures.all number within (omega (arith, above, ended)))
