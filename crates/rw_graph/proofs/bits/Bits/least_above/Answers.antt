use Rattle.std.proofs.Common.{arith, length, rules, ◌≡◌, ◌≤◌}
use Rattle.rw_graph.proofs.Merged.{held_past}
use Rattle.rw_graph.proofs.bits.Bits.least_above.Goals as goal

pub returns-else-pos-lt1024-clause-least : goal.returns-else-pos-lt1024-clause-least
returns-else-pos-lt1024-clause-least c =
    let past : 1024 ≤ c.args.pos = search rules in
    let long : length c.args.self.now.0 ≡ 16 = search rules in
    λ other low. held_past c.args.self.now.0 long other (omega (arith, past, low))
