use Rattle.std.proofs.Common.{drop, ◌≡◌}
use Rattle.bcdb.proofs.extract.first_from.Given as goal
use Rattle.bcdb.specs.HistoryParts.{from_block}

-- what is passed over was to be passed over
abbrev pub invariant-loop-at : goal.invariant-loop-at
invariant-loop-at g l =
    let history = g.V.Versions.history l.versions in
    from_block l.number (drop l.at history) ≡ from_block l.number (drop l.fn.from history)
