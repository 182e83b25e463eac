use Rattle.std.proofs.Common.{[], drop, length, ◌≡◌}
use Rattle.std.specs.List.{filter}
use Rattle.provenance.specs.Chosen.{is_writer, put_keys}
use Rattle.provenance.proofs.keys.keys_by.Given as goal

-- with the keys of the writes that are left, the keys so far are those of all
abbrev pub invariant-loop-number : goal.invariant-loop-number
invariant-loop-number g l =
    let history = g.V.Versions.history l.versions in
    let test = is_writer l.blocks l.id in
    (put_keys l.keys.keys (filter test (drop l.number history)) ≡ put_keys [] (filter test history)) × (l.number-end ≡ length history)
