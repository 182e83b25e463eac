use Rattle.std.specs.Prelude.{None, [], drop, length, take, ◌+◌, ◌++◌, ◌≡◌}
use Rattle.cluster_run.specs.Standing.{Comes, delivered_by, in_work}
use Rattle.serial_laws.specs.Chained.{AreNumbered}
use Rattle.cluster_run.proofs.processing.process_all.Given as goal

abbrev pub invariant-loop-block : goal.invariant-loop-block
invariant-loop-block g l =
    Comes l.fn.pass l.pass None
    × (in_work l.pass ≡ [])
    × (delivered_by l.pass ≡ delivered_by l.fn.pass ++ take l.block-index l.blocks)
    × AreNumbered (length (delivered_by l.pass) + 1) (drop l.block-index l.blocks)
