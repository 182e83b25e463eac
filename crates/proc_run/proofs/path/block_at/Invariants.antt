use Rattle.std.proofs.Common.{◌≡◌, drop}
use Rattle.proc_run.specs.Path.{block_of}
use Rattle.proc_run.proofs.path.block_at.Given as goal

-- the rest of the path leads from here to where the path leads
abbrev pub invariant-loop-spot : goal.invariant-loop-spot
invariant-loop-spot l = block_of l.block (drop l.spot-index l.spots) ≡ block_of l.root l.spots
