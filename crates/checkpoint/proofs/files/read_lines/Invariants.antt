use Rattle.std.proofs.Common.{◌≡◌, ◌≤◌, length}
use Rattle.checkpoint.specs.Files.{before, digests_from}
use Rattle.tx_text.specs.Parts.{parts_of}
use Rattle.checkpoint.proofs.files.read_lines.Given as goal

-- what is read, before what is left, is the whole
abbrev pub invariant-loop-line : goal.invariant-loop-line
invariant-loop-line l = (before l.digests (digests_from l.height (parts_of l.rest)) ≡ digests_from 1 (parts_of l.bytes)) × (l.height ≤ 1000001)

abbrev pub decreases-loop-line : goal.decreases-loop-line
decreases-loop-line l = length l.rest
