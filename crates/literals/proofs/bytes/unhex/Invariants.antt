use Rattle.std.proofs.Common.{◌≡◌, length}
use Rattle.literals.specs.Bytes.{pairs}
use Rattle.literals.specs.Part.{with_front}
use Rattle.literals.proofs.bytes.unhex.Given as goal

abbrev pub invariant-loop-after : goal.invariant-loop-after
invariant-loop-after l = with_front l.value.items (pairs l.rest) ≡ pairs l.bytes

abbrev pub decreases-loop-after : goal.decreases-loop-after
decreases-loop-after l = length l.rest
