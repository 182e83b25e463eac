use Rattle.std.proofs.Common.{◌≡◌, length}
use Rattle.literals.specs.Text.{quoted}
use Rattle.literals.specs.Part.{with_front}
use Rattle.literals.proofs.text.unquote.Given as goal

abbrev pub invariant-loop-after : goal.invariant-loop-after
invariant-loop-after l = with_front l.value.items (quoted l.rest) ≡ quoted l.bytes

abbrev pub decreases-loop-after : goal.decreases-loop-after
decreases-loop-after l = length l.rest
