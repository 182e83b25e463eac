use Rattle.std.proofs.Common.{◌≡◌, length}
use Rattle.tx_text.specs.Parts.{parts_of}
use Rattle.chain_file.specs.Chain.{Position, walk, with_blocks}
use Rattle.chain_file.specs.Following.{Stands, StandsAt}
use Rattle.chain_file.proofs.reader.read_lines.Given as goal

abbrev pub invariant-loop-line : goal.invariant-loop-line
invariant-loop-line l = (at : Position) → StandsAt l.fn.standing at → (now : Position) × Stands l.before l.hashes now × (walk at (parts_of l.bytes) ≡ with_blocks l.given (walk now (parts_of l.rest)))

abbrev pub decreases-loop-line : goal.decreases-loop-line
decreases-loop-line l = length l.rest
