use Rattle.std.proofs.Common.{◌≡◌, length}
use Rattle.tx_text.specs.Parts.{parts_of}
use Rattle.tx_text.specs.Listing.{walk, with_items}
use Rattle.tx_text.specs.Arrivals.{arrivals_form}
use Rattle.tx_text.proofs.arrivals.read_lines.Given as goal

-- what is read, before what is left, is the whole
abbrev pub invariant-loop-text : goal.invariant-loop-text
invariant-loop-text l = with_items l.txs (walk arrivals_form l.line (parts_of l.rest)) ≡ with_items l.fn.before (walk arrivals_form l.number (parts_of l.bytes))

abbrev pub decreases-loop-text : goal.decreases-loop-text
decreases-loop-text l = length l.rest
