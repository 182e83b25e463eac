use Rattle.std.proofs.Common.{◌≡◌, take}
use Rattle.std.specs.List.{flat_map}
use Rattle.tx_text.specs.Arrivals.{arrived}
use Rattle.tx_text.specs.Feeding.{WasFed, so_far}
use Rattle.tx_text.proofs.arrival_reader.read_arrivals.Given as goal

abbrev pub invariant-loop-piece : goal.invariant-loop-piece
invariant-loop-piece l = WasFed l.reader (flat_map (λ piece. piece) (take l.piece-index l.pieces)) × (so_far (arrived (flat_map (λ piece. piece) (take l.piece-index l.pieces))) ≡ l.given)
