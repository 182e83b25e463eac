use Rattle.std.proofs.Common.{◌≡◌, take}
use Rattle.std.specs.List.{flat_map}
use Rattle.chain_file.specs.Chain.{chain}
use Rattle.chain_file.specs.Following.{WasFed}
use Rattle.chain_file.proofs.reader.read_pieces.Given as goal

abbrev pub invariant-loop-piece : goal.invariant-loop-piece
invariant-loop-piece l = WasFed l.reader (flat_map (λ piece. piece) (take l.piece-index l.pieces)) × ((chain (flat_map (λ piece. piece) (take l.piece-index l.pieces))).0 ≡ l.given)
