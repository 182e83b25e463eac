use Rattle.std.proofs.Common.{List, ap, arith, length, rules, subst, sym, take, ℕ, ◌+◌, ◌++◌, ◌<◌, ◌≡◌, ◌∙◌, ◌∷◌, []}
use Rattle.std.proofs.lemmas.Grind.{common_steps}
use Rattle.std.specs.List.{flat_map}
use Rattle.std.proofs.lemmas.List.{append-nil, take_more}
use Rattle.std.proofs.lemmas.List.Concat.{flat_map-append}
use Rattle.chain_file.specs.Chain.{chain}
use Rattle.chain_file.specs.Following.{WasFed}
use Rattle.chain_file.proofs.Walking.{given_more}
use Rattle.chain_file.proofs.reader.read_pieces.Goals as goal

pub loop-piece-preserved : goal.loop-piece-preserved
loop-piece-preserved c =
    let within : c.loop-piece.piece-index < length c.args.pieces.now = search rules in
    let front : List (List ℕ) = take c.loop-piece.piece-index c.args.pieces.now in
    let before : List ℕ = flat_map (λ piece. piece) front in
    let one = take_more c.args.pieces.now c.loop-piece.piece-index c.piece-item.result within ∙ ap (λ piece. front ++ piece ∷ []) (sym c.piece-item.is) in
    let grown : flat_map (λ piece. piece) (take (c.loop-piece.piece-index + 1) c.args.pieces.now) ≡ before ++ c.as_slice.result.now =
    ap (flat_map (λ piece. piece)) one ∙ flat_map-append (λ piece. piece) front (c.piece-item.result ∷ []) ∙ ap (λ last. before ++ last) (append-nil c.piece-item.result ∙ sym c.as_slice.ensures) in
    let inv = c.loop-piece.invariant in
    let given = c.in_ok-fed.ensures.fed before inv.0 in (
      subst (WasFed c.feed.new.self) (sym grown) (c.in_ok-fed.ensures.follows before inv.0),
      ap (λ all. (chain all).0) grown ∙ given_more before c.as_slice.result.now c.in_ok-fed.fed c.loop-piece.given c.append.new.self given inv.1 c.in_ok-append.ensures.ok,
    )

pub returns : goal.returns
returns c = grind (arith, common_steps)
