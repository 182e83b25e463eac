use Rattle.std.proofs.Common.{arith}
use Rattle.std.proofs.lemmas.Grind.{common_steps}
use Rattle.std.proofs.Common.{◌≡◌, ◌+◌, ◌<◌, ℕ, List, Err, Result, drop, get_or, length, rules, subst, sym, take}
use Rattle.std.specs.List.{flat_map}
use Rattle.proc_syntax.specs.declared.call.Tx.{Tx}
use Rattle.tx_text.specs.declared.arrivals.ArrivalFault.{ArrivalFault}
use Rattle.tx_text.specs.Arrivals.{arrivals}
use Rattle.tx_text.specs.Feeding.{Answers, Gives}
use Rattle.tx_text.proofs.Fed.{fault_of_file, seam}
use Rattle.tx_text.proofs.arrival_reader.read_arrivals.Goals as goal

pub returns-in_err-txs : goal.returns-in_err-txs
returns-in_err-txs c =
    let pieces : List (List ℕ) = c.args.pieces.now in
    let i : ℕ = c.loop-piece.piece-index in
    let within : i < length pieces = search rules in
    let same : c.from_residual.result ≡ Err c.in_err-txs.field-0.0 = search rules in
    let fed : Answers (flat_map (λ piece. piece) (take i pieces)) c.as_slice.result.now (Err c.in_err-txs.field-0.0) = c.in_err-txs.ensures.fed (flat_map (λ piece. piece) (take i pieces)) c.loop-piece.invariant.0 in
    let here : get_or pieces i c.as_slice.result.now ≡ c.as_slice.result.now = search rules in
    subst (λ (r : Result (List Tx) ArrivalFault). Gives r (arrivals (flat_map (λ piece. piece) pieces))) (sym same)
    (fault_of_file c.in_err-txs.field-0.0 (flat_map (λ piece. piece) (take i pieces)) c.as_slice.result.now (flat_map (λ piece. piece) (drop (i + 1) pieces)) (flat_map (λ piece. piece) pieces)
    (seam pieces i c.as_slice.result.now within here) fed)

pub loop-piece-preserved : goal.loop-piece-preserved
loop-piece-preserved c = grind (arith, common_steps)

pub returns-in-Ok : goal.returns-in-Ok
returns-in-Ok c = grind (arith, common_steps)

pub returns : goal.returns
returns c = grind (arith, common_steps)
