use Rattle.std.proofs.Common.{◌≡◌, ◌+◌, ◌∙◌, rules, sym, subst, Err, Result, ap}
use Rattle.std.specs.Option.{option_to_list}
use Rattle.tx_text.specs.declared.arrivals.ArrivalFault.{ArrivalFault}
use Rattle.tx_text.specs.declared.arrivals.ReadArrivals.{ReadArrivals}
use Rattle.tx_text.specs.Parts.{parts_of}
use Rattle.tx_text.specs.Taking.{GivesFar}
use Rattle.tx_text.specs.Listing.{walk, with_items}
use Rattle.tx_text.specs.Arrivals.{arrivals_form}
use Rattle.tx_text.proofs.Arriving.{stops}
use Rattle.tx_text.proofs.Listed.{read_step}
use Rattle.tx_text.proofs.arrivals.read_lines.Goals as goal

pub returns-in_err-tx : goal.returns-in_err-tx
returns-in_err-tx c =
    let same : c.from_residual.result ≡ Err c.in_err-tx.field-0.0 = search rules in
    subst (λ (r : Result ReadArrivals ArrivalFault). GivesFar r (with_items c.args.before (walk arrivals_form c.args.number (parts_of c.args.bytes.now)))) (sym same)
    (stops c.in_err-tx.field-0.0 c.loop-text.line c.loop-text.rest.now c.in-Some.text.now c.in-Some.after.now c.loop-text.txs _ c.loop-text.invariant c.in-Some.ensures.parts c.in_err-tx.ensures.taken)

pub loop-text-preserved : goal.loop-text-preserved
loop-text-preserved c =
    ap (λ txs. with_items txs (walk arrivals_form (c.loop-text.line + 1) (parts_of c.in-Some.after.now))) c.in_ok-push_tx_if.ensures
    ∙ sym (read_step arrivals_form c.loop-text.line c.loop-text.rest.now c.in-Some.text.now c.in-Some.after.now c.loop-text.txs (option_to_list c.in_ok-tx.tx) c.in-Some.ensures.parts c.in_ok-tx.ensures.taken)
    ∙ c.loop-text.invariant
