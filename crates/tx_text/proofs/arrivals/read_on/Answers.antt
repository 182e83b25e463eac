use Rattle.std.proofs.Common.{◌≡◌, ◌∷◌, ◌++◌, List, ℕ, rules, sym, subst, Err, Result}
use Rattle.tx_text.specs.declared.arrivals.ArrivalFault.{ArrivalFault}
use Rattle.tx_text.specs.declared.arrivals.ReadArrivals.{ReadArrivals}
use Rattle.tx_text.specs.Parts.{parts_of}
use Rattle.tx_text.specs.Taking.{GivesFar}
use Rattle.tx_text.specs.Listing.{walk}
use Rattle.tx_text.specs.Arrivals.{arrivals_form}
use Rattle.tx_text.proofs.Arriving.{first_stops, first_step}
use Rattle.tx_text.proofs.arrivals.read_on.Goals as goal

pub returns-in_err-tx : goal.returns-in_err-tx
returns-in_err-tx c =
    let same : c.from_residual-in_err-tx.result ≡ Err c.in_err-tx.field-0.0 = search rules in
    let bytes : c.deref.result.now ≡ c.args.held.now ++ c.args.end.now = search rules in
    subst (λ (line : List ℕ). GivesFar c.from_residual-in_err-tx.result (walk arrivals_form c.args.line (line ∷ parts_of c.args.after.now))) bytes
    (subst (λ (r : Result ReadArrivals ArrivalFault). GivesFar r (walk arrivals_form c.args.line (c.deref.result.now ∷ parts_of c.args.after.now))) (sym same)
    (first_stops c.in_err-tx.field-0.0 c.args.line c.deref.result.now c.args.after.now c.in_err-tx.ensures.taken))

pub returns : goal.returns
returns c =
    let bytes : c.deref.result.now ≡ c.args.held.now ++ c.args.end.now = search rules in
    let none : c.push_tx_if.new.txs ≡ _ = c.in_ok-push_tx_if.ensures in
    subst (λ (line : List ℕ). GivesFar c.read_lines.result (walk arrivals_form c.args.line (line ∷ parts_of c.args.after.now))) bytes
    (subst (GivesFar c.read_lines.result) (sym (first_step c.args.line c.deref.result.now c.args.after.now c.push_tx_if.new.txs c.in_ok-tx.tx c.in_ok-tx.ensures.taken (search rules))) c.read_lines.ensures)
