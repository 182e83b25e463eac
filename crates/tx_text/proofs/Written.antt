-- Arrival files are the text of their transactions.
use Rattle.std.proofs.Common.{◌≡◌, ◌≤◌, ℕ, List, [], ◌∷◌, length, refl}
use Rattle.std.specs.Prelude.{Ok}
use Rattle.std.specs.List.{AllByRecursion}
use Rattle.proc_syntax.specs.declared.call.Tx.{Tx}
use Rattle.tx_text.specs.Lines.{HasLine, tx_text}
use Rattle.tx_text.specs.Arrivals.{arrivals, arrivals_form, arrivals_text}
use Rattle.tx_text.proofs.Again.{tx_again}
use Rattle.tx_text.proofs.ListedText.{IsListed, listed_again, listed_spelled}
use Rattle.tx_text.proofs.Plain.{tx_plain}
use Rattle.tx_text.proofs.Takes.{tx_spelled}

pub arrivals_spelled : (bytes : List ℕ) (txs : List Tx) → arrivals bytes ≡ Ok txs → bytes ≡ arrivals_text txs
arrivals_spelled = listed_spelled arrivals_form tx_text tx_spelled

tx_listed : (tx : Tx) → HasLine tx → IsListed arrivals_form tx_text tx
tx_listed tx fine = record { again = tx_again tx fine.sound fine.short; plain = tx_plain tx fine.sound; short = fine.short }

txs_listed : (txs : List Tx) → AllByRecursion HasLine txs → AllByRecursion (IsListed arrivals_form tx_text) txs
txs_listed [] fine = tt
txs_listed (tx ∷ txs) fine = (tx_listed tx fine.0, txs_listed txs fine.1)

pub arrivals_again : (txs : List Tx) → length txs ≤ 1000000 → AllByRecursion HasLine txs → arrivals (arrivals_text txs) ≡ Ok txs
arrivals_again txs few fine = listed_again arrivals_form tx_text refl refl txs few (txs_listed txs fine)
