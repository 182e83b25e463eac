-- The lines and the pieces of an arrival file, one after another.
use Rattle.std.proofs.Common.{◌≡◌, ◌+◌, ℕ, List, [], ◌∷◌, ◌++◌, Option, Some, sym, ◌∙◌, ap}
use Rattle.std.specs.Prelude.{Result, Err}
use Rattle.std.specs.Option.{option_to_list}
use Rattle.proc_syntax.specs.declared.call.Tx.{Tx}
use Rattle.tx_text.specs.declared.arrivals.ArrivalFault.{ArrivalFault}
use Rattle.tx_text.specs.declared.arrivals.ArrivalFault.TheVariants as fault
use Rattle.tx_text.specs.Parts.{parts_of}
use Rattle.tx_text.specs.Listing.{Far, items_at, onward, walk, with_items}
use Rattle.tx_text.specs.Arrivals.{arrivals_form}
use Rattle.tx_text.specs.Taking.{GivesFar, GivesLine}
use Rattle.tx_text.proofs.Glued.{parts_some}
use Rattle.tx_text.proofs.Listed.{read_fault, walk_line}

-- a line with a fault ends the reading
pub stops : (found : ArrivalFault) (n : ℕ) (rest line after : List ℕ) (some : List Tx) (meant : Result (Far Tx) ℕ) → with_items some (walk arrivals_form n (parts_of rest)) ≡ meant
    → parts_of rest ≡ line ∷ parts_of after → GivesLine (Err found) n (items_at arrivals_form n line) → GivesFar (Err found) meant
stops fault.NoMemory n rest line after some meant so_far split told = tt
stops (fault.Bad wrong) n rest line after some meant so_far split told = sym so_far ∙ read_fault arrivals_form n rest line after some split told.0 ∙ ap (λ k. Err k) (sym told.1)

-- the same of the first line, which began before
pub first_stops : (found : ArrivalFault) (n : ℕ) (line after : List ℕ) → GivesLine (Err found) n (items_at arrivals_form n line) → GivesFar (Err found) (walk arrivals_form n (line ∷ parts_of after))
first_stops fault.NoMemory n line after told = tt
first_stops (fault.Bad wrong) n line after told =
    walk_line arrivals_form n line (parts_of after) (parts_some after) ∙ ap (λ found. onward n found (walk arrivals_form (n + 1) (parts_of after))) told.0 ∙ ap (λ k. Err k) (sym told.1)

pub first_step : (n : ℕ) (line after : List ℕ) (txs : List Tx) (item : Option Tx) → items_at arrivals_form n line ≡ Some (option_to_list item) → txs ≡ [] ++ option_to_list item
    → walk arrivals_form n (line ∷ parts_of after) ≡ with_items txs (walk arrivals_form (n + 1) (parts_of after))
first_step n line after txs item told same =
    walk_line arrivals_form n line (parts_of after) (parts_some after)
    ∙ ap (λ found. onward n found (walk arrivals_form (n + 1) (parts_of after))) told
    ∙ ap (λ items. with_items items (walk arrivals_form (n + 1) (parts_of after))) (sym same)
