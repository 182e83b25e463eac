-- The transactions of a client file that is read: at most 1,000,000, each with a line.
use Rattle.std.proofs.Common.{◌≡◌, ◌≤◌, ◌+◌, ◌-◌, ℕ, List, [], ◌∷◌, Bool, true, false, cond, Option, Some, None, length, refl, subst, arith, length-append}
use Rattle.std.specs.Prelude.{◌==◌, ◌&&◌, nat_le, nat_lt, Result, Ok, Err}
use Rattle.std.specs.Option.{option_map}
use Rattle.std.specs.Str.{bytes_eq}
use Rattle.std.proofs.lemmas.Bool.{eqb-true, leb-true}
use Rattle.proc_syntax.specs.declared.call.Tx.{Tx}
use Rattle.tx_text.specs.Arrivals.{arrivals, arrivals_form}
use Rattle.tx_text.specs.Lines.{HasLine}
use Rattle.tx_text.specs.Parts.{is_long, parts_of}
use Rattle.tx_text.specs.Listing.{Form, Far, no_item, one_item, items_at, with_items, onward, walk, whole, listed}
use Rattle.tx_text.proofs.ListedItems.{listed_fine}
use Rattle.order_queue.specs.Orders.{IsSubmission}
use Rattle.order_queue.proofs.Lined.{read_has_line}

module _ {A : Type 0} (form : Form A) where
  -- a line after the first has one item, and is not after the last
  abbrev IsOne : ℕ → Option (List A) → Type 0
  IsOne n None = Unit {0}
  IsOne n (Some items) = (length items ≤ 1) × (n ≤ 1000001)

  item_one : (n : ℕ) (found : Option A) (few : Bool) → nat_le n 1000001 ≡ few → IsOne n (cond few (option_map (λ item. item ∷ []) found) None)
  item_one n None true e = tt
  item_one n (Some item) true e = (omega arith, leb-true n 1000001 e)
  item_one n found false e = tt

  short_one : (n : ℕ) (line : List ℕ) (first : Bool) → 2 ≤ n → (n == 1) ≡ first → IsOne n (cond first (no_item form line) (one_item form n line))
  short_one n line true later e = absurd (omega (arith, later, eqb-true n 1 e))
  short_one n line false later e = item_one n (form.item line) (nat_le n 1000001) refl

  line_one : (n : ℕ) (line : List ℕ) (long : Bool) → 2 ≤ n → IsOne n (cond long None (cond (n == 1) (no_item form line) (one_item form n line)))
  line_one n line true later = tt
  line_one n line false later = short_one n line (n == 1) later refl

  -- from a line of this number on there are so many items at most
  abbrev AreFew : ℕ → Result (Far A) ℕ → Type 0
  AreFew most (Err line) = Unit {0}
  AreFew most (Ok far) = length far.items ≤ most

  ending_few : (most n : ℕ) (rest : List ℕ) (long : Bool) → AreFew most (cond long (Err n) (Ok (record { line = n; items = []; rest = rest })))
  ending_few most n rest true = tt
  ending_few most n rest false = omega arith

  with_few : (n : ℕ) (items : List A) (more : Result (Far A) ℕ) → length items ≤ 1 → n ≤ 1000001 → AreFew (1000002 - (n + 1)) more → AreFew (1000002 - n) (with_items items more)
  with_few n items (Err line) one low h = tt
  with_few n items (Ok far) one low h = omega (arith, one, low, h, length-append items far.items)

  onward_few : (n : ℕ) (found : Option (List A)) (more : Result (Far A) ℕ) → IsOne n found → AreFew (1000002 - (n + 1)) more → AreFew (1000002 - n) (onward n found more)
  onward_few n None more one h = tt
  onward_few n (Some items) more one h = with_few n items more one.0 one.1 h

  walk_few : (n : ℕ) (parts : List (List ℕ)) → 2 ≤ n → AreFew (1000002 - n) (walk form n parts)
  walk_few n [] later = ending_few (1000002 - n) n [] (is_long [])
  walk_few n (rest ∷ []) later = ending_few (1000002 - n) n rest (is_long rest)
  walk_few n (line ∷ part ∷ parts) later = onward_few n (items_at form n line) (walk form (n + 1) (part ∷ parts)) (line_one n line (is_long line) later) (walk_few (n + 1) (part ∷ parts) (omega (arith, later)))

  -- the first line has none
  header_few : (found : Bool) (more : Result (Far A) ℕ) → AreFew 1000000 more → AreFew 1000000 (onward 1 (cond found (Some []) None) more)
  header_few true (Err line) h = tt
  header_few true (Ok far) h = h
  header_few false more h = tt

  first_few : (line : List ℕ) (long : Bool) (more : Result (Far A) ℕ) → AreFew 1000000 more → AreFew 1000000 (onward 1 (cond long None (no_item form line)) more)
  first_few line true more h = tt
  first_few line false more h = header_few (bytes_eq line form.header) more h

  all_few : (parts : List (List ℕ)) → AreFew 1000000 (walk form 1 parts)
  all_few [] = ending_few 1000000 1 [] (is_long [])
  all_few (rest ∷ []) = ending_few 1000000 1 rest (is_long rest)
  all_few (line ∷ part ∷ parts) = first_few line (is_long line) (walk form 2 (part ∷ parts)) (walk_few 2 (part ∷ parts) (omega arith))

  abbrev IsFew : Result (List A) ℕ → Type 0
  IsFew (Err line) = Unit {0}
  IsFew (Ok items) = length items ≤ 1000000

  ended_few : (far : Far A) (test : Bool) → length far.items ≤ 1000000 → IsFew (cond test (Ok far.items) (Err far.line))
  ended_few far true h = h
  ended_few far false h = tt

  whole_few : (far : Result (Far A) ℕ) → AreFew 1000000 far → IsFew (whole far)
  whole_few (Err line) h = tt
  whole_few (Ok far) h = ended_few far (nat_lt 1 far.line && (length far.rest == 0)) h

  listed_few : (bytes : List ℕ) (items : List A) → listed form bytes ≡ Ok items → length items ≤ 1000000
  listed_few bytes items e = subst IsFew e (whole_few (walk form 1 (parts_of bytes)) (all_few (parts_of bytes)))

pub files_are_submissions : (bytes : List ℕ) (txs : List Tx) → arrivals bytes ≡ Ok txs → IsSubmission txs
files_are_submissions bytes txs e = record {
  few = listed_few arrivals_form bytes txs e;
  lines = listed_fine arrivals_form HasLine read_has_line bytes txs e;
}
