-- The items of a listing are what its lines say.
use Rattle.std.proofs.Common.{◌≡◌, ◌+◌, ℕ, List, [], ◌∷◌, ◌++◌, Bool, true, false, cond, Option, Some, None, length, refl, subst}
use Rattle.std.specs.Prelude.{◌==◌, ◌&&◌, nat_le, nat_lt, Result, Ok, Err}
use Rattle.std.specs.List.{AllByRecursion}
use Rattle.std.specs.Option.{option_map}
use Rattle.std.specs.Str.{bytes_eq}
use Rattle.tx_text.specs.Parts.{is_long, parts_of}
use Rattle.tx_text.specs.Listing.{Form, Far, no_item, one_item, items_at, with_items, onward, walk, whole, listed}

module _ {A : Type 0} (form : Form A) (Fine : A → Type 0) (sound : (line : List ℕ) (item : A) → form.item line ≡ Some item → Fine item) where
  -- these items are fine, if there are any
  abbrev AreFine : Option (List A) → Type 0
  AreFine None = Unit {0}
  AreFine (Some items) = AllByRecursion Fine items

  found_fine : (line : List ℕ) (found : Option A) → form.item line ≡ found → AreFine (option_map (λ item. item ∷ []) found)
  found_fine line None e = tt
  found_fine line (Some item) e = (sound line item e, tt)

  one_fine : (line : List ℕ) (few : Bool) → AreFine (cond few (option_map (λ item. item ∷ []) (form.item line)) None)
  one_fine line true = found_fine line (form.item line) refl
  one_fine line false = tt

  none_fine : (header : Bool) → AreFine (cond header (Some []) None)
  none_fine true = tt
  none_fine false = tt

  short_fine : (n : ℕ) (line : List ℕ) (first : Bool) → AreFine (cond first (no_item form line) (one_item form n line))
  short_fine n line true = none_fine (bytes_eq line form.header)
  short_fine n line false = one_fine line (nat_le n 1000001)

  line_fine : (n : ℕ) (line : List ℕ) (long : Bool) → AreFine (cond long None (cond (n == 1) (no_item form line) (one_item form n line)))
  line_fine n line true = tt
  line_fine n line false = short_fine n line (n == 1)

  -- and so far
  abbrev SoFar : Result (Far A) ℕ → Type 0
  SoFar (Err line) = Unit {0}
  SoFar (Ok far) = AllByRecursion Fine far.items

  ending_fine : (n : ℕ) (rest : List ℕ) (long : Bool) → SoFar (cond long (Err n) (Ok (record { line = n; items = []; rest = rest })))
  ending_fine n rest true = tt
  ending_fine n rest false = tt

  both_fine : (some more : List A) → AllByRecursion Fine some → AllByRecursion Fine more → AllByRecursion Fine (some ++ more)
  both_fine [] more front back = back
  both_fine (item ∷ some) more front back = (front.0, both_fine some more front.1 back)

  with_fine : (items : List A) (more : Result (Far A) ℕ) → AllByRecursion Fine items → SoFar more → SoFar (with_items items more)
  with_fine items (Err line) front back = tt
  with_fine items (Ok far) front back = both_fine items far.items front back

  onward_fine : (n : ℕ) (found : Option (List A)) (more : Result (Far A) ℕ) → AreFine found → SoFar more → SoFar (onward n found more)
  onward_fine n None more front back = tt
  onward_fine n (Some items) more front back = with_fine items more front back

  walk_fine : (n : ℕ) (parts : List (List ℕ)) → SoFar (walk form n parts)
  walk_fine n [] = ending_fine n [] (is_long [])
  walk_fine n (rest ∷ []) = ending_fine n rest (is_long rest)
  walk_fine n (line ∷ part ∷ parts) = onward_fine n (items_at form n line) (walk form (n + 1) (part ∷ parts)) (line_fine n line (is_long line)) (walk_fine (n + 1) (part ∷ parts))

  -- and of a whole file
  abbrev Whole : Result (List A) ℕ → Type 0
  Whole (Err line) = Unit {0}
  Whole (Ok items) = AllByRecursion Fine items

  ended_fine : (far : Far A) (test : Bool) → AllByRecursion Fine far.items → Whole (cond test (Ok far.items) (Err far.line))
  ended_fine far true fine = fine
  ended_fine far false fine = tt

  whole_fine : (far : Result (Far A) ℕ) → SoFar far → Whole (whole far)
  whole_fine (Err line) fine = tt
  whole_fine (Ok far) fine = ended_fine far (nat_lt 1 far.line && (length far.rest == 0)) fine

  pub listed_fine : (bytes : List ℕ) (items : List A) → listed form bytes ≡ Ok items → AllByRecursion Fine items
  listed_fine bytes items e = subst Whole e (whole_fine (walk form 1 (parts_of bytes)) (walk_fine 1 (parts_of bytes)))
