-- A listing in pieces gives what the whole file gives.
use Rattle.std.proofs.Common.{◌≡◌, ◌<◌, ◌+◌, ℕ, List, [], ◌∷◌, ◌++◌, Bool, true, false, cond, Option, Some, None, length, refl, sym, ◌∙◌, ap, append_assoc, arith}
use Rattle.std.specs.Prelude.{◌==◌, Result, Ok, Err}
use Rattle.tx_text.specs.Parts.{is_long, onto, parts_of}
use Rattle.tx_text.specs.Listing.{Form, Far, no_item, one_item, items_at, with_items, onward, ending, walk, walked, whole, listed}
use Rattle.tx_text.proofs.Glued.{glue, glue_some, longer, parts_glue, parts_some}

module _ {A : Type 0} (form : Form A) where
  -- a line before other parts
  pub walk_line : (n : ℕ) (line : List ℕ) (parts : List (List ℕ)) → 0 < length parts → walk form n (line ∷ parts) ≡ onward n (items_at form n line) (walk form (n + 1) parts)
  walk_line n line [] some = absurd (omega (arith, some))
  walk_line n line (part ∷ parts) some = refl

  -- a line that is too long has a fault, whatever it says
  long_line : (n : ℕ) (line : List ℕ) → is_long line ≡ true → items_at form n line ≡ None
  long_line n line long = ap (λ test. cond test None (cond (n == 1) (no_item form line) (one_item form n line))) long

  pub with_none : (read : Result (Far A) ℕ) → with_items [] read ≡ read
  with_none (Err line) = refl
  with_none (Ok far) = refl

  pub with_both : (some more : List A) (read : Result (Far A) ℕ) → with_items some (with_items more read) ≡ with_items (some ++ more) read
  with_both some more (Err line) = refl
  with_both some more (Ok far) = ap (λ items. Ok (record { line = far.line; items = items; rest = far.rest })) (sym (append_assoc some more far.items))

  -- what is meant goes on after what was walked
  abbrev goes_on : Result (Far A) ℕ → List (List ℕ) → Result (Far A) ℕ
  goes_on (Err line) more = Err line
  goes_on (Ok far) more = with_items far.items (walk form far.line (onto far.rest more))

  long_last : (n : ℕ) (rest : List ℕ) (more : List (List ℕ)) → 0 < length more → is_long rest ≡ true → walk form n (onto rest more) ≡ Err n
  long_last n rest [] some long = absurd (omega (arith, some))
  long_last n rest (part ∷ []) some long = ap (λ test. cond test (Err n) (Ok (record { line = n; items = []; rest = rest ++ part }))) (longer rest part long)
  long_last n rest (line ∷ part ∷ parts) some long = ap (λ found. onward n found (walk form (n + 1) (part ∷ parts))) (long_line n (rest ++ line) (longer rest line long))

  last_on : (n : ℕ) (rest : List ℕ) (more : List (List ℕ)) (test : Bool) → 0 < length more → is_long rest ≡ test
      → walk form n (onto rest more) ≡ goes_on (cond test (Err n) (Ok (record { line = n; items = []; rest = rest }))) more
  last_on n rest more true some long = long_last n rest more some long
  last_on n rest more false some long = sym (with_none (walk form n (onto rest more)))

  with_on : (items : List A) (read : Result (Far A) ℕ) (more : List (List ℕ)) → with_items items (goes_on read more) ≡ goes_on (with_items items read) more
  with_on items (Err line) more = refl
  with_on items (Ok far) more = with_both items far.items (walk form far.line (onto far.rest more))

  onward_on : (n : ℕ) (found : Option (List A)) (parts more : List (List ℕ)) → ((m : ℕ) → walk form m (glue parts more) ≡ goes_on (walk form m parts) more)
      → onward n found (walk form (n + 1) (glue parts more)) ≡ goes_on (onward n found (walk form (n + 1) parts)) more
  onward_on n None parts more ih = refl
  onward_on n (Some items) parts more ih = ap (with_items items) (ih (n + 1)) ∙ with_on items (walk form (n + 1) parts) more

  walk_glue : (parts more : List (List ℕ)) → 0 < length parts → 0 < length more → (n : ℕ) → walk form n (glue parts more) ≡ goes_on (walk form n parts) more
  walk_glue [] more one some n = absurd (omega (arith, one))
  walk_glue (rest ∷ []) more one some n = last_on n rest more (is_long rest) some refl
  walk_glue (line ∷ part ∷ parts) more one some n =
      walk_line n line (glue (part ∷ parts) more) (glue_some (part ∷ parts) more some)
      ∙ onward_on n (items_at form n line) (part ∷ parts) more (walk_glue (part ∷ parts) more (omega arith) some)

  walked_on : (bytes more : List ℕ) → walked form (bytes ++ more) ≡ goes_on (walked form bytes) (parts_of more)
  walked_on bytes more = ap (walk form 1) (parts_glue bytes more) ∙ walk_glue (parts_of bytes) (parts_of more) (parts_some bytes) (parts_some more) 1

  -- without a fault the last line goes on with the bytes that follow
  pub far_on : (bytes more : List ℕ) (far : Far A) → walked form bytes ≡ Ok far → walked form (bytes ++ more) ≡ with_items far.items (walk form far.line (onto far.rest (parts_of more)))
  far_on bytes more far e = walked_on bytes more ∙ ap (λ read. goes_on read (parts_of more)) e

  -- and after a fault they change nothing
  pub fault_stays : (bytes more : List ℕ) (line : ℕ) → walked form bytes ≡ Err line → walked form (bytes ++ more) ≡ Err line
  fault_stays bytes more line e = walked_on bytes more ∙ ap (λ read. goes_on read (parts_of more)) e

  pub fault_lasts : (bytes more : List ℕ) (line : ℕ) → walked form bytes ≡ Err line → listed form (bytes ++ more) ≡ Err line
  fault_lasts bytes more line e = ap whole (fault_stays bytes more line e)

  -- a line and the lines after it
  walk_split : (n : ℕ) (rest line after : List ℕ) → parts_of rest ≡ line ∷ parts_of after → walk form n (parts_of rest) ≡ onward n (items_at form n line) (walk form (n + 1) (parts_of after))
  walk_split n rest line after split = ap (walk form n) split ∙ walk_line n line (parts_of after) (parts_some after)

  pub read_step : (n : ℕ) (rest line after : List ℕ) (some more : List A) → parts_of rest ≡ line ∷ parts_of after → items_at form n line ≡ Some more
      → with_items some (walk form n (parts_of rest)) ≡ with_items (some ++ more) (walk form (n + 1) (parts_of after))
  read_step n rest line after some more split told =
      ap (with_items some) (walk_split n rest line after split ∙ ap (λ found. onward n found (walk form (n + 1) (parts_of after))) told)
      ∙ with_both some more (walk form (n + 1) (parts_of after))

  pub read_fault : (n : ℕ) (rest line after : List ℕ) (some : List A) → parts_of rest ≡ line ∷ parts_of after → items_at form n line ≡ None → with_items some (walk form n (parts_of rest)) ≡ Err n
  read_fault n rest line after some split told =
      ap (with_items some) (walk_split n rest line after split ∙ ap (λ found. onward n found (walk form (n + 1) (parts_of after))) told)

  pub read_end : (n : ℕ) (rest : List ℕ) → parts_of rest ≡ rest ∷ [] → walk form n (parts_of rest) ≡ ending n rest
  read_end n rest split = ap (walk form n) split
