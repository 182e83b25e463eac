-- Bytes of a listing without a fault are not more than the lines that it may have.
use Rattle.std.proofs.Common.{◌≡◌, ◌≤◌, ◌+◌, ◌*◌, ℕ, List, [], ◌∷◌, ◌++◌, Bool, true, false, cond, Option, Some, None, length, refl, ap, subst, length-append, arith}
use Rattle.std.specs.Prelude.{◌==◌, nat_le, Result, Ok, Err, IsOk}
use Rattle.std.specs.List.{join_with_byte}
use Rattle.std.specs.Option.{option_map}
use Rattle.std.proofs.lemmas.Bool.{eqb-true, leb-true, ltb-false}
use Rattle.std.proofs.lemmas.List.Splits.{join_with_byte-slice_split}
use Rattle.tx_text.specs.Parts.{is_long, parts_of}
use Rattle.tx_text.specs.Listing.{Form, Far, no_item, one_item, items_at, with_items, onward, walk, walked, longest_listing}

module _ {A : Type 0} (form : Form A) where
  -- a line that is taken is short, and is not after the last
  abbrev IsTaken : ℕ → List ℕ → Option (List A) → Type 0
  IsTaken n line None = Unit {0}
  IsTaken n line (Some items) = (length line ≤ 4096) × (n ≤ 1000001)

  one_taken : (n : ℕ) (line : List ℕ) (found : Option A) (few : Bool) → length line ≤ 4096 → nat_le n 1000001 ≡ few → IsTaken n line (cond few (option_map (λ item. item ∷ []) found) None)
  one_taken n line None true short e = tt
  one_taken n line (Some item) true short e = (short, leb-true n 1000001 e)
  one_taken n line found false short e = tt

  header_taken : (n : ℕ) (line : List ℕ) (test : Bool) → length line ≤ 4096 → n ≡ 1 → IsTaken n line (cond test (Some []) None)
  header_taken n line true short e = (short, omega (arith, e))
  header_taken n line false short e = tt

  short_taken : (n : ℕ) (line : List ℕ) (first : Bool) → (n == 1) ≡ first → length line ≤ 4096 → IsTaken n line (cond first (no_item form line) (one_item form n line))
  short_taken n line true e short = header_taken n line _ short (eqb-true n 1 e)
  short_taken n line false e short = one_taken n line (form.item line) (nat_le n 1000001) short refl

  line_taken : (n : ℕ) (line : List ℕ) (long : Bool) → is_long line ≡ long → IsTaken n line (cond long None (cond (n == 1) (no_item form line) (one_item form n line)))
  line_taken n line true e = tt
  line_taken n line false e = short_taken n line (n == 1) refl (ltb-false 4096 (length line) e)

  -- so many bytes, but where a fault was met
  abbrev IsFew : ℕ → Result (Far A) ℕ → Type 0
  IsFew count (Err line) = Unit {0}
  IsFew count (Ok far) = count ≤ longest_listing

  -- before the line of a number stand so many bytes
  record Stands (count n : ℕ) : Type 0 where
    pub near : n ≤ 1000002
    pub low : count + 4097 ≤ n * 4097

  ending_few : (count n : ℕ) (rest : List ℕ) (long : Bool) → Stands count n → is_long rest ≡ long → IsFew (count + length rest) (cond long (Err n) (Ok (record { line = n; items = []; rest = rest })))
  ending_few count n rest true stands e = tt
  ending_few count n rest false stands e = omega (arith, stands.near, stands.low, ltb-false 4096 (length rest) e)

  with_few : (count : ℕ) (items : List A) (more : Result (Far A) ℕ) → IsFew count more → IsFew count (with_items items more)
  with_few count items (Err line) few = tt
  with_few count items (Ok far) few = few

  onward_few : (count n : ℕ) (line bytes : List ℕ) (found : Option (List A)) (more : Result (Far A) ℕ) → Stands count n → IsTaken n line found
      → ((m : ℕ) → Stands m (n + 1) → IsFew (m + length bytes) more) → IsFew (count + length (line ++ (10 ∷ bytes))) (onward n found more)
  onward_few count n line bytes None more stands taken few = tt
  onward_few count n line bytes (Some items) more stands taken few =
      let next : Stands (count + length line + 1) (n + 1) = record { near = omega (arith, taken.1); low = omega (arith, stands.low, taken.0) } in
      let all : count + length line + 1 + length bytes ≡ count + length (line ++ (10 ∷ bytes)) = omega (arith, length-append line (10 ∷ bytes)) in
      with_few (count + length (line ++ (10 ∷ bytes))) items more (subst (λ (k : ℕ). IsFew k more) all (few (count + length line + 1) next))

  walk_few : (parts : List (List ℕ)) (count n : ℕ) → Stands count n → IsFew (count + length (join_with_byte 10 parts)) (walk form n parts)
  walk_few [] count n stands = ending_few count n [] (is_long []) stands refl
  walk_few (rest ∷ []) count n stands = ending_few count n rest (is_long rest) stands refl
  walk_few (line ∷ part ∷ parts) count n stands =
      onward_few count n line (join_with_byte 10 (part ∷ parts)) (items_at form n line) (walk form (n + 1) (part ∷ parts)) stands (line_taken n line (is_long line) refl)
      (λ m next. walk_few (part ∷ parts) m (n + 1) next)

  walked_few : (bytes : List ℕ) → IsFew (length bytes) (walked form bytes)
  walked_few bytes =
      let few : IsFew (0 + length (join_with_byte 10 (parts_of bytes))) (walked form bytes) = walk_few (parts_of bytes) 0 1 (record { near = omega arith; low = omega arith }) in
      let same : 0 + length (join_with_byte 10 (parts_of bytes)) ≡ length bytes = omega (arith, ap length (join_with_byte-slice_split 10 bytes)) in
      subst (λ (count : ℕ). IsFew count (walked form bytes)) same few

  few_ok : (count : ℕ) (far : Result (Far A) ℕ) → IsFew count far → IsOk far → count ≤ longest_listing
  few_ok count (Err line) few ok = absurd (cc)
  few_ok count (Ok far) few ok = few

  -- without a fault the bytes are few
  pub walked_bounded : (bytes : List ℕ) → IsOk (walked form bytes) → length bytes ≤ longest_listing
  walked_bounded bytes ok = few_ok (length bytes) (walked form bytes) (walked_few bytes) ok
