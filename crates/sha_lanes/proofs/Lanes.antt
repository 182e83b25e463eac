-- What stands in the lanes of vectors.
use Rattle.std.proofs.Common.{◌≡◌, ◌≢◌, ℕ, zero, suc, ◌<◌, ◌+◌, ◌*◌, ◌/◌, ◌%◌, ◌^◌, List, [], ◌∷◌, length, slice_index, slice_set, bit_or, bit_xor, arith, refl, sym, ap, ◌∙◌, inl, inr}
use Rattle.std.proofs.lemmas.Simd.{get_or-chunk}
use Rattle.std.proofs.lemmas.List.{get_or-set_other, get_or-set_same}
use Rattle.std.proofs.lemmas.Bool.{cases_lt}
use Rattle.std.specs.Simd.Lanes.{zip2}
use Rattle.sha2.specs.Sha256.{schedule, small_sigma0, small_sigma1, word_at}
use Rattle.sha2.proofs.Schedule256.{slice_index-schedule_first}
use Rattle.sha_lanes.specs.Lanes.{HoldWords, block_of, lane_at}

-- ---- four lanes

-- what holds of each of four lanes
pub below_four : (P : ℕ → Type 0) → P 0 → P 1 → P 2 → P 3 → (lane : ℕ) → lane < 4 → P lane
below_four P p0 p1 p2 p3 zero h = p0
below_four P p0 p1 p2 p3 (suc zero) h = p1
below_four P p0 p1 p2 p3 (suc (suc zero)) h = p2
below_four P p0 p1 p2 p3 (suc (suc (suc zero))) h = p3
below_four P p0 p1 p2 p3 (suc (suc (suc (suc n)))) h = absurd (omega arith)

-- what holds of each vector of four lanes
four_lanes : (P : List ℕ → Type 0) → ((a b c d : ℕ) → P (a ∷ b ∷ c ∷ d ∷ [])) → (xs : List ℕ) → length xs ≡ 4 → P xs
four_lanes P p (a ∷ b ∷ c ∷ d ∷ []) h = p a b c d
four_lanes P p [] h = absurd (omega arith)
four_lanes P p (a ∷ []) h = absurd (omega arith)
four_lanes P p (a ∷ b ∷ []) h = absurd (omega arith)
four_lanes P p (a ∷ b ∷ c ∷ []) h = absurd (omega arith)
four_lanes P p (a ∷ b ∷ c ∷ d ∷ e ∷ xs) h = absurd (omega arith)

-- each lane shifted right
abbrev shifted : ℕ → List ℕ → List ℕ
shifted k x = zip2 (λ a n. a / 2 ^ n) x (k ∷ k ∷ k ∷ k ∷ [])

-- each lane rotated right, by two shifts
abbrev turned : ℕ → ℕ → List ℕ → List ℕ
turned right left x = zip2 bit_or (shifted right x) (zip2 (λ a n. a * 2 ^ n % 2 ^ 32) x (left ∷ left ∷ left ∷ left ∷ []))

abbrev Each : (ℕ → ℕ) → List ℕ → List ℕ → Type 0
Each f x y = (lane : ℕ) → lane < 4 → slice_index y lane ≡ f (slice_index x lane)

pub sigma0_lanes : (x : List ℕ) → length x ≡ 4 → Each small_sigma0 x (zip2 bit_xor (zip2 bit_xor (turned 7 25 x) (turned 18 14 x)) (shifted 3 x))
sigma0_lanes = four_lanes (λ x. Each small_sigma0 x (zip2 bit_xor (zip2 bit_xor (turned 7 25 x) (turned 18 14 x)) (shifted 3 x))) (λ a b c d. below_four _ refl refl refl refl)

pub sigma1_lanes : (x : List ℕ) → length x ≡ 4 → Each small_sigma1 x (zip2 bit_xor (zip2 bit_xor (turned 17 15 x) (turned 19 13 x)) (shifted 10 x))
sigma1_lanes = four_lanes (λ x. Each small_sigma1 x (zip2 bit_xor (zip2 bit_xor (turned 17 15 x) (turned 19 13 x)) (shifted 10 x))) (λ a b c d. below_four _ refl refl refl refl)

-- ---- words of blocks

-- a byte of a block is one of the bytes
byte_of : (bytes : List ℕ) (lane at : ℕ) → at < 64 → slice_index (block_of bytes lane) at ≡ slice_index bytes (lane * 64 + at)
byte_of bytes lane at within = get_or-chunk (lane * 64) 64 bytes at 0 within

-- a word of a block is one of the bytes'
pub word_of_block : (bytes : List ℕ) (lane place at : ℕ) → place < 16 → at ≡ 4 * place + 64 * lane → word_at bytes at ≡ word_at (block_of bytes lane) (4 * place)
word_of_block bytes lane place at within is =
    let e0 : lane * 64 + 4 * place ≡ at = omega arith in
    let e1 : lane * 64 + (4 * place + 1) ≡ at + 1 = omega arith in
    let e2 : lane * 64 + (4 * place + 2) ≡ at + 2 = omega arith in
    let e3 : lane * 64 + (4 * place + 3) ≡ at + 3 = omega arith in
    let b0 : slice_index (block_of bytes lane) (4 * place) ≡ slice_index bytes at = byte_of bytes lane (4 * place) (omega arith) ∙ ap (slice_index bytes) e0 in
    let b1 : slice_index (block_of bytes lane) (4 * place + 1) ≡ slice_index bytes (at + 1) = byte_of bytes lane (4 * place + 1) (omega arith) ∙ ap (slice_index bytes) e1 in
    let b2 : slice_index (block_of bytes lane) (4 * place + 2) ≡ slice_index bytes (at + 2) = byte_of bytes lane (4 * place + 2) (omega arith) ∙ ap (slice_index bytes) e2 in
    let b3 : slice_index (block_of bytes lane) (4 * place + 3) ≡ slice_index bytes (at + 3) = byte_of bytes lane (4 * place + 3) (omega arith) ∙ ap (slice_index bytes) e3 in
    rw (b0, b1, b2, b3) refl

-- what a vector at a place leaves at all places
pub set_lane : (words : List (List ℕ)) (place other lane : ℕ) (v : List ℕ) → other ≢ place → lane_at (slice_set words place v) other lane ≡ lane_at words other lane
set_lane words place other lane v ne = ap (λ x. slice_index x lane) (get_or-set_other words place other v [] ne)

pub put_lane : (words : List (List ℕ)) (place lane : ℕ) (v : List ℕ) → place < length words → lane_at (slice_set words place v) place lane ≡ slice_index v lane
put_lane words place lane v within = ap (λ x. slice_index x lane) (get_or-set_same words place v [] within)

-- the words below a place, with the next one put
pub hold_next : (bytes : List ℕ) (words : List (List ℕ)) (place : ℕ) (v : List ℕ) → place < length words → HoldWords bytes words place
    → ((lane : ℕ) → lane < 4 → slice_index v lane ≡ slice_index (schedule (block_of bytes lane) 48) place) → HoldWords bytes (slice_set words place v) (place + 1)
hold_next bytes words place v within held next lane other low below =
    elim (cases_lt other place) [
      | inl lt ↦ set_lane words place other lane v (omega arith) ∙ held lane other low lt
      | inr ge ↦
          let same : other ≡ place = omega arith in
          rw same (put_lane words place lane v within ∙ next lane low)
    ]

-- the first words are those of the bytes
pub first_word : (bytes : List ℕ) (v : List ℕ) (place : ℕ) → place < 16 → ((lane : ℕ) → lane < 4 → slice_index v lane ≡ word_at (block_of bytes lane) (4 * place))
    → (lane : ℕ) → lane < 4 → slice_index v lane ≡ slice_index (schedule (block_of bytes lane) 48) place
first_word bytes v place within is lane low = is lane low ∙ sym (slice_index-schedule_first (block_of bytes lane) 48 place within)

-- a lane of a vector that has one number in all
pub splat_lane : (n lane : ℕ) → lane < 4 → slice_index (n ∷ n ∷ n ∷ n ∷ []) lane ≡ n
splat_lane n = below_four (λ lane. slice_index (n ∷ n ∷ n ∷ n ∷ []) lane ≡ n) refl refl refl refl
