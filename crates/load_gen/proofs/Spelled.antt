-- Letters with a number after them are texts and ids.
use Rattle.std.proofs.Common.{Bool, List, [], arith, false, length, refl, true, ◌+◌, ◌++◌, ◌<◌, ◌^◌, ◌||◌, ◌∙◌, ◌≡◌, ◌≤◌, ◌∷◌, ℕ}
use Rattle.rel_base.proofs.Bits.{both_true, or_left}
use Rattle.rel_base.specs.Text.{has_id_form, has_no_control, is_id_byte, is_lower_case}
use Rattle.std.proofs.lemmas.Bool.{le-leb, lt-ltb}
use Rattle.std.proofs.lemmas.Fmt.{decimal_by_steps, length-decimal-le}
use Rattle.std.proofs.lemmas.List.Folds.{list_all-append}
use Rattle.std.proofs.lemmas.Nat.{mod_below}
use Rattle.std.specs.List.{list_all}
use Rattle.std.specs.Prelude.{codes, decimal, nat_le, ◌%◌, ◌==◌}

-- what passes at each digit, passes at those of a number
digits_pass : (test : ℕ → Bool) → ((digit : ℕ) → digit < 10 → test (48 + digit) ≡ true) → (n : ℕ) → n < 2 ^ 64 → list_all test (decimal n) ≡ true
digits_pass test passes n fits = decimal_by_steps (λ n digits. list_all test digits ≡ true) one more n fits
  where
    one : (digit : ℕ) → digit < 10 → list_all test ((48 + digit) ∷ []) ≡ true
    one digit below = both_true (test (48 + digit)) true (passes digit below) refl

    more : (n : ℕ) (digits : List ℕ) → 10 ≤ n → list_all test digits ≡ true → list_all test (digits ++ ((48 + n % 10) ∷ [])) ≡ true
    more n digits large front = list_all-append test digits ((48 + n % 10) ∷ []) ∙ both_true (list_all test digits) _ front (one (n % 10) (mod_below n 10 (omega arith)))

few_digits : (n : ℕ) → n < 2 ^ 32 → length (decimal n) ≤ 10
few_digits n small = length-decimal-le 10 n (omega arith) (omega (arith, small)) (omega (arith, small))

-- the name of an owner
pub short_owner : (n : ℕ) → n < 2 ^ 32 → length (codes "o" ++ decimal n) ≤ 255
short_owner n small = let few = few_digits n small in omega (arith, few)

pub plain_owner : (n : ℕ) → n < 2 ^ 32 → has_no_control (codes "o" ++ decimal n) ≡ true
plain_owner n small = digits_pass (nat_le 32) (λ digit below. le-leb 32 (48 + digit) (omega arith)) n (omega (arith, small))

middle_true : (a b c : Bool) → b ≡ true → ((a || b) || c) ≡ true
middle_true true b c is = refl
middle_true false true c is = refl
middle_true false false c is = cc

id_digit : (digit : ℕ) → digit < 10 → is_id_byte (48 + digit) ≡ true
id_digit digit below =
    or_left _ (48 + digit == 45)
    (middle_true (is_lower_case (48 + digit)) _ (48 + digit == 95)
    (both_true (nat_le 48 (48 + digit)) (nat_le (48 + digit) 57) (le-leb 48 (48 + digit) (omega arith)) (le-leb (48 + digit) 57 (omega (arith, below)))))

-- the id of a transaction
pub id_form : (n : ℕ) → n < 2 ^ 32 → has_id_form (codes "l" ++ decimal n) ≡ true
id_form n small =
    let few = few_digits n small in
    both_true _ _
    (both_true _ _ (lt-ltb 0 (length (codes "l" ++ decimal n)) (omega arith)) (le-leb (length (codes "l" ++ decimal n)) 32 (omega (arith, few))))
    (digits_pass is_id_byte id_digit n (omega (arith, small)))
