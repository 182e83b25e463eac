-- Numbers in decimal.
use Rattle.std.specs.Prelude.{ℕ, List, [], ◌∷◌, ◌+◌, ◌-◌, ◌*◌, ◌^◌, take, drop, Bool, true, false, cond, ◌==◌, not, nat_lt, Option, Some, None}
use Rattle.std.specs.Char.{is_ascii_digit}
use Rattle.std.specs.List.{prefix_len}
use Rattle.std.specs.Option.{option_and_then}

-- the number that digits write when they follow those of n
abbrev pub number_after : ℕ → List ℕ → ℕ
number_after n [] = n
number_after n (d ∷ ds) = number_after (n * 10 + (d - 48)) ds

-- one digit, or several of which the first is not 0: each number is written in one way
abbrev pub is_canonical : List ℕ → Bool
is_canonical [] = false
is_canonical (d ∷ []) = true
is_canonical (d ∷ e ∷ ds) = not (d == 48)

-- how many digits stand at the start of the bytes
abbrev pub digits_len : List ℕ → ℕ
digits_len bytes = prefix_len is_ascii_digit bytes

-- the number that these digits write, and what follows them
abbrev pub number_of : List ℕ → List ℕ → Option (ℕ × List ℕ)
number_of digits rest = cond (is_canonical digits) (Some (number_after 0 digits, rest)) None

-- the number at the start of the bytes, and what follows its last digit
abbrev pub number_at : List ℕ → Option (ℕ × List ℕ)
number_at bytes = number_of (take (digits_len bytes) bytes) (drop (digits_len bytes) bytes)

-- what was found, where it is below 2 ^ 64
abbrev pub where_u64 : ℕ × List ℕ → Option (ℕ × List ℕ)
where_u64 found = cond (nat_lt found.0 (2 ^ 64)) (Some found) None

-- the number below 2 ^ 64 at the start of the bytes
abbrev pub u64_at : List ℕ → Option (ℕ × List ℕ)
u64_at bytes = option_and_then where_u64 (number_at bytes)
