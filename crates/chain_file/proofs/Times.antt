-- The time that a block may have.
use Rattle.std.proofs.Common.{◌≡◌, ◌≤◌, ℕ, List, Bool, true, false, cond, Option, Some, None, refl, ap}
use Rattle.std.specs.Prelude.{nat_le, ◌&&◌}
use Rattle.std.proofs.lemmas.Bool.{and_from, and_parts, le-leb, leb-true}
use Rattle.chain_file.specs.declared.form.ChainVersion.{ChainVersion}
use Rattle.chain_file.specs.Steps.{most_time, next_time, said_time}

-- a time that is taken is said, not below the one before, and an i64
abbrev pub IsNext : ChainVersion → ℕ → List ℕ → Option ℕ → Type 0
IsNext v before text None = Unit {0}
IsNext v before text (Some time) = (before ≤ time) × (time ≤ most_time) × (time ≡ said_time v text)

next_if : (v : ChainVersion) (before : ℕ) (text : List ℕ) (test : Bool) → (nat_le before (said_time v text) && nat_le (said_time v text) most_time) ≡ test
    → IsNext v before text (cond test (Some (said_time v text)) None)
next_if v before text true e =
    let parts = and_parts (nat_le before (said_time v text)) (nat_le (said_time v text) most_time) e in
    (leb-true before (said_time v text) parts.0, leb-true (said_time v text) most_time parts.1, refl)
next_if v before text false e = tt

pub next_is : (v : ChainVersion) (before : ℕ) (text : List ℕ) → IsNext v before text (next_time v before text)
next_is v before text = next_if v before text (nat_le before (said_time v text) && nat_le (said_time v text) most_time) refl

-- and such a time is taken
pub time_taken : (v : ChainVersion) (before : ℕ) (text : List ℕ) → before ≤ said_time v text → said_time v text ≤ most_time → next_time v before text ≡ Some (said_time v text)
time_taken v before text low high =
    ap (λ test. cond test (Some (said_time v text)) None)
    (and_from (nat_le before (said_time v text)) (nat_le (said_time v text) most_time) (le-leb before (said_time v text) low) (le-leb (said_time v text) most_time high))
