-- What a search by halves costs: with `left` places left of `whole` after some steps, two to their number is at most `whole` for each.
use Rattle.std.proofs.Common.{◌≡◌, ◌∙◌, ℕ, suc, ◌+◌, ◌*◌, ◌-◌, ◌^◌, ◌<◌, ◌≤◌, ap, arith, subst, sym}
use Rattle.std.proofs.Math.Nat.{mul-le-mul_left, mul_assoc, mul-one, pow-suc}
use Rattle.std.proofs.Math.Pow.{pow_mono}

-- at most half of them are left
halved : (p left less whole : ℕ) → p * left ≤ whole → 2 * less ≤ left → p * 2 * less ≤ whole
halved p left less whole cost half =
    let more : p * (2 * less) ≤ p * left = mul-le-mul_left p half in
    let same : p * 2 * less ≡ p * (2 * less) = mul_assoc p 2 less in
    subst (λ n. n ≤ whole) (sym same) (omega (arith, more, cost))

-- one more place was left
doubled : (p left whole : ℕ) → p * left ≤ whole → 0 < left → p * 2 ≤ 2 * whole + 1
doubled p left whole cost some =
    let more : p * 1 ≤ p * left = mul-le-mul_left p some in
    let one : p * 1 ≡ p = mul-one p in
    omega (arith, more, one, cost)

-- a step that leaves at most half
pub step_over : (old now begun left less whole : ℕ) → begun ≤ old → now ≡ old + 1 → 2 ^ (old - begun) * left ≤ whole → 2 * less ≤ left → 0 < left
    → (2 ^ (now - begun) * less ≤ whole) × (2 ^ (now - begun) ≤ 2 * whole + 1)
step_over old now begun left less whole from next cost half some =
    let steps : now - begun ≡ suc (old - begun) = omega (arith, from, next) in
    let p = 2 ^ (old - begun) in
    let power : 2 ^ (now - begun) ≡ p * 2 = ap (λ n. 2 ^ n) steps ∙ pow-suc 2 (old - begun) in (
      subst (λ q. q * less ≤ whole) (sym power) (halved p left less whole cost half),
      subst (λ q. q ≤ 2 * whole + 1) (sym power) (doubled p left whole cost some),
    )

-- no step
pub no_step : (begun whole : ℕ) → (2 ^ (begun - begun) * (whole - 0) ≤ whole) × (2 ^ (begun - begun) ≤ 2 * whole + 1)
no_step begun whole =
    let none : begun - begun ≡ 0 = omega arith in (
      subst (λ n. 2 ^ n * (whole - 0) ≤ whole) (sym none) (omega arith),
      subst (λ n. 2 ^ n ≤ 2 * whole + 1) (sym none) (omega arith),
    )

-- one step more, of which each pays for twice as many
pub one_more : (begun old now n all : ℕ) → begun ≤ old → now ≡ old + 1 → 2 ^ (old - begun) ≤ 2 * n + 1 → n ≤ all → 2 ^ (now - begun) ≤ 4 * all + 2
one_more begun old now n all from next cost few =
    let steps : now - begun ≡ suc (old - begun) = omega (arith, from, next) in
    let power : 2 ^ (now - begun) ≡ 2 ^ (old - begun) * 2 = ap (λ n. 2 ^ n) steps ∙ pow-suc 2 (old - begun) in
    omega (arith, power, cost, few)

-- steps that are not counted, and others
pub with_others : (begun old now tail all : ℕ) → begun ≤ old → old ≤ now → old ≤ begun + tail → 2 ^ (now - old) ≤ all → 2 ^ (now - begun - tail) ≤ all
with_others begun old now tail all from on few cost =
    let less : now - begun - tail ≤ now - old = omega (arith, from, on, few) in
    let power = pow_mono less in
    omega (arith, power, cost)
