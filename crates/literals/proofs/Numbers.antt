use Rattle.std.proofs.Common.{◌≡◌, ℕ, ◌+◌, ◌-◌, ◌*◌, ◌^◌, ◌<◌, ◌≤◌, suc, List, [], ◌∷◌, length, drop, get_or, Bool, true, false, cond, Some, None, refl, sym, ◌∙◌, arith, drop-cons, nat_lt}
use Rattle.std.proofs.lemmas.Bool.{le-ltb, ltb-false}
use Rattle.literals.specs.Number.{number_after}

-- digits make a number no smaller
pub number_after-ge : (n : ℕ) (ds : List ℕ) → n ≤ number_after n ds
number_after-ge n [] = omega arith
number_after-ge n (d ∷ ds) = omega (arith, number_after-ge (n * 10 + (d - 48)) ds)

-- a test that gave nothing failed
none_from : {A : Type 0} (b : Bool) (x : A) → None ≡ cond b (Some x) None → b ≡ false
none_from true x e = cc
none_from false x e = refl

-- one digit that makes the number too large makes the whole too large
pub too_large : (digits : List ℕ) (i n : ℕ) → i < length digits → number_after n (drop i digits) ≡ number_after 0 digits
    → None ≡ cond (nat_lt (n * 10 + (get_or digits i 0 - 48)) (2 ^ 64)) (Some (n * 10 + (get_or digits i 0 - 48))) None
    → None ≡ cond (nat_lt (number_after 0 digits) (2 ^ 64)) (Some (number_after 0 digits)) None
too_large digits i n inside same gave =
    let e : number_after 0 digits ≡ number_after (n * 10 + (get_or digits i 0 - 48)) (drop (suc i) digits) = sym same ∙ rw (drop-cons digits i 0) refl in
    let large : 2 ^ 64 ≤ n * 10 + (get_or digits i 0 - 48) = ltb-false _ _ (none_from _ _ gave) in
    let whole : 2 ^ 64 ≤ number_after 0 digits = omega (arith, number_after-ge (n * 10 + (get_or digits i 0 - 48)) (drop (suc i) digits)) in
    rw (le-ltb _ _ whole) refl
