-- The edges to one more committed transaction.
use Rattle.std.proofs.Common.{ap, drop, length, Bool, false, List, refl, sym, true, ◌∷◌, ◌∙◌, ◌≡◌, ◌≤◌, ◌&&◌, ◌||◌, ℕ, ⊎_elim}
use Rattle.std.specs.Bool.{nat_eq}
use Rattle.std.specs.List.{list_any}
use Rattle.std.proofs.lemmas.Bool.{eq-eqb}
use Rattle.std.proofs.lemmas.List.{at_drop_all}
use Rattle.std.proofs.lemmas.Bool.Decides.{eqb_tells}
use Rattle.rel_base.proofs.Bits.{or_false}

turned_test : (a b : ℕ) → nat_eq a b ≡ nat_eq b a
turned_test a b = ⊎_elim (λ same. same.0 ∙ sym (eq-eqb b a (sym same.1))) (λ apart. ⊎_elim (λ same. absurd (apart.1 (sym same.1))) (λ other. apart.0 ∙ sym other.0) (eqb_tells b a)) (eqb_tells a b)

moved : (t a b r : Bool) → (((t && a) || b) || r) ≡ (b || ((a && t) || r))
moved true true true r = refl
moved true true false r = refl
moved true false true r = refl
moved true false false r = refl
moved false true true r = refl
moved false true false r = refl
moved false false true r = refl
moved false false false r = refl

-- tests is what holds of each of some things that are at positions; after is what is left of them once one was noted
pub note_next : {X : Type 0} (place : X → ℕ) (test : X → Bool) (all left after : List X) (done : X) (holds holds' : ℕ → Bool)
    → left ≡ done ∷ after
    → ((pos : ℕ) → (holds pos || list_any (λ x. nat_eq (place x) pos && test x) left) ≡ list_any (λ x. nat_eq (place x) pos && test x) all)
    → ((pos : ℕ) → holds' pos ≡ ((test done && nat_eq pos (place done)) || holds pos))
    → (pos : ℕ) → (holds' pos || list_any (λ x. nat_eq (place x) pos && test x) after) ≡ list_any (λ x. nat_eq (place x) pos && test x) all
note_next place test all left after done holds holds' is so_far noted pos =
    ap (λ b. b || list_any (λ x. nat_eq (place x) pos && test x) after) (noted pos ∙ ap (λ b. (test done && b) || holds pos) (turned_test pos (place done)))
    ∙ moved (test done) (nat_eq (place done) pos) (holds pos) (list_any (λ x. nat_eq (place x) pos && test x) after)
    ∙ ap (λ xs. holds pos || list_any (λ x. nat_eq (place x) pos && test x) xs) (sym is) ∙ so_far pos

-- once nothing is left, what was noted is all
pub noted_all : {X : Type 0} (place : X → ℕ) (test : X → Bool) (all : List X) (index : ℕ) (holds : ℕ → Bool)
    → length all ≤ index
    → ((pos : ℕ) → (holds pos || list_any (λ x. nat_eq (place x) pos && test x) (drop index all)) ≡ list_any (λ x. nat_eq (place x) pos && test x) all)
    → (pos : ℕ) → holds pos ≡ list_any (λ x. nat_eq (place x) pos && test x) all
noted_all place test all index holds past so_far pos =
    sym (or_false (holds pos)) ∙ ap (λ b. holds pos || b) (sym (at_drop_all (list_any (λ x. nat_eq (place x) pos && test x)) all index past)) ∙ so_far pos
