-- The procedure of a name.
use Rattle.std.proofs.Common.{◌≡◌, ℕ, ◌+◌, sym, ap, ◌∙◌, List, ◌∷◌, drop, add-one, true, Bool, cond, Some}
use Rattle.std.specs.Prelude.{slice_get}
use Rattle.std.specs.List.{find}
use Rattle.rel_base.proofs.Lists.{drop_next}

one_left : {X : Type 0} (xs : List X) (n : ℕ) (x : X) → slice_get xs n ≡ Some x → drop n xs ≡ x ∷ drop (n + 1) xs
one_left xs n x h = drop_next xs n x h ∙ ap (λ m. x ∷ drop m xs) (sym (add-one n))

-- the first of what is left, where it is the one that is looked for
pub found_here : {X : Type 0} (p : X → Bool) (xs : List X) (i : ℕ) (x : X) → find p (drop i xs) ≡ find p xs → slice_get xs i ≡ Some x → p x ≡ true → slice_get xs i ≡ find p xs
found_here p xs i x same here hit =
    here ∙ ap (λ b. cond b (Some x) (find p (drop (i + 1) xs))) (sym hit) ∙ ap (find p) (sym (one_left xs i x here)) ∙ same
