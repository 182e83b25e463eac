-- What a search that finds nothing says.
use Rattle.std.proofs.Common.{Bool, List, None, Option, Some, cond, false, inl, inr, not, refl, subst, sym, true, true≢false, [], ◌&&◌, ◌||◌, ◌∙◌, ◌≡◌, ◌∷◌}
use Rattle.node_model.specs.Danger.{first_pair, with_partner}
use Rattle.rw_graph.proofs.Lists.{In}
use Rattle.std.specs.List.{list_all, list_any}
use Rattle.std.specs.Option.{option_map, option_or}
use Rattle.std.specs.Prelude.{find}
use Rattle.rel_base.proofs.Bits.{both_true}

-- by whether a test passes
pub by_bool : {P : Type 0} (b : Bool) → (b ≡ true → P) → (b ≡ false → P) → P
by_bool true passed failed = passed refl
by_bool false passed failed = failed refl

pub not_false : (b : Bool) → not b ≡ false → b ≡ true
not_false true e = refl
not_false false e = sym e

pub and_right : (a b : Bool) → a ≡ true → (a && b) ≡ false → b ≡ false
and_right true b p e = e
and_right false b p e = absurd (true≢false (sym p))

pub or_false : (a b : Bool) → (a || b) ≡ false → (a ≡ false) × (b ≡ false)
or_false true b e = absurd (true≢false e)
or_false false b e = (refl, e)

pub map_none : {X Y : Type 0} (f : X → Y) (o : Option X) → option_map f o ≡ None → o ≡ None
map_none f None e = refl
map_none f (Some x) e = cc

pub or_none : {X : Type 0} (a b : Option X) → option_or a b ≡ None → (a ≡ None) × (b ≡ None)
or_none None b e = (refl, e)
or_none (Some x) b e = cc

module _ {M : Type 0} where
  pub any_false : (p : M → Bool) (xs : List M) → list_any p xs ≡ false → (x : M) → In x xs → p x ≡ false
  any_false p [] e x h = absurd h
  any_false p (y ∷ ys) e x (inl same) = subst (λ z. p z ≡ false) same (or_false (p y) _ e).0
  any_false p (y ∷ ys) e x (inr h) = any_false p ys (or_false (p y) _ e).1 x h

  pub some_fails : (p : M → Bool) (xs : List M) → list_all p xs ≡ false → (x : M) × In x xs × (p x ≡ false)
  some_fails p [] e = absurd (true≢false e)
  some_fails p (x ∷ xs) e = by_bool (p x)
      (λ ok. let r = some_fails p xs (and_right (p x) _ ok e) in (r.0, inr r.1, r.2))
      (λ bad. (x, inl refl, bad))

  pub all_pass : (p : M → Bool) (xs : List M) → ((x : M) → In x xs → p x ≡ true) → list_all p xs ≡ true
  all_pass p [] f = refl
  all_pass p (x ∷ xs) f = both_true (p x) _ (f x (inl refl)) (all_pass p xs (λ y h. f y (inr h)))

  cond_none : (b : Bool) (x : M) (o : Option M) → cond b (Some x) o ≡ None → (b ≡ false) × (o ≡ None)
  cond_none true x o e = cc
  cond_none false x o e = (refl, e)

  find_none : (p : M → Bool) (xs : List M) → find p xs ≡ None → (x : M) → In x xs → p x ≡ false
  find_none p [] e x h = absurd h
  find_none p (y ∷ ys) e x (inl same) = subst (λ z. p z ≡ false) same (cond_none (p y) y (find p ys) e).0
  find_none p (y ∷ ys) e x (inr h) = find_none p ys (cond_none (p y) y (find p ys) e).1 x h

  find_passes : (p : M → Bool) (xs : List M) (found : M) → find p xs ≡ Some found → p found ≡ true
  find_passes p [] found e = cc
  find_passes p (y ∷ ys) found e = by_bool (p y)
      (λ passed. let first : cond true (Some y) (find p ys) ≡ Some found = subst (λ b. cond b (Some y) (find p ys) ≡ Some found) passed e in
      subst (λ z. p z ≡ true) (some_same y found first) passed)
      (λ failed. find_passes p ys found (subst (λ b. cond b (Some y) (find p ys) ≡ Some found) failed e))
    where
      some_same : (x z : M) → Some x ≡ Some z → x ≡ z
      some_same x z e = cc

  none_any : (p : M → Bool) (xs : List M) → ((x : M) → In x xs → p x ≡ false) → list_any p xs ≡ false
  none_any p [] f = refl
  none_any p (x ∷ xs) f = both_false (p x) _ (f x (inl refl)) (none_any p xs (λ y h. f y (inr h)))
    where
      both_false : (a b : Bool) → a ≡ false → b ≡ false → (a || b) ≡ false
      both_false true b p q = p
      both_false false b p q = q

  -- where there is no first pair, no two are related
  pub pair_none : (related : M → M → Bool) (members : List M) → first_pair related members ≡ None → (x y : M) → In x members → In y members → related x y ≡ false
  pair_none related members none x y h k = step (find (λ first. list_any (related first) members) members) refl none
    where
      step : (o : Option M) → find (λ first. list_any (related first) members) members ≡ o → with_partner related members o ≡ None → related x y ≡ false
      step None is none = any_false (related x) members (find_none (λ first. list_any (related first) members) members is x h) y k
      step (Some found) is none =
          absurd (true≢false (sym (find_passes (λ first. list_any (related first) members) members found is)
          ∙ none_any (related found) members (find_none (related found) members (map_none (λ second. (found, second)) (find (related found) members) none))))
