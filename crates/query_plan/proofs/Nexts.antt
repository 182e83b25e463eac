-- Tallies that are brought to one tuple more place by place.
use Rattle.std.proofs.Common.{◌≡◌, ◌+◌, ℕ, zero, suc, List, [], ◌∷◌, Some, None, refl, sym, ap, ◌∙◌, arith, slice_get, slice_set}
use Rattle.rel_base.specs.declared.access.Seen.{Seen}
use Rattle.query_plan.specs.Tallies.{next_at, next_tallies, next_tally}
use Rattle.query_plan.specs.declared.tally.Tally.{Tally}
use Rattle.query_plan.specs.declared.select.Item.{Item}

module _ (tuple : List Seen) where
  -- a tally is put in its place
  pub next_put : (item : Item) (n : ℕ) (tallies : List Tally) (tally next : Tally) → slice_get tallies n ≡ Some tally → next ≡ next_tally tuple tally item → slice_set tallies n next ≡ next_at tuple item n tallies
  next_put item n [] tally next there is = absurd cc
  next_put item zero (t ∷ tallies) tally next there is = let same : t ≡ tally = cc in ap (λ u. u ∷ tallies) is ∙ ap (λ u. next_tally tuple u item ∷ tallies) (sym same)
  next_put item (suc n) (t ∷ tallies) tally next there is = ap (λ ts. t ∷ ts) (next_put item n tallies tally next there is)

  -- or stays, where it is the same with one tuple more
  pub next_same : (item : Item) (n : ℕ) (tallies : List Tally) (tally : Tally) → slice_get tallies n ≡ Some tally → tally ≡ next_tally tuple tally item → tallies ≡ next_at tuple item n tallies
  next_same item n [] tally there is = refl
  next_same item zero (t ∷ tallies) tally there is = let same : t ≡ tally = cc in ap (λ u. u ∷ tallies) (same ∙ is ∙ ap (λ u. next_tally tuple u item) (sym same))
  next_same item (suc n) (t ∷ tallies) tally there is = ap (λ ts. t ∷ ts) (next_same item n tallies tally there is)

  pub next_none : (item : Item) (n : ℕ) (tallies : List Tally) → slice_get tallies n ≡ None → tallies ≡ next_at tuple item n tallies
  next_none item n [] none = refl
  next_none item zero (t ∷ tallies) none = absurd cc
  next_none item (suc n) (t ∷ tallies) none = ap (λ ts. t ∷ ts) (next_none item n tallies none)

  -- the places of some items, from a number on
  abbrev pub nexts_from : ℕ → List Item → List Tally → List Tally
  nexts_from n [] tallies = tallies
  nexts_from n (item ∷ items) tallies = nexts_from (n + 1) items (next_at tuple item n tallies)

  none_left : (n : ℕ) (items : List Item) → nexts_from n items [] ≡ []
  none_left n [] = refl
  none_left n (item ∷ items) = none_left (n + 1) items

  past : (n : ℕ) (items : List Item) (t : Tally) (tallies : List Tally) → nexts_from (suc n) items (t ∷ tallies) ≡ t ∷ nexts_from n items tallies
  past n [] t tallies = refl
  past n (item ∷ items) t tallies =
      let later : suc n + 1 ≡ suc (n + 1) = omega arith in
      ap (λ k. nexts_from k items (t ∷ next_at tuple item n tallies)) later ∙ past (n + 1) items t (next_at tuple item n tallies)

  -- from the first on they are all brought on
  pub all_next : (items : List Item) (tallies : List Tally) → nexts_from 0 items tallies ≡ next_tallies tuple tallies items
  all_next [] [] = refl
  all_next (item ∷ items) [] = none_left 1 items
  all_next [] (t ∷ tallies) = refl
  all_next (item ∷ items) (t ∷ tallies) = past 0 items (next_tally tuple t item) tallies ∙ ap (λ ts. next_tally tuple t item ∷ ts) (all_next items tallies)
