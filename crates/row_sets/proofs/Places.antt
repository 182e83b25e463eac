-- The places of keys among entries in order.
use Rattle.std.proofs.Common.{◌≡◌, ◌∙◌, ◌≤◌, ◌<◌, ◌+◌, ℕ, suc, List, [], ◌∷◌, Some, None, Ok, Err, arith, refl, cond, ap, sym, subst, length, T}
use Rattle.std.specs.Prelude.{slice_index_or, slice_set}
use Rattle.std.specs.List.{insert}
use Rattle.std.specs.Cmp.{IsTotalOrder}
use Rattle.std.specs.declared.cmp.Ordering.{Ordering}
use Rattle.std.specs.declared.cmp.Ordering.TheVariants.{Less, Equal, Greater}
use Rattle.std.specs.Ordering.{is_eq, is_lt}
use Rattle.std.specs.FinMap.Entries.{find, put, is_sorted, below_all, by_order}
use Rattle.rel_base.proofs.Bits.{both, first, second, is_Less}
use Rattle.row_sets.specs.Few.{place_in}
use Rattle.row_sets.proofs.Entries.{not_found}

module _ {K : Type 0} (R : K → K → Ordering) where
  -- a key stands at a place
  pub record StandsAt {X : Type 0} (key : K) (es : List (K × X)) (place : ℕ) : Type 0 where
    pub within : place < length es
    pub found : (d : K × X) → find R key es ≡ Some (slice_index_or es place d).1
    pub puts : (d : K × X) (v : X) → put R key v es ≡ slice_set es place ((slice_index_or es place d).0, v)

  -- a key does not stand there, and its place in the order is this one
  pub record BelongsAt {X : Type 0} (key : K) (es : List (K × X)) (place : ℕ) : Type 0 where
    pub within : place ≤ length es
    pub missing : find R key es ≡ None
    pub puts : (v : X) → put R key v es ≡ insert es place (key, v)

  module _ (total : IsTotalOrder R) where
    below_less : {X : Type 0} (k l : K) (es : List (K × X)) → R k l ≡ Less → T (below_all R l es) → T (below_all R k es)
    below_less k l [] less below = tt
    below_less k l (e ∷ es) less below =
        both _ _ (subst (λ o. T (is_lt o)) (sym (total.trans k l e.0 less (is_Less _ (first _ _ below)))) tt) (below_less k l es less (second (is_lt (R l e.0)) _ below))

    module _ {X : Type 0} (key : K) where
      found_from : (at : ℕ) (es : List (K × X)) (place : ℕ) → place_in R at key es ≡ Ok place → (i : ℕ) × (place ≡ at + i) × StandsAt key es i
      found_from at [] place is = cc
      found_from at (e ∷ es) place is =
          elim (R key e.0) as (λ o. R key e.0 ≡ o → by_order o (Err at) (Ok at) (place_in R (at + 1) key es) ≡ Ok place → (i : ℕ) × (place ≡ at + i) × StandsAt key (e ∷ es) i) [
            | Less ↦ λ less is. cc
            | Equal ↦ λ equal is.
                let same : at ≡ place = cc in (
                  0,
                  omega (arith, same),
                  record {
                    within = omega arith;
                    found = λ d. ap (λ o. cond (is_eq o) (Some e.1) (find R key es)) equal;
                    puts = λ d v. ap (λ o. by_order o ((key, v) ∷ e ∷ es) ((e.0, v) ∷ es) (e ∷ put R key v es)) equal;
                  },
                )
            | Greater ↦ λ greater is.
                let rest = found_from (at + 1) es place is in
                let there = rest.2 in
                let low = there.within in (
                  suc rest.0,
                  omega (arith, rest.1),
                  record {
                    within = omega (arith, low);
                    found = λ d. ap (λ o. cond (is_eq o) (Some e.1) (find R key es)) greater ∙ there.found d;
                    puts = λ d v. ap (λ o. by_order o ((key, v) ∷ e ∷ es) ((e.0, v) ∷ es) (e ∷ put R key v es)) greater ∙ ap (λ fs. e ∷ fs) (there.puts d v);
                  },
                )
          ] refl is

      missed_from : (at : ℕ) (es : List (K × X)) (place : ℕ) → T (is_sorted R es) → place_in R at key es ≡ Err place → (i : ℕ) × (place ≡ at + i) × BelongsAt key es i
      missed_from at [] place up is = let same : at ≡ place = cc in (0, omega (arith, same), record { within = omega arith; missing = refl; puts = λ v. refl })
      missed_from at (e ∷ es) place up is =
          elim (R key e.0) as (λ o. R key e.0 ≡ o → by_order o (Err at) (Ok at) (place_in R (at + 1) key es) ≡ Err place → (i : ℕ) × (place ≡ at + i) × BelongsAt key (e ∷ es) i) [
            | Less ↦ λ less is.
                let same : at ≡ place = cc in (
                  0,
                  omega (arith, same),
                  record {
                    within = omega arith;
                    missing = not_found R key (e ∷ es) (both _ _ (subst (λ o. T (is_lt o)) (sym less) tt) (below_less key e.0 es less (first _ _ up)));
                    puts = λ v. ap (λ o. by_order o ((key, v) ∷ e ∷ es) ((e.0, v) ∷ es) (e ∷ put R key v es)) less;
                  },
                )
            | Equal ↦ λ equal is. cc
            | Greater ↦ λ greater is.
                let rest = missed_from (at + 1) es place (second (below_all R e.0 es) _ up) is in
                let there = rest.2 in
                let low = there.within in (
                  suc rest.0,
                  omega (arith, rest.1),
                  record {
                    within = omega (arith, low);
                    missing = ap (λ o. cond (is_eq o) (Some e.1) (find R key es)) greater ∙ there.missing;
                    puts = λ v. ap (λ o. by_order o ((key, v) ∷ e ∷ es) ((e.0, v) ∷ es) (e ∷ put R key v es)) greater ∙ ap (λ fs. e ∷ fs) (there.puts v);
                  },
                )
          ] refl is

      pub found_at : (es : List (K × X)) (place : ℕ) → place_in R 0 key es ≡ Ok place → StandsAt key es place
      found_at es place is =
          let found = found_from 0 es place is in
          let same : found.0 ≡ place = omega (arith, found.1) in
          subst (StandsAt key es) same found.2

      pub missed_at : (es : List (K × X)) (place : ℕ) → T (is_sorted R es) → place_in R 0 key es ≡ Err place → BelongsAt key es place
      missed_at es place up is =
          let missed = missed_from 0 es place up is in
          let same : missed.0 ≡ place = omega (arith, missed.1) in
          subst (BelongsAt key es) same missed.2
