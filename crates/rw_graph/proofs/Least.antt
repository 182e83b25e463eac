-- The least path, by what is within a number.
use Rattle.std.proofs.Common.{ap, arith, false, length, refl, suc, sym, true, zero, Bool, List, None, Option, Some, ◌&&◌, ◌<◌, ◌∙◌, ◌≡◌, ◌≤◌, ⊎_elim, ℕ}
use Rattle.node_model.specs.Paths.{closes, is_path, least_path, least_path_upto, lists}
use Rattle.rel_base.proofs.Bits.{both_true, either, first_true, not_true, no_both, or_left, or_right, second_true}
use Rattle.rw_graph.proofs.Different.{length_of, paths_are_closed}
use Rattle.rw_graph.proofs.Firsts.{any_in, found_in, some_in, some_or}
use Rattle.rw_graph.proofs.Lists.{In}
use Rattle.rw_graph.proofs.Ways.{AreBeyond, at_edge, no_path_upto, reaches, some_closes, way_found}
use Rattle.rw_graph.specs.Levels.{first_way, is_within}
use Rattle.std.proofs.lemmas.Bool.{cases_lt}
use Rattle.std.specs.List.{list_any}
use Rattle.std.specs.Option.{option_or}
use Rattle.std.specs.Prelude.{find, is_some}

module _ {M : Type 0} (pos : M → ℕ) (edge : M → M → Bool) (out into : M → Bool) (members : List M) where
  -- where one member more on the way reaches no further member, none does ever
  pub stays_within : (number : ℕ) → ((member : M) → In member members → is_within edge into members (suc number) member ≡ true → is_within edge into members number member ≡ true)
      → (more : ℕ) (member : M) → In member members → is_within edge into members more member ≡ true → is_within edge into members number member ≡ true
  stays_within number stable zero member h e = absurd (no_both false e refl)
  stays_within number stable (suc more) member h e = stable member h (⊎_elim
      (λ here. or_left (into member) (list_any (λ next. edge member next && is_within edge into members number next) members) here)
      (λ there.
      let next = some_in (λ next. edge member next && is_within edge into members more next) members there in
      let within = stays_within number stable more next.0 next.1 (second_true (edge member next.0) (is_within edge into members more next.0) next.2) in
      or_right (into member) (list_any (λ next. edge member next && is_within edge into members number next) members)
      (any_in (λ next. edge member next && is_within edge into members number next) members next.0 next.1
      (both_true (edge member next.0) (is_within edge into members number next.0) (first_true (edge member next.0) (is_within edge into members more next.0) next.2) within)))
      (either (into member) (list_any (λ next. edge member next && is_within edge into members more next) members) e))

  -- no path, where nothing more is reached and T has no edge to what is
  pub no_path_if_stable : (number : ℕ) → ((member : M) → In member members → is_within edge into members (suc number) member ≡ true → is_within edge into members number member ≡ true)
      → AreBeyond pos edge out into members number out → least_path pos edge out into members ≡ None
  no_path_if_stable number stable beyond = no_path_upto pos edge out into members (length members) (λ member h passes. not_true (is_within edge into members (length members) member) (λ within.
      no_both (is_within edge into members number member) (stays_within number stable (length members) member h within) (beyond member h passes)))

  -- a path that is found stays the answer
  kept : (number more : ℕ) → is_some (least_path_upto pos edge out into members number) ≡ true → number ≤ more → least_path_upto pos edge out into members more ≡ least_path_upto pos edge out into members number
  kept number zero found low = let none : number ≡ 0 = omega (arith, low) in ap (least_path_upto pos edge out into members) (sym none)
  kept number (suc more) found low = ⊎_elim
      (λ lower.
      let before = kept number more found (omega (arith, lower)) in
      ap (λ o. option_or o (find (is_path pos edge out into) (lists pos edge out into members (suc more)))) before
      ∙ some_or (least_path_upto pos edge out into members number) (find (is_path pos edge out into) (lists pos edge out into members (suc more))) found)
      (λ here. let same : suc more ≡ number = omega (arith, low, here) in ap (least_path_upto pos edge out into members) same)
      (cases_lt number (suc more))

  module _ (same : (one other : M) → In one members → In other members → pos one ≡ pos other → one ≡ other) where
    -- the least path is the first way, where T has an edge to what is within one number more for the first time
    pub least_is_first_way : (number : ℕ) → number < length members → AreBeyond pos edge out into members number out
        → (first : M) → In first members → (out first && is_within edge into members (suc number) first) ≡ true
        → least_path pos edge out into members ≡ first_way edge into members (suc number) out
    least_is_first_way number low beyond first h meets =
        let here : least_path_upto pos edge out into members (suc number) ≡ find (closes pos edge out into) (lists pos edge out into members (suc number)) =
        ap (λ o. option_or o (find (is_path pos edge out into) (lists pos edge out into members (suc number)))) (no_path_upto pos edge out into members number beyond) ∙ paths_are_closed pos edge out into members same number beyond in
        let found : is_some (least_path_upto pos edge out into members (suc number)) ≡ true =
        ap is_some here ∙ some_closes pos edge out into members number
        ∙ any_in (λ member. out member && reaches pos edge out into members number member) members first h (at_edge pos edge out into members number out beyond first h ∙ meets) in
        kept (suc number) (length members) found (omega (arith, low)) ∙ here ∙ way_found pos edge out into members number beyond

-- the least path has no more members than the lists that are tried
module _ {M : Type 0} (pos : M → ℕ) (edge : M → M → Bool) (out into : M → Bool) (members : List M) where
  abbrev tried : ℕ → Option (List M)
  tried number = find (is_path pos edge out into) (lists pos edge out into members (suc number))

  pub few_on_path : (number : ℕ) (path : List M) → least_path_upto pos edge out into members number ≡ Some path → length path ≤ number
  few_on_path zero path e = cc
  few_on_path (suc number) path e = by_first (least_path_upto pos edge out into members number) refl (few_on_path number path)
    where
      by_first : (o : Option (List M)) → least_path_upto pos edge out into members number ≡ o → (least_path_upto pos edge out into members number ≡ Some path → length path ≤ number)
          → length path ≤ suc number
      by_first None is earlier =
          let at : tried number ≡ Some path = sym (ap (λ o. option_or o (tried number)) is) ∙ e in
          let size = length_of pos edge out into members (suc number) path (found_in (is_path pos edge out into) (lists pos edge out into members (suc number)) path at).0 in
          omega (arith, size)
      by_first (Some list) is earlier =
          let less = earlier (is ∙ (sym (ap (λ o. option_or o (tried number)) is) ∙ e)) in
          omega (arith, less)
