-- Members whose positions rise: the member at a position, and the first two that are related.
use Rattle.std.proofs.Common.{All, Bool, Contains, List, MatchOption, None, Option, Some, [], ap, arith, false, refl, subst, sym, true, ⊎_elim, ◌&&◌, ◌<◌, ◌∙◌, ◌≡◌, ◌≤◌, ◌∷◌, ℕ}
use Rattle.serial_laws.proofs.Finding.{IsFirst, find_first, head_or_tail, pairs_head, pairs_tail}
use Rattle.serial_laws.specs.Least.{IsLeastPair, NoPair}
use Rattle.node_model.specs.Danger.{first_pair, with_partner}
use Rattle.rel_base.proofs.Bits.{both_true, first_true, no_both, second_true}
use Rattle.std.proofs.lemmas.Bool.Decides.{Decides-eqb}
use Rattle.std.proofs.lemmas.Bool.{eq-eqb}
use Rattle.std.proofs.lemmas.List.Elements.{All-contains}
use Rattle.std.proofs.lemmas.List.Folds.{Any-from_list_any, list_any-from_Any}
use Rattle.std.specs.Bool.{nat_eq}
use Rattle.std.specs.List.{AllPairs, find, list_any}
use Rattle.std.specs.Option.{option_map}

module _ {M : Type 0} (pos : M → ℕ) where
  abbrev pub Earlier : M → M → Type 0
  Earlier x y = pos x < pos y

  abbrev pub NotLater : M → M → Type 0
  NotLater x y = pos x ≤ pos y

  pub earlier_is : (x y : M) → Earlier x y → NotLater x y
  earlier_is x y before = omega (arith, before)

  pub not_later_itself : (x : M) → NotLater x x
  not_later_itself x = omega arith

  abbrev pub IsFirstAt : (M → Bool) → List M → Option M → Type 0
  IsFirstAt test xs found = IsFirst Earlier NotLater earlier_is not_later_itself test xs found

  pub first_at : (test : M → Bool) (xs : List M) → AllPairs Earlier xs → IsFirstAt test xs (find test xs)
  first_at test xs rise = find_first Earlier NotLater earlier_is not_later_itself test xs rise

  -- there is one member at a position
  pub one_at : (xs : List M) → AllPairs Earlier xs → (x y : M) → Contains xs x → Contains xs y → pos x ≡ pos y → x ≡ y
  one_at [] rise x y (k, within, is) in_y same = absurd (omega (arith, within))
  one_at (z ∷ xs) rise x y in_x in_y same = ⊎_elim
      (λ x_is. ⊎_elim (λ y_is. sym x_is ∙ y_is) (λ later. absurd (above x y x_is later same)) (head_or_tail z y xs in_y))
      (λ x_later. ⊎_elim (λ y_is. absurd (above y x y_is x_later (sym same))) (λ y_later. one_at xs (pairs_tail Earlier z xs rise) x y x_later y_later same) (head_or_tail z y xs in_y))
      (head_or_tail z x xs in_x)
    where
      above : (first other : M) → z ≡ first → Contains xs other → pos first ≡ pos other → ⊥
      above first other is later level =
          let up = All-contains (Earlier z) xs other (pairs_head Earlier z xs rise) later in
          let here = ap pos is in
          omega (arith, up, here, level)

  module _ (members : List M) where
    -- some member at a position passes a test
    pub at_from : (test : M → Bool) (place : ℕ) → list_any (λ x. nat_eq (pos x) place && test x) members ≡ true → (x : M) × Contains members x × (pos x ≡ place) × (test x ≡ true)
    at_from test place some =
        let found = Any-from_list_any (λ x. nat_eq (pos x) place && test x) members some in
        (found.1, (found.0, found.2, found.3), (Decides-eqb (pos found.1) place).0 (first_true _ _ found.4), second_true (nat_eq (pos found.1) place) _ found.4)

    pub at_into : (test : M → Bool) (x : M) → Contains members x → test x ≡ true → list_any (λ y. nat_eq (pos y) (pos x) && test y) members ≡ true
    at_into test x inside passes =
        list_any-from_Any (λ y. nat_eq (pos y) (pos x) && test y) members (inside.0, x, inside.1, inside.2, both_true (nat_eq (pos x) (pos x)) (test x) (eq-eqb (pos x) (pos x) refl) passes)

    module _ (related : M → M → Bool) where
      abbrev pub NoneRelated : Type 0
      NoneRelated = (x y : M) → Contains members x → Contains members y → related x y ≡ true → ⊥

      -- the first member that is related to some, and the first to which it is
      pub record IsFirstPair (pair : M × M) : Type 0 where
        pub first_in : Contains members pair.0
        pub second_in : Contains members pair.1
        pub passes : related pair.0 pair.1 ≡ true
        pub first : (x y : M) → Contains members x → Contains members y → related x y ≡ true → pos pair.0 ≤ pos x
        pub second : (y : M) → Contains members y → related pair.0 y ≡ true → pos pair.1 ≤ pos y

      abbrev has : M → Bool
      has x = list_any (related x) members

      has_from : (x y : M) → Contains members y → related x y ≡ true → has x ≡ true
      has_from x y inside passes = list_any-from_Any (related x) members (inside.0, y, inside.1, inside.2, passes)

      module _ (rise : AllPairs Earlier members) where
        by_second : (x : M) → Contains members x → has x ≡ true → All (λ y. has y ≡ true → NotLater x y) members → (found : Option M) → IsFirstAt (related x) members found
            → MatchOption (option_map (λ y. (x, y)) found) NoneRelated IsFirstPair
        by_second x inside some least None none =
            let found = Any-from_list_any (related x) members some in
            absurd (no_both (related x found.1) found.4 (All-contains (λ y. related x y ≡ false) members found.1 none (found.0, found.2, found.3)))
        by_second x inside some least (Some y) first = record {
          first_in = inside;
          second_in = first.0;
          passes = first.1;
          first = λ u v in_u in_v passes. All-contains (λ z. has z ≡ true → NotLater x z) members u least in_u (has_from u v in_v passes);
          second = λ v in_v passes. All-contains (λ z. related x z ≡ true → NotLater y z) members v first.2 in_v passes;
        }

        by_first : (found : Option M) → IsFirstAt has members found → MatchOption (with_partner related members found) NoneRelated IsFirstPair
        by_first None none = λ x y in_x in_y passes. no_both (has x) (has_from x y in_y passes) (All-contains (λ x. has x ≡ false) members x none in_x)
        by_first (Some x) first = by_second x first.0 first.1 first.2 (find (related x) members) (first_at (related x) members rise)

        pub is_first_pair : MatchOption (first_pair related members) NoneRelated IsFirstPair
        is_first_pair = by_first (find has members) (first_at has members rise)

        -- what is so related, said of positions
        module _ (Related : ℕ → ℕ → Type 0)
            (from : (a b : ℕ) → Related a b → (x : M) × (y : M) × Contains members x × Contains members y × (pos x ≡ a) × (pos y ≡ b) × (related x y ≡ true))
            (into : (x y : M) → Contains members x → Contains members y → related x y ≡ true → Related (pos x) (pos y)) where
          pub no_pair : NoneRelated → NoPair Related
          no_pair none a b are = let f = from a b are in none f.0 f.1 f.2 f.3 f.6

          pub least_pair : (pair : M × M) → IsFirstPair pair → IsLeastPair (λ position other. position ≤ other) Related (pos pair.0) (pos pair.1)
          least_pair pair first = record {
            related = into pair.0 pair.1 first.first_in first.second_in first.passes;
            least_position = λ a b are. let f = from a b are in subst (λ n. pos pair.0 ≤ n) f.4 (first.first f.0 f.1 f.2 f.3 f.6);
            least_thing = λ b are.
                let f = from (pos pair.0) b are in
                subst (λ n. pos pair.1 ≤ n) f.5 (first.second f.1 f.3 (subst (λ x. related x f.1 ≡ true) (one_at members rise f.0 pair.0 f.2 first.first_in f.4) f.6));
          }
