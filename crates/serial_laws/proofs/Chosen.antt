-- What is found first among the lists of so many members does not stand after any other that passes.
use Rattle.std.proofs.Common.{ap, arith, false, inl, inr, length, refl, subst, suc, sym, true, zero, Bool, List, None, Option, Some, [], ◌&&◌, ◌<◌, ◌∙◌, ◌∷◌, ◌≡◌, ◌≤◌, ⊎_elim, ℕ}
use Rattle.node_model.specs.Paths.{IsLeastPath, IsPathAmong, is_not_after, is_path, least_path, least_path_upto, lists}
use Rattle.rel_base.proofs.Bits.{no_both, or_left, or_right, both_true}
use Rattle.rw_graph.proofs.Different.{AreMembers, are_members, length_of}
use Rattle.rw_graph.proofs.Firsts.{any_in, first_of, found_in, is_some_find}
use Rattle.rw_graph.proofs.Lists.{In, Pairs, contains_from, each_at, pairs_from}
use Rattle.rw_graph.proofs.Ways.{find_lists}
use Rattle.serial_order.proofs.Each.{all_from}
use Rattle.serial_laws.proofs.Listed.{found_at, listed, members_from, no_path, none_at}
use Rattle.std.proofs.lemmas.Bool.{cases_lt, eq-eqb, lt-ltb}
use Rattle.std.specs.Bool.{nat_eq, nat_lt}
use Rattle.std.specs.Option.{option_map, option_or}
use Rattle.std.specs.Prelude.{AllPairs, Contains, MatchOption, find, is_some}

module _ {M : Type 0} (pos : M → ℕ) (edge : M → M → Bool) (out into : M → Bool) where
  abbrev not_after : List M → List M → Bool
  not_after = is_not_after pos edge out into

  -- the answer along some members: each with what is found after it
  ahead : (all : List M) (found : M → Option (List M)) (members : List M) → Pairs (λ one other. pos one < pos other) members
      → (list : List M) → first_of (λ first. option_map (λ rest. first ∷ rest) (found first)) members ≡ Some list
      → (first : M) (rest : List M) → In first members → is_some (found first) ≡ true → ((tail : List M) → found first ≡ Some tail → not_after tail rest ≡ true)
      → not_after list (first ∷ rest) ≡ true
  ahead all found [] rising list is first rest h some after = absurd h
  ahead all found (one ∷ others) rising list is first rest h some after = by_found (found one) refl (λ e k. ahead all found others rising.1 list e first rest k some after)
    where
      by_found : (o : Option (List M)) → found one ≡ o
          → (first_of (λ first. option_map (λ rest. first ∷ rest) (found first)) others ≡ Some list → In first others → not_after list (first ∷ rest) ≡ true)
          → not_after list (first ∷ rest) ≡ true
      by_found None e further =
          let later : first_of (λ first. option_map (λ rest. first ∷ rest) (found first)) others ≡ Some list =
          sym (ap (λ o. option_or (option_map (λ rest. one ∷ rest) o) (first_of (λ first. option_map (λ rest. first ∷ rest) (found first)) others)) e) ∙ is in
          ⊎_elim
          (λ same. absurd (no_both false (sym (ap is_some (sym (ap found same) ∙ e)) ∙ some) refl))
          (λ k. further later k)
          h
      by_found (Some tail) e further =
          let answer : Some (one ∷ tail) ≡ Some list =
          sym (ap (λ o. option_or (option_map (λ rest. one ∷ rest) o) (first_of (λ first. option_map (λ rest. first ∷ rest) (found first)) others)) e) ∙ is in
          let it : one ∷ tail ≡ list = cc in
          subst (λ l. not_after l (first ∷ rest) ≡ true) it (⊎_elim
          (λ same. or_right (nat_lt (pos one) (pos first)) (nat_eq (pos one) (pos first) && not_after tail rest)
          (both_true (nat_eq (pos one) (pos first)) (not_after tail rest) (eq-eqb (pos one) (pos first) (ap pos same)) (after tail (sym (ap found same) ∙ e))))
          (λ k. or_left (nat_lt (pos one) (pos first)) (nat_eq (pos one) (pos first) && not_after tail rest) (lt-ltb (pos one) (pos first) (each_at (λ other. pos one < pos other) others rising.0 first k)))
          h)

  module _ (members : List M) (rising : Pairs (λ one other. pos one < pos other) members) where
    pub first_found : (test : List M → Bool) (list other : List M) → find test (lists pos edge out into members (length other)) ≡ Some list → AreMembers pos edge out into members other → test other ≡ true → not_after list other ≡ true
    first_found test list [] is inside passes = let h = (found_in test (lists pos edge out into members 0) list is).0 in ⊎_elim (λ e. subst (λ l. not_after l [] ≡ true) e refl) (λ k. absurd k) h
    first_found test list (first ∷ rest) is inside passes =
        ahead members (λ first. find (λ rest. test (first ∷ rest)) (lists pos edge out into members (length rest))) members rising list
        (sym (find_lists pos edge out into members test (length rest)) ∙ is) first rest (inside first (inl refl))
        (is_some_find (λ rest. test (first ∷ rest)) (lists pos edge out into members (length rest))
        ∙ any_in (λ rest. test (first ∷ rest)) (lists pos edge out into members (length rest)) rest (listed pos edge out into members rest (λ m h. inside m (inr h))) passes)
        (λ tail found. first_found (λ rest. test (first ∷ rest)) tail rest found (λ m h. inside m (inr h)) passes)

    -- the first path is found among the lists of its length, where there is none among shorter ones
    pub record Found (number : ℕ) (path : List M) : Type 0 where
      pub size : ℕ
      pub at : find (is_path pos edge out into) (lists pos edge out into members (suc size)) ≡ Some path
      pub none : least_path_upto pos edge out into members size ≡ None

    pub found_upto : (number : ℕ) (path : List M) → least_path_upto pos edge out into members number ≡ Some path → Found number path
    found_upto zero path e = cc
    found_upto (suc number) path e = by_first (least_path_upto pos edge out into members number) refl (λ before. found_upto number path before)
      where
        by_first : (o : Option (List M)) → least_path_upto pos edge out into members number ≡ o → (least_path_upto pos edge out into members number ≡ Some path → Found number path) → Found (suc number) path
        by_first None is earlier = record {
          size = number;
          at = sym (ap (λ o. option_or o (find (is_path pos edge out into) (lists pos edge out into members (suc number)))) is) ∙ e;
          none = is;
        }
        by_first (Some list) is earlier =
            let f = earlier (is ∙ (sym (ap (λ o. option_or o (find (is_path pos edge out into) (lists pos edge out into members (suc number)))) is) ∙ e)) in
            record { size = f.size; at = f.at; none = f.none }

    least : (path : List M) → least_path pos edge out into members ≡ Some path → IsLeastPath pos edge out into members path
    least path e =
        let f = found_upto (length members) path e in
        let h = found_in (is_path pos edge out into) (lists pos edge out into members (suc f.size)) path f.at in
        let size = length_of pos edge out into members (suc f.size) path h.0 in
        record {
          among = (all_from (Contains members) path (λ m k. contains_from members m (are_members pos edge out into members (suc f.size) path h.0 m k)), h.1);
          shortest = λ other way. at_least f.size f.none other size way;
          first = λ other way same. first_found (is_path pos edge out into) path other
              (ap (λ n. find (is_path pos edge out into) (lists pos edge out into members n)) (same ∙ size) ∙ f.at)
              (members_from pos edge out into members other way.0) way.1;
        }
      where
        at_least : (number : ℕ) → least_path_upto pos edge out into members number ≡ None → (other : List M) → length path ≡ suc number → IsPathAmong pos edge out into members other → length path ≤ length other
        at_least number none [] size way = absurd (no_both false way.1 refl)
        at_least number none (first ∷ rest) size way = ⊎_elim
            (λ short. absurd (no_both false (sym (ap is_some (none_at pos edge out into members number none (length rest) short)) ∙ found_at pos edge out into members (first ∷ rest) (members_from pos edge out into members (first ∷ rest) way.0) way.1) refl))
            (λ long. omega (arith, size, long))
            (cases_lt (length rest) number)

-- where there is a least path it is one of least length, and of these the least by position; where there is none, there is no path
pub least_is_least : {M : Type 0} (pos : M → ℕ) (edge : M → M → Bool) (out into : M → Bool) (members : List M) → AllPairs (λ earlier later. pos earlier < pos later) members
    → MatchOption (least_path pos edge out into members) ((list : List M) → IsPathAmong pos edge out into members list → ⊥) (IsLeastPath pos edge out into members)
least_is_least pos edge out into members rising = by_answer (least_path pos edge out into members) refl
  where
    by_answer : (o : Option (List _)) → least_path pos edge out into members ≡ o → MatchOption o ((list : List _) → IsPathAmong pos edge out into members list → ⊥) (IsLeastPath pos edge out into members)
    by_answer None is = λ list way. no_path pos edge out into members is list (members_from pos edge out into members list way.0) way.1
    by_answer (Some path) is = least pos edge out into members (pairs_from (λ one other. pos one < pos other) members rising) path is
