-- Lists that lead back to T, by the number of their members, and the first of them.
use Rattle.std.proofs.Common.{ap, arith, cond, false, map, refl, suc, sym, true, zero, Bool, List, None, Option, Some, [], ◌&&◌, ◌<◌, ◌||◌, ◌∙◌, ◌∷◌, ◌≡◌, ⊎_elim, ℕ}
use Rattle.node_model.specs.Paths.{are_different, closes, is_path, leads_back, least_path_upto, lists}
use Rattle.rel_base.proofs.Bits.{and_false, both_true, first_true, no_both, not_true, or_false, or_first, or_left, or_right, second_true}
use Rattle.rw_graph.proofs.Firsts.{any_in, by_bool, find_flat, find_mapped, find_same, find_where, first_found, first_of, found_in, is_some_find, is_some_first, is_some_map, none_in, not_some, some_in, then_same}
use Rattle.rw_graph.proofs.Lists.{In, none_of}
use Rattle.rw_graph.specs.Levels.{first_way, is_within}
use Rattle.std.proofs.lemmas.Bool.{cases_lt}
use Rattle.std.specs.List.{list_any}
use Rattle.std.specs.Option.{option_and_then, option_map, option_or}
use Rattle.std.specs.Prelude.{find, is_some}

pub and_or : (e a b : Bool) → (e && (a || b)) ≡ ((e && a) || (e && b))
and_or true a b = refl
and_or false a b = refl

or_moved : (i a b : Bool) → (i || (a || b)) ≡ ((i || a) || b)
or_moved true a b = refl
or_moved false a b = refl

or_crossed : (a b c d : Bool) → ((a || b) || (c || d)) ≡ ((a || c) || (b || d))
or_crossed true b c d = refl
or_crossed false true true d = refl
or_crossed false true false d = refl
or_crossed false false c d = refl

pub any_or : {X : Type 0} (p q : X → Bool) (xs : List X) → list_any (λ x. p x || q x) xs ≡ (list_any p xs || list_any q xs)
any_or p q [] = refl
any_or p q (x ∷ xs) = ap (λ b. (p x || q x) || b) (any_or p q xs) ∙ or_crossed (p x) (q x) (list_any p xs) (list_any q xs)

-- a test that passes wherever another does
any_wider : {X : Type 0} (p q : X → Bool) (xs : List X) → ((x : X) → In x xs → p x ≡ true → q x ≡ true) → list_any p xs ≡ true → list_any q xs ≡ true
any_wider p q xs wider e = let r = some_in p xs e in any_in q xs r.0 r.1 (wider r.0 r.1 r.2)

where_true : {X : Type 0} (b : Bool) (o : Option X) → is_some (cond b o None) ≡ (b && is_some o)
where_true true o = refl
where_true false o = refl

find_narrower : {X : Type 0} (p q : X → Bool) (xs : List X) → ((x : X) → q x ≡ false → p x ≡ false) → find q xs ≡ None → find p xs ≡ None
find_narrower p q xs narrower none = not_some (find p xs) (is_some_find p xs ∙ none_of p xs (λ x h. narrower x (none_in q xs (sym (is_some_find q xs) ∙ ap is_some none) x h)))

module _ {M : Type 0} (pos : M → ℕ) (edge : M → M → Bool) (out into : M → Bool) (members : List M) where
  -- T is reached from a member over exactly so many further members
  unfoldable pub reaches : ℕ → M → Bool
  reaches zero member = into member
  reaches (suc number) member = list_any (λ next. edge member next && reaches number next) members

  -- what is found among the lists of one member more
  pub find_lists : (test : List M → Bool) (number : ℕ)
      → find test (lists pos edge out into members (suc number)) ≡ first_of (λ first. option_map (λ rest. first ∷ rest) (find (λ rest. test (first ∷ rest)) (lists pos edge out into members number))) members
  find_lists test number = find_flat test (λ first. map (λ rest. first ∷ rest) (lists pos edge out into members number)) members
      ∙ ap (λ f. first_of f members) (λ i first. find_mapped test (λ rest. first ∷ rest) (lists pos edge out into members number) i)

  -- a list of so many members leads back from a member where T is reached over as many
  pub some_leads : (number : ℕ) (member : M) → is_some (find (leads_back pos edge out into member) (lists pos edge out into members number)) ≡ reaches number member
  unfolding reaches
  some_leads zero member = step (into member)
    where
      step : (b : Bool) → is_some {T = List M} (cond b (Some []) None) ≡ b
      step true = refl
      step false = refl
  some_leads (suc number) member =
      ap is_some (find_lists (leads_back pos edge out into member) number)
      ∙ is_some_first (λ first. option_map (λ rest. first ∷ rest) (find (λ rest. edge member first && leads_back pos edge out into first rest) (lists pos edge out into members number))) members
      ∙ ap (λ p. list_any p members) (λ i first. each first (some_leads number first) i)
    where
      each : (first : M) → is_some (find (leads_back pos edge out into first) (lists pos edge out into members number)) ≡ reaches number first → is_some (option_map (λ rest. first ∷ rest) (find (λ rest. edge member first && leads_back pos edge out into first rest) (lists pos edge out into members number)))
          ≡ (edge member first && reaches number first)
      each first known = is_some_map (λ rest. first ∷ rest) (find (λ rest. edge member first && leads_back pos edge out into first rest) (lists pos edge out into members number))
          ∙ ap is_some (find_where (leads_back pos edge out into first) (edge member first) (lists pos edge out into members number))
          ∙ where_true (edge member first) (find (leads_back pos edge out into first) (lists pos edge out into members number))
          ∙ ap (λ b. edge member first && b) known

  -- over at most one member more is over as many or over exactly one more
  pub within_more : (number : ℕ) (member : M) → is_within edge into members (suc number) member ≡ (is_within edge into members number member || reaches number member)
  unfolding reaches
  within_more zero member =
      ap (λ b. into member || b) (none_of (λ next. edge member next && false) members (λ next h. and_false (edge member next))) ∙ or_false (into member)
  within_more (suc number) member =
      ap (λ b. into member || b)
      (ap (λ p. list_any p members) (λ i next. (ap (λ b. edge member next && b) (within_more number next) ∙ and_or (edge member next) (is_within edge into members number next) (reaches number next)) i)
      ∙ any_or (λ next. edge member next && is_within edge into members number next) (λ next. edge member next && reaches number next) members)
      ∙ or_moved (into member) (list_any (λ next. edge member next && is_within edge into members number next) members) (list_any (λ next. edge member next && reaches number next) members)

  pub within_from : (less number : ℕ) (member : M) → less < number → reaches less member ≡ true → is_within edge into members number member ≡ true
  within_from less zero member low e = absurd (omega (arith, low))
  within_from less (suc number) member low e = within_more number member ∙ ⊎_elim
      (λ lower. or_left (is_within edge into members number member) (reaches number member) (within_from less number member lower e))
      (λ here. let same : less ≡ number = omega (arith, low, here) in or_right (is_within edge into members number member) (reaches number member) (ap (λ n. reaches n member) (sym same) ∙ e))
      (cases_lt less number)

  abbrev pub starts : (M → Bool) → List M → Bool
  starts from [] = false
  starts from (first ∷ rest) = from first && leads_back pos edge out into first rest

  -- the members that pass a test are not within a number
  abbrev pub AreBeyond : ℕ → (M → Bool) → Type 0
  AreBeyond number from = (member : M) → In member members → from member ≡ true → is_within edge into members number member ≡ false

  beyond_next : (number : ℕ) (member : M) → is_within edge into members (suc number) member ≡ false → AreBeyond number (edge member)
  beyond_next number member fails next h leads = not_true (is_within edge into members number next) (λ within. no_both (is_within edge into members (suc number) member)
      (or_right (into member) (list_any (λ next. edge member next && is_within edge into members number next) members)
      (any_in (λ next. edge member next && is_within edge into members number next) members next h (both_true (edge member next) (is_within edge into members number next) leads within)))
      fails)

  -- from members beyond a number, being within one more is reaching T over exactly as many
  pub at_edge : (number : ℕ) (from : M → Bool) → AreBeyond number from → (member : M) → In member members → (from member && reaches number member) ≡ (from member && is_within edge into members (suc number) member)
  at_edge number from beyond member h = by_bool (from member)
      (λ passes. ap (λ b. from member && b) (sym (within_more number member ∙ ap (λ b. b || reaches number member) (beyond member h passes))))
      (λ fails. ap (λ b. b && reaches number member) fails ∙ sym (ap (λ b. b && is_within edge into members (suc number) member) fails))

  abbrev led : (M → Bool) → ℕ → M → Option (List M)
  led from number first = option_map (λ rest. first ∷ rest) (find (λ rest. from first && leads_back pos edge out into first rest) (lists pos edge out into members number))

  some_led : (from : M → Bool) (number : ℕ) (first : M) → is_some (led from number first) ≡ (from first && reaches number first)
  some_led from number first = is_some_map (λ rest. first ∷ rest) (find (λ rest. from first && leads_back pos edge out into first rest) (lists pos edge out into members number))
      ∙ ap is_some (find_where (leads_back pos edge out into first) (from first) (lists pos edge out into members number))
      ∙ where_true (from first) (find (leads_back pos edge out into first) (lists pos edge out into members number))
      ∙ ap (λ b. from first && b) (some_leads number first)

  -- of the lists of so many members that lead back over a first member, the first, where what follows each first member is known
  way_by : (number : ℕ) (from : M → Bool) → AreBeyond number from
      → ((first : M) → In first members → from first ≡ true → reaches number first ≡ true → find (leads_back pos edge out into first) (lists pos edge out into members number) ≡ first_way edge into members number (edge first))
      → find (starts from) (lists pos edge out into members (suc number)) ≡ first_way edge into members (suc number) from
  way_by number from beyond after =
      find_lists (starts from) number
      ∙ first_found (led from number) members
      ∙ ap (λ p. option_and_then (led from number) (find p members)) (λ i first. some_led from number first i)
      ∙ then_same (led from number) (λ next. option_map (λ rest. next ∷ rest) (first_way edge into members number (edge next))) (find (λ first. from first && reaches number first) members)
      (λ first found. each first (found_in (λ first. from first && reaches number first) members first found))
      ∙ ap (option_and_then (λ next. option_map (λ rest. next ∷ rest) (first_way edge into members number (edge next))))
      (find_same (λ first. from first && reaches number first) (λ first. from first && is_within edge into members (suc number) first) members (at_edge number from beyond))
    where
      each : (first : M) → In first members × ((from first && reaches number first) ≡ true) → led from number first ≡ option_map (λ rest. first ∷ rest) (first_way edge into members number (edge first))
      each first (h, e) =
          let passes = first_true (from first) (reaches number first) e in
          ap (λ b. option_map (λ rest. first ∷ rest) (find (λ rest. b && leads_back pos edge out into first rest) (lists pos edge out into members number))) passes
          ∙ ap (option_map (λ rest. first ∷ rest)) (after first h passes (second_true (from first) (reaches number first) e))

  way_after : (number : ℕ) (first : M) → In first members → reaches number first ≡ true → is_within edge into members number first ≡ false
      → find (leads_back pos edge out into first) (lists pos edge out into members number) ≡ first_way edge into members number (edge first)
  unfolding reaches
  way_after zero first h e beyond = ap (λ b. cond b (Some []) None) e
  way_after (suc number) first h e beyond =
      find_lists (leads_back pos edge out into first) number ∙ sym (find_lists (starts (edge first)) number)
      ∙ way_by number (edge first) (beyond_next number first beyond) (λ next k leads reach. way_after number next k reach (beyond_next number first beyond next k leads))

  -- of the lists of least length the first is the way that takes the first member at each step
  pub way_found : (number : ℕ) → AreBeyond number out → find (closes pos edge out into) (lists pos edge out into members (suc number)) ≡ first_way edge into members (suc number) out
  way_found number beyond =
      find_lists (closes pos edge out into) number ∙ sym (find_lists (starts out) number)
      ∙ way_by number out beyond (λ first h passes reach. way_after number first h reach (beyond first h passes))

  -- whether some list of one member more closes
  pub some_closes : (number : ℕ) → is_some (find (closes pos edge out into) (lists pos edge out into members (suc number))) ≡ list_any (λ first. out first && reaches number first) members
  some_closes number =
      ap is_some (find_lists (closes pos edge out into) number) ∙ is_some_first (led out number) members ∙ ap (λ p. list_any p members) (λ i first. some_led out number first i)

  not_closed : (list : List M) → closes pos edge out into list ≡ false → is_path pos edge out into list ≡ false
  not_closed list fails = ap (λ b. b && are_different pos edge out into list) fails

  -- where T has edges to no member that is within a number, there is no path of so many
  pub no_path_upto : (number : ℕ) → AreBeyond number out → least_path_upto pos edge out into members number ≡ None
  no_path_upto zero beyond = refl
  no_path_upto (suc number) beyond =
      ap (λ o. option_or o (find (is_path pos edge out into) (lists pos edge out into members (suc number))))
      (no_path_upto number (λ first h passes. or_first (is_within edge into members number first) (reaches number first) (sym (within_more number first) ∙ beyond first h passes)))
      ∙ find_narrower (is_path pos edge out into) (closes pos edge out into) (lists pos edge out into members (suc number)) not_closed
      (not_some (find (closes pos edge out into) (lists pos edge out into members (suc number)))
      (some_closes number ∙ none_of (λ first. out first && reaches number first) members (λ first h. not_true (out first && reaches number first) (λ both.
      no_both (is_within edge into members (suc number) first)
      (within_from number (suc number) first (omega arith) (second_true (out first) (reaches number first) both))
      (beyond first h (first_true (out first) (reaches number first) both))))))
