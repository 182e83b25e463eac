-- A list that leads back to T can be shortened until its members are different, so one of least length has different ones.
use Rattle.std.proofs.Common.{ap, arith, inl, inr, length, map, refl, subst, suc, sym, true, zero, Bool, List, [], ◌&&◌, ◌<◌, ◌∙◌, ◌∷◌, ◌≡◌, ◌⊎◌, ⊎_elim, ℕ}
use Rattle.node_model.specs.Paths.{are_different, closes, is_path, leads_back, lists}
use Rattle.rel_base.proofs.Bits.{both_true, first_true, no_both, second_true}
use Rattle.rw_graph.proofs.Firsts.{all_not, any_in, by_bool, find_same, in_flat, in_map, some_in}
use Rattle.rw_graph.proofs.Lists.{In}
use Rattle.rw_graph.proofs.Ways.{AreBeyond, reaches, within_from}
use Rattle.rw_graph.specs.Levels.{is_within}
use Rattle.std.proofs.lemmas.Bool.{eqb-true}
use Rattle.std.specs.Bool.{nat_eq}
use Rattle.std.specs.List.{list_any}
use Rattle.std.specs.Prelude.{find}

module _ {M : Type 0} (pos : M → ℕ) (edge : M → M → Bool) (out into : M → Bool) (members : List M) where
  abbrev pub AreMembers : List M → Type 0
  AreMembers list = (member : M) → In member list → In member members

  -- the lists of so many members are lists of so many members
  pub length_of : (number : ℕ) (list : List M) → In list (lists pos edge out into members number) → length list ≡ number
  length_of zero list (inl e) = ap length (sym e)
  length_of zero list (inr h) = absurd h
  length_of (suc number) list h =
      let first = in_flat (λ first. map (λ rest. first ∷ rest) (lists pos edge out into members number)) members list h in
      let rest = in_map (λ rest. first.0 ∷ rest) (lists pos edge out into members number) list first.2 in
      let more = length_of number rest.0 rest.1 in
      let e = ap length rest.2 in
      omega (arith, more, e)

  pub are_members : (number : ℕ) (list : List M) → In list (lists pos edge out into members number) → AreMembers list
  are_members zero list (inl e) = subst AreMembers e (λ member h. absurd h)
  are_members zero list (inr h) = absurd h
  are_members (suc number) list h =
      let first = in_flat (λ first. map (λ rest. first ∷ rest) (lists pos edge out into members number)) members list h in
      let rest = in_map (λ rest. first.0 ∷ rest) (lists pos edge out into members number) list first.2 in
      let more = are_members number rest.0 rest.1 in
      subst AreMembers rest.2 (λ member k. ⊎_elim (λ e. subst (λ m. In m members) e first.1) (λ l. more member l) k)

  -- a list that leads back from a member reaches T over as many
  pub reaches_by : (member : M) (rest : List M) → AreMembers rest → leads_back pos edge out into member rest ≡ true → reaches pos edge out into members (length rest) member ≡ true
  unfolding reaches
  reaches_by member [] inside e = e
  reaches_by member (next ∷ rest) inside e =
      let more = reaches_by next rest (λ m h. inside m (inr h)) (second_true (edge member next) (leads_back pos edge out into next rest) e) in
      any_in (λ other. edge member other && reaches pos edge out into members (length rest) other) members next (inside next (inl refl))
      (both_true (edge member next) (reaches pos edge out into members (length rest) next) (first_true (edge member next) (leads_back pos edge out into next rest) e) more)

  -- a list of different members that leads back from a member, not longer than another, of members of that one
  pub record Short (member : M) (rest : List M) : Type 0 where
    pub tail : List M
    pub back : leads_back pos edge out into member tail ≡ true
    pub different : are_different pos edge out into (member ∷ tail) ≡ true
    pub inside : (other : M) → In other tail → In other rest
    pub short : (tail ≡ rest) ⊎ (length tail < length rest)

  -- what follows a member that is on a list
  pub record After (member : M) (list : List M) : Type 0 where
    pub tail : List M
    pub back : leads_back pos edge out into member tail ≡ true
    pub different : are_different pos edge out into (member ∷ tail) ≡ true
    pub inside : (other : M) → In other tail → In other list
    pub short : length tail < length list

  after : (first : M) (rest : List M) → leads_back pos edge out into first rest ≡ true → are_different pos edge out into (first ∷ rest) ≡ true → (member : M) → In member (first ∷ rest) → After member (first ∷ rest)
  after first rest back different member (inl e) = record {
    tail = rest;
    back = subst (λ m. leads_back pos edge out into m rest ≡ true) e back;
    different = subst (λ m. are_different pos edge out into (m ∷ rest) ≡ true) e different;
    inside = λ other h. inr h;
    short = omega arith;
  }
  after first [] back different member (inr h) = absurd h
  after first (next ∷ rest) back different member (inr h) =
      let a = after next rest (second_true (edge first next) (leads_back pos edge out into next rest) back) (second_true _ (are_different pos edge out into (next ∷ rest)) different) member h in
      let less = a.short in
      record { tail = a.tail; back = a.back; different = a.different; inside = λ other k. inr (a.inside other k); short = omega (arith, less) }

  module _ (same : (one other : M) → In one members → In other members → pos one ≡ pos other → one ≡ other) where
    pub shorten : (member : M) (rest : List M) → In member members → AreMembers rest → leads_back pos edge out into member rest ≡ true → Short member rest
    shorten member [] h inside back = record { tail = []; back = back; different = refl; inside = λ other k. k; short = inl refl }
    shorten member (next ∷ more) h inside back = by_cases (shorten next more (inside next (inl refl)) (λ m k. inside m (inr k)) (second_true (edge member next) (leads_back pos edge out into next more) back))
      where
        at_most : (tail short : List M) → (short ≡ more) ⊎ (length short < length more) → length tail < length (next ∷ short) → length tail < length (next ∷ more)
        at_most tail short (inl e) low = let l = ap length e in omega (arith, low, l)
        at_most tail short (inr less) low = omega (arith, low, less)

        longer : (tail : List M) → length tail < length more → length (next ∷ tail) < length (next ∷ more)
        longer tail less = omega (arith, less)

        by_cases : Short next more → Short member (next ∷ more)
        by_cases s = by_bool (list_any (λ other. nat_eq (pos member) (pos other)) (next ∷ s.tail))
            (λ found.
            let other = some_in (λ other. nat_eq (pos member) (pos other)) (next ∷ s.tail) found in
            let is : In other.0 (next ∷ more) = ⊎_elim (λ e. inl e) (λ k. inr (s.inside other.0 k)) other.1 in
            let a = after next s.tail s.back s.different other.0 other.1 in
            let e = same other.0 member (inside other.0 is) h (sym (eqb-true (pos member) (pos other.0) other.2)) in
            record {
              tail = a.tail;
              back = subst (λ m. leads_back pos edge out into m a.tail ≡ true) e a.back;
              different = subst (λ m. are_different pos edge out into (m ∷ a.tail) ≡ true) e a.different;
              inside = λ m k. ⊎_elim (λ e. inl e) (λ l. inr (s.inside m l)) (a.inside m k);
              short = inr (at_most a.tail s.tail s.short a.short);
            })
            (λ none. record {
              tail = next ∷ s.tail;
              back = both_true (edge member next) (leads_back pos edge out into next s.tail) (first_true (edge member next) (leads_back pos edge out into next more) back) s.back;
              different = both_true _ (are_different pos edge out into (next ∷ s.tail)) (all_not (λ other. nat_eq (pos member) (pos other)) (next ∷ s.tail) none) s.different;
              inside = λ m k. ⊎_elim (λ e. inl e) (λ l. inr (s.inside m l)) k;
              short = ⊎_elim (λ e. inl (ap (λ l. next ∷ l) e)) (λ less. inr (longer s.tail less)) s.short;
            })

    -- of the lists of least length each that closes is a path
    pub different_if_least : (number : ℕ) → AreBeyond pos edge out into members number out → (list : List M) → In list (lists pos edge out into members (suc number)) → closes pos edge out into list ≡ true → are_different pos edge out into list ≡ true
    different_if_least number beyond [] h e = refl
    different_if_least number beyond (first ∷ rest) h e =
        let inside = are_members (suc number) (first ∷ rest) h in
        let size = length_of (suc number) (first ∷ rest) h in
        let s = shorten first rest (inside first (inl refl)) (λ m k. inside m (inr k)) (second_true (out first) (leads_back pos edge out into first rest) e) in
        ⊎_elim
        (λ is. subst (λ l. are_different pos edge out into (first ∷ l) ≡ true) is s.different)
        (λ less.
        let reach = reaches_by first s.tail (λ m k. inside m (inr (s.inside m k))) s.back in
        absurd (no_both (is_within edge into members number first)
        (within_from pos edge out into members (length s.tail) number first (omega (arith, less, size)) reach)
        (beyond first (inside first (inl refl)) (first_true (out first) (leads_back pos edge out into first rest) e))))
        s.short

    pub paths_are_closed : (number : ℕ) → AreBeyond pos edge out into members number out
        → find (is_path pos edge out into) (lists pos edge out into members (suc number)) ≡ find (closes pos edge out into) (lists pos edge out into members (suc number))
    paths_are_closed number beyond = find_same (is_path pos edge out into) (closes pos edge out into) (lists pos edge out into members (suc number)) (λ list h. by_bool (closes pos edge out into list)
        (λ closed. both_true (closes pos edge out into list) (are_different pos edge out into list) closed (different_if_least number beyond list h closed) ∙ sym closed)
        (λ fails. ap (λ b. b && are_different pos edge out into list) fails ∙ sym fails))
