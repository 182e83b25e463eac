-- Why exact isolation suffices: edges without a cycle stay without one, when a member is added through which no cycle leads.
use Rattle.std.proofs.Common.{ap, arith, inl, inr, not, refl, subst, sym, true, Bool, List, None, [], ◌++◌, ◌<◌, ◌∙◌, ◌∷◌, ◌≡◌, ◌⊎◌, ⊎_elim, ℕ}
use Rattle.node_model.specs.Paths.{leads_back, least_path}
use Rattle.rel_base.proofs.Bits.{both_true, first_true, no_both, second_true}
use Rattle.rw_graph.proofs.Cases.{not_true}
use Rattle.rw_graph.proofs.Down.{append_more, no_end}
use Rattle.rw_graph.proofs.Firsts.{in_append}
use Rattle.rw_graph.proofs.Lists.{In, Pairs, contains_from, each_at, in_from, pairs_from}
use Rattle.serial_order.proofs.Each.{all_at, all_from}
use Rattle.serial_laws.proofs.Listed.{left_in, none_closes}
use Rattle.serial_order.specs.Cycles.{HasNoCycle, IsPath}
use Rattle.std.proofs.lemmas.Bool.{eq-eqb}
use Rattle.std.specs.Bool.{nat_eq}
use Rattle.std.specs.Prelude.{AllPairs, Contains, ◌&&◌}

module _ {M : Type 0} (has : M → M → Bool) where
  pub record Split (first : M) (list : List M) (last middle : M) : Type 0 where
    pub before : List M
    pub after : List M
    pub there : IsPath has first before middle
    pub back : IsPath has middle after last
    pub inside : (one : M) → In one before ⊎ In one after → In one list

  -- a path is split at one of its members
  pub split : (first : M) (list : List M) (last middle : M) → IsPath has first list last → In middle list → Split first list last middle
  split first [] last middle path h = absurd h
  split first (next ∷ rest) last middle path (inl same) = record {
    before = [];
    after = rest;
    there = subst (λ m. has first m ≡ true) same path.0;
    back = subst (λ m. IsPath has m rest last) same path.1;
    inside = λ one k. ⊎_elim (λ l. absurd l) (λ l. inr l) k;
  }
  split first (next ∷ rest) last middle path (inr h) =
      let s = split next rest last middle path.1 h in
      record {
        before = next ∷ s.before;
        after = s.after;
        there = (path.0, s.there);
        back = s.back;
        inside = λ one k. ⊎_elim (λ l. ⊎_elim (λ e. inl e) (λ m. inr (s.inside one (inl m))) l) (λ l. inr (s.inside one (inr l))) k;
      }

  pub join : (first : M) (list : List M) (middle : M) (others : List M) (last : M) → IsPath has first list middle → IsPath has middle others last → IsPath has first (list ++ middle ∷ others) last
  join first [] middle others last there back = (there, back)
  join first (next ∷ rest) middle others last there back = (there.0, join next rest middle others last there.1 back)

module _ {M : Type 0} (pos : M → ℕ) (touches : M → M → Bool) where
  -- an edge leads between members at different positions, where the reads of one touch the writes of the other
  abbrev pub edge : M → M → Bool
  edge from to = not (nat_eq (pos from) (pos to)) && touches from to

  -- each closed no cycle with those before it, where some stand before the first
  abbrev pub CloseNoCycle : List M → List M → Type 0
  CloseNoCycle before [] = Unit {0}
  CloseNoCycle before (done ∷ rest) = (least_path pos edge (touches done) (λ other. touches other done) before ≡ None) × CloseNoCycle (before ++ done ∷ []) rest

  apart : (from to : M) → edge from to ≡ true → pos from ≡ pos to → ⊥
  apart from to leads same = no_both (nat_eq (pos from) (pos to)) (eq-eqb (pos from) (pos to) same) (not_true (nat_eq (pos from) (pos to)) (first_true (not (nat_eq (pos from) (pos to))) (touches from to) leads))

  touch : (from to : M) → edge from to ≡ true → touches from to ≡ true
  touch from to leads = second_true (not (nat_eq (pos from) (pos to))) (touches from to) leads

  module _ (members : List M) (done : M) where
    abbrev back_to : M → List M → Bool
    back_to = leads_back pos edge (touches done) (λ other. touches other done)

    -- a path to the new member leads back over the others, up to where it first comes to the new one
    closing : (first : M) (list : List M) → ((one : M) → In one list → In one members ⊎ (done ≡ one)) → IsPath edge first list done
        → (way : List M) × ((one : M) → In one way → In one members) × (back_to first way ≡ true)
    closing first [] each path = ([], λ one h. absurd h, touch first done path)
    closing first (next ∷ rest) each path = ⊎_elim
        (λ inside.
        let r = closing next rest (λ one h. each one (inr h)) path.1 in
        (next ∷ r.0, λ one h. ⊎_elim (λ e. subst (λ m. In m members) e inside) (λ k. r.1 one k) h, both_true (edge first next) (back_to next r.0) path.0 r.2))
        (λ same. ([], λ one h. absurd h, touch first done (subst (λ m. edge first m ≡ true) (sym same) path.0)))
        (each next (inl refl))

    module _ (unique : (one other : M) → In one members → In other members → pos one ≡ pos other → one ≡ other)
        (none : least_path pos edge (touches done) (λ other. touches other done) members ≡ None) where
      -- no cycle leads through the new member
      through : (list : List M) → ((one : M) → In one list → In one members ⊎ (done ≡ one)) → IsPath edge done list done → ⊥
      through [] each path = apart done done path refl
      through (next ∷ rest) each path = ⊎_elim
          (λ inside.
          let r = closing next rest (λ one h. each one (inr h)) path.1 in
          none_closes pos edge (touches done) (λ other. touches other done) members unique none next r.0
          (λ one h. ⊎_elim (λ e. subst (λ m. In m members) e inside) (λ k. r.1 one k) h)
          (both_true (touches done next) (back_to next r.0) (touch done next path.0) r.2))
          (λ same. apart done next path.0 (ap pos same))
          (each next (inl refl))

      -- either all of a list are of the others, or the new one is on it
      somewhere : (list : List M) → ((one : M) → In one list → In one members ⊎ (done ≡ one)) → ((one : M) → In one list → In one members) ⊎ In done list
      somewhere [] each = inl (λ one h. absurd h)
      somewhere (first ∷ rest) each = ⊎_elim
          (λ inside. ⊎_elim
          (λ all. inl (λ one h. ⊎_elim (λ e. subst (λ m. In m members) e inside) (λ k. all one k) h))
          (λ h. inr (inr h))
          (somewhere rest (λ one h. each one (inr h))))
          (λ same. inr (inl (sym same)))
          (each first (inl refl))

      pub no_cycle_more : HasNoCycle edge members → HasNoCycle edge (members ++ done ∷ [])
      no_cycle_more acyclic first others inside path =
          let each : (one : M) → In one (first ∷ others) → In one members ⊎ (done ≡ one) = λ one h.
          ⊎_elim (λ k. inl k) (λ k. ⊎_elim (λ e. inr e) (λ l. absurd l) k)
          (in_append members (done ∷ []) one (in_from (members ++ done ∷ []) one (all_at (Contains (members ++ done ∷ [])) (first ∷ others) inside one h))) in
          ⊎_elim
          (λ all. acyclic first others (all_from (Contains members) (first ∷ others) (λ one h. contains_from members one (all one h))) path)
          (λ on. ⊎_elim
          (λ same. through others (λ one h. each one (inr h)) (subst (λ m. IsPath edge m others m) same path))
          (λ h.
          let s = split edge first others first done path h in
          through (s.after ++ first ∷ s.before)
          (λ one k. ⊎_elim (λ l. each one (inr (s.inside one (inr l)))) (λ l. ⊎_elim (λ e. each one (inl e)) (λ m. each one (inr (s.inside one (inl m)))) l) (in_append s.after (first ∷ s.before) one k))
          (join edge done s.after first s.before done s.back s.there))
          on)
          (somewhere (first ∷ others) each)

  -- member by member
  pub no_cycle_all : (before rest all : List M) → before ++ rest ≡ all → ((one other : M) → In one all → In other all → pos one ≡ pos other → one ≡ other)
      → HasNoCycle edge before → CloseNoCycle before rest → HasNoCycle edge all
  no_cycle_all before [] all whole unique acyclic safe = subst (HasNoCycle (edge)) (sym (no_end before) ∙ whole) acyclic
  no_cycle_all before (done ∷ rest) all whole unique acyclic safe =
      let earlier : (one : M) → In one before → In one all = λ one h. subst (In one) whole (left_in before (done ∷ rest) one h) in
      no_cycle_all (before ++ done ∷ []) rest all (append_more before done rest ∙ whole) unique
      (no_cycle_more before done (λ one other h k same. unique one other (earlier one h) (earlier other k) same) safe.0 acyclic) safe.1

  by_position : (members : List M) → Pairs (λ earlier later. pos earlier < pos later) members → (one other : M) → In one members → In other members → pos one ≡ pos other → one ≡ other
  by_position [] rising one other h k same = absurd h
  by_position (first ∷ rest) rising one other (inl e) (inl e') same = sym e ∙ e'
  by_position (first ∷ rest) rising one other (inl e) (inr k) same =
      let low = each_at (λ later. pos first < pos later) rest rising.0 other k in let is = ap pos e in absurd (omega (arith, low, same, is))
  by_position (first ∷ rest) rising one other (inr h) (inl e) same =
      let low = each_at (λ later. pos first < pos later) rest rising.0 one h in let is = ap pos e in absurd (omega (arith, low, same, is))
  by_position (first ∷ rest) rising one other (inr h) (inr k) same = by_position rest rising.1 one other h k same

  pub no_cycles : (members : List M) → AllPairs (λ earlier later. pos earlier < pos later) members → CloseNoCycle [] members → HasNoCycle edge members
  no_cycles members rise safe = no_cycle_all [] members members refl (by_position members (pairs_from (λ earlier later. pos earlier < pos later) members rise))
      (λ first others inside path. in_from [] first (all_at (Contains []) (first ∷ others) inside first (inl refl)))
      safe
