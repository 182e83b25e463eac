-- Edges by position are the edges of the transactions at the positions.
use Rattle.std.proofs.Common.{ap, arith, inl, inr, map, not, refl, subst, sym, Bool, List, None, Option, Some, true, false, cond, [], ◌++◌, ◌∷◌, ◌∙◌, ◌<◌, ◌≡◌, ◌&&◌, ◌||◌, ◌≢◌, ℕ, ⊎_elim}
use Rattle.std.specs.Bool.{nat_eq}
use Rattle.std.specs.List.{list_any}
use Rattle.std.specs.Option.{option_map}
use Rattle.std.specs.Prelude.{All}
use Rattle.std.proofs.lemmas.Bool.{eq-eqb}
use Rattle.std.proofs.lemmas.Bool.Decides.{eqb_tells}
use Rattle.std.proofs.lemmas.List.Elements.{recursion_from_All}
use Rattle.std.proofs.lemmas.List.Folds.{list_any-append}
use Rattle.std.proofs.lemmas.List.{map-id}
use Rattle.node_model.specs.Danger.{danger_by}
use Rattle.node_model.specs.Edges.{comes_from, edge, edge_at, leads_to, touches}
use Rattle.node_model.specs.Paths.{least_path}
use Rattle.node_model.specs.declared.danger.Danger.TheVariants.{Cycle}
use Rattle.node_model.specs.declared.result.Committed.{Committed}
use Rattle.rel_base.specs.declared.access.Made.{Made}
use Rattle.rel_base.specs.declared.access.Write.{Write}
use Rattle.rel_base.specs.declared.schema.TableDef.{TableDef}
use Rattle.rel_base.proofs.Bits.{and_false, or_false, or_true}
use Rattle.rw_graph.proofs.Alike.{danger_alike}
use Rattle.rw_graph.proofs.Lists.{In, Pairs, each_at, none_of, pairs_from}
use Rattle.rw_graph.proofs.PathsAlike.{least_alike}
use Rattle.rw_graph.specs.Graph.{with_position}
use Rattle.rw_graph.specs.Laws.{DangerByPosition, EdgesAreAmong, EdgesGrow, places}
use Rattle.rw_graph.specs.Sets.{AreAmong, is_among}

differs : (a b : ℕ) → a ≢ b → nat_eq a b ≡ false
differs a b apart = ⊎_elim (λ same. absurd (apart same.1)) (λ other. other.0) (eqb_tells a b)

any_same : {M : Type 0} (test other : M → Bool) (xs : List M) → ((x : M) → In x xs → test x ≡ other x) → list_any test xs ≡ list_any other xs
any_same test other [] same = refl
any_same test other (x ∷ xs) same = ap (λ b. b || list_any test xs) (same x (inl refl)) ∙ ap (λ b. other x || b) (any_same test other xs (λ y h. same y (inr h)))

-- what a test says at a position is what it says of the one transaction there
pub at_one : (committed : List Committed) → Pairs (λ earlier later. earlier.pos < later.pos) committed → (done : Committed) → In done committed → (test : Committed → Bool)
    → list_any (λ other. nat_eq other.pos done.pos && test other) committed ≡ test done
at_one [] rising done h test = absurd h
at_one (first ∷ rest) rising done (inl same) test = subst (λ d. list_any (λ other. nat_eq other.pos d.pos && test other) (first ∷ rest) ≡ test d) same
    (ap (λ b. (b && test first) || list_any (λ other. nat_eq other.pos first.pos && test other) rest) (eq-eqb first.pos first.pos refl)
    ∙ ap (λ b. test first || b) (none_of (λ other. nat_eq other.pos first.pos && test other) rest (λ other k.
    ap (λ b. b && test other) (differs other.pos first.pos (let low = each_at (λ later. first.pos < later.pos) rest rising.0 other k in λ same. omega (arith, low, same)))))
    ∙ or_false (test first))
at_one (first ∷ rest) rising done (inr h) test =
    ap (λ b. (b && test first) || list_any (λ other. nat_eq other.pos done.pos && test other) rest)
    (differs first.pos done.pos (let low = each_at (λ later. first.pos < later.pos) rest rising.0 done h in λ same. omega (arith, low, same)))
    ∙ at_one rest rising.1 done h test

among_places : (test : Committed → Bool) (committed : List Committed) → AreAmong (places committed) (λ pos. list_any (λ done. nat_eq done.pos pos && test done) committed)
among_places test [] pos holds = holds
among_places test (first ∷ rest) pos holds = ⊎_elim
    (λ same. ap (λ b. b || is_among (places rest) pos) (eq-eqb pos first.pos (sym same.1)))
    (λ other. ap (λ b. nat_eq pos first.pos || b) (among_places test rest pos (sym (ap (λ b. (b && test first) || list_any (λ done. nat_eq done.pos pos && test done) rest) other.0) ∙ holds)) ∙ or_true (nat_eq pos first.pos))
    (eqb_tells first.pos pos)

pub are_among : EdgesAreAmong
are_among tables committed reads writes =
    (among_places (λ done. touches tables reads done.writes) committed, among_places (λ done. touches tables done.reads writes) committed)

module _ (tables : List TableDef) (committed : List Committed) (reads : List Made) (writes : List Write) (rising : Pairs (λ earlier later. earlier.pos < later.pos) committed) where
  abbrev out : Committed → Bool
  out done = touches tables reads done.writes

  abbrev into : Committed → Bool
  into done = touches tables done.reads writes

  between : (from : Committed) → In from committed → (to : Committed) → In to committed → edge_at tables committed from.pos to.pos ≡ edge tables from to
  between from h to k =
      at_one committed rising from h (λ first. list_any (λ second. nat_eq second.pos to.pos && edge tables first second) committed) ∙ at_one committed rising to k (edge tables from)

  outs : (done : Committed) → In done committed → leads_to tables committed reads done.pos ≡ out done
  outs done h = at_one committed rising done h out

  intos : (done : Committed) → In done committed → comes_from tables committed writes done.pos ≡ into done
  intos done h = at_one committed rising done h into

  -- a cycle by the positions themselves
  cycle_told : (found : Option (List Committed)) → option_map (λ path. Cycle (map (λ p. p) path)) (option_map (map (λ (done : Committed). done.pos)) found)
      ≡ option_map (λ path. Cycle (map (λ (done : Committed). done.pos) path)) found
  cycle_told None = refl
  cycle_told (Some path) = ap (λ list. Some (Cycle list)) (map-id (map (λ (done : Committed). done.pos) path))

  shown_by : (exact : Bool) → danger_by (λ p. p) (edge_at tables committed) (leads_to tables committed reads) (comes_from tables committed writes) exact (places committed)
      ≡ danger_by (λ done. done.pos) (edge tables) out into exact committed
  shown_by false = danger_alike (λ done. done.pos) (edge tables) out into (edge_at tables committed) (leads_to tables committed reads) (comes_from tables committed writes) committed between outs intos
  shown_by true =
      ap (option_map (λ path. Cycle (map (λ p. p) path)))
      (least_alike (λ done. done.pos) (edge tables) out into committed (edge_at tables committed) (leads_to tables committed reads) (comes_from tables committed writes) between outs intos)
      ∙ cycle_told (least_path (λ done. done.pos) (edge tables) out into committed)

pub danger_shown : DangerByPosition
danger_shown exact tables committed reads writes rising =
    shown_by tables committed reads writes (pairs_from (λ earlier later. earlier.pos < later.pos) committed rising) exact

module _ (tables : List TableDef) (committed : List Committed) (done : Committed) (above : All (λ earlier. earlier.pos < done.pos) committed) where
  below : (other : Committed) → In other committed → other.pos < done.pos
  below = each_at (λ earlier. earlier.pos < done.pos) committed (recursion_from_All (λ earlier. earlier.pos < done.pos) committed above)

  beside : (other : Committed) → In other committed → nat_eq other.pos done.pos ≡ false
  beside other h = differs other.pos done.pos (let low = below other h in λ same. omega (arith, low, same))

  turned_beside : (other : Committed) → In other committed → nat_eq done.pos other.pos ≡ false
  turned_beside other h = differs done.pos other.pos (let low = below other h in λ same. omega (arith, low, same))

  -- the edges of one to those at a position, with the new one
  abbrev to_each : List Committed → Committed → ℕ → Bool
  to_each list first to = list_any (λ second. nat_eq second.pos to && edge tables first second) list

  split_to : (first : Committed) (to : ℕ) → to_each (committed ++ done ∷ []) first to ≡ (to_each committed first to || (nat_eq done.pos to && edge tables first done))
  split_to first to = list_any-append (λ second. nat_eq second.pos to && edge tables first second) committed (done ∷ []) ∙ ap (λ b. to_each committed first to || b) (or_false (nat_eq done.pos to && edge tables first done))

  split_from : (from to : ℕ) → edge_at tables (committed ++ done ∷ []) from to
      ≡ (list_any (λ first. nat_eq first.pos from && to_each (committed ++ done ∷ []) first to) committed || (nat_eq done.pos from && to_each (committed ++ done ∷ []) done to))
  split_from from to = list_any-append (λ first. nat_eq first.pos from && to_each (committed ++ done ∷ []) first to) committed (done ∷ [])
      ∙ ap (λ b. list_any (λ first. nat_eq first.pos from && to_each (committed ++ done ∷ []) first to) committed || b) (or_false (nat_eq done.pos from && to_each (committed ++ done ∷ []) done to))

  -- the new one has its edges to the others
  own_out : (to : ℕ) → to_each (committed ++ done ∷ []) done to ≡ leads_to tables committed done.reads to
  own_out to = split_to done to
      ∙ ap (λ b. to_each committed done to || (nat_eq done.pos to && (not b && touches tables done.reads done.writes))) (eq-eqb done.pos done.pos refl)
      ∙ ap (λ b. to_each committed done to || b) (and_false (nat_eq done.pos to)) ∙ or_false (to_each committed done to)
      ∙ any_same (λ second. nat_eq second.pos to && edge tables done second) (λ second. nat_eq second.pos to && touches tables done.reads second.writes) committed
      (λ second h. ap (λ b. nat_eq second.pos to && (not b && touches tables done.reads second.writes)) (turned_beside second h))

  -- and the others have their edges to it
  own_into : (first : Committed) → In first committed → to_each (committed ++ done ∷ []) first done.pos ≡ touches tables first.reads done.writes
  own_into first h = split_to first done.pos
      ∙ ap (λ b. b || (nat_eq done.pos done.pos && edge tables first done)) (none_of (λ second. nat_eq second.pos done.pos && edge tables first second) committed (λ second k. ap (λ b. b && edge tables first second) (beside second k)))
      ∙ ap (λ b. b && edge tables first done) (eq-eqb done.pos done.pos refl)
      ∙ ap (λ b. not b && touches tables first.reads done.writes) (beside first h)

  at_other : (first : Committed) (to : ℕ) → nat_eq done.pos to ≡ false → to_each (committed ++ done ∷ []) first to ≡ to_each committed first to
  at_other first to apart = split_to first to ∙ ap (λ b. to_each committed first to || (b && edge tables first done)) apart ∙ or_false (to_each committed first to)

  none_from : (to : ℕ) → list_any (λ first. nat_eq first.pos done.pos && to_each (committed ++ done ∷ []) first to) committed ≡ false
  none_from to = none_of (λ first. nat_eq first.pos done.pos && to_each (committed ++ done ∷ []) first to) committed (λ first h. ap (λ b. b && to_each (committed ++ done ∷ []) first to) (beside first h))

  abbrev Goal : ℕ → ℕ → Type 0
  Goal from to = with_position (edge_at tables committed) done.pos (leads_to tables committed done.reads) (comes_from tables committed done.writes) from to ≡ edge_at tables (committed ++ done ∷ []) from to

  abbrev chosen : ℕ → ℕ → Bool → Bool → Bool
  chosen from to a b = cond a (leads_to tables committed done.reads to) (cond b (comes_from tables committed done.writes from) (edge_at tables committed from to))

  from_own : (to : ℕ) → Goal done.pos to
  from_own to = ap (λ a. chosen done.pos to a (nat_eq to done.pos)) (eq-eqb done.pos done.pos refl) ∙ sym (
      split_from done.pos to ∙ ap (λ b. b || (nat_eq done.pos done.pos && to_each (committed ++ done ∷ []) done to)) (none_from to)
      ∙ ap (λ b. b && to_each (committed ++ done ∷ []) done to) (eq-eqb done.pos done.pos refl) ∙ own_out to)

  -- what is at other positions comes from the others
  from_others : (from to : ℕ) → nat_eq done.pos from ≡ false → edge_at tables (committed ++ done ∷ []) from to ≡ list_any (λ first. nat_eq first.pos from && to_each (committed ++ done ∷ []) first to) committed
  from_others from to apart = split_from from to
      ∙ ap (λ b. list_any (λ first. nat_eq first.pos from && to_each (committed ++ done ∷ []) first to) committed || (b && to_each (committed ++ done ∷ []) done to)) apart
      ∙ or_false (list_any (λ first. nat_eq first.pos from && to_each (committed ++ done ∷ []) first to) committed)

  to_own : (from : ℕ) → nat_eq from done.pos ≡ false → nat_eq done.pos from ≡ false → Goal from done.pos
  to_own from apart turned = ap (λ a. chosen from done.pos a (nat_eq done.pos done.pos)) apart ∙ ap (chosen from done.pos false) (eq-eqb done.pos done.pos refl) ∙ sym (
      from_others from done.pos turned
      ∙ any_same (λ first. nat_eq first.pos from && to_each (committed ++ done ∷ []) first done.pos) (λ first. nat_eq first.pos from && touches tables first.reads done.writes) committed
      (λ first h. ap (λ b. nat_eq first.pos from && b) (own_into first h)))

  others : (from to : ℕ) → nat_eq from done.pos ≡ false → nat_eq done.pos from ≡ false → nat_eq to done.pos ≡ false → nat_eq done.pos to ≡ false → Goal from to
  others from to apart turned apart' turned' = ap (λ a. chosen from to a (nat_eq to done.pos)) apart ∙ ap (chosen from to false) apart' ∙ sym (
      from_others from to turned
      ∙ any_same (λ first. nat_eq first.pos from && to_each (committed ++ done ∷ []) first to) (λ first. nat_eq first.pos from && to_each committed first to) committed
      (λ first h. ap (λ b. nat_eq first.pos from && b) (at_other first to turned')))

  by_cases : (from to : ℕ) → Goal from to
  by_cases from to = ⊎_elim
      (λ same. subst (λ f. Goal f to) (sym same.1) (from_own to))
      (λ apart. ⊎_elim
      (λ same. subst (Goal from) (sym same.1) (to_own from apart.0 (differs done.pos from (λ e. apart.1 (sym e)))))
      (λ apart'. others from to apart.0 (differs done.pos from (λ e. apart.1 (sym e))) apart'.0 (differs done.pos to (λ e. apart'.1 (sym e))))
      (eqb_tells to done.pos))
      (eqb_tells from done.pos)

pub grown : EdgesGrow
grown tables committed done above from to = by_cases tables committed done above from to
