-- The danger that is named is the least, by positions, with exact isolation and without.
use Rattle.std.proofs.Common.{Contains, List, MatchOption, None, Option, Some, [], arith, false, map, subst, sym, true, ◌<◌, ◌∙◌, ◌≡◌, ◌∷◌, ℕ}
use Rattle.serial_laws.proofs.LeastPositions.{IsFirstPair, NoneRelated, at_from, at_into, is_first_pair, least_pair, no_pair, one_at}
use Rattle.serial_laws.proofs.Chosen.{least_is_least}
use Rattle.serial_laws.specs.Dangers.{AreInFormOne, AreInFormTwo, HasNoDanger, IsLeastDanger}
use Rattle.serial_laws.specs.CauseLaws.{DangerIsLeast}
use Rattle.node_model.specs.Danger.{danger, first_pair, is_form_one, is_form_two}
use Rattle.node_model.specs.Edges.{StandByPosition, comes_from, edge, edge_at, leads_to, touches}
use Rattle.node_model.specs.Paths.{IsLeastPath, least_path}
use Rattle.node_model.specs.declared.danger.Danger.TheVariants.{Cycle, One, Two}
use Rattle.node_model.specs.declared.result.Committed.{Committed}
use Rattle.rel_base.proofs.Bits.{both_true, first_true, second_true}
use Rattle.rel_base.specs.declared.access.Made.{Made}
use Rattle.rel_base.specs.declared.access.Write.{Write}
use Rattle.rel_base.specs.declared.schema.TableDef.{TableDef}
use Rattle.rw_graph.proofs.Lists.{Pairs, pairs_from}
use Rattle.rw_graph.proofs.Shown.{danger_shown}
use Rattle.rw_graph.specs.Laws.{places}
use Rattle.serial_order.proofs.Taken.{all_pairs}
use Rattle.std.proofs.lemmas.Bool.{le-leb, leb-true, lt-ltb, ltb-true}
use Rattle.std.specs.Bool.{nat_eq}
use Rattle.std.proofs.lemmas.List.{map-id}
use Rattle.std.specs.List.{AllByRecursion, list_any}
use Rattle.std.specs.Option.{option_map, option_or}
use Rattle.std.specs.Prelude.{Bool, ◌&&◌}

abbrev place : Committed → ℕ
place done = done.pos

module _ (tables : List TableDef) (committed : List Committed) (reads : List Made) (writes : List Write) (rise : StandByPosition committed) where
  -- T has an edge to a member, and a member has one to T
  abbrev out : Committed → Bool
  out done = touches tables reads done.writes

  abbrev into : Committed → Bool
  into done = touches tables done.reads writes

  abbrev one : Committed → Committed → Bool
  one = is_form_one place (edge tables) out into

  abbrev two : Committed → Committed → Bool
  two = is_form_two place (edge tables) out into

  -- two members are in a form, and stand at two positions
  abbrev Members : (Committed → Committed → Bool) → ℕ → ℕ → Type 0
  Members form a b = (x : Committed) × (y : Committed) × Contains committed x × Contains committed y × (x.pos ≡ a) × (y.pos ≡ b) × (form x y ≡ true)

  one_from : (a b : ℕ) → AreInFormOne tables committed reads writes a b → Members one a b
  one_from a b are =
      let z = at_from place committed out a are.0 in
      let x = at_from place committed into b are.1 in
      let at_z = z.2 in
      let at_x = x.2 in
      (z.0, x.0, z.1, x.1, z.2, x.2, both_true (out z.0) _ z.3 (both_true (into x.0) _ x.3 (le-leb z.0.pos x.0.pos (omega (arith, at_z, at_x, are.2)))))

  one_into : (z x : Committed) → Contains committed z → Contains committed x → one z x ≡ true → AreInFormOne tables committed reads writes z.pos x.pos
  one_into z x in_z in_x form =
      let others = second_true (out z) _ form in
      (at_into place committed out z in_z (first_true _ _ form), at_into place committed into x in_x (first_true _ _ others), leb-true z.pos x.pos (second_true (into x) _ others))

  two_from : (a b : ℕ) → AreInFormTwo tables committed reads writes a b → Members two a b
  two_from a b are =
      let y = at_from place committed (λ first. list_any (λ second. nat_eq second.pos b && edge tables first second) committed) a are.1 in
      let z = at_from place committed (edge tables y.0) b y.3 in
      let t = at_from place committed out a are.0 in
      let at_y = y.2 in
      let at_z = z.2 in
      let leads = subst (λ x. out x ≡ true) (one_at place committed rise t.0 y.0 t.1 y.1 (t.2 ∙ sym y.2)) t.3 in
      (y.0, z.0, y.1, z.1, y.2, z.2, both_true (out y.0) _ leads (both_true (edge tables y.0 z.0) _ z.3 (lt-ltb z.0.pos y.0.pos (omega (arith, at_y, at_z, are.2)))))

  two_into : (y z : Committed) → Contains committed y → Contains committed z → two y z ≡ true → AreInFormTwo tables committed reads writes y.pos z.pos
  two_into y z in_y in_z form =
      let others = second_true (out y) _ form in (
        at_into place committed out y in_y (first_true _ _ form),
        at_into place committed (λ first. list_any (λ second. nat_eq second.pos z.pos && edge tables first second) committed) y in_y (at_into place committed (edge tables y) z in_z (first_true _ _ others)),
        ltb-true z.pos y.pos (second_true (edge tables y z) _ others),
      )

  by_forms : (first second : Option (Committed × Committed)) → MatchOption first (NoneRelated place committed one) (IsFirstPair place committed one)
      → MatchOption second (NoneRelated place committed two) (IsFirstPair place committed two)
      → MatchOption (option_or (option_map (λ pair. One pair.0.pos pair.1.pos) first) (option_map (λ pair. Two pair.0.pos pair.1.pos) second))
      (HasNoDanger tables committed reads writes false) (IsLeastDanger tables committed reads writes false)
  by_forms (Some pair) second is two_is = least_pair place committed one rise (AreInFormOne tables committed reads writes) one_from one_into pair is
  by_forms None (Some pair) none is = (
    no_pair place committed one rise (AreInFormOne tables committed reads writes) one_from one_into none,
    least_pair place committed two rise (AreInFormTwo tables committed reads writes) two_from two_into pair is,
  )
  by_forms None None none is = (
    no_pair place committed one rise (AreInFormOne tables committed reads writes) one_from one_into none,
    no_pair place committed two rise (AreInFormTwo tables committed reads writes) two_from two_into is,
  )

-- positions rise as their transactions do
upon_rise : (from : ℕ) (committed : List Committed) → AllByRecursion (λ (later : Committed). from < later.pos) committed → AllByRecursion (λ later. from < later) (places committed)
upon_rise from [] all = tt
upon_rise from (done ∷ rest) all = (all.0, upon_rise from rest all.1)

places_rise : (committed : List Committed) → Pairs (λ (earlier later : Committed). earlier.pos < later.pos) committed → Pairs (λ (earlier later : ℕ). earlier < later) (places committed)
places_rise [] rise = tt
places_rise (done ∷ rest) rise = (upon_rise done.pos rest rise.0, places_rise rest rise.1)

module _ (tables : List TableDef) (committed : List Committed) (reads : List Made) (writes : List Write) (rise : StandByPosition committed) where
  abbrev found_at : Option (List ℕ)
  found_at = least_path (λ pos. pos) (edge_at tables committed) (leads_to tables committed reads) (comes_from tables committed writes) (places committed)

  by_path : (found : Option (List ℕ))
      → MatchOption found (HasNoDanger tables committed reads writes true)
      (IsLeastPath (λ pos. pos) (edge_at tables committed) (leads_to tables committed reads) (comes_from tables committed writes) (places committed))
      → MatchOption (option_map (λ path. Cycle (map (λ pos. pos) path)) found) (HasNoDanger tables committed reads writes true) (IsLeastDanger tables committed reads writes true)
  by_path None none = none
  by_path (Some path) least = subst (λ path. IsLeastDanger tables committed reads writes true (Cycle path)) (sym (map-id path)) least

  cycle_is_least : MatchOption (danger true tables committed reads writes) (HasNoDanger tables committed reads writes true) (IsLeastDanger tables committed reads writes true)
  cycle_is_least =
      subst (λ found. MatchOption found (HasNoDanger tables committed reads writes true) (IsLeastDanger tables committed reads writes true))
      (danger_shown true tables committed reads writes rise)
      (by_path found_at (least_is_least (λ pos. pos) (edge_at tables committed) (leads_to tables committed reads) (comes_from tables committed writes) (places committed)
      (all_pairs (λ earlier later. earlier < later) (places committed) (places_rise committed (pairs_from (λ earlier later. earlier.pos < later.pos) committed rise)))))

pub danger_is_least : DangerIsLeast
danger_is_least true tables committed reads writes rise = cycle_is_least tables committed reads writes rise
danger_is_least false tables committed reads writes rise =
    by_forms tables committed reads writes rise (first_pair (one tables committed reads writes rise) committed) (first_pair (two tables committed reads writes rise) committed)
    (is_first_pair place committed (one tables committed reads writes rise) rise) (is_first_pair place committed (two tables committed reads writes rise) rise)
