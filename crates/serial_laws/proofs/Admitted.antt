-- Among admitted transactions no two edges in a row are in one of the two forms, or none closed a cycle; so their edges have none.
use Rattle.std.proofs.Common.{List, None, ap, append_assoc, arith, inl, inr, not, subst, sym, true, true≢false, false, ⊎_elim, [], ◌++◌, ◌<◌, ◌∙◌, ◌≡◌, ◌∷◌}
use Rattle.node_model.specs.Danger.{danger, is_form_one, is_form_two}
use Rattle.node_model.specs.Edges.{edge, touches}
use Rattle.node_model.specs.Order.{order}
use Rattle.node_model.specs.declared.result.Committed.{Committed}
use Rattle.rel_base.specs.declared.schema.TableDef.{TableDef}
use Rattle.rel_base.proofs.Bits.{both_true, first_true, second_true}
use Rattle.rw_graph.proofs.Cases.{not_true}
use Rattle.rw_graph.proofs.Firsts.{in_append}
use Rattle.rw_graph.proofs.Lists.{In, Pairs, each_at, pairs_from}
use Rattle.serial_laws.proofs.Acyclic.{HasNoForm, no_cycle}
use Rattle.serial_laws.proofs.Added.{CloseNoCycle, no_cycles}
use Rattle.serial_order.proofs.Placed.{serial}
use Rattle.serial_order.proofs.Searches.{map_none, or_none, pair_none}
use Rattle.serial_order.proofs.Sources.{sources_of}
use Rattle.serial_laws.specs.Decided.{AreAdmitted, MeetNoDanger}
use Rattle.serial_laws.specs.Laws.{EdgesHaveNoCycle, OrderIsSerial, PositionsAreListed, SetsHaveSources}
use Rattle.std.proofs.lemmas.Bool.{eq-eqb, le-leb, lt-ltb}
use Rattle.std.proofs.lemmas.List.Sorted.{IsPermutation-map}
use Rattle.std.specs.Bool.{nat_eq}

abbrev pub Rises : Committed → Committed → Type 0
Rises earlier later = earlier.pos < later.pos

module _ (tables : List TableDef) where
  -- those among which a transaction met no danger have all that stand before it
  record Before (set : List Committed) (next : Committed) : Type 0 where
    pub done : List Committed
    pub safe : danger false tables done next.reads next.writes ≡ None
    pub within : (x : Committed) → In x set → x.pos < next.pos → In x done

  before : (done rest : List Committed) → MeetNoDanger false tables done rest → Pairs Rises rest → (next : Committed) → In next rest → Before (done ++ rest) next
  before done [] safe rise next h = absurd h
  before done (first ∷ rest) safe rise next (inl e) =
      subst (Before (done ++ first ∷ rest)) e (record { done = done; safe = safe.0; within = λ x h below. ⊎_elim (λ k. k) (λ k. absurd (no_later x below k)) (in_append done (first ∷ rest) x h) })
    where
      no_later : (x : Committed) → x.pos < first.pos → In x (first ∷ rest) → ⊥
      no_later x below (inl same) = omega (arith, ap (λ (t : Committed). t.pos) same)
      no_later x below (inr k) = let up = each_at (Rises first) rest rise.0 x k in omega arith
  before done (first ∷ rest) safe rise next (inr h) = subst (λ l. Before l next) (append_assoc done (first ∷ []) rest) (before (done ++ first ∷ []) rest safe.1 rise.1 next h)

  module _ (committed : List Committed) (admitted : AreAdmitted false tables committed) where
    edge_touches : (x y : Committed) → edge tables x y ≡ true → touches tables x.reads y.writes ≡ true
    edge_touches x y e = second_true (not (nat_eq x.pos y.pos)) _ e

    at : (next : Committed) → In next committed → Before committed next
    at next h = before [] committed admitted.safe (pairs_from Rises committed admitted.rise) next h

    pub no_form : HasNoForm (λ done. done.pos) (edge tables) committed
    no_form = record {
      apart = λ x y e same. true≢false (sym (eq-eqb x.pos y.pos same) ∙ not_true _ (first_true (not (nat_eq x.pos y.pos)) _ e));
      one = λ t z x ht hz hx zt xt tz xz le. let b = at t ht in
          let none = or_none _ _ b.safe in
          true≢false (sym (both_true _ _ (edge_touches t z tz) (both_true _ _ (edge_touches x t xz) (le-leb _ _ le)))
          ∙ pair_none (is_form_one (λ done. done.pos) (edge tables) (λ done. touches tables t.reads done.writes) (λ done. touches tables done.reads t.writes)) b.done (map_none _ _ none.0) z x (b.within z hz zt) (b.within x hx xt));
      two = λ t y z ht hy hz yt zt ty yz lt. let b = at t ht in
          let none = or_none _ _ b.safe in
          true≢false (sym (both_true _ _ (edge_touches t y ty) (both_true _ _ yz (lt-ltb _ _ lt)))
          ∙ pair_none (is_form_two (λ done. done.pos) (edge tables) (λ done. touches tables t.reads done.writes) (λ done. touches tables done.reads t.writes)) b.done (map_none _ _ none.1) y z (b.within y hy yt) (b.within z hz zt));
    }

  -- with exact isolation each closed no cycle
  closed_none : (done rest : List Committed) → MeetNoDanger true tables done rest → CloseNoCycle (λ done. done.pos) (λ from to. touches tables from.reads to.writes) done rest
  closed_none done [] meet = tt
  closed_none done (next ∷ rest) meet = (map_none _ _ meet.0, closed_none (done ++ next ∷ []) rest meet.1)

pub edges_have_no_cycle : EdgesHaveNoCycle
edges_have_no_cycle true tables committed admitted =
    no_cycles (λ done. done.pos) (λ from to. touches tables from.reads to.writes) committed admitted.rise (closed_none tables [] committed admitted.safe)
edges_have_no_cycle false tables committed admitted = no_cycle (λ done. done.pos) (edge tables) committed (no_form tables committed admitted)

pub sets_have_sources : SetsHaveSources
sets_have_sources exact tables committed admitted = sources_of (edge tables) committed (edges_have_no_cycle exact tables committed admitted)

pub order_is_serial : OrderIsSerial
order_is_serial exact tables committed admitted = serial (edge tables) committed (sets_have_sources exact tables committed admitted)

pub positions_are_listed : PositionsAreListed
positions_are_listed exact tables committed admitted = IsPermutation-map (λ done. done.pos) committed (order (edge tables) committed) (order_is_serial exact tables committed admitted).permutation
