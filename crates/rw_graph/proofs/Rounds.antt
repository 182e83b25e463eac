-- One round of the search after another: what was seen, the level that was found last, and the next.
use Rattle.std.proofs.Common.{ap, arith, false, length, not, refl, subst, suc, sym, true, Bool, List, None, [], ◌&&◌, ◌++◌, ◌+◌, ◌<◌, ◌||◌, ◌∙◌, ◌∷◌, ◌≡◌, ℕ}
use Rattle.node_model.specs.Paths.{least_path}
use Rattle.rel_base.proofs.Bits.{and_false, both_true, first_true, no_both, or_false, or_left, second_true}
use Rattle.rw_graph.proofs.Below.{in_among}
use Rattle.rw_graph.proofs.Least.{least_is_first_way, no_path_if_stable}
use Rattle.rw_graph.proofs.Lists.{none_of}
use Rattle.rw_graph.proofs.Tables.{one_longer, table_more, table_none}
use Rattle.rw_graph.proofs.Ways.{and_or, any_or, no_path_upto}
use Rattle.rw_graph.specs.Held.{holds}
use Rattle.rw_graph.specs.Levels.{first_way, is_within}
use Rattle.rw_graph.specs.Sets.{AreAmong}
use Rattle.rw_graph.specs.Table.{IsTable}
use Rattle.rw_graph.specs.declared.bits.Bits.{Bits}
use Rattle.std.specs.List.{list_any}

put_back : (a b : Bool) → ((a && not b) || b) ≡ (a || b)
put_back true true = refl
put_back true false = refl
put_back false b = refl

turned_or : (i a b : Bool) → (i || (a || b)) ≡ (a || (i || b))
turned_or true true b = refl
turned_or true false b = refl
turned_or false a b = refl

module _ (has : ℕ → ℕ → Bool) (out into : ℕ → Bool) (positions : List ℕ) where
  abbrev within : ℕ → ℕ → Bool
  within = is_within has into positions

  pub first_level : (pos : ℕ) → (into pos || false) ≡ within 1 pos
  first_level pos = ap (λ b. into pos || b) (sym (none_of (λ next. has pos next && false) positions (λ next h. and_false (has pos next))))

  -- the next level and what was seen are what is within one more
  pub level_next : (round : ℕ) (seen level seen' level' : ℕ → Bool)
      → ((pos : ℕ) → seen pos ≡ within round pos)
      → ((pos : ℕ) → (level pos || seen pos) ≡ within (suc round) pos)
      → ((pos : ℕ) → seen' pos ≡ (level pos || seen pos))
      → ((pos : ℕ) → level' pos ≡ (list_any (λ to. has pos to && level to) positions && not (seen' pos)))
      → (pos : ℕ) → (level' pos || seen' pos) ≡ within (suc (suc round)) pos
  level_next round seen level seen' level' was both now next pos =
      ap (λ b. b || seen' pos) (next pos) ∙ put_back (list_any (λ to. has pos to && level to) positions) (seen' pos)
      ∙ ap (λ b. list_any (λ to. has pos to && level to) positions || b) (now pos ∙ both pos)
      ∙ sym (
      ap (λ b. into pos || b)
      (ap (λ p. list_any p positions) (λ i to. (ap (λ b. has pos to && b) (sym (both to) ∙ ap (λ b. level to || b) (was to)) ∙ and_or (has pos to) (level to) (within round to)) i)
      ∙ any_or (λ to. has pos to && level to) (λ to. has pos to && within round to) positions)
      ∙ turned_or (into pos) (list_any (λ to. has pos to && level to) positions) (list_any (λ to. has pos to && within round to) positions))

  -- T has no edge to what was seen, where it had none before and none to the level
  pub still_beyond : (seen level seen' : ℕ → Bool) → ((pos : ℕ) → out pos ≡ true → seen pos ≡ false) → ((pos : ℕ) → (out pos && level pos) ≡ false) → ((pos : ℕ) → seen' pos ≡ (level pos || seen pos))
      → (pos : ℕ) → out pos ≡ true → seen' pos ≡ false
  still_beyond seen level seen' before none now pos passes =
      now pos ∙ ap (λ b. level pos || b) (before pos passes) ∙ or_false (level pos) ∙ sym (ap (λ b. b && level pos) passes) ∙ none pos

  -- what a search knows before a round, of which there were some: the table has what is within each number so far; what was seen is within the
  -- number of rounds, and with the level within one more; T has no edge to what was seen
  pub record Round (table : List Bits) (round : ℕ) (seen level : Bits) : Type 0 where
    pub shows : IsTable has into positions table
    pub long : length table ≡ round
    pub was : (pos : ℕ) → holds seen pos ≡ is_within has into positions round pos
    pub both : (pos : ℕ) → (holds level pos || holds seen pos) ≡ is_within has into positions (suc round) pos
    pub beyond : (pos : ℕ) → out pos ≡ true → holds seen pos ≡ false

  pub round_first : (table : List Bits) (seen level : Bits) → table ≡ [] → ((pos : ℕ) → holds seen pos ≡ false) → ((pos : ℕ) → holds level pos ≡ into pos) → Round table 0 seen level
  round_first table seen level empty none is = record {
    shows = table_none has into positions table empty;
    long = ap length empty;
    was = none;
    both = λ pos. ap (λ b. holds level pos || b) (none pos) ∙ ap (λ b. b || false) (is pos) ∙ first_level pos;
    beyond = λ pos passes. none pos;
  }

  module _ (table : List Bits) (round : ℕ) (seen level : Bits) (known : Round table round seen level)
      (table' : List Bits) (seen' : Bits) (now : (pos : ℕ) → holds seen' pos ≡ (holds level pos || holds seen pos)) (pushed : table' ≡ table ++ seen' ∷ []) where
    longer : length table' ≡ suc round
    longer = ap length pushed ∙ one_longer table seen' ∙ ap suc known.long

    shown : IsTable has into positions table'
    shown = subst (IsTable has into positions) (sym pushed)
        (table_more has into positions table seen' known.shows (λ pos. now pos ∙ known.both pos ∙ ap (λ n. is_within has into positions (suc n) pos) (sym known.long)))

    -- the level has a position to which T has an edge
    pub round_found : AreAmong positions out → round < length positions → (some : (pos : ℕ) × ((out pos && holds level pos) ≡ true))
        → IsTable has into positions table' × (first_way has into positions (length table') out ≡ least_path (λ pos. pos) has out into positions)
    round_found among low some =
        let passes = first_true (out some.0) (holds level some.0) some.1 in (
          shown,
          ap (λ n. first_way has into positions n out) longer ∙ sym (least_is_first_way (λ pos. pos) has out into positions (λ one other h k e. e) round low
              (λ member h leads. sym (known.was member) ∙ known.beyond member leads)
              some.0 (in_among positions some.0 (among some.0 passes))
              (both_true (out some.0) (is_within has into positions (suc round) some.0) passes
              (sym (known.both some.0) ∙ or_left (holds level some.0) (holds seen some.0) (second_true (out some.0) (holds level some.0) some.1)))),
        )

    -- it has none, and the search goes on with the next level
    pub round_next : ((pos : ℕ) → (out pos && holds level pos) ≡ false) → (level' : Bits)
        → ((pos : ℕ) → holds level' pos ≡ (list_any (λ to. has pos to && holds level to) positions && not (holds seen' pos))) → Round table' (round + 1) seen' level'
    round_next none level' next =
        let more : suc round ≡ round + 1 = omega arith in
        subst (λ n. Round table' n seen' level') more (record {
          shows = shown;
          long = longer;
          was = λ pos. now pos ∙ known.both pos;
          both = level_next round (holds seen) (holds level) (holds seen') (holds level') known.was known.both now next;
          beyond = still_beyond (holds seen) (holds level) (holds seen') known.beyond none now;
        })

  module _ (table : List Bits) (round : ℕ) (seen level : Bits) (known : Round table round seen level) where
    -- the level is empty
    pub round_empty : ((pos : ℕ) → holds level pos ≡ false) → least_path (λ pos. pos) has out into positions ≡ None
    round_empty none = no_path_if_stable (λ pos. pos) has out into positions round
        (λ member h within_more. sym (known.was member) ∙ ap (λ b. b || holds seen member) (sym (none member)) ∙ known.both member ∙ within_more)
        (λ member h passes. sym (known.was member) ∙ known.beyond member passes)

    -- there were as many rounds as positions
    pub rounds_over : round ≡ length positions → least_path (λ pos. pos) has out into positions ≡ None
    rounds_over over = no_path_upto (λ pos. pos) has out into positions (length positions)
        (λ member h passes. ap (λ n. is_within has into positions n member) (sym over) ∙ sym (known.was member) ∙ known.beyond member passes)

  -- T has no edge to another
  pub no_way_out : ((pos : ℕ) → out pos ≡ false) → least_path (λ pos. pos) has out into positions ≡ None
  no_way_out none = no_path_upto (λ pos. pos) has out into positions (length positions) (λ member h passes. absurd (no_both (out member) passes (none member)))
