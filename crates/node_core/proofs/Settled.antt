-- Whether an id is settled, by the index of ids.
use Rattle.std.proofs.Common.{Bool, IfSome, List, None, Option, Some, [], ap, arith, cond, false, find, length, refl, subst, sym, true, ◌+◌, ◌||◌, ◌∙◌, ◌≡◌, ◌≤◌, ◌∷◌, ℕ}
use Rattle.std.proofs.lemmas.Bool.Decides.{nat_tests}
use Rattle.std.proofs.lemmas.Option.{none-some}
use Rattle.std.specs.List.{list_any}
use Rattle.std.specs.Option.{option_map, option_or}
use Rattle.std.specs.Prelude.{nat_le}
use Rattle.std.specs.Str.{bytes_eq}
use Rattle.block_work.proofs.Grown.{results_length}
use Rattle.block_work.specs.Ids.{HasFirstPlaces, first_among, first_in, place_of_id}
use Rattle.node_core.proofs.Journal.{facts}
use Rattle.node_core.specs.Kept.{IsNode, IsWorkingOn, Kept, number_of_work, outcomes_of, shown_work, up_to, world_in}
use Rattle.node_core.specs.declared.delivered_block.DeliveredBlock.{DeliveredBlock}
use Rattle.node_model.specs.Events.{has_told, settled_in}
use Rattle.node_model.specs.Fold.{no_digest}
use Rattle.node_model.specs.History.{SealedBlock, ids_told}
use Rattle.node_model.specs.declared.result.Told.{Told}
use Rattle.proc_syntax.specs.Declaring.{tables_of}
use Rattle.rel_base.specs.declared.access.Place.{Place}
use Rattle.schedule_laws.specs.Facts.{AreCounted}

-- ---- how many are sealed

pub height_is : (kept : Kept) → IsNode kept → length kept.results ≡ length (world_in kept).sealed
height_is kept node = ap length node.holds.results ∙ results_length (tables_of kept.app) no_digest (world_in kept).sealed

-- ---- the first place of an id

abbrev block_of : Option Place → Option ℕ
block_of found = option_map (λ (place : Place). place.block) found

among_is : (number pos : ℕ) (outcomes : List Told) (id : List ℕ) → block_of (first_among number pos outcomes id) ≡ cond (list_any (bytes_eq id) (ids_told outcomes)) (Some number) None
among_is number pos [] id = refl
among_is number pos (told ∷ rest) id = by (bytes_eq id told.id) (among_is number (pos + 1) rest id)
  where
    by : (b : Bool) → block_of (first_among number (pos + 1) rest id) ≡ cond (list_any (bytes_eq id) (ids_told rest)) (Some number) None
        → block_of (cond b (Some (record { block = number; pos = pos })) (first_among number (pos + 1) rest id)) ≡ cond (b || list_any (bytes_eq id) (ids_told rest)) (Some number) None
    by true more = refl
    by false more = more

first_is : (id : List ℕ) (sealed : List SealedBlock) → block_of (first_in sealed id) ≡ settled_in id sealed
first_is id [] = refl
first_is id (block ∷ rest) = by (first_among block.number 1 block.outcomes id) (has_told id block) (among_is block.number 1 block.outcomes id) (first_is id rest)
  where
    by : (found : Option Place) (b : Bool) → block_of found ≡ cond b (Some block.number) None → block_of (first_in rest id) ≡ settled_in id rest
        → block_of (option_or found (first_in rest id)) ≡ option_map (λ (block : SealedBlock). block.number) (cond b (Some block) (find (has_told id) rest))
    by None true is more = absurd (none-some block.number is)
    by None false is more = more
    by (Some place) true is more = is
    by (Some place) false is more = absurd (none-some place.block (sym is))

abbrev IsBelow : ℕ → Option Place → Type 0
IsBelow number found = IfSome found (λ place. place.block + 1 ≤ number)

among_below : (number pos high : ℕ) (outcomes : List Told) (id : List ℕ) → number + 1 ≤ high → IsBelow high (first_among number pos outcomes id)
among_below number pos high [] id low = tt
among_below number pos high (told ∷ rest) id low = by (bytes_eq id told.id) (among_below number (pos + 1) high rest id low)
  where
    by : (b : Bool) → IsBelow high (first_among number (pos + 1) rest id) → IsBelow high (cond b (Some (record { block = number; pos = pos })) (first_among number (pos + 1) rest id))
    by true more = low
    by false more = more

first_below : (number high : ℕ) (sealed : List SealedBlock) (id : List ℕ) → AreCounted number sealed → number + length sealed ≤ high → IsBelow high (first_in sealed id)
first_below number high [] id counted low = tt
first_below number high (block ∷ rest) id counted low =
    let at = counted.0 in
    by (first_among block.number 1 block.outcomes id) (among_below block.number 1 high block.outcomes id (omega (arith, at, low))) (first_below (number + 1) high rest id counted.1 (omega (arith, low)))
  where
    by : (found : Option Place) → IsBelow high found → IsBelow high (first_in rest id) → IsBelow high (option_or found (first_in rest id))
    by None below more = more
    by (Some place) below more = below

-- a place above a height, if any
abbrev IsAbove : ℕ → Option Place → Type 0
IsAbove height found = IfSome found (λ place. height + 1 ≤ place.block)

among_above : (number pos height : ℕ) (outcomes : List Told) (id : List ℕ) → height + 1 ≤ number → IsAbove height (first_among number pos outcomes id)
among_above number pos height [] id high = tt
among_above number pos height (told ∷ rest) id high = by (bytes_eq id told.id) (among_above number (pos + 1) height rest id high)
  where
    by : (b : Bool) → IsAbove height (first_among number (pos + 1) rest id) → IsAbove height (cond b (Some (record { block = number; pos = pos })) (first_among number (pos + 1) rest id))
    by true more = high
    by false more = more

upto_or : (height : ℕ) (had got : Option Place) → IsBelow (height + 1) had → IsAbove height got → up_to height (option_or had got) ≡ block_of had
upto_or height None None below above = refl
upto_or height None (Some place) below above = let differs : nat_le place.block height ≡ false = grind (arith, nat_tests) in ap (λ b. cond b (Some place.block) None) differs
upto_or height (Some place) got below above = let within : nat_le place.block height ≡ true = grind (arith, nat_tests) in ap (λ b. cond b (Some place.block) None) within

-- ---- of a node

-- ---- the block in work

module _ (kept : Kept) (node : IsNode kept) (working : DeliveredBlock) (here : kept.work ≡ Some working) where
  pub inside : (world_in kept).work ≡ Some (shown_work working)
  inside = sym node.work ∙ ap (option_map shown_work) here

  pub works_on : IsWorkingOn (tables_of kept.app) working
  works_on = subst (λ (w : Option DeliveredBlock). IfSome w (IsWorkingOn (tables_of kept.app))) here node.working

  -- ids have their first places in the chain and in the block
  pub first_places : HasFirstPlaces kept.ids (world_in kept).sealed working.done.number working.done.outcomes.items
  first_places = subst (λ (w : Option DeliveredBlock). HasFirstPlaces kept.ids (world_in kept).sealed (number_of_work w) (outcomes_of w)) here node.ids

  -- it is the next
  pub number_next : working.done.number ≡ length (world_in kept).sealed + 1
  number_next = works_on.number ∙ ((facts kept node).work_fits (shown_work working) inside).next

-- ---- what is settled

pub settled_is : (kept : Kept) (node : IsNode kept) (height : ℕ) (id : List ℕ) → height ≡ length kept.results → up_to height (place_of_id kept.ids id) ≡ settled_in id (world_in kept).sealed
settled_is kept node height id at =
    let so : height ≡ length (world_in kept).sealed = at ∙ height_is kept node in
    ap (up_to height) (node.ids id)
    ∙ upto_or height (first_in (world_in kept).sealed id) (first_among (number_of_work kept.work) 1 (outcomes_of kept.work) id)
    (first_below 1 (height + 1) (world_in kept).sealed id (facts kept node).counted (omega (arith, so)))
    (by kept.work refl so)
    ∙ first_is id (world_in kept).sealed
  where
    by : (work : Option DeliveredBlock) → kept.work ≡ work → height ≡ length (world_in kept).sealed → IsAbove height (first_among (number_of_work work) 1 (outcomes_of work) id)
    by None here so = tt
    by (Some working) here so = let next = number_next kept node working here in among_above working.done.number 1 height working.done.outcomes.items id (omega (arith, next, so))
