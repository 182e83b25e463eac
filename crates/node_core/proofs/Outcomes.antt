-- The outcome at the place of an id is that of its first decided transaction.
use Rattle.std.proofs.Common.{Bool, List, None, Option, Some, [], ap, arith, cond, false, find, inl, inr, length, refl, slice_get, suc, sym, true, zero, ◌+◌, ◌++◌, ◌∙◌, ◌≡◌, ◌⊎◌, ◌∷◌, ℕ}
use Rattle.std.proofs.lemmas.List.Concat.{flat_map-cons}
use Rattle.std.proofs.lemmas.List.Folds.{find-append}
use Rattle.std.proofs.lemmas.Option.{slice_get_past}
use Rattle.std.specs.List.{flat_map}
use Rattle.std.specs.Option.{option_and_then, option_map, option_or}
use Rattle.std.specs.Prelude.{IfSome}
use Rattle.std.specs.Str.{bytes_eq}
use Rattle.block_work.proofs.Grown.{results_length}
use Rattle.block_work.specs.Ids.{first_among, first_in, place_of_id}
use Rattle.node_core.proofs.Journal.{facts}
use Rattle.node_core.proofs.Settled.{number_next}
use Rattle.node_core.specs.Finding.{item_at, outcome_by, outcomes_at, told_at}
use Rattle.node_core.specs.Kept.{IsNode, Kept, number_of_work, outcomes_of, shown_work, world_in}
use Rattle.node_core.specs.Looking.{first_outcome, told_in_work, told_of}
use Rattle.node_core.specs.declared.delivered_block.DeliveredBlock.{DeliveredBlock}
use Rattle.node_model.specs.Fold.{block_result, no_digest, results_from, results_of}
use Rattle.node_model.specs.History.{SealedBlock}
use Rattle.node_model.specs.declared.result.BlockResult.{BlockResult}
use Rattle.node_model.specs.declared.result.Told.{Told}
use Rattle.proc_syntax.specs.Declaring.{tables_of}
use Rattle.rel_base.specs.declared.access.Place.{Place}
use Rattle.rel_base.specs.declared.schema.TableDef.{TableDef}
use Rattle.schedule_laws.specs.Facts.{AreCounted}

abbrev tells : List ℕ → Told → Bool
tells id = λ (one : Told). bytes_eq id one.id

abbrev all_told : List SealedBlock → List Told
all_told sealed = flat_map (λ (block : SealedBlock). block.outcomes) sealed

abbrev at : ℕ → ℕ → Option Place
at number pos = Some (record { block = number; pos = pos })

-- ---- among the outcomes of a block

-- the first with an id, at a place from 0
record Stands (number first : ℕ) (outcomes : List Told) (id : List ℕ) : Type 0 where
  pub place : ℕ
  pub told : Told
  pub found : first_among number first outcomes id ≡ at number (first + place)
  pub is : find (tells id) outcomes ≡ Some told
  pub there : slice_get outcomes place ≡ Some told

abbrev IsAbsent : ℕ → ℕ → List Told → List ℕ → Type 0
IsAbsent number first outcomes id = (first_among number first outcomes id ≡ None) × (find (tells id) outcomes ≡ None)

look_among : (number first : ℕ) (outcomes : List Told) (id : List ℕ) → IsAbsent number first outcomes id ⊎ Stands number first outcomes id
look_among number first [] id = inl (refl, refl)
look_among number first (told ∷ rest) id = by (bytes_eq id told.id) refl (look_among number (first + 1) rest id)
  where
    place_if : Bool → Option Place
    place_if b = cond b (at number first) (first_among number (first + 1) rest id)

    told_if : Bool → Option Told
    told_if b = cond b (Some told) (find (tells id) rest)

    by : (b : Bool) → bytes_eq id told.id ≡ b → IsAbsent number (first + 1) rest id ⊎ Stands number (first + 1) rest id → IsAbsent number first (told ∷ rest) id ⊎ Stands number first (told ∷ rest) id
    by true is more = inr (record {
      place = 0;
      told = told;
      found = ap place_if is ∙ ap (at number) (omega arith);
      is = ap told_if is;
      there = refl;
    })
    by false is (inl none) = inl (ap place_if is ∙ none.0, ap told_if is ∙ none.1)
    by false is (inr stands) = inr (record {
      place = suc stands.place;
      told = stands.told;
      found = ap place_if is ∙ stands.found ∙ ap (at number) (omega arith);
      is = ap told_if is ∙ stands.is;
      there = stands.there;
    })

-- ---- in a chain

-- the first with an id, where the first block has a number
record Found (number : ℕ) (blocks : List BlockResult) (sealed : List SealedBlock) (id : List ℕ) : Type 0 where
  pub index : ℕ
  pub place : ℕ
  pub block : BlockResult
  pub told : Told
  pub found : first_in sealed id ≡ at (number + index) (1 + place)
  pub is : find (tells id) (all_told sealed) ≡ Some told
  pub block_there : slice_get blocks index ≡ Some block
  pub there : slice_get block.outcomes place ≡ Some told

abbrev IsNowhere : List SealedBlock → List ℕ → Type 0
IsNowhere sealed id = (first_in sealed id ≡ None) × (find (tells id) (all_told sealed) ≡ None)

look_in : (tables : List TableDef) (previous : List ℕ) (number : ℕ) (sealed : List SealedBlock) (id : List ℕ) → AreCounted number sealed → IsNowhere sealed id ⊎ Found number (results_from tables previous sealed) sealed id
look_in tables previous number [] id counted = inl (refl, refl)
look_in tables previous number (block ∷ rest) id counted =
    by (look_among block.number 1 block.outcomes id) (look_in tables (block_result tables previous block).digest (number + 1) rest id counted.1)
  where
    place_or : Option Place → Option Place
    place_or found = option_or found (first_in rest id)

    told_or : Option Told → Option Told
    told_or found = option_or found (find (tells id) (all_told rest))

    parts : find (tells id) (all_told (block ∷ rest)) ≡ told_or (find (tells id) block.outcomes)
    parts = ap (find (tells id)) (flat_map-cons (λ (block : SealedBlock). block.outcomes) block rest) ∙ find-append (tells id) block.outcomes (all_told rest)

    by : IsAbsent block.number 1 block.outcomes id ⊎ Stands block.number 1 block.outcomes id
        → IsNowhere rest id ⊎ Found (number + 1) (results_from tables (block_result tables previous block).digest rest) rest id
        → IsNowhere (block ∷ rest) id ⊎ Found number (results_from tables previous (block ∷ rest)) (block ∷ rest) id
    by (inr stands) later =
        let counts : block.number ≡ number + 0 = omega (arith, counted.0) in
        inr (record {
          index = 0;
          place = stands.place;
          block = block_result tables previous block;
          told = stands.told;
          found = ap place_or stands.found ∙ ap (λ n. at n (1 + stands.place)) counts;
          is = parts ∙ ap told_or stands.is;
          block_there = refl;
          there = stands.there;
        })
    by (inl none) (inl nowhere) = inl (ap place_or none.0 ∙ nowhere.0, parts ∙ ap told_or none.1 ∙ nowhere.1)
    by (inl none) (inr found) =
        let counts : number + 1 + found.index ≡ number + suc found.index = omega arith in
        inr (record {
          index = suc found.index;
          place = found.place;
          block = found.block;
          told = found.told;
          found = ap place_or none.0 ∙ found.found ∙ ap (λ n. at n (1 + found.place)) counts;
          is = parts ∙ ap told_or none.1 ∙ found.is;
          block_there = found.block_there;
          there = found.there;
        })

-- ---- of a node

-- nothing stands in no list
pub none_in : (X : Type 0) (position : ℕ) → item_at {X = X} [] position ≡ None
none_in X zero = refl
none_in X (suc place) = refl

module _ (tables : List TableDef) (sealed : List SealedBlock) (work : Option DeliveredBlock) (id : List ℕ) (counted : AreCounted 1 sealed) (next : IfSome work (λ working. working.done.number ≡ length sealed + 1)) where
  abbrev blocks : List BlockResult
  blocks = results_of tables sealed

  -- what is reported at the place of an id
  abbrev told_of_place : Option Place → Option Told
  told_of_place found = option_and_then (told_at blocks work) found

  abbrev place_or : Option Place → Option Place
  place_or found = option_or found (first_among (number_of_work work) 1 (outcomes_of work) id)

  abbrev told_or : Option Told → Option Told
  told_or found = option_or found (find (tells id) (outcomes_of work))

  -- the block in work is none of the sealed ones
  past : item_at blocks (number_of_work work) ≡ None
  past = by work next
    where
      by : (w : Option DeliveredBlock) → IfSome w (λ working. working.done.number ≡ length sealed + 1) → item_at blocks (number_of_work w) ≡ None
      by None is = refl
      by (Some working) is =
          let after : working.done.number ≡ suc (length sealed) = omega (arith, is) in
          let many : length blocks ≡ length sealed = results_length tables no_digest sealed in
          ap (item_at blocks) after ∙ slice_get_past blocks (length sealed) (omega (arith, many))

  in_sealed : (found : Found 1 blocks sealed id) → told_of_place (at (1 + found.index) (1 + found.place)) ≡ Some found.told
  in_sealed found =
      let number : 1 + found.index ≡ suc found.index = omega arith in
      let position : 1 + found.place ≡ suc found.place = omega arith in
      ap (λ n. item_at (outcomes_at (item_at blocks n) work) (1 + found.place)) number
      ∙ ap (λ (block : Option BlockResult). item_at (outcomes_at block work) (1 + found.place)) found.block_there
      ∙ ap (item_at found.block.outcomes) position
      ∙ found.there

  in_block : (stands : Stands (number_of_work work) 1 (outcomes_of work) id) → told_of_place (at (number_of_work work) (1 + stands.place)) ≡ Some stands.told
  in_block stands =
      let position : 1 + stands.place ≡ suc stands.place = omega arith in
      ap (λ (block : Option BlockResult). item_at (outcomes_at block work) (1 + stands.place)) past
      ∙ ap (item_at (outcomes_of work)) position
      ∙ stands.there

  first_told : told_of_place (place_or (first_in sealed id)) ≡ told_or (find (tells id) (all_told sealed))
  first_told = by (look_in tables no_digest 1 sealed id counted) (look_among (number_of_work work) 1 (outcomes_of work) id)
    where
      by : IsNowhere sealed id ⊎ Found 1 blocks sealed id → IsAbsent (number_of_work work) 1 (outcomes_of work) id ⊎ Stands (number_of_work work) 1 (outcomes_of work) id
          → told_of_place (place_or (first_in sealed id)) ≡ told_or (find (tells id) (all_told sealed))
      by (inr found) other = ap (λ (o : Option Place). told_of_place (place_or o)) found.found ∙ in_sealed found ∙ sym (ap told_or found.is)
      by (inl nowhere) (inl none) = ap (λ (o : Option Place). told_of_place (place_or o)) nowhere.0 ∙ ap told_of_place none.0 ∙ sym (ap told_or nowhere.1 ∙ none.1)
      by (inl nowhere) (inr stands) =
          ap (λ (o : Option Place). told_of_place (place_or o)) nowhere.0 ∙ ap told_of_place stands.found ∙ in_block stands ∙ sym (ap told_or nowhere.1 ∙ stands.is)

module _ (kept : Kept) (node : IsNode kept) where
  next_is : IfSome kept.work (λ working. working.done.number ≡ length (world_in kept).sealed + 1)
  next_is = by kept.work refl
    where
      by : (work : Option DeliveredBlock) → kept.work ≡ work → IfSome work (λ working. working.done.number ≡ length (world_in kept).sealed + 1)
      by None here = tt
      by (Some working) here = number_next kept node working here

  in_work : told_in_work (world_in kept).work ≡ outcomes_of kept.work
  in_work = ap told_in_work (sym node.work) ∙ by kept.work
    where
      by : (work : Option DeliveredBlock) → told_in_work (option_map shown_work work) ≡ outcomes_of work
      by None = refl
      by (Some working) = refl

  pub outcome_is : (id : List ℕ) → outcome_by kept.ids kept.results kept.work id ≡ first_outcome id (told_of (world_in kept))
  outcome_is id = ap (option_map (λ (one : Told). one.outcome)) (
      ap (λ (results : List BlockResult). option_and_then (told_at results kept.work) (place_of_id kept.ids id)) node.holds.results
      ∙ ap (told_of_place (tables_of kept.app) (world_in kept).sealed kept.work id (facts kept node).counted next_is) (node.ids id)
      ∙ first_told (tables_of kept.app) (world_in kept).sealed kept.work id (facts kept node).counted next_is
      ∙ sym (find-append (tells id) (all_told (world_in kept).sealed) (outcomes_of kept.work))
      ∙ ap (λ (told : List Told). find (tells id) (all_told (world_in kept).sealed ++ told)) (sym in_work)
      )
