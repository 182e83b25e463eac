-- Each write of results whose numbers run from 1 stands at the place of a transaction.
use Rattle.std.proofs.Common.{◌≡◌, ◌∙◌, ◌≤◌, ◌<◌, ◌+◌, ◌-◌, ◌==◌, List, [], ◌∷◌, ◌++◌, ℕ, suc, zero, false, cond, None, Some, All, IsSome, refl, sym, subst, ap, map, length, slice_get, arith, append_assoc, length-append}
use Rattle.std.specs.List.{range_with_len}
use Rattle.std.specs.Option.{option_and_then}
use Rattle.std.proofs.lemmas.Bool.{ne_eqb}
use Rattle.std.proofs.lemmas.List.{length-map}
use Rattle.std.proofs.lemmas.List.Elements.{All-append, All-head, All-map, All-nil, All-tail, All-weaker}
use Rattle.node_model.specs.declared.result.BlockResult.{BlockResult}
use Rattle.provenance.specs.Laws.{HasPlaces, PlacesAreTold}
use Rattle.provenance.specs.Versions.{history_of, item_of, told_at}
use Rattle.rel_base.specs.Tables.{Stamped, place_of}
use Rattle.rel_base.specs.declared.access.Placed.{Placed}
use Rattle.rel_base.proofs.Lists.{item_at}

-- an item is there at each place below the length
item_there : {X : Type 0} (xs : List X) (index : ℕ) → index < length xs → IsSome (slice_get xs index)
item_there [] index below = absurd (omega (arith, below))
item_there (x ∷ xs) zero below = refl
item_there (x ∷ xs) (suc index) below = item_there xs index (omega (arith, below))

number_there : {X : Type 0} (xs : List X) (number : ℕ) → 1 ≤ number → number ≤ length xs → IsSome (item_of xs number)
number_there xs number some within =
    let test : (number == 0) ≡ false = ne_eqb number 0 (λ e. omega (arith, some, e)) in
    subst (λ b. IsSome (cond b None (slice_get xs (number - 1)))) (sym test) (item_there xs (number - 1) (omega (arith, some, within)))

item_next : {X : Type 0} (front : List X) (x : X) (rest : List X) (number : ℕ) → number ≡ length front + 1 → item_of (front ++ x ∷ rest) number ≡ Some x
item_next front x rest number next =
    let test : (number == 0) ≡ false = ne_eqb number 0 (λ e. omega (arith, next, e)) in
    let index : number - 1 ≡ length front = omega (arith, next) in
    ap (λ b. cond b None (slice_get (front ++ x ∷ rest) (number - 1))) test ∙ ap (slice_get (front ++ x ∷ rest)) index ∙ item_at front x rest

module _ (blocks : List BlockResult) where
  -- a write stands at the place of a transaction
  abbrev IsAtTold : Stamped → Type 0
  IsAtTold stamped = IsSome (told_at blocks (place_of stamped))

  block_told : (block : BlockResult) → item_of blocks block.number ≡ Some block → HasPlaces block → All IsAtTold (map (λ placed. (block.number, placed)) block.writes)
  block_told block there places =
      All-map IsAtTold (λ (placed : Placed). (block.number, placed)) block.writes
      (All-weaker (λ (placed : Placed). (1 ≤ placed.pos) × (placed.pos ≤ length block.outcomes)) (λ placed. IsAtTold (block.number, placed))
      (λ placed at. subst (λ found. IsSome (option_and_then (λ (b : BlockResult). item_of b.outcomes placed.pos) found)) (sym there) (number_there block.outcomes placed.pos at.0 at.1)) block.writes places)

  blocks_told : (front rest : List BlockResult) → blocks ≡ front ++ rest → map (λ block. block.number) rest ≡ range_with_len (length front + 1) (length rest) → All HasPlaces rest → All IsAtTold (history_of rest)
  blocks_told front [] is numbers places = All-nil IsAtTold
  blocks_told front (block ∷ rest) is numbers places =
      let number : block.number ≡ length front + 1 = ap (λ ns. head_or ns 0) numbers in
      let there : item_of blocks block.number ≡ Some block = ap (λ bs. item_of bs block.number) is ∙ item_next front block rest block.number number in
      let longer : length (front ++ block ∷ []) ≡ length front + 1 = length-append front (block ∷ []) in
      All-append IsAtTold (map (λ placed. (block.number, placed)) block.writes) (history_of rest) (block_told block there (All-head HasPlaces block rest places))
      (blocks_told (front ++ block ∷ []) rest (is ∙ sym (append_assoc front (block ∷ []) rest))
      (ap (λ ns. tail_of ns) numbers ∙ ap (λ n. range_with_len (n + 1) (length rest)) (sym longer)) (All-tail HasPlaces block rest places))
    where
      head_or : List ℕ → ℕ → ℕ
      head_or [] d = d
      head_or (n ∷ ns) d = n

      tail_of : List ℕ → List ℕ
      tail_of [] = []
      tail_of (n ∷ ns) = ns

pub places_told : PlacesAreTold
places_told blocks numbers places = blocks_told blocks [] blocks refl (numbers ∙ ap (range_with_len 1) (length-map blocks (λ (block : BlockResult). block.number))) places
