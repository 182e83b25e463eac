-- The ids of a chain, each with the place where it first stands.
use Rattle.block_work.specs.Marks.{value_of}
use Rattle.block_work.specs.declared.ids.IdIndex.{IdIndex}
use Rattle.node_model.specs.History.{SealedBlock, ids_told}
use Rattle.node_model.specs.declared.result.Told.{Told}
use Rattle.rel_base.specs.declared.access.Place.{Place}
use Rattle.std.specs.List.{list_any}
use Rattle.std.specs.Option.{option_or}
use Rattle.std.specs.Prelude.{IfSome, List, None, Option, Some, [], cond, ◌+◌, ◌==◌, ◌≡◌, ◌≤◌, ◌∷◌, ℕ}
use Rattle.std.specs.Str.{bytes_eq}

-- ---- by the definition

-- the place of the first of some outcomes with an id, where the first of these outcomes stands at a position of the block of a number
abbrev pub first_among : ℕ → ℕ → List Told → List ℕ → Option Place
first_among number pos [] id = None
first_among number pos (told ∷ rest) id = cond (bytes_eq id told.id) (Some (record { block = number; pos = pos })) (first_among number (pos + 1) rest id)

-- the place at which an id first stands in a chain
abbrev pub first_in : List SealedBlock → List ℕ → Option Place
first_in [] id = None
first_in (block ∷ rest) id = option_or (first_among block.number 1 block.outcomes id) (first_in rest id)

-- ---- by an index

-- the place that an index has for an id
abbrev pub place_of_id : IdIndex → List ℕ → Option Place
place_of_id index id = value_of index.places id

-- an index has the place at which each id first stands in a chain, or else among the outcomes so far of the block of a number
abbrev pub HasFirstPlaces : IdIndex → List SealedBlock → ℕ → List Told → Type 0
HasFirstPlaces index chain number outcomes = (id : List ℕ) → place_of_id index id ≡ option_or (first_in chain id) (first_among number 1 outcomes id)

-- no place is in a block above a height
abbrev pub AreUpTo : ℕ → IdIndex → Type 0
AreUpTo height index = (id : List ℕ) → IfSome (place_of_id index id) (λ place. place.block ≤ height)

-- each id has the place that it had
abbrev pub SamePlaces : IdIndex → IdIndex → Type 0
SamePlaces old new = (id : List ℕ) → place_of_id new id ≡ place_of_id old id

-- an id has a place, the one that it had if it had one, and each other id has the place that it had
abbrev pub AddsPlace : IdIndex → IdIndex → List ℕ → Place → Type 0
AddsPlace old new added place = (id : List ℕ) → place_of_id new id ≡ option_or (place_of_id old id) (cond (bytes_eq id added) (Some place) None)

-- each id of some outcomes has a place, the one that it had, or else where it stands first among these outcomes of the block of a number
abbrev pub AddsAmong : IdIndex → IdIndex → ℕ → List Told → Type 0
AddsAmong old new number outcomes = (id : List ℕ) → place_of_id new id ≡ option_or (place_of_id old id) (first_among number 1 outcomes id)

-- a place, unless it is in the block of a number
abbrev pub outside : ℕ → Option Place → Option Place
outside number None = None
outside number (Some place) = cond (place.block == number) None (Some place)

-- places, of which one id has none in the block of a number
abbrev pub without : ℕ → List ℕ → (List ℕ → Option Place) → List ℕ → Option Place
without number forgotten places id = cond (bytes_eq id forgotten) (outside number (places id)) (places id)

-- the ids of some outcomes have no place in the block of a number, and each id that has a place has the one that it had
abbrev pub Forgets : IdIndex → IdIndex → ℕ → List Told → Type 0
Forgets old new number outcomes =
    (id : List ℕ) → place_of_id new id ≡ cond (list_any (bytes_eq id) (ids_told outcomes)) (outside number (place_of_id old id)) (place_of_id old id)
