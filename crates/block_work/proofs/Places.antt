-- Places of ids, as an index gains and loses them.
use Rattle.std.proofs.Common.{Bool, IfSome, List, None, Option, Some, [], ap, arith, cond, false, length, refl, subst, sym, true, ◌++◌, ◌+◌, ◌==◌, ◌||◌, ◌∙◌, ◌≡◌, ◌≤◌, ◌∷◌, ℕ}
use Rattle.std.proofs.lemmas.Bool.Decides.{nat_tests}
use Rattle.std.proofs.lemmas.List.Folds.{list_any-append}
use Rattle.std.proofs.lemmas.List.{map-append}
use Rattle.std.proofs.lemmas.Map.Text.{is_eq-slice_cmp}
use Rattle.std.specs.BTreeMap.{is_at}
use Rattle.std.specs.Cmp.Lexicographic.{slice_cmp}
use Rattle.std.specs.List.{list_any}
use Rattle.std.specs.Option.{option_or}
use Rattle.std.specs.Ordering.{nat_cmp}
use Rattle.std.specs.Prelude.{is_some}
use Rattle.std.specs.Str.{bytes_eq}
use Rattle.block_work.specs.Ids.{AddsAmong, AddsPlace, AreUpTo, Forgets, HasFirstPlaces, SamePlaces, first_among, first_in, outside, place_of_id, without}
use Rattle.block_work.specs.declared.ids.IdIndex.{IdIndex}
use Rattle.node_model.specs.History.{SealedBlock, ids_of, ids_told}
use Rattle.node_model.specs.declared.result.Told.{Told}
use Rattle.rel_base.specs.declared.access.Place.{Place}
use Rattle.rel_base.proofs.Bytes.{bytes_sym, equal_bytes}

-- ---- equal ids

-- ---- an index

-- what a map of places holds after a change at one id
pub changed : (old new : IdIndex) (id : List ℕ) (place : Option Place)
    → ((other : List ℕ) → place_of_id new other ≡ cond (is_at (slice_cmp nat_cmp id) other) place (place_of_id old other))
    → (other : List ℕ) → place_of_id new other ≡ cond (bytes_eq other id) place (place_of_id old other)
changed old new id place updates = λ other. updates other ∙ ap (λ b. cond b place (place_of_id old other)) (is_eq-slice_cmp id other ∙ bytes_sym id other)

nothing : (found : Option Place) → is_some found ≡ false → found ≡ None
nothing None is = refl
nothing (Some place) is = cc

-- an id that had no place gets one
pub adds_new : (old new : IdIndex) (id : List ℕ) (place : Place) → is_some (place_of_id old id) ≡ false
    → ((other : List ℕ) → place_of_id new other ≡ cond (is_at (slice_cmp nat_cmp id) other) (Some place) (place_of_id old other)) → AddsPlace old new id place
adds_new old new id place absent updates = λ other. changed old new id (Some place) updates other ∙ by other (bytes_eq other id) refl
  where
    by : (other : List ℕ) (b : Bool) → bytes_eq other id ≡ b → cond b (Some place) (place_of_id old other) ≡ option_or (place_of_id old other) (cond b (Some place) None)
    by other true is = ap (λ found. option_or found (Some place)) (sym (ap (place_of_id old) (equal_bytes other id is) ∙ nothing (place_of_id old id) absent))
    by other false is = or_none (place_of_id old other)
      where
        or_none : (found : Option Place) → found ≡ option_or found None
        or_none None = refl
        or_none (Some place) = refl

-- an id that has a place keeps it
pub adds_known : (old : IdIndex) (id : List ℕ) (place : Place) → is_some (place_of_id old id) ≡ true → AddsPlace old old id place
adds_known old id place known = λ other. by other (bytes_eq other id) refl
  where
    keeps : (found other : Option Place) → is_some found ≡ true → found ≡ option_or found other
    keeps None other is = cc
    keeps (Some place) other is = refl

    or_none : (found : Option Place) → found ≡ option_or found None
    or_none None = refl
    or_none (Some place) = refl

    by : (other : List ℕ) (b : Bool) → bytes_eq other id ≡ b → place_of_id old other ≡ option_or (place_of_id old other) (cond b (Some place) None)
    by other true is = keeps (place_of_id old other) (Some place) (ap (λ key. is_some (place_of_id old key)) (equal_bytes other id is) ∙ known)
    by other false is = or_none (place_of_id old other)

-- ---- ids that are forgotten

-- an id whose place is not in the block stays
pub stays : (old : IdIndex) (number : ℕ) (id : List ℕ) → outside number (place_of_id old id) ≡ place_of_id old id → (other : List ℕ) → place_of_id old other ≡ without number id (place_of_id old) other
stays old number id is = λ other. by other (bytes_eq other id) refl
  where
    by : (other : List ℕ) (b : Bool) → bytes_eq other id ≡ b → place_of_id old other ≡ cond b (outside number (place_of_id old other)) (place_of_id old other)
    by other true same = subst (λ key. place_of_id old key ≡ outside number (place_of_id old key)) (sym (equal_bytes other id same)) (sym is)
    by other false same = refl

-- one whose place is in the block goes
pub goes : (old new : IdIndex) (number : ℕ) (id : List ℕ) → outside number (place_of_id old id) ≡ None
    → ((other : List ℕ) → place_of_id new other ≡ cond (is_at (slice_cmp nat_cmp id) other) None (place_of_id old other)) → (other : List ℕ) → place_of_id new other ≡ without number id (place_of_id old) other
goes old new number id is updates = λ other. changed old new id None updates other ∙ by other (bytes_eq other id) refl
  where
    by : (other : List ℕ) (b : Bool) → bytes_eq other id ≡ b → cond b None (place_of_id old other) ≡ cond b (outside number (place_of_id old other)) (place_of_id old other)
    by other true same = subst (λ key. None ≡ outside number (place_of_id old key)) (sym (equal_bytes other id same)) (sym is)
    by other false same = refl

outside_none : (number : ℕ) (found : Option Place) → found ≡ None → outside number found ≡ found
outside_none number None is = refl
outside_none number (Some place) is = cc

pub outside_other : (number : ℕ) (found : Option Place) (place : Place) → Some place ≡ found → (place.block == number) ≡ false → outside number found ≡ found
outside_other number found place is other =
    subst (λ found. outside number found ≡ found) is (ap (λ b. cond b None (Some place)) other)

pub outside_here : (number : ℕ) (found : Option Place) (place : Place) → Some place ≡ found → (place.block == number) ≡ true → outside number found ≡ None
outside_here number found place is here = subst (λ found. outside number found ≡ None) is (ap (λ b. cond b None (Some place)) here)

outside_twice : (number : ℕ) (found : Option Place) → outside number (outside number found) ≡ outside number found
outside_twice number None = refl
outside_twice number (Some place) = by (place.block == number) refl
  where
    by : (b : Bool) → (place.block == number) ≡ b → outside number (cond b None (Some place)) ≡ cond b None (Some place)
    by true is = refl
    by false is = ap (λ b. cond b None (Some place)) is

-- one more of some outcomes is forgotten
pub forgets_more : (number : ℕ) (id : List ℕ) (told : Told) (front more : List Told) (before now after : Option Place) → more ≡ front ++ told ∷ []
    → now ≡ cond (list_any (bytes_eq id) (ids_told front)) (outside number before) before
    → after ≡ cond (bytes_eq id told.id) (outside number now) now
    → after ≡ cond (list_any (bytes_eq id) (ids_told more)) (outside number before) before
forgets_more number id told front more before now after are is next =
    next ∙ ap (λ found. cond (bytes_eq id told.id) (outside number found) found) is
    ∙ by (list_any (bytes_eq id) (ids_told front)) (bytes_eq id told.id)
    ∙ ap (λ b. cond b (outside number before) before)
    (sym (ap (λ xs. list_any (bytes_eq id) (ids_told xs)) are ∙ ap (list_any (bytes_eq id)) (map-append (λ (told : Told). told.id) front (told ∷ [])) ∙ list_any-append (bytes_eq id) (ids_told front) (told.id ∷ [])))
  where
    by : (b c : Bool) → cond c (outside number (cond b (outside number before) before)) (cond b (outside number before) before) ≡ cond (b || (c || false)) (outside number before) before
    by true true = outside_twice number before
    by true false = refl
    by false true = refl
    by false false = refl

-- ---- the places of a chain

among_more : (number pos : ℕ) (outcomes : List Told) (told : Told) (id : List ℕ)
    → first_among number pos (outcomes ++ told ∷ []) id ≡ option_or (first_among number pos outcomes id) (cond (bytes_eq id told.id) (Some (record { block = number; pos = pos + length outcomes })) None)
among_more number pos [] told id = ap (λ n. cond (bytes_eq id told.id) (Some (record { block = number; pos = n })) None) (omega arith)
among_more number pos (first ∷ rest) told id = by (bytes_eq id first.id) (among_more number (pos + 1) rest told id)
  where
    by : (b : Bool) → first_among number (pos + 1) (rest ++ told ∷ []) id ≡ option_or (first_among number (pos + 1) rest id) (cond (bytes_eq id told.id) (Some (record { block = number; pos = pos + 1 + length rest })) None)
        → cond b (Some (record { block = number; pos = pos })) (first_among number (pos + 1) (rest ++ told ∷ []) id)
        ≡ option_or (cond b (Some (record { block = number; pos = pos })) (first_among number (pos + 1) rest id)) (cond (bytes_eq id told.id) (Some (record { block = number; pos = pos + length (first ∷ rest) })) None)
    by true more = refl
    by false more = more ∙ ap (λ n. option_or (first_among number (pos + 1) rest id) (cond (bytes_eq id told.id) (Some (record { block = number; pos = n })) None)) (omega arith)

or_assoc : (a b c : Option Place) → option_or (option_or a b) c ≡ option_or a (option_or b c)
or_assoc None b c = refl
or_assoc (Some place) b c = refl

-- the index keeps the first places where the next transaction of a block is decided
pub places_more : (old new : IdIndex) (chain : List SealedBlock) (number : ℕ) (outcomes : List Told) (told : Told) (place : Place) → HasFirstPlaces old chain number outcomes
    → place ≡ record { block = number; pos = 1 + length outcomes } → AddsPlace old new told.id place → HasFirstPlaces new chain number (outcomes ++ told ∷ [])
places_more old new chain number outcomes told place has here adds = λ id.
    adds id ∙ ap (λ found. option_or found (cond (bytes_eq id told.id) (Some place) None)) (has id)
    ∙ ap (λ place. option_or (option_or (first_in chain id) (first_among number 1 outcomes id)) (cond (bytes_eq id told.id) (Some place) None)) here
    ∙ or_assoc (first_in chain id) (first_among number 1 outcomes id) _
    ∙ ap (option_or (first_in chain id)) (sym (among_more number 1 outcomes told id))

some_among : (number pos : ℕ) (outcomes : List Told) (id : List ℕ) → is_some (first_among number pos outcomes id) ≡ list_any (bytes_eq id) (ids_told outcomes)
some_among number pos [] id = refl
some_among number pos (told ∷ rest) id = by (bytes_eq id told.id) (some_among number (pos + 1) rest id)
  where
    by : (b : Bool) → is_some (first_among number (pos + 1) rest id) ≡ list_any (bytes_eq id) (ids_told rest)
        → is_some (cond b (Some (record { block = number; pos = pos })) (first_among number (pos + 1) rest id)) ≡ (b || list_any (bytes_eq id) (ids_told rest))
    by true later = refl
    by false later = later

some_or : (a b : Option Place) → is_some (option_or a b) ≡ (is_some a || is_some b)
some_or None b = refl
some_or (Some place) b = refl

some_in : (chain : List SealedBlock) (id : List ℕ) → is_some (first_in chain id) ≡ list_any (bytes_eq id) (ids_of chain)
some_in [] id = refl
some_in (block ∷ rest) id =
    some_or (first_among block.number 1 block.outcomes id) (first_in rest id)
    ∙ (λ i. some_among block.number 1 block.outcomes id i || some_in rest id i)
    ∙ sym (list_any-append (bytes_eq id) (ids_told block.outcomes) (ids_of rest))

-- an id has a place exactly where it stands in the chain or among the outcomes so far
pub is_known : (index : IdIndex) (chain : List SealedBlock) (number : ℕ) (outcomes : List Told) (id : List ℕ) → HasFirstPlaces index chain number outcomes
    → is_some (place_of_id index id) ≡ list_any (bytes_eq id) (ids_of chain ++ ids_told outcomes)
is_known index chain number outcomes id has =
    ap is_some (has id) ∙ some_or (first_in chain id) (first_among number 1 outcomes id)
    ∙ (λ i. some_in chain id i || some_among number 1 outcomes id i)
    ∙ sym (list_any-append (bytes_eq id) (ids_of chain) (ids_told outcomes))

first_more : (chain : List SealedBlock) (block : SealedBlock) (id : List ℕ) → first_in (chain ++ block ∷ []) id ≡ option_or (first_in chain id) (first_among block.number 1 block.outcomes id)
first_more [] block id = or_none (first_among block.number 1 block.outcomes id)
  where
    or_none : (found : Option Place) → option_or found None ≡ found
    or_none None = refl
    or_none (Some place) = refl
first_more (first ∷ rest) block id =
    ap (option_or (first_among first.number 1 first.outcomes id)) (first_more rest block id)
    ∙ sym (or_assoc (first_among first.number 1 first.outcomes id) (first_in rest id) (first_among block.number 1 block.outcomes id))

-- the block joins the chain, and no transaction of the next is decided
pub places_sealed : (index : IdIndex) (chain : List SealedBlock) (block : SealedBlock) (next : ℕ) → HasFirstPlaces index chain block.number block.outcomes → HasFirstPlaces index (chain ++ block ∷ []) next []
places_sealed index chain block next has = λ id. has id ∙ sym (first_more chain block id) ∙ or_none (first_in (chain ++ block ∷ []) id)
  where
    or_none : (found : Option Place) → found ≡ option_or found None
    or_none None = refl
    or_none (Some place) = refl

-- ---- a block that is given up

pub none_added : (index : IdIndex) (number : ℕ) → AddsAmong index index number []
none_added index number = λ id. or_none (place_of_id index id)
  where
    or_none : (found : Option Place) → found ≡ option_or found None
    or_none None = refl
    or_none (Some place) = refl

pub one_added : (before now after : IdIndex) (number : ℕ) (outcomes : List Told) (told : Told) (place : Place) → AddsAmong before now number outcomes
    → place ≡ record { block = number; pos = 1 + length outcomes } → AddsPlace now after told.id place → AddsAmong before after number (outcomes ++ told ∷ [])
one_added before now after number outcomes told place added here adds = λ id.
    adds id ∙ ap (λ found. option_or found (cond (bytes_eq id told.id) (Some place) None)) (added id)
    ∙ ap (λ place. option_or (option_or (place_of_id before id) (first_among number 1 outcomes id)) (cond (bytes_eq id told.id) (Some place) None)) here
    ∙ or_assoc (place_of_id before id) (first_among number 1 outcomes id) _
    ∙ ap (option_or (place_of_id before id)) (sym (among_more number 1 outcomes told id))

in_block : (number pos : ℕ) (outcomes : List Told) (id : List ℕ) → IfSome (first_among number pos outcomes id) (λ place. place.block ≡ number)
in_block number pos [] id = tt
in_block number pos (told ∷ rest) id = by (bytes_eq id told.id) (in_block number (pos + 1) rest id)
  where
    by : (b : Bool) → IfSome (first_among number (pos + 1) rest id) (λ place. place.block ≡ number)
        → IfSome (cond b (Some (record { block = number; pos = pos })) (first_among number (pos + 1) rest id)) (λ place. place.block ≡ number)
    by true later = refl
    by false later = later

-- where the ids of the block are forgotten, each id has the place that it had
pub as_before : (before now after : IdIndex) (height number : ℕ) (outcomes : List Told) → AddsAmong before now number outcomes → AreUpTo height before → height + 1 ≤ number
    → Forgets now after number outcomes → SamePlaces before after
as_before before now after height number outcomes added upto above forgets = λ id.
    forgets id ∙ (λ i. cond (sym (some_among number 1 outcomes id) i) (outside number (added id i)) (added id i))
    ∙ by (place_of_id before id) (first_among number 1 outcomes id) (upto id) (in_block number 1 outcomes id)
  where
    by : (had got : Option Place) → IfSome had (λ place. place.block ≤ height) → IfSome got (λ place. place.block ≡ number)
        → cond (is_some got) (outside number (option_or had got)) (option_or had got) ≡ had
    by None None low here = refl
    by None (Some place) low here = let same : (place.block == number) ≡ true = grind (arith, nat_tests) in ap (λ b. cond b None (Some place)) same
    by (Some place) None low here = refl
    by (Some place) (Some other) low here = let differs : (place.block == number) ≡ false = grind (arith, nat_tests) in ap (λ b. cond b None (Some place)) differs

or_upto : (height : ℕ) (had got : Option Place) → IfSome had (λ place. place.block ≤ height) → IfSome got (λ place. place.block ≡ height + 1) → IfSome (option_or had got) (λ place. place.block ≤ height + 1)
or_upto height None None low here = tt
or_upto height None (Some place) low here = omega (arith, here)
or_upto height (Some place) got low here = omega (arith, low)

-- with a block more, no place is above the height
pub upto_more : (before now : IdIndex) (height number : ℕ) (outcomes : List Told) → AddsAmong before now number outcomes → AreUpTo height before → number ≡ height + 1 → AreUpTo (height + 1) now
upto_more before now height number outcomes added upto next = λ id.
    subst (λ found. IfSome found (λ place. place.block ≤ height + 1)) (sym (added id))
    (or_upto height (place_of_id before id) (first_among number 1 outcomes id) (upto id)
    (subst (λ n. IfSome (first_among number 1 outcomes id) (λ place. place.block ≡ n)) next (in_block number 1 outcomes id)))
