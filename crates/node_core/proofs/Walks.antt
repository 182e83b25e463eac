-- Walks over the jobs of an id, from the newest back.
use Rattle.std.proofs.Common.{Bool, List, None, Option, Some, [], ap, arith, cond, false, length, refl, slice_get, slice_index_or, subst, suc, sym, take, true, zero, ◌&&◌, ◌+◌, ◌==◌, ◌<◌, ◌∙◌, ◌≡◌, ◌≤◌, ◌∷◌, ℕ}
use Rattle.std.proofs.lemmas.List.{length-map, take-take}
use Rattle.std.proofs.lemmas.Option.{none-some, same_Some}
use Rattle.std.proofs.lemmas.Slice.Eq.{bytes_eq-Decides}
use Rattle.std.specs.List.{position_from}
use Rattle.std.specs.Option.{option_or}
use Rattle.std.specs.Str.{bytes_eq}
use Rattle.node_core.proofs.Newest.{newest_equal, newest_within, olders_at, olders_length}
use Rattle.node_core.specs.ById.{Indexes, behind_first, ids_of, newest, newest_of}
use Rattle.node_core.specs.Rows.{row_is_for, status_of}
use Rattle.node_core.specs.declared.index.JobIndex.{JobIndex}
use Rattle.node_core.specs.declared.jobs.JobRow.{JobRow}
use Rattle.node_model.specs.World.{is_live}
use Rattle.rel_base.specs.Value.{key_eq}
use Rattle.proc_syntax.specs.declared.call.Tx.{Tx}

-- ---- rows and their ids

pub here_of : (rows : List JobRow) (place : ℕ) (row other : JobRow) → place < length rows → row ≡ slice_index_or rows place other → slice_get rows place ≡ Some row
here_of [] place row other within is = absurd (omega (arith, within))
here_of (first ∷ rows) zero row other within is = ap Some (sym is)
here_of (first ∷ rows) (suc place) row other within is = here_of rows place row other (omega (arith, within)) is

ids_front : (n : ℕ) (rows : List JobRow) → take n (ids_of rows) ≡ ids_of (take n rows)
ids_front zero rows = refl
ids_front (suc n) [] = refl
ids_front (suc n) (row ∷ rows) = ap (λ ids. row.tx.value.id ∷ ids) (ids_front n rows)

-- a job of a transaction has its id
for_has_id : (tx : Tx) (row : JobRow) → bytes_eq tx.id row.tx.value.id ≡ false → row_is_for tx row ≡ false
for_has_id tx row differs =
    let one = row.tx.value in
    by (bytes_eq one.id tx.id) refl (is_live (status_of row.stage)) ((one.height == tx.height) && (bytes_eq one.procedure tx.procedure && key_eq one.args tx.args))
  where
    turned : bytes_eq row.tx.value.id tx.id ≡ true → bytes_eq tx.id row.tx.value.id ≡ true
    turned same = (bytes_eq-Decides tx.id row.tx.value.id).1 (sym ((bytes_eq-Decides row.tx.value.id tx.id).0 same))

    both : true ≡ false → ⊥
    both is = cc

    by : (b : Bool) → bytes_eq row.tx.value.id tx.id ≡ b → (live rest : Bool) → (live && (b && rest)) ≡ false
    by true same live rest = absurd (both (sym (turned same) ∙ differs))
    by false same true rest = refl
    by false same false rest = refl

-- ---- the first job of a transaction

-- no job after the newest of its id is that of a transaction
pub up_to_newest : (tx : Tx) (number : ℕ) (rows : List JobRow) → position_from (row_is_for tx) number (take (newest tx.id (ids_of rows)) rows) ≡ position_from (row_is_for tx) number rows
up_to_newest tx number [] = refl
up_to_newest tx number (row ∷ rows) = by (bytes_eq tx.id row.tx.value.id) refl (newest tx.id (ids_of rows)) (up_to_newest tx (number + 1) rows)
  where
    by : (b : Bool) → bytes_eq tx.id row.tx.value.id ≡ b → (n : ℕ) → position_from (row_is_for tx) (number + 1) (take n rows) ≡ position_from (row_is_for tx) (number + 1) rows
        → position_from (row_is_for tx) number (take (behind_first b n) (row ∷ rows)) ≡ cond (row_is_for tx row) (Some number) (position_from (row_is_for tx) (number + 1) rows)
    by b same (suc n) rest = ap (cond (row_is_for tx row) (Some number)) rest
    by true same zero rest = ap (cond (row_is_for tx row) (Some number)) rest
    by false same zero rest = rest ∙ sym (ap (λ b. cond b (Some number) (position_from (row_is_for tx) (number + 1) rows)) (for_has_id tx row same))

-- one row more
position_more : (test : JobRow → Bool) (number : ℕ) (rows : List JobRow) (place : ℕ) (row : JobRow) → slice_get rows place ≡ Some row
    → position_from test number (take (suc place) rows) ≡ option_or (position_from test number (take place rows)) (cond (test row) (Some (number + place)) None)
position_more test number [] place row here = absurd (none-some row here)
position_more test number (first ∷ rows) zero row here =
    ap (λ (r : JobRow). cond (test r) (Some number) None) (same_Some first row here) ∙ ap (λ n. cond (test row) (Some n) None) (let same : number ≡ number + 0 = omega arith in same)
position_more test number (first ∷ rows) (suc place) row here =
    ap (cond (test first) (Some number)) (position_more test (number + 1) rows place row here) ∙ by (test first)
  where
    by : (b : Bool) → cond b (Some number) (option_or (position_from test (number + 1) (take place rows)) (cond (test row) (Some (number + 1 + place)) None))
        ≡ option_or (cond b (Some number) (position_from test (number + 1) (take place rows))) (cond (test row) (Some (number + suc place)) None)
    by true = refl
    by false = ap (λ n. option_or (position_from test (number + 1) (take place rows)) (cond (test row) (Some n) None)) (let same : number + 1 + place ≡ number + suc place = omega arith in same)

-- ---- a walk

-- a walk is at a job of the id, or at an end; before it stands the first job of the transaction, or else it was found
pub record Walks (tx : Tx) (rows : List JobRow) (number : ℕ) (found : Option ℕ) : Type 0 where
  pub within : number ≤ length rows
  pub own : (place : ℕ) → number ≡ suc place → slice_get (ids_of rows) place ≡ Some tx.id
  pub first : option_or (position_from (row_is_for tx) 1 (take number rows)) found ≡ position_from (row_is_for tx) 1 rows

or_none : (found : Option ℕ) → option_or found None ≡ found
or_none None = refl
or_none (Some number) = refl

pub walk_begins : (tx : Tx) (rows : List JobRow) (index : JobIndex) (number : ℕ) → Indexes index (ids_of rows) → number ≡ newest_of index tx.id → Walks tx rows number None
walk_begins tx rows index number indexed is =
    let same : newest tx.id (ids_of rows) ≡ number = sym (is ∙ indexed.newest tx.id) in
    subst (λ n. Walks tx rows n None) same (record {
      within = let long : length (ids_of rows) ≡ length rows = length-map rows (λ (row : JobRow). row.tx.value.id) in omega (arith, long, newest_within tx.id (ids_of rows));
      own = λ place here. newest_equal tx.id (ids_of rows) place here;
      first = or_none (position_from (row_is_for tx) 1 (take (newest tx.id (ids_of rows)) rows)) ∙ up_to_newest tx 1 rows;
    })

pub front_within : (n : ℕ) (ids : List (List ℕ)) → length (take n ids) ≤ n
front_within zero ids = omega arith
front_within (suc n) [] = omega arith
front_within (suc n) (id ∷ ids) = let rest : length (take n ids) ≤ n = front_within n ids in omega (arith, rest)

pub of_front : (n : ℕ) (ids : List (List ℕ)) (place : ℕ) (id : List ℕ) → slice_get (take n ids) place ≡ Some id → slice_get ids place ≡ Some id
of_front zero ids place id here = absurd (none-some id here)
of_front (suc n) [] place id here = here
of_front (suc n) (first ∷ ids) zero id here = here
of_front (suc n) (first ∷ ids) (suc place) id here = of_front n ids place id here

-- the link of a job of an id
pub link_is : (id : List ℕ) (rows : List JobRow) (index : JobIndex) (place older : ℕ) → Indexes index (ids_of rows) → slice_get (ids_of rows) place ≡ Some id → slice_get index.older.items place ≡ Some older
    → older ≡ newest id (take place (ids_of rows))
link_is id rows index place older indexed own link =
    same_Some older (newest id (take place (ids_of rows))) (sym link ∙ ap (λ numbers. slice_get numbers place) indexed.older ∙ olders_at [] (ids_of rows) place id own)

-- the link of a job at which a walk stands
pub link_of : (tx : Tx) (rows : List JobRow) (index : JobIndex) (place : ℕ) (found : Option ℕ) (older : ℕ) → Indexes index (ids_of rows) → Walks tx rows (suc place) found
    → slice_get index.older.items place ≡ Some older → older ≡ newest tx.id (take place (ids_of rows))
link_of tx rows index place found older indexed walk link =
    link_is tx.id rows index place older indexed (walk.own place refl) link

pub link_below : (tx : Tx) (rows : List JobRow) (index : JobIndex) (place : ℕ) (found : Option ℕ) (older : ℕ) → Indexes index (ids_of rows) → Walks tx rows (suc place) found
    → slice_get index.older.items place ≡ Some older → older ≤ place
link_below tx rows index place found older indexed walk link =
    let is : older ≡ newest tx.id (take place (ids_of rows)) = link_of tx rows index place found older indexed walk link in
    omega (arith, is, newest_within tx.id (take place (ids_of rows)), front_within place (ids_of rows))

-- a walk goes on
pub walk_on : (tx : Tx) (rows : List JobRow) (index : JobIndex) (place : ℕ) (row : JobRow) (found : Option ℕ) (older : ℕ) → Indexes index (ids_of rows) → Walks tx rows (suc place) found
    → slice_get rows place ≡ Some row → slice_get index.older.items place ≡ Some older → Walks tx rows older (cond (row_is_for tx row) (Some (1 + place)) found)
walk_on tx rows index place row found older indexed walk here link =
    let test : JobRow → Bool = row_is_for tx in
    let is : older ≡ newest tx.id (take place (ids_of rows)) = link_of tx rows index place found older indexed walk link in
    let below : older ≤ place = link_below tx rows index place found older indexed walk link in
    let same : newest tx.id (ids_of (take place rows)) ≡ older = sym (is ∙ ap (newest tx.id) (ids_front place rows)) in
    let front : position_from test 1 (take older rows) ≡ position_from test 1 (take place rows) =
    ap (position_from test 1) (sym (take-take older place rows below)) ∙ subst (λ n. position_from test 1 (take n (take place rows)) ≡ position_from test 1 (take place rows)) same (up_to_newest tx 1 (take place rows)) in
    record {
      within = let within : suc place ≤ length rows = walk.within in omega (arith, within, below);
      own = λ at there. of_front place (ids_of rows) at tx.id (newest_equal tx.id (take place (ids_of rows)) at (sym is ∙ there));
      first =
          ap (λ first. option_or first (cond (test row) (Some (1 + place)) found)) front ∙ by (position_from test 1 (take place rows)) (test row)
          ∙ ap (λ first. option_or first found) (sym (position_more test 1 rows place row here)) ∙ walk.first;
    }
  where
    by : (first : Option ℕ) (b : Bool) → option_or first (cond b (Some (1 + place)) found) ≡ option_or (option_or first (cond b (Some (1 + place)) None)) found
    by None true = refl
    by None false = refl
    by (Some number) b = refl

pub walk_ends : (tx : Tx) (rows : List JobRow) (found : Option ℕ) → Walks tx rows 0 found → found ≡ position_from (row_is_for tx) 1 rows
walk_ends tx rows found walk = walk.first

-- all jobs have a link
pub links_all : (rows : List JobRow) (index : JobIndex) → Indexes index (ids_of rows) → length index.older.items ≡ length rows
links_all rows index indexed = ap length indexed.older ∙ olders_length [] (ids_of rows) ∙ length-map rows (λ (row : JobRow). row.tx.value.id)

-- ---- a job that is looked at without a walk

id_at : (rows : List JobRow) (place : ℕ) (row : JobRow) → slice_get rows place ≡ Some row → slice_get (ids_of rows) place ≡ Some row.tx.value.id
id_at [] place row here = absurd (none-some row here)
id_at (first ∷ rows) zero row here = ap (λ (r : JobRow). Some r.tx.value.id) (same_Some first row here)
id_at (first ∷ rows) (suc place) row here = id_at rows place row here

-- a job of a transaction has its id
for_same_id : (tx : Tx) (row : JobRow) → row_is_for tx row ≡ true → row.tx.value.id ≡ tx.id
for_same_id tx row is = by (bytes_eq tx.id row.tx.value.id) refl
  where
    by : (b : Bool) → bytes_eq tx.id row.tx.value.id ≡ b → row.tx.value.id ≡ tx.id
    by true same = sym ((bytes_eq-Decides tx.id row.tx.value.id).0 same)
    by false differs = let not : row_is_for tx row ≡ false = for_has_id tx row differs in absurd (let both : true ≡ false = sym is ∙ not in cc)

-- where none before it passes, the first that passes is the one at a place
position_at : (test : JobRow → Bool) (number : ℕ) (rows : List JobRow) (place : ℕ) (row : JobRow) → slice_get rows place ≡ Some row → test row ≡ true
    → position_from test number (take place rows) ≡ None → position_from test number rows ≡ Some (number + place)
position_at test number [] place row here passes none = absurd (none-some row here)
position_at test number (first ∷ rows) zero row here passes none =
    ap (λ b. cond b (Some number) (position_from test (number + 1) rows)) (ap test (same_Some first row here) ∙ passes) ∙ ap Some (let same : number ≡ number + 0 = omega arith in same)
position_at test number (first ∷ rows) (suc place) row here passes none =
    by (test first) (position_at test (number + 1) rows place row here passes) none
  where
    next : number + 1 + place ≡ number + suc place
    next = omega arith

    by : (b : Bool) → (position_from test (number + 1) (take place rows) ≡ None → position_from test (number + 1) rows ≡ Some (number + 1 + place))
        → cond b (Some number) (position_from test (number + 1) (take place rows)) ≡ None → cond b (Some number) (position_from test (number + 1) rows) ≡ Some (number + suc place)
    by true rest none = absurd (none-some number (sym none))
    by false rest none = rest none ∙ ap Some next

-- a job of a transaction before which no job has its id is the first
pub first_at : (tx : Tx) (rows : List JobRow) (index : JobIndex) (place : ℕ) (row : JobRow) → Indexes index (ids_of rows) → slice_get rows place ≡ Some row → slice_get index.older.items place ≡ Some 0
    → row_is_for tx row ≡ true → position_from (row_is_for tx) 1 rows ≡ Some (place + 1)
first_at tx rows index place row indexed here link is =
    let own : slice_get (ids_of rows) place ≡ Some tx.id = id_at rows place row here ∙ ap Some (for_same_id tx row is) in
    let none : newest tx.id (ids_of (take place rows)) ≡ 0 = ap (newest tx.id) (sym (ids_front place rows)) ∙ sym (link_is tx.id rows index place 0 indexed own link) in
    let before : position_from (row_is_for tx) 1 (take place rows) ≡ None =
    sym (up_to_newest tx 1 (take place rows)) ∙ ap (λ n. position_from (row_is_for tx) 1 (take n (take place rows))) none in
    position_at (row_is_for tx) 1 rows place row here is before ∙ ap Some (let next : 1 + place ≡ place + 1 = omega arith in next)
