-- Rows of jobs that a seal drops.
use Rattle.std.proofs.Common.{Bool, List, Some, [], ap, arith, cond, drop, false, length, map, refl, slice_get, slice_index_or, slice_set, subst, suc, sym, take, true, zero, ◌&&◌, ◌++◌, ◌||◌, ◌∙◌, ◌≡◌, ◌≤◌, ◌∷◌, ℕ}
use Rattle.std.proofs.lemmas.Bool.{false≢true}
use Rattle.std.proofs.lemmas.List.Folds.{list_any-append}
use Rattle.std.proofs.lemmas.List.{length-map, take_all}
use Rattle.std.proofs.lemmas.Option.{none-some, same_Some}
use Rattle.std.proofs.lemmas.Slice.Eq.{bytes_eq-Decides}
use Rattle.std.specs.List.{list_any}
use Rattle.std.specs.Str.{bytes_eq}
use Rattle.node_core.proofs.Newest.{newest_equal, newest_within}
use Rattle.node_core.proofs.Walks.{front_within, link_is, of_front}
use Rattle.node_core.specs.ById.{Indexes, behind_first, ids_of, newest, newest_of}
use Rattle.node_core.specs.Over.{drop_among, drop_open}
use Rattle.node_core.specs.Rows.{at_stage, count_held, is_open, one_held}
use Rattle.node_core.specs.declared.index.JobIndex.{JobIndex}
use Rattle.node_core.specs.declared.jobs.JobRow.{JobRow}
use Rattle.node_core.specs.declared.jobs.Stage.TheVariants as stage
use Rattle.node_core.specs.declared.jobs.Stage.{Stage}
use Rattle.node_model.specs.Steps.{Shared}
use Rattle.proc_syntax.specs.declared.call.Tx.{Tx}

-- ---- one row

-- a job of another id stays as it is
other_id : (id : List ℕ) (row : JobRow) → bytes_eq id row.tx.value.id ≡ false → drop_among (id ∷ []) row ≡ row
other_id id row differs = ap (λ b. cond (is_open row.stage && (b || false)) (at_stage stage.Dropped row) row) (turned (bytes_eq row.tx.value.id id) refl) ∙ by (is_open row.stage)
  where
    turned : (b : Bool) → bytes_eq row.tx.value.id id ≡ b → b ≡ false
    turned false is = refl
    turned true is = absurd (false≢true (sym differs ∙ (bytes_eq-Decides id row.tx.value.id).1 (sym ((bytes_eq-Decides row.tx.value.id id).0 is))))

    by : (b : Bool) → cond (b && (false || false)) (at_stage stage.Dropped row) row ≡ row
    by true = refl
    by false = refl

same_id : (id : List ℕ) (row : JobRow) → row.tx.value.id ≡ id → drop_among (id ∷ []) row ≡ drop_open row
same_id id row is = ap (λ b. cond (is_open row.stage && (b || false)) (at_stage stage.Dropped row) row) ((bytes_eq-Decides row.tx.value.id id).1 is) ∙ by (is_open row.stage)
  where
    by : (b : Bool) → cond (b && (true || false)) (at_stage stage.Dropped row) row ≡ cond b (at_stage stage.Dropped row) row
    by true = refl
    by false = refl

-- where it is among no ids, or among some and then among others
none_among : (row : JobRow) → drop_among [] row ≡ row
none_among row = by (is_open row.stage)
  where
    by : (b : Bool) → cond (b && false) (at_stage stage.Dropped row) row ≡ row
    by true = refl
    by false = refl

both_among : (ids more : List (List ℕ)) (row : JobRow) → drop_among more (drop_among ids row) ≡ drop_among (ids ++ more) row
both_among ids more row =
    by (is_open row.stage) refl (list_any (bytes_eq row.tx.value.id) ids) ∙ sym (ap (λ b. cond (is_open row.stage && b) (at_stage stage.Dropped row) row) (list_any-append (bytes_eq row.tx.value.id) ids more))
  where
    by : (b : Bool) → is_open row.stage ≡ b → (among : Bool)
        → drop_among more (cond (b && among) (at_stage stage.Dropped row) row) ≡ cond (b && (among || list_any (bytes_eq row.tx.value.id) more)) (at_stage stage.Dropped row) row
    by false is among = ap (λ b. cond (b && list_any (bytes_eq row.tx.value.id) more) (at_stage stage.Dropped row) row) is
    by true is true = refl
    by true is false = ap (λ b. cond (b && list_any (bytes_eq row.tx.value.id) more) (at_stage stage.Dropped row) row) is

-- ---- the jobs of an id, from the newest back

-- the rows from a place on are changed
abbrev pub changed_from : (JobRow → JobRow) → ℕ → List JobRow → List JobRow
changed_from change place rows = take place rows ++ map change (drop place rows)

pub changed_length : (change : JobRow → JobRow) (place : ℕ) (rows : List JobRow) → length (changed_from change place rows) ≡ length rows
changed_length change zero rows = length-map rows change
changed_length change (suc place) [] = refl
changed_length change (suc place) (row ∷ rows) = ap suc (changed_length change place rows)

none_changed : (change : JobRow → JobRow) (rows : List JobRow) → changed_from change (length rows) rows ≡ rows
none_changed change [] = refl
none_changed change (row ∷ rows) = ap (λ rest. row ∷ rest) (none_changed change rows)

-- after the newest of the id before a place no job changes
none_between : (id : List ℕ) (rows : List JobRow) (place : ℕ) → changed_from (drop_among (id ∷ [])) (newest id (take place (ids_of rows))) rows ≡ changed_from (drop_among (id ∷ [])) place rows
none_between id rows zero = refl
none_between id [] (suc place) = refl
none_between id (row ∷ rows) (suc place) = by (bytes_eq id row.tx.value.id) refl (newest id (take place (ids_of rows))) (none_between id rows place)
  where
    by : (b : Bool) → bytes_eq id row.tx.value.id ≡ b → (n : ℕ) → changed_from (drop_among (id ∷ [])) n rows ≡ changed_from (drop_among (id ∷ [])) place rows
        → changed_from (drop_among (id ∷ [])) (behind_first b n) (row ∷ rows) ≡ row ∷ changed_from (drop_among (id ∷ [])) place rows
    by b is (suc n) rest = ap (λ all. row ∷ all) rest
    by true is zero rest = ap (λ all. row ∷ all) rest
    by false is zero rest = ap (λ (first : JobRow). first ∷ map (drop_among (id ∷ [])) rows) (other_id id row is) ∙ ap (λ all. row ∷ all) rest

-- one more row is changed
one_changed : (id : List ℕ) (rows : List JobRow) (place : ℕ) (other : JobRow) → slice_get (ids_of rows) place ≡ Some id
    → slice_set (changed_from (drop_among (id ∷ [])) (suc place) rows) place (drop_open (slice_index_or (changed_from (drop_among (id ∷ [])) (suc place) rows) place other))
    ≡ changed_from (drop_among (id ∷ [])) place rows
one_changed id [] place other own = absurd (none-some id own)
one_changed id (row ∷ rows) zero other own = ap (λ (first : JobRow). first ∷ map (drop_among (id ∷ [])) rows) (sym (same_id id row (same_Some row.tx.value.id id own)))
one_changed id (row ∷ rows) (suc place) other own = ap (λ rest. row ∷ rest) (one_changed id rows place other own)

-- a walk is at a job of the id, or at an end; the jobs from there on are changed
pub record Drops (id : List ℕ) (before now : List JobRow) (number : ℕ) : Type 0 where
  pub within : number ≤ length before
  pub own : (place : ℕ) → number ≡ suc place → slice_get (ids_of before) place ≡ Some id
  pub rows : now ≡ changed_from (drop_among (id ∷ [])) number before

pub drops_begin : (id : List ℕ) (rows : List JobRow) (index : JobIndex) (number : ℕ) → Indexes index (ids_of rows) → number ≡ newest_of index id → Drops id rows rows number
drops_begin id rows index number indexed is =
    let same : newest id (ids_of rows) ≡ number = sym (is ∙ indexed.newest id) in
    let long : length (ids_of rows) ≡ length rows = length-map rows (λ (row : JobRow). row.tx.value.id) in
    let all : take (length rows) (ids_of rows) ≡ ids_of rows = take_all (length rows) (ids_of rows) (omega (arith, long)) in
    subst (λ n. Drops id rows rows n) same (record {
      within = omega (arith, long, newest_within id (ids_of rows));
      own = λ place here. newest_equal id (ids_of rows) place here;
      rows = sym (ap (λ ids. changed_from (drop_among (id ∷ [])) (newest id ids) rows) (sym all) ∙ none_between id rows (length rows) ∙ none_changed (drop_among (id ∷ [])) rows);
    })

pub drops_below : (id : List ℕ) (before now : List JobRow) (index : JobIndex) (place older : ℕ) → Indexes index (ids_of before) → Drops id before now (suc place) → slice_get index.older.items place ≡ Some older → older ≤ place
drops_below id before now index place older indexed walk link =
    let is : older ≡ newest id (take place (ids_of before)) = link_is id before index place older indexed (walk.own place refl) link in
    omega (arith, is, newest_within id (take place (ids_of before)), front_within place (ids_of before))

pub drops_on : (id : List ℕ) (before now : List JobRow) (index : JobIndex) (place older : ℕ) (row other : JobRow) → Indexes index (ids_of before) → Drops id before now (suc place)
    → slice_get index.older.items place ≡ Some older → row ≡ drop_open (slice_index_or now place other) → Drops id before (slice_set now place row) older
drops_on id before now index place older row other indexed walk link changed =
    let is : older ≡ newest id (take place (ids_of before)) = link_is id before index place older indexed (walk.own place refl) link in
    let below : older ≤ place = drops_below id before now index place older indexed walk link in
    record {
      within = let within : suc place ≤ length before = walk.within in omega (arith, within, below);
      own = λ at there. of_front place (ids_of before) at id (newest_equal id (take place (ids_of before)) at (sym is ∙ there));
      rows =
          ap (slice_set now place) changed ∙ ap (λ (all : List JobRow). slice_set all place (drop_open (slice_index_or all place other))) walk.rows ∙ one_changed id before place other (walk.own place refl)
          ∙ sym (none_between id before place) ∙ ap (λ n. changed_from (drop_among (id ∷ [])) n before) (sym is);
    }

-- ---- the jobs of several ids

pub all_none : (rows : List JobRow) → rows ≡ map (drop_among []) rows
all_none [] = refl
all_none (row ∷ rows) = ap (λ rest. row ∷ rest) (all_none rows) ∙ sym (ap (λ (first : JobRow). first ∷ map (drop_among []) rows) (none_among row))

pub all_both : (ids more : List (List ℕ)) (rows : List JobRow) → map (drop_among more) (map (drop_among ids) rows) ≡ map (drop_among (ids ++ more)) rows
all_both ids more [] = refl
all_both ids more (row ∷ rows) = (λ i. both_among ids more row i ∷ all_both ids more rows i)

id_stays : (ids : List (List ℕ)) (row : JobRow) → (drop_among ids row).tx.value.id ≡ row.tx.value.id
id_stays ids row = by (is_open row.stage && list_any (bytes_eq row.tx.value.id) ids)
  where
    by : (b : Bool) → (cond b (at_stage stage.Dropped row) row).tx.value.id ≡ row.tx.value.id
    by true = refl
    by false = refl

pub ids_dropped : (ids : List (List ℕ)) (rows : List JobRow) → ids_of (map (drop_among ids) rows) ≡ ids_of rows
ids_dropped ids [] = refl
ids_dropped ids (row ∷ rows) = (λ i. id_stays ids row i ∷ ids_dropped ids rows i)

-- ---- held jobs stay held, and no other becomes held

abbrev row_with : Shared Tx → Stage → JobRow
row_with tx now = record { tx = tx; stage = now }

held_same : (tx : Shared Tx) (now : Stage) (known : Bool) → one_held (cond (is_open now && known) (row_with tx stage.Dropped) (row_with tx now)).stage ≡ one_held now
held_same tx stage.Waiting true = refl
held_same tx stage.Waiting false = refl
held_same tx (stage.Held actor) known = refl
held_same tx (stage.Done recorded) true = refl
held_same tx (stage.Done recorded) false = refl
held_same tx stage.Taken true = refl
held_same tx stage.Taken false = refl
held_same tx stage.Dropped known = refl

pub count_dropped : (ids : List (List ℕ)) (rows : List JobRow) → count_held (map (drop_among ids) rows) ≡ count_held rows
count_dropped ids [] = refl
count_dropped ids (row ∷ rows) =
    let one : one_held (drop_among ids row).stage ≡ one_held row.stage = held_same row.tx row.stage (list_any (bytes_eq row.tx.value.id) ids) in
    omega (arith, one, count_dropped ids rows)
