-- The table of jobs: rows that are changed and counted.
use Rattle.std.proofs.Common.{Bool, List, None, Option, Some, [], ap, arith, cond, false, length, map, refl, slice_get, slice_index_or, slice_set, suc, sym, true, zero, ◌+◌, ◌<◌, ◌++◌, ◌∙◌, ◌≡◌, ◌≤◌, ◌∷◌, ℕ}
use Rattle.std.proofs.lemmas.Option.{none-some, same_Some}
use Rattle.std.specs.List.{enumerate_from, filter, position_from}
use Rattle.std.specs.Option.{option_map}
use Rattle.node_core.specs.Rows.{count_held, eligible_rows, new_row, one_held, put_at, put_row, row_at, row_is_eligible, row_is_for, shown, shown_all, status_of}
use Rattle.node_core.specs.declared.jobs.JobRow.{JobRow}
use Rattle.node_core.specs.declared.jobs.Stage.{Stage}
use Rattle.node_model.specs.Steps.{Shared}
use Rattle.node_model.specs.World.{Job, eligible, is_eligible, is_for, is_held}
use Rattle.proc_syntax.specs.declared.call.Tx.{Tx}

-- ---- how many are held

one_at_most : (now : Stage) → one_held now ≤ 1
one_at_most now = by (is_held (status_of now))
  where
    by : (b : Bool) → cond b 1 0 ≤ 1
    by true = omega arith
    by false = omega arith

pub count_within : (rows : List JobRow) → count_held rows ≤ length rows
count_within [] = omega arith
count_within (row ∷ rows) = omega (arith, one_at_most row.stage, count_within rows)

pub count_more : (rows : List JobRow) (tx : Shared Tx) → count_held (rows ++ new_row tx ∷ []) ≡ count_held rows
count_more [] tx = refl
count_more (row ∷ rows) tx = ap (λ n. one_held row.stage + n) (count_more rows tx)

pub count_many : (rows : List JobRow) (txs : List (Shared Tx)) → count_held (rows ++ map new_row txs) ≡ count_held rows
count_many [] [] = refl
count_many [] (tx ∷ txs) = let rest : count_held (map new_row txs) ≡ 0 = count_many [] txs in omega (arith, rest)
count_many (row ∷ rows) txs = ap (λ n. one_held row.stage + n) (count_many rows txs)

count_put_at : (rows : List JobRow) (place : ℕ) (now : Stage) (row : JobRow) → slice_get rows place ≡ Some row → count_held (put_at rows place now) + one_held row.stage ≡ count_held rows + one_held now
count_put_at [] place now row here = absurd (none-some row here)
count_put_at (first ∷ rows) zero now row here =
    let same : one_held first.stage ≡ one_held row.stage = ap (λ (r : JobRow). one_held r.stage) (same_Some first row here) in omega (arith, same)
count_put_at (first ∷ rows) (suc place) now row here = omega (arith, count_put_at rows place now row here)

pub count_put : (rows : List JobRow) (number : ℕ) (now : Stage) (row : JobRow) → row_at rows number ≡ Some row → count_held (put_row rows number now) + one_held row.stage ≡ count_held rows + one_held now
count_put rows zero now row here = absurd (none-some row here)
count_put rows (suc place) now row here = count_put_at rows place now row here

-- a change in place
pub set_is : (rows : List JobRow) (place : ℕ) (now : Stage) (other : JobRow) → place < length rows → slice_set rows place (record { tx = (slice_index_or rows place other).tx; stage = now }) ≡ put_at rows place now
set_is [] place now other within = refl
set_is (row ∷ rows) zero now other within = refl
set_is (row ∷ rows) (suc place) now other within = ap (λ rest. row ∷ rest) (set_is rows place now other (omega (arith, within)))

-- ---- by the words of the definitions

pub number_is : (tx : Tx) (number : ℕ) (rows : List JobRow) → position_from (row_is_for tx) number rows ≡ position_from (is_for tx) number (shown_all rows)
number_is tx number [] = refl
number_is tx number (row ∷ rows) = ap (cond (row_is_for tx row) (Some number)) (number_is tx (number + 1) rows)

eligible_from : (number height : ℕ) (rows : List JobRow) → eligible_rows number height rows
    ≡ map (λ (numbered : ℕ × Job). numbered.0) (filter (λ (numbered : ℕ × Job). is_eligible height numbered.1) (enumerate_from number (shown_all rows)))
eligible_from number height [] = refl
eligible_from number height (row ∷ rows) = ap (λ (numbers : List ℕ). cond (row_is_eligible height row) (number ∷ numbers) numbers) (eligible_from (number + 1) height rows) ∙ other (row_is_eligible height row)
  where
    other : (b : Bool) → (let rest : List (ℕ × Job) = filter (λ (numbered : ℕ × Job). is_eligible height numbered.1) (enumerate_from (number + 1) (shown_all rows)) in
        cond b (number ∷ map (λ (numbered : ℕ × Job). numbered.0) rest) (map (λ (numbered : ℕ × Job). numbered.0) rest) ≡ map (λ (numbered : ℕ × Job). numbered.0) (cond b ((number, shown row) ∷ rest) rest))
    other true = refl
    other false = refl

pub eligible_is : (height : ℕ) (rows : List JobRow) → eligible_rows 1 height rows ≡ eligible height (shown_all rows)
eligible_is height rows = eligible_from 1 height rows

pub none_at : {X : Type 0} (xs : List X) (place : ℕ) → length xs ≡ 0 → slice_get xs place ≡ None
none_at [] place none = refl
none_at (x ∷ xs) place none = cc

-- ---- a row that is there

pub stage_there : (rows : List JobRow) (number : ℕ) (now : Stage) → option_map (λ (row : JobRow). row.stage) (row_at rows number) ≡ Some now → (row : JobRow) × (row_at rows number ≡ Some row) × (row.stage ≡ now)
stage_there rows number now is = by (row_at rows number) refl is
  where
    by : (found : Option JobRow) → row_at rows number ≡ found → option_map (λ (row : JobRow). row.stage) found ≡ Some now → (row : JobRow) × (row_at rows number ≡ Some row) × (row.stage ≡ now)
    by None here is = absurd (none-some now is)
    by (Some row) here is = (row, here, same_Some row.stage now is)

-- what a change of one row does to the number of held jobs
pub record Change (rows : List JobRow) (number : ℕ) (was now : Stage) : Type 0 where
  pub count : count_held (put_row rows number now) + one_held was ≡ count_held rows + one_held now
  pub room : one_held was ≤ count_held rows
  pub within : count_held rows ≤ length rows
  pub one : one_held now ≤ 1

one_of : (rows : List JobRow) (place : ℕ) (row : JobRow) → slice_get rows place ≡ Some row → one_held row.stage ≤ count_held rows
one_of [] place row here = absurd (none-some row here)
one_of (first ∷ rows) zero row here = let same : one_held first.stage ≡ one_held row.stage = ap (λ (r : JobRow). one_held r.stage) (same_Some first row here) in omega (arith, same)
one_of (first ∷ rows) (suc place) row here = omega (arith, one_of rows place row here)

one_at : (rows : List JobRow) (number : ℕ) (row : JobRow) → row_at rows number ≡ Some row → one_held row.stage ≤ count_held rows
one_at rows zero row here = absurd (none-some row here)
one_at rows (suc place) row here = one_of rows place row here

pub change_of : (rows : List JobRow) (number : ℕ) (was now : Stage) → option_map (λ (row : JobRow). row.stage) (row_at rows number) ≡ Some was → Change rows number was now
change_of rows number was now is =
    let there = stage_there rows number was is in
    let same : one_held there.0.stage ≡ one_held was = ap one_held there.2 in
    record {
      count = ap (λ n. count_held (put_row rows number now) + n) (sym same) ∙ count_put rows number now there.0 there.1;
      room = omega (arith, same, one_at rows number there.0 there.1);
      within = count_within rows;
      one = one_at_most now;
    }
