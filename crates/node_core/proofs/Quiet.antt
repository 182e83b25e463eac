-- The first rows, of which none waits, and of which those that wait are above a height.
use Rattle.std.proofs.Common.{Bool, IsSome, List, None, Some, [], ap, arith, cond, drop, false, length, map, refl, slice_get, subst, suc, sym, take, true, zero, ◌%◌, ◌&&◌, ◌+◌, ◌++◌, ◌-◌, ◌<◌, ◌∙◌, ◌≡◌, ◌≤◌, ◌∷◌, ℕ}
use Rattle.std.proofs.lemmas.Bool.Decides.{nat_tests}
use Rattle.std.proofs.lemmas.Bool.{false≢true}
use Rattle.std.proofs.lemmas.List.{length-append, length-map}
use Rattle.std.proofs.lemmas.Option.{none-some, same_Some}
use Rattle.std.specs.List.{list_any}
use Rattle.std.specs.Prelude.{nat_le}
use Rattle.std.specs.Str.{bytes_eq}
use Rattle.node_core.specs.Over.{drop_among}
use Rattle.node_core.specs.Rows.{at_stage, eligible_rows, is_open, put_at, row_at, row_is_eligible, status_of}
use Rattle.node_core.specs.Waiting.{BoundsHold, WaitAbove, WaitsAbove, leading_quiet}
use Rattle.node_core.specs.declared.bounds.WaitBounds.{WaitBounds}
use Rattle.node_core.specs.declared.jobs.JobRow.{JobRow}
use Rattle.node_core.specs.declared.jobs.Stage.TheVariants as stage
use Rattle.node_core.specs.declared.jobs.Stage.{Stage}
use Rattle.node_model.specs.World.{is_waiting}

abbrev waits : JobRow → Bool
waits row = is_waiting (status_of row.stage)

-- ---- the first rows

-- a row that does not wait, where more than none of the first do not
quiet_here : (row : JobRow) (rows : List JobRow) (n : ℕ) → suc n ≤ leading_quiet (row ∷ rows) → (waits row ≡ false) × (n ≤ leading_quiet rows)
quiet_here row rows n within = by (waits row) refl within
  where
    by : (b : Bool) → waits row ≡ b → suc n ≤ cond b 0 (suc (leading_quiet rows)) → (waits row ≡ false) × (n ≤ leading_quiet rows)
    by true is within = absurd (omega (arith, within))
    by false is within = (is, omega (arith, within))

-- one more row that does not wait
quiet_next : (row : JobRow) (rows : List JobRow) (n : ℕ) → waits row ≡ false → n ≤ leading_quiet rows → suc n ≤ leading_quiet (row ∷ rows)
quiet_next row rows n is within = subst (λ b. suc n ≤ cond b 0 (suc (leading_quiet rows))) (sym is) (let next : suc n ≤ suc (leading_quiet rows) = omega (arith, within) in next)

pub quiet_within : (rows : List JobRow) → leading_quiet rows ≤ length rows
quiet_within [] = omega arith
quiet_within (row ∷ rows) = by (waits row) (quiet_within rows)
  where
    by : (b : Bool) → leading_quiet rows ≤ length rows → cond b 0 (suc (leading_quiet rows)) ≤ suc (length rows)
    by true within = omega arith
    by false within = omega (arith, within)

-- those before a place of which none waits
pub quiet_split : (n : ℕ) (rows : List JobRow) → n ≤ leading_quiet rows → n + leading_quiet (drop n rows) ≡ leading_quiet rows
quiet_split zero rows within = omega arith
quiet_split (suc n) [] within = absurd (omega (arith, within))
quiet_split (suc n) (row ∷ rows) within =
    let here = quiet_here row rows n within in
    let rest : n + leading_quiet (drop n rows) ≡ leading_quiet rows = quiet_split n rows here.1 in
    let next : suc n + leading_quiet (drop n rows) ≡ suc (leading_quiet rows) = omega (arith, rest) in
    next ∙ sym (ap (λ b. cond b 0 (suc (leading_quiet rows))) here.0)

-- they stay so where others come after them
quiet_more : (n : ℕ) (rows more : List JobRow) → n ≤ leading_quiet rows → n ≤ leading_quiet (rows ++ more)
quiet_more zero rows more within = omega arith
quiet_more (suc n) [] more within = absurd (omega (arith, within))
quiet_more (suc n) (row ∷ rows) more within =
    let here = quiet_here row rows n within in
    quiet_next row (rows ++ more) n here.0 (quiet_more n rows more here.1)

-- and where one after them changes
quiet_before : (n : ℕ) (rows : List JobRow) (place : ℕ) (now : Stage) → n ≤ leading_quiet rows → n ≤ place → n ≤ leading_quiet (put_at rows place now)
quiet_before zero rows place now within before = omega arith
quiet_before (suc n) [] place now within before = absurd (omega (arith, within))
quiet_before (suc n) (row ∷ rows) zero now within before = absurd (omega (arith, before))
quiet_before (suc n) (row ∷ rows) (suc place) now within before =
    let here = quiet_here row rows n within in
    quiet_next row (put_at rows place now) n here.0 (quiet_before n rows place now here.1 (omega (arith, before)))

-- and where one does not wait any more
quiet_ended : (n : ℕ) (rows : List JobRow) (place : ℕ) (now : Stage) → is_waiting (status_of now) ≡ false → n ≤ leading_quiet rows → n ≤ leading_quiet (put_at rows place now)
quiet_ended zero rows place now is within = omega arith
quiet_ended (suc n) [] place now is within = absurd (omega (arith, within))
quiet_ended (suc n) (row ∷ rows) zero now is within = quiet_next (at_stage now row) rows n is (quiet_here row rows n within).1
quiet_ended (suc n) (row ∷ rows) (suc place) now is within =
    let here = quiet_here row rows n within in
    quiet_next row (put_at rows place now) n here.0 (quiet_ended n rows place now is here.1)

-- ---- a seal lets no job wait

not_after : (ids : List (List ℕ)) (row : JobRow) → waits row ≡ false → waits (drop_among ids row) ≡ false
not_after ids row is = by (is_open row.stage && list_any (bytes_eq row.tx.value.id) ids)
  where
    by : (b : Bool) → waits (cond b (at_stage stage.Dropped row) row) ≡ false
    by true = refl
    by false = is

quiet_dropped : (ids : List (List ℕ)) (n : ℕ) (rows : List JobRow) → n ≤ leading_quiet rows → n ≤ leading_quiet (map (drop_among ids) rows)
quiet_dropped ids zero rows within = omega arith
quiet_dropped ids (suc n) [] within = absurd (omega (arith, within))
quiet_dropped ids (suc n) (row ∷ rows) within =
    let here = quiet_here row rows n within in
    quiet_next (drop_among ids row) (map (drop_among ids) rows) n (not_after ids row here.0) (quiet_dropped ids n rows here.1)

above_settled : (ids : List (List ℕ)) (height : ℕ) (row : JobRow) → WaitsAbove height row → WaitsAbove height (drop_among ids row)
above_settled ids height row above = by (is_open row.stage && list_any (bytes_eq row.tx.value.id) ids)
  where
    by : (b : Bool) → WaitsAbove height (cond b (at_stage stage.Dropped row) row)
    by true = λ is. absurd (false≢true is)
    by false = above

above_dropped : (ids : List (List ℕ)) (height n : ℕ) (rows : List JobRow) → WaitAbove height (take n rows) → WaitAbove height (take n (map (drop_among ids) rows))
above_dropped ids height zero rows above = tt
above_dropped ids height (suc n) [] above = tt
above_dropped ids height (suc n) (row ∷ rows) above = (above_settled ids height row above.0, above_dropped ids height n rows above.1)

-- ---- the first rows, of which those that wait are above a height

above_fewer : (height m n : ℕ) (rows : List JobRow) → m ≤ n → WaitAbove height (take n rows) → WaitAbove height (take m rows)
above_fewer height zero n rows fewer above = tt
above_fewer height (suc m) zero rows fewer above = absurd (omega (arith, fewer))
above_fewer height (suc m) (suc n) [] fewer above = tt
above_fewer height (suc m) (suc n) (row ∷ rows) fewer above = (above.0, above_fewer height m n rows (omega (arith, fewer)) above.1)

above_more : (height n : ℕ) (rows more : List JobRow) → n ≤ length rows → WaitAbove height (take n rows) → WaitAbove height (take n (rows ++ more))
above_more height zero rows more within above = tt
above_more height (suc n) [] more within above = absurd (omega (arith, within))
above_more height (suc n) (row ∷ rows) more within above = (above.0, above_more height n rows more (omega (arith, within)) above.1)

-- one after them changes
above_before : (height n : ℕ) (rows : List JobRow) (place : ℕ) (now : Stage) → n ≤ place → WaitAbove height (take n rows) → WaitAbove height (take n (put_at rows place now))
above_before height zero rows place now before above = tt
above_before height (suc n) [] place now before above = tt
above_before height (suc n) (row ∷ rows) zero now before above = absurd (omega (arith, before))
above_before height (suc n) (row ∷ rows) (suc place) now before above = (above.0, above_before height n rows place now (omega (arith, before)) above.1)

-- one changes that is above the height, or does not wait
above_put : (height n : ℕ) (rows : List JobRow) (place : ℕ) (now : Stage) (row : JobRow) → slice_get (put_at rows place now) place ≡ Some row → WaitsAbove height row → WaitAbove height (take n rows) → WaitAbove height (take n (put_at rows place now))
above_put height zero rows place now row here is above = tt
above_put height (suc n) [] place now row here is above = tt
above_put height (suc n) (first ∷ rows) zero now row here is above = (subst (WaitsAbove height) (sym (same_Some (at_stage now first) row here)) is, above.1)
above_put height (suc n) (first ∷ rows) (suc place) now row here is above = (above.0, above_put height n rows place now row here is above.1)

-- none of them is to be claimed at a height that is no greater
above_not : (height above : ℕ) (row : JobRow) → height ≤ above → WaitsAbove above row → row_is_eligible height row ≡ false
above_not height above row lower is = by (waits row) refl (nat_le row.tx.value.height height) refl
  where
    by : (b : Bool) → waits row ≡ b → (low : Bool) → nat_le row.tx.value.height height ≡ low → (b && low) ≡ false
    by false there low fits = refl
    by true there false fits = refl
    by true there true fits =
        let low : row.tx.value.height ≤ height = grind (arith, nat_tests) in
        let high : above < row.tx.value.height = is there in absurd (omega (arith, high, lower, low))

eligible_behind : (height above n number : ℕ) (rows : List JobRow) → height ≤ above → WaitAbove above (take n rows) → eligible_rows number height rows ≡ eligible_rows (number + n) height (drop n rows)
eligible_behind height above zero number rows lower are = ap (λ m. eligible_rows m height rows) (let same : number ≡ number + 0 = omega arith in same)
eligible_behind height above (suc n) number [] lower are = refl
eligible_behind height above (suc n) number (row ∷ rows) lower are =
    ap (λ b. cond b (number ∷ eligible_rows (number + 1) height rows) (eligible_rows (number + 1) height rows)) (above_not height above row lower are.0)
    ∙ eligible_behind height above n (number + 1) rows lower are.1
    ∙ ap (λ m. eligible_rows m height (drop n rows)) (let same : number + 1 + n ≡ number + suc n = omega arith in same)

pub left_is : (height above n : ℕ) (rows : List JobRow) → height ≤ above → WaitAbove above (take n rows) → eligible_rows (n + 1) height (drop n rows) ≡ eligible_rows 1 height rows
left_is height above n rows lower are =
    ap (λ m. eligible_rows m height (drop n rows)) (let same : n + 1 ≡ 1 + n = omega arith in same) ∙ sym (eligible_behind height above n 1 rows lower are)

-- those that do not wait are above each height
pub quiet_above : (height n : ℕ) (rows : List JobRow) → n ≤ leading_quiet rows → WaitAbove height (take n rows)
quiet_above height zero rows within = tt
quiet_above height (suc n) [] within = tt
quiet_above height (suc n) (row ∷ rows) within =
    let here = quiet_here row rows n within in
    ((λ is. absurd (false≢true (sym here.0 ∙ is))), quiet_above height n rows here.1)

-- ---- the rows before the first one that is to be claimed

not_above : (height : ℕ) (row : JobRow) → row_is_eligible height row ≡ false → WaitsAbove height row
not_above height row is there = by (nat_le row.tx.value.height height) refl (ap (λ b. b && nat_le row.tx.value.height height) (sym there) ∙ is)
  where
    by : (low : Bool) → nat_le row.tx.value.height height ≡ low → low ≡ false → height < row.tx.value.height
    by true fits is = absurd (false≢true (sym is))
    by false fits is = grind (arith, nat_tests)

-- all rows, where there is none
pub none_above : (height number : ℕ) (rows : List JobRow) → None ≡ slice_get (eligible_rows number height rows) 0 → WaitAbove height rows
none_above height number [] none = tt
none_above height number (row ∷ rows) none = by (row_is_eligible height row) refl (λ rest. none_above height (number + 1) rows rest) none
  where
    by : (b : Bool) → row_is_eligible height row ≡ b → (None ≡ slice_get (eligible_rows (number + 1) height rows) 0 → WaitAbove height rows)
        → None ≡ slice_get (cond b (number ∷ eligible_rows (number + 1) height rows) (eligible_rows (number + 1) height rows)) 0 → WaitAbove height (row ∷ rows)
    by true is behind none = absurd (none-some number none)
    by false is behind none = (not_above height row is, behind none)

-- so many rows stand before the one of a number
pub record StandBefore (height number found : ℕ) (rows : List JobRow) : Type 0 where
  pub count : ℕ
  pub at : found ≡ number + count
  pub within : count < length rows
  pub above : WaitAbove height (take count rows)

pub before_first : (height number found : ℕ) (rows : List JobRow) → Some found ≡ slice_get (eligible_rows number height rows) 0 → StandBefore height number found rows
before_first height number found [] is = absurd (none-some found (sym is))
before_first height number found (row ∷ rows) is = by (row_is_eligible height row) refl (λ rest. before_first height (number + 1) found rows rest) is
  where
    by : (b : Bool) → row_is_eligible height row ≡ b → (Some found ≡ slice_get (eligible_rows (number + 1) height rows) 0 → StandBefore height (number + 1) found rows)
        → Some found ≡ slice_get (cond b (number ∷ eligible_rows (number + 1) height rows) (eligible_rows (number + 1) height rows)) 0 → StandBefore height number found (row ∷ rows)
    by true eligible behind is = record { count = 0; at = (let same : found ≡ number = same_Some found number is in omega (arith, same)); within = omega arith; above = tt }
    by false eligible behind is =
        let rest = behind is in
        let place = rest.at in
        let fits = rest.within in
        record { count = suc rest.count; at = omega (arith, place); within = omega (arith, fits); above = (not_above height row eligible, rest.above) }

-- ---- bounds

pub bounds_more : (bounds : WaitBounds) (rows more : List JobRow) → BoundsHold bounds rows → BoundsHold bounds (rows ++ more)
bounds_more bounds rows more was = record {
  quiet = quiet_more bounds.quiet rows more was.quiet;
  within = (let long = length-append rows more in omega (arith, long, was.within));
  above = above_more bounds.above bounds.passed rows more was.within was.above;
}

pub length_put : (rows : List JobRow) (place : ℕ) (now : Stage) → length (put_at rows place now) ≡ length rows
length_put [] place now = refl
length_put (row ∷ rows) zero now = refl
length_put (row ∷ rows) (suc place) now = ap suc (length_put rows place now)

place_within : (rows : List JobRow) (place : ℕ) → IsSome (slice_get rows place) → place < length rows
place_within [] place there = absurd (false≢true there)
place_within (row ∷ rows) zero there = omega arith
place_within (row ∷ rows) (suc place) there = let rest : place < length rows = place_within rows place there in omega (arith, rest)

pub number_within : (rows : List JobRow) (number : ℕ) → IsSome (row_at rows number) → number - 1 < length rows
number_within rows zero there = absurd (false≢true there)
number_within rows (suc place) there = let within : place < length rows = place_within rows place there in omega (arith, within)

-- the stage that a row was given
given : (rows : List JobRow) (place : ℕ) (now : Stage) (row : JobRow) → slice_get (put_at rows place now) place ≡ Some row → now ≡ row.stage
given [] place now row here = absurd (none-some row here)
given (first ∷ rows) zero now row here = ap (λ (r : JobRow). r.stage) (same_Some (at_stage now first) row here)
given (first ∷ rows) (suc place) now row here = given rows place now row here

-- ---- bounds where one has another stage

-- it waits, and the bounds stand no farther
pub bounds_back : (old new : WaitBounds) (before rows : List JobRow) (place : ℕ) (now : Stage) → rows ≡ put_at before place now → new.quiet ≤ old.quiet → new.quiet ≤ place
    → new.passed ≤ old.passed → new.passed ≤ place → new.above ≡ old.above → BoundsHold old before → BoundsHold new rows
bounds_back old new before rows place now is fewer behind less back same was = subst (BoundsHold new) (sym is) (record {
  quiet = quiet_before new.quiet before place now (let within : new.quiet ≤ leading_quiet before = omega (arith, fewer, was.quiet) in within) behind;
  within = (let long = length_put before place now in omega (arith, less, was.within, long));
  above = subst (λ height. WaitAbove height (take new.passed (put_at before place now))) (sym same)
      (above_before old.above new.passed before place now back (above_fewer old.above new.passed old.passed before less was.above));
})

-- it waits, and is above the height
pub bounds_high : (old new : WaitBounds) (before rows : List JobRow) (place : ℕ) (now : Stage) (row : JobRow) → rows ≡ put_at before place now → slice_get rows place ≡ Some row → new.quiet ≤ old.quiet → new.quiet ≤ place
    → new.passed ≡ old.passed → new.above ≡ old.above → WaitsAbove new.above row → BoundsHold old before → BoundsHold new rows
bounds_high old new before rows place now row is here fewer behind passed same high was = subst (BoundsHold new) (sym is) (record {
  quiet = quiet_before new.quiet before place now (let within : new.quiet ≤ leading_quiet before = omega (arith, fewer, was.quiet) in within) behind;
  within = (let long = length_put before place now in omega (arith, passed, was.within, long));
  above = above_put new.above new.passed before place now row (ap (λ all. slice_get all place) (sym is) ∙ here) high
      (subst (λ height. WaitAbove height (take new.passed before)) (sym same) (subst (λ n. WaitAbove old.above (take n before)) (sym passed) was.above));
})

-- it does not wait
pub bounds_ended : (old : WaitBounds) (before rows : List JobRow) (place : ℕ) (now : Stage) (row : JobRow) → rows ≡ put_at before place now → slice_get rows place ≡ Some row → is_waiting (status_of row.stage) ≡ false
    → BoundsHold old before → BoundsHold old rows
bounds_ended old before rows place now row is here ended was =
    let there : slice_get (put_at before place now) place ≡ Some row = ap (λ all. slice_get all place) (sym is) ∙ here in
    let is_given : now ≡ row.stage = given before place now row there in
    subst (BoundsHold old) (sym is) (record {
      quiet = quiet_ended old.quiet before place now (ap (λ (s : Stage). is_waiting (status_of s)) is_given ∙ ended) was.quiet;
      within = (let long = length_put before place now in omega (arith, was.within, long));
      above = above_put old.above old.passed before place now row there (λ waits. absurd (false≢true (sym ended ∙ waits))) was.above;
    })

pub bounds_dropped : (ids : List (List ℕ)) (bounds : WaitBounds) (rows : List JobRow) → BoundsHold bounds rows → BoundsHold bounds (map (drop_among ids) rows)
bounds_dropped ids bounds rows was = record {
  quiet = quiet_dropped ids bounds.quiet rows was.quiet;
  within = (let long = length-map rows (drop_among ids) in omega (arith, was.within, long));
  above = above_dropped ids bounds.above bounds.passed rows was.above;
}

-- ---- the first one is that at 0 modulo their count

pub first_of : (numbers : List ℕ) → slice_get numbers 0 ≡ slice_get numbers (0 % length numbers)
first_of [] = refl
first_of (number ∷ numbers) = ap (slice_get (number ∷ numbers)) (let same : 0 ≡ 0 % suc (length numbers) = omega arith in same)
