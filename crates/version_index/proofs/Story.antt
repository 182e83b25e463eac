-- What becomes of the row that a key has after the block of a height.
use Rattle.std.proofs.Common.{◌≡◌, ◌∙◌, ℕ, suc, zero, ◌+◌, ◌-◌, ◌<◌, ◌≤◌, ◌⊎◌, inl, inr, List, Bool, true, false, ◌&&◌, cond, Option, Some, None, is_some, refl, ap, sym, arith, length, nat_le, slice_get, take}
use Rattle.std.specs.FinMap.{get, get-empty}
use Rattle.std.proofs.lemmas.List.{length-map, take_all}
use Rattle.rel_base.specs.Tables.{Stamped, ref_cmp, seen_at, tables_at}
use Rattle.rel_base.specs.declared.access.Seen.{Seen}
use Rattle.rel_base.specs.declared.value.Value.{Value}
use Rattle.rel_base.proofs.Bits.{no_both}
use Rattle.row_sets.proofs.Histories.{unwrapped}
use Rattle.row_sets.specs.Log.{stamped_of}
use Rattle.version_index.specs.Candidates.{IsWrittenFrom}
use Rattle.version_index.specs.Chain.{is_on}
use Rattle.version_index.specs.Left.{left_at}
use Rattle.version_index.specs.Rows.{seen_of}
use Rattle.version_index.specs.View.{IsView, history_in}
use Rattle.version_index.specs.declared.view.TableView.{TableView}
use Rattle.version_index.proofs.Logged.{same_ref}
use Rattle.version_index.proofs.Passing.{left_next, there_is}
use Rattle.version_index.proofs.Visible.{seen_next}
use Rattle.version_index.proofs.Walked.{le_not}

-- the row that a write leaves is the one that is seen of it
row_of_seen : (stamped : Stamped) (seen : Seen) → seen_of stamped ≡ Some seen → stamped.1.write.after ≡ Some seen.row
row_of_seen stamped seen is = go stamped.1.write.after is
  where
    go : (after : Option (List Value)) → seen_at stamped.0 stamped.1.pos after ≡ Some seen → after ≡ Some seen.row
    go None is = cc
    go (Some row) is = ap (λ s. Some s.row) (unwrapped _ seen is)

module _ (ref : ℕ × List Value) (height : ℕ) (history : List Stamped) where
  -- the row after the block of a height among the first of the writes
  abbrev seen_in : ℕ → Option Seen
  seen_in number = get (tables_at height (take number history)) ref

  -- the row is there still, or a write above the height took it back
  pub record TookBack (row : List Value) (number : ℕ) : Type 0 where
    pub at : ℕ
    pub stamped : Stamped
    pub before : at < number
    pub there : slice_get history at ≡ Some stamped
    pub on : is_on ref stamped ≡ true
    pub above : height < stamped.0
    pub found : left_at ref (take at history) ≡ Some row

  abbrev pub Story : List Value → ℕ → Type 0
  Story row number = (left_at ref (take number history) ≡ Some row) ⊎ TookBack row number

  further : (row : List Value) (number : ℕ) → TookBack row number → TookBack row (suc number)
  further row number took = let low = took.before in record { at = took.at; stamped = took.stamped; before = omega (arith, low); there = took.there; on = took.on; above = took.above; found = took.found }

  story_next : (seen : Seen) (number : ℕ) (stamped : Stamped) → slice_get history number ≡ Some stamped → (seen_in number ≡ Some seen → Story seen.row number) → seen_in (suc number) ≡ Some seen → Story seen.row (suc number)
  story_next seen number stamped there before is = go (is_on ref stamped) (nat_le stamped.0 height) refl refl (sym (seen_next ref height history number stamped there) ∙ is)
    where
      left : left_at ref (take (suc number) history) ≡ cond (is_on ref stamped) stamped.1.write.after (left_at ref (take number history))
      left = left_next ref history number stamped there

      off : is_on ref stamped ≡ false → Story seen.row number → Story seen.row (suc number)
      off apart (inl here) = inl (left ∙ ap (λ b. cond b stamped.1.write.after (left_at ref (take number history))) apart ∙ here)
      off apart (inr took) = inr (further seen.row number took)

      late : is_on ref stamped ≡ true → height < stamped.0 → Story seen.row number → Story seen.row (suc number)
      late on above (inl here) = inr (record { at = number; stamped = stamped; before = omega arith; there = there; on = on; above = above; found = here })
      late on above (inr took) = inr (further seen.row number took)

      go : (on low : Bool) → is_on ref stamped ≡ on → nat_le stamped.0 height ≡ low → cond (on && low) (seen_of stamped) (seen_in number) ≡ Some seen → Story seen.row (suc number)
      go true true on low found = inl (left ∙ ap (λ b. cond b stamped.1.write.after (left_at ref (take number history))) on ∙ row_of_seen stamped seen found)
      go true false on low found = late on (le_not stamped.0 height low) (before found)
      go false low apart w found = off apart (before found)

  pub story : (seen : Seen) (number : ℕ) → number ≤ length history → seen_in number ≡ Some seen → Story seen.row number
  story seen zero within is = absurd (no_both true refl (ap is_some (sym is ∙ get-empty ref_cmp ref)))
  story seen (suc number) within is =
      let here = there_is number history (omega (arith, within)) in
      story_next seen number here.0 here.1 (story seen number (omega (arith, within))) is

-- what is seen of a key that the tail does not write was seen before it
module _ (view : TableView) (is : IsView view) (height : ℕ) (key : List Value) where
  abbrev ref : ℕ × List Value
  ref = (view.table, key)

  abbrev history : List Stamped
  history = history_in view

  tail_next : (seen : Seen) (number : ℕ) (stamped : Stamped) → view.noted ≤ number → slice_get history number ≡ Some stamped
      → (get (tables_at height (take number history)) ref ≡ Some seen → (get (tables_at height (take view.noted history)) ref ≡ Some seen) ⊎ IsWrittenFrom view view.noted key)
      → get (tables_at height (take (suc number) history)) ref ≡ Some seen → (get (tables_at height (take view.noted history)) ref ≡ Some seen) ⊎ IsWrittenFrom view view.noted key
  tail_next seen number stamped up there before found = go (is_on ref stamped) refl (sym (seen_next ref height history number stamped there) ∙ found)
    where
      go : (on : Bool) → is_on ref stamped ≡ on → cond (on && nat_le stamped.0 height) (seen_of stamped) (get (tables_at height (take number history)) ref) ≡ Some seen
          → (get (tables_at height (take view.noted history)) ref ≡ Some seen) ⊎ IsWrittenFrom view view.noted key
      go true on found = let own = same_ref ref stamped on in inr (number, stamped, up, there, ap (λ r. r.0) own, ap (λ r. r.1) own)
      go false apart found = before found

  tail_seen : (seen : Seen) (more : ℕ) → view.noted + more ≤ length history → get (tables_at height (take (view.noted + more) history)) ref ≡ Some seen
      → (get (tables_at height (take view.noted history)) ref ≡ Some seen) ⊎ IsWrittenFrom view view.noted key
  tail_seen seen zero within found = inl (ap (λ n. get (tables_at height (take n history)) ref) (omega arith) ∙ found)
  tail_seen seen (suc more) within found =
      let next : view.noted + suc more ≡ suc (view.noted + more) = omega arith in
      let here = there_is (view.noted + more) history (omega (arith, within)) in
      tail_next seen (view.noted + more) here.0 (omega arith) here.1 (tail_seen seen more (omega (arith, within))) (ap (λ n. get (tables_at height (take n history)) ref) (sym next) ∙ found)

  -- a key with a row after the block of a height has it still, or it is written by the tail, or a noted write above the height found it
  pub seen_story : (seen : Seen) → get (tables_at height history) ref ≡ Some seen → Story ref height history seen.row view.noted ⊎ IsWrittenFrom view view.noted key
  seen_story seen found = go (tail_seen seen (length history - view.noted) (omega (arith, within)) (ap (λ xs. get (tables_at height xs) ref) (ap (λ n. take n history) whole ∙ take_all (length history) history (omega arith)) ∙ found))
    where
      within : view.noted ≤ length history
      within = let low = is.within in let same = length-map view.entries.now stamped_of in omega (arith, low, same)

      whole : view.noted + (length history - view.noted) ≡ length history
      whole = omega (arith, within)

      go : (get (tables_at height (take view.noted history)) ref ≡ Some seen) ⊎ IsWrittenFrom view view.noted key → Story ref height history seen.row view.noted ⊎ IsWrittenFrom view view.noted key
      go (inl before) = inl (story ref height history seen view.noted within before)
      go (inr written) = inr written
