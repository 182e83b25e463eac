-- What each kind of atomic step tells the pass that makes it. `before` and `after` are the pass's view and the slots that it holds, `found` the number in the word.
use Rattle.std.specs.Prelude.{◌≡◌, ◌≢◌, ℕ, ◌<◌, true, List, [], ◌∷◌, ◌++◌, length, Option, Some}
use mathlib.Core.List.{IsPrefix}
use Rattle.atomic_table.specs.Table.{Me, rest}
use Rattle.rel_base.specs.Stories.{entries_of}
use Rattle.turn_lock.specs.Views.{at_stage, published_view, looked_view}
use Rattle.turn_lock.specs.declared.rule.Stage.TheVariants.{Idle, Entered, Ready, Out}
use Rattle.turn_lock.specs.declared.rule.View.{View}

abbrev Knows : Type 0 → Type 0 → Type 0 → Type 0
Knows Value Base Entry = Me (Option Value) (View Base Entry)

-- no entry of the story has a number above those of the passes that were made
abbrev pub NoneAhead : {Entry : Type 0} → (Entry → ℕ) → ℕ → List Entry → Type 0
NoneAhead actor made story = (number : ℕ) → made < number → entries_of actor number story ≡ []

-- kind 1: the pass has the turn where the word was 0, and else nothing changes
pub record Entering {Value Base Entry : Type 0} (before : Knows Value Base Entry) (found : ℕ) (after : Knows Value Base Entry) : Type 0 where
  pub got : found ≡ 0 → after.0 ≡ at_stage Entered before.0
  pub missed : found ≢ 0 → after.0 ≡ before.0
  pub slots : after.1 ≡ before.1

-- kind 2: the value is out with the pass, and it has the base and the story that the pass knows
pub record TakingOut {Value Base Entry : Type 0} (base_of : Value → Base) (story_of : Value → List Entry) (before after : Knows Value Base Entry) : Type 0 where
  pub value : Value
  pub slots : after.1 ≡ (0, Some value) ∷ before.1
  pub view : after.0 ≡ at_stage Out before.0
  pub story : story_of value ≡ before.0.seen
  pub base : before.0.base ≡ Some (base_of value)

-- kind 3: the value is back in the slot
pub record PuttingBack {Value Base Entry : Type 0} (before after : Knows Value Base Entry) : Type 0 where
  pub slots : after.1 ≡ rest before.1
  pub view : after.0 ≡ at_stage Ready before.0

-- kind 4: the story of the value that the pass holds is the story from now on, and the entries that were added are its own
abbrev pub Publishing : {Value Base Entry : Type 0} → (Value → List Entry) → Knows Value Base Entry → Knows Value Base Entry → Type 0
Publishing {Value} {Base} {Entry} story_of before after = (value : Value) (news : List Entry) → before.1 ≡ (0, Some value) ∷ [] → story_of value ≡ before.0.seen ++ news
    → (after.1 ≡ before.1) × (after.0 ≡ published_view (story_of value) (before.0.mine ++ news) before.0)

-- kind 5: the pass has no turn
pub record Leaving {Value Base Entry : Type 0} (before after : Knows Value Base Entry) : Type 0 where
  pub slots : after.1 ≡ before.1
  pub view : after.0 ≡ at_stage Idle before.0

-- kind 9: nothing changes for the pass, whatever it finds
abbrev pub Marking : {Value Base Entry : Type 0} → Knows Value Base Entry → Knows Value Base Entry → Type 0
Marking before after = after ≡ before

-- kind 6: the pass has seen the whole story, which continues what it had seen and was given, and in which its own entries are those that it made
pub record ReadingLength {Value Base Entry : Type 0} (actor : Entry → ℕ) (before : Knows Value Base Entry) (found : ℕ) (after : Knows Value Base Entry) : Type 0 where
  pub story : List Entry
  pub slots : after.1 ≡ before.1
  pub view : after.0 ≡ looked_view story before.0
  pub later : IsPrefix before.0.seen story
  pub heard : IsPrefix before.0.told story
  pub own : entries_of actor before.0.number story ≡ before.0.mine
  pub ahead : before.0.number ≡ 0 → NoneAhead actor before.0.made story
  pub joined : before.0.number ≡ 0 → before.0.joining ≡ true → 0 < before.0.left
  pub long : length story ≡ found
