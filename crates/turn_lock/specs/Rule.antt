-- The rule of a lock: what holds of its table between any two atomic steps, whoever makes them.
-- Word 0 is not 0 exactly while a pass has the turn: 1, or 2 where somebody may sleep until it ends. Word 1 is the length of the story. The one slot has the value while nobody has it out. A pass's number is the place of its view.
use Rattle.std.specs.Prelude.{◌≡◌, ℕ, ◌+◌, ◌<◌, ◌≤◌, ◌⊎◌, true, false, List, [], ◌∷◌, length, Option, Some}
use mathlib.Core.Option.{none, some}
use mathlib.Core.Option as maybe
use mathlib.Core.List.{IsPrefix}
use lib.ListN.{get_elem?}
use Rattle.atomic_table.specs.Table.{State}
use Rattle.rel_base.specs.Stories.{entries_of}
use Rattle.turn_lock.specs.Ledger.{Ledger, made_by}
use Rattle.turn_lock.specs.Views.{one_if}
use Rattle.turn_lock.specs.declared.rule.Stage.{Stage}
use Rattle.turn_lock.specs.declared.rule.Stage.TheVariants.{Idle, Entered, Ready, Out}
use Rattle.turn_lock.specs.declared.rule.View.{View}

-- what word 0 may be while the turn is at a stage: 0 exactly where nobody has the turn
abbrev pub TurnWord : Stage → ℕ → Type 0
TurnWord Idle word = word ≡ 0
TurnWord Entered word = 0 < word
TurnWord Ready word = 0 < word
TurnWord Out word = 0 < word

-- What a pass knows of the turn by its own stage: nothing where it is idle. Else the turn is its own and at that stage, and from its look at the length on it has seen the whole story
module _ {Base Entry : Type 0} (story : List Entry) (stage : Stage) (holder number : ℕ) (view : View Base Entry) where
  abbrev pub KnowsTurn : Stage → Type 0
  KnowsTurn Idle = Unit {0}
  KnowsTurn Entered = (number ≡ holder) × (stage ≡ Entered) × (view.live ≡ true)
  KnowsTurn Ready = (number ≡ holder) × (stage ≡ Ready) × (view.live ≡ true) × (view.seen ≡ story)
  KnowsTurn Out = (number ≡ holder) × (stage ≡ Out) × (view.live ≡ true) × (view.seen ≡ story)

-- what a pass that was not joined knows: its number, the base, and its own entries, all of which it has seen
pub record Lives {Base Entry : Type 0} (actor : Entry → ℕ) (base : Base) (story : List Entry) (number : ℕ) (view : View Base Entry) : Type 0 where
  pub number_is : view.number ≡ number
  pub base_is : view.base ≡ Some base
  pub all_mine : entries_of actor number story ≡ view.mine
  pub all_seen : entries_of actor number view.seen ≡ view.mine

-- what holds of each pass: what it has seen, and what it was given, are beginnings of the story
pub record Fits {Base Entry : Type 0} (actor : Entry → ℕ) (base : Base) (story : List Entry) (stage : Stage) (holder number : ℕ) (view : View Base Entry) : Type 0 where
  pub turn : KnowsTurn story stage holder number view view.stage
  pub front : IsPrefix view.seen story
  pub heard : IsPrefix view.told story
  pub lives : view.live ≡ true → Lives actor base story number view

-- the holder's view stands at the stage of the turn, so word 0 is not 0 only where some pass has the turn
module _ {Base Entry : Type 0} (holder : ℕ) (views : List (View Base Entry)) where
  abbrev pub HasHolder : Stage → Type 0
  HasHolder Idle = Unit {0}
  HasHolder Entered = (view : View Base Entry) × (get_elem? views holder ≡ some view) × (view.stage ≡ Entered)
  HasHolder Ready = (view : View Base Entry) × (get_elem? views holder ≡ some view) × (view.stage ≡ Ready)
  HasHolder Out = (view : View Base Entry) × (get_elem? views holder ≡ some view) × (view.stage ≡ Out)

-- some pass that was not joined has seen the whole story, or was given it by a pass that it has just joined
pub record Whole {Base Entry : Type 0} (story : List Entry) (views : List (View Base Entry)) : Type 0 where
  pub place : ℕ
  pub view : View Base Entry
  pub stands : get_elem? views place ≡ some view
  pub live : view.live ≡ true
  pub all : (view.seen ≡ story) ⊎ (view.told ≡ story)

-- how many passes were not joined
abbrev pub count_live : {Base Entry : Type 0} → List (View Base Entry) → ℕ
count_live [] = 0
count_live (view ∷ views) = one_if view.live + count_live views

-- pass 0 was not joined, and it knows how many passes were made, and how many of them were not joined
pub record First {Base Entry : Type 0} (views : List (View Base Entry)) : Type 0 where
  pub view : View Base Entry
  pub stands : get_elem? views 0 ≡ some view
  pub live : view.live ≡ true
  pub count : length views ≡ view.made + 1
  pub unjoined : count_live views + one_if view.joining ≡ view.left + 1

-- what pass 0 has noted of the passes that it joined: each has in the story the entries that it had made, and of a number that no pass has nothing is noted
pub record IsKept {Base Entry : Type 0} (actor : Entry → ℕ) (story : List Entry) (views : List (View Base Entry)) (joined : Ledger Entry) : Type 0 where
  pub spent : (number : ℕ) (view : View Base Entry) → get_elem? views number ≡ some view → view.live ≡ false → entries_of actor number story ≡ made_by number joined
  pub unused : (number : ℕ) → length views ≤ number → made_by number joined ≡ []

abbrev pub HasLedger : {Base Entry : Type 0} → (Entry → ℕ) → List Entry → List (View Base Entry) → Type 0
HasLedger {Base} {Entry} actor story views = (first : View Base Entry) → get_elem? views 0 ≡ some first → IsKept actor story views first.joined

-- the slot has a value with the base and the whole story
abbrev pub InSlot : {Value Base Entry : Type 0} → (Value → Base) → (Value → List Entry) → Base → List Entry → List (maybe.Option (Option Value)) → Type 0
InSlot {Value} base_of story_of base story homes = (value : Value) × (homes ≡ some (Some value) ∷ []) × (story_of value ≡ story) × (base_of value ≡ base)

-- the value is in the slot, but for the stage at which the holder has it out
abbrev pub Home : {Value Base Entry : Type 0} → (Value → Base) → (Value → List Entry) → Base → List Entry → List (maybe.Option (Option Value)) → Stage → Type 0
Home base_of story_of base story homes Idle = InSlot base_of story_of base story homes
Home base_of story_of base story homes Entered = InSlot base_of story_of base story homes
Home base_of story_of base story homes Ready = InSlot base_of story_of base story homes
Home base_of story_of base story homes Out = homes ≡ none ∷ []

-- The rule. There is one story, one base, and one stage of the turn with the number of the pass whose turn it is; words, slot and every view agree with them, and no entry has a number that no pass has
pub record TurnRule {Value Base Entry : Type 0} (base_of : Value → Base) (story_of : Value → List Entry) (actor : Entry → ℕ) (state : State (Option Value) (View Base Entry)) : Type 0 where
  pub story : List Entry
  pub base : Base
  pub stage : Stage
  pub holder : ℕ
  pub turn_word : ℕ
  pub busy : TurnWord stage turn_word
  pub words : state.words ≡ turn_word ∷ length story ∷ []
  pub home : Home base_of story_of base story state.homes stage
  pub each : (number : ℕ) (view : View Base Entry) → get_elem? state.views number ≡ some view → Fits actor base story stage holder number view
  pub held : HasHolder holder state.views stage
  pub whole : Whole story state.views
  pub first : First state.views
  pub ledger : HasLedger actor story state.views
  pub others : (number : ℕ) → length state.views ≤ number → entries_of actor number story ≡ []
