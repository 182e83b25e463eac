-- What is true of each pass between two calls.
use Rattle.std.specs.Prelude.{◌≡◌, ℕ, true, false, List, [], ◌∷◌, Option, None, IsSome}
use Rattle.atomic_table.specs.declared.shared.Seat.{Seat}
use Rattle.rel_base.specs.Stories.{entries_of}
use Rattle.turn_lock.specs.Steps.{NoneAhead}
use Rattle.turn_lock.specs.declared.rule.Stage.{Stage}
use Rattle.turn_lock.specs.declared.rule.Stage.TheVariants.{Idle, Entered, Ready, Out}
use Rattle.turn_lock.specs.declared.rule.View.{View}

-- the slot is held exactly where the value is out, and it is empty then, since the caller has the value
abbrev pub slots_of : {Value : Type 0} → Stage → List (ℕ × Option Value)
slots_of Idle = []
slots_of Entered = []
slots_of Ready = []
slots_of Out = (0, None) ∷ []

-- The fields of a pass agree with its view: it was not joined, it has a base, its own entries are those of its number in what it has seen, no join is half done, and pass 0 has seen no entry with a number that it has not given out yet
pub record Stands {Value Base Entry : Type 0} (actor : Entry → ℕ) (number made : ℕ) (seat : Seat (Option Value) (View Base Entry)) : Type 0 where
  pub slots : seat.me.1 ≡ slots_of seat.me.0.stage
  pub number_is : seat.me.0.number ≡ number
  pub made_is : seat.me.0.made ≡ made
  pub based : IsSome seat.me.0.base
  pub live : seat.me.0.live ≡ true
  pub own : entries_of actor number seat.me.0.seen ≡ seat.me.0.mine
  pub untold : seat.me.0.told ≡ []
  pub settled : seat.me.0.joining ≡ false
  pub ahead : number ≡ 0 → NoneAhead actor made seat.me.0.seen
