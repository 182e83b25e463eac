-- What a pass knows at the start, and after each kind of step.
use Rattle.std.specs.Prelude.{ℕ, ◌+◌, ◌-◌, Bool, true, false, List, [], ◌∷◌, Some, None}
use Rattle.turn_lock.specs.declared.rule.Stage.{Stage}
use Rattle.turn_lock.specs.declared.rule.Stage.TheVariants.{Idle, Entered, Ready, Out}
use Rattle.turn_lock.specs.declared.rule.View.{View}

-- 1 where something holds, and else 0
abbrev pub one_if : Bool → ℕ
one_if true = 1
one_if false = 0

-- a look at the length tells a pass that has just got the turn the whole story
abbrev pub after_look : Stage → Stage
after_look Idle = Idle
after_look Entered = Ready
after_look Ready = Ready
after_look Out = Out

-- the first pass: number 0, the base of the value, and nothing seen
abbrev pub first_view : {Base Entry : Type 0} → Base → View Base Entry
first_view base = record { live = true; number = 0; base = Some base; seen = []; told = []; mine = []; stage = Idle; joining = false; made = 0; left = 0; joined = [] }

module _ {Base Entry : Type 0} where
  -- the pass comes to another stage of its turn, and knows what it knew
  abbrev pub at_stage : Stage → View Base Entry → View Base Entry
  at_stage stage view = record view { stage = stage }

module _ {Base Entry : Type 0} where
  -- the pass has seen the story, and its own entries in it
  abbrev pub published_view : List Entry → List Entry → View Base Entry → View Base Entry
  published_view story mine view = record view { seen = story; mine = mine }

module _ {Base Entry : Type 0} where
  -- the pass has seen the story; a join that went before is done with
  abbrev pub looked_view : List Entry → View Base Entry → View Base Entry
  looked_view story view = record view { seen = story; told = []; stage = after_look view.stage; joining = false; left = view.left - one_if view.joining }

module _ {Base Entry : Type 0} where
  -- pass 0 after it has split off a pass
  abbrev pub split_view : View Base Entry → View Base Entry
  split_view view = record view { made = view.made + 1; left = view.left + 1 }

  -- the pass that was split off: the next number, what pass 0 has seen, and no entry of its own
  abbrev pub new_view : View Base Entry → View Base Entry
  new_view view = record { live = true; number = view.made + 1; base = view.base; seen = view.seen; told = []; mine = []; stage = Idle; joining = false; made = 0; left = 0; joined = [] }

module _ {Base Entry : Type 0} where
  -- pass 0 after it has taken in another, which tells it what it had seen and made
  abbrev pub joined_view : View Base Entry → View Base Entry → View Base Entry
  joined_view view other = record view { told = other.seen; joining = true; joined = (other.number, other.mine) ∷ view.joined }

  -- what stays of a pass that was joined
  abbrev pub spent_view : View Base Entry
  spent_view = record { live = false; number = 0; base = None; seen = []; told = []; mine = []; stage = Idle; joining = false; made = 0; left = 0; joined = [] }
