use Rattle.std.proofs.Common.{None, length, ◌≡◌, ℕ}
use Rattle.schedule_sim.specs.InHands.{hand_of}
use Rattle.schedule_sim.proofs.hands.empty_hands.Given as goal

-- so many hands, all empty
abbrev pub invariant-loop : goal.invariant-loop
invariant-loop l = (length l.hands ≡ l.counter) × ((actor : ℕ) → hand_of l.hands actor ≡ None)
