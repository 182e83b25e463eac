-- The passes that were joined: the number of each, and the entries that it had made until then.
use Rattle.std.specs.Prelude.{ℕ, ◌==◌, cond, List, [], ◌∷◌}

abbrev pub Ledger : Type 0 → Type 0
Ledger Entry = List (ℕ × List Entry)

-- the entries that the pass of a number had made, and none where it was not joined
abbrev pub made_by : {Entry : Type 0} → ℕ → Ledger Entry → List Entry
made_by number [] = []
made_by number (pass ∷ passes) = cond (pass.0 == number) pass.1 (made_by number passes)
