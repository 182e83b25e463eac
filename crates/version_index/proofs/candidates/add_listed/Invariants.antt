use Rattle.std.proofs.Common.{◌≡◌, ◌≤◌, ℕ, Bool, length}
use Rattle.version_index.specs.Candidates.{Adds}
use Rattle.version_index.specs.Numbers.{passing}
use Rattle.version_index.proofs.Offered.{PassedFrom}
use Rattle.version_index.proofs.candidates.add_listed.Given as goal

-- what is left are the numbers below one, and the keys of the writes from there on were added
abbrev pub invariant-loop-number : goal.invariant-loop-number
invariant-loop-number l =
    (test : ℕ → Bool) × (l.numbers ≡ passing test l.view.noted) × (end : ℕ) × (end ≤ l.view.noted) × (l.left ≡ passing test end)
    × Adds l.view.index.now.chains l.fn.found.items l.found.items (PassedFrom l.view test end)

-- fewer are left
abbrev pub decreases-loop-number : goal.decreases-loop-number
decreases-loop-number l = length l.left
