use Rattle.std.proofs.Common.{◌<◌, ◌≤◌, ℕ}
use Rattle.version_index.specs.Candidates.{Adds, IsOwnKeyOf}
use Rattle.version_index.proofs.candidates.add_from.Given as goal

-- the keys of the writes so far were added
abbrev pub invariant-loop-number : goal.invariant-loop-number
invariant-loop-number l = Adds l.view.index.now.chains l.fn.found.items l.found.items (λ key. (number : ℕ) × (l.start ≤ number) × (number < l.number) × IsOwnKeyOf l.view number key)
