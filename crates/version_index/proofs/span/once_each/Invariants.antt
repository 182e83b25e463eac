use Rattle.std.proofs.Common.{◌≡◌, ◌++◌, All, None, drop}
use Rattle.std.specs.Option.{option_copied}
use Rattle.version_index.specs.Candidates.{IsCandidate}
use Rattle.version_index.specs.Span.{distinct, keys_in}
use Rattle.version_index.specs.declared.chains.Chains.{Chains}
use Rattle.version_index.proofs.span.once_each.Given as goal

-- the keys so far and those of the ones that are left that are new are each once, and each has its slot
abbrev pub invariant-loop-key : goal.invariant-loop-key
invariant-loop-key l =
    (keys_in l.kept.items ++ distinct (option_copied l.last) (keys_in (drop l.key-index l.found)) ≡ distinct None (keys_in l.found))
    × ((chains : Chains) → All (IsCandidate chains) l.found → All (IsCandidate chains) l.kept.items)
