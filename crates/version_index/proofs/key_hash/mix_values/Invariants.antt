use Rattle.std.proofs.Common.{drop, fold, ◌≡◌}
use Rattle.version_index.proofs.key_hash.mix_values.Given as goal
use Rattle.version_index.specs.Hashing.{mix_value}

-- what is left makes the whole
abbrev pub invariant-loop-value : goal.invariant-loop-value
invariant-loop-value l = fold mix_value l.mixed (drop l.value-index l.values) ≡ fold mix_value 0 l.values
