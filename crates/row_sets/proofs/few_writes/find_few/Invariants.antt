use Rattle.std.proofs.Common.{◌≡◌, drop}
use Rattle.std.specs.FinMap.Entries.{find}
use Rattle.rel_base.specs.Value.{key_cmp}
use Rattle.row_sets.proofs.few_writes.find_few.Given as goal

-- it is found among those that are left, where it is found
abbrev pub invariant-loop-held : goal.invariant-loop-held
invariant-loop-held l = find key_cmp l.key (drop l.held-index l.few) ≡ find key_cmp l.key l.few
