use Rattle.std.proofs.Common.{◌≡◌, ◌++◌, take}
use Rattle.std.specs.List.{flat_map, AllByRecursion}
use Rattle.canon_code.specs.Values.{value_code, HasValueCode}
use Rattle.canon_code.proofs.row.push_values.Given as goal

abbrev pub invariant-loop-value : goal.invariant-loop-value
invariant-loop-value l = (l.out.items ≡ l.fn.out.items ++ flat_map value_code (take l.value-index l.values)) × AllByRecursion HasValueCode (take l.value-index l.values)
