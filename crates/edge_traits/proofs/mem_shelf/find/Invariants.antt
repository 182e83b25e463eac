use Rattle.std.proofs.Common.{◌≡◌, drop}
use Rattle.edge_traits.specs.Memory.{held}
use Rattle.edge_traits.proofs.mem_shelf.find.Given as goal

abbrev pub invariant-loop-file : goal.invariant-loop-file
invariant-loop-file l = held (drop l.file-index l.files) l.name ≡ held l.files l.name
