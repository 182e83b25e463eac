use Rattle.std.proofs.Common.{arith}
use Rattle.std.proofs.lemmas.Grind.{elements}
use Rattle.version_index.proofs.keyed.last_by_walk.Goals as goal

pub entry_at-requires : goal.entry_at-requires
entry_at-requires c = grind (arith, elements)

pub returns-then-entry_at-height : goal.returns-then-entry_at-height
returns-then-entry_at-height c = grind (arith, elements)
