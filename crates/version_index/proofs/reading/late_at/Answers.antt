use Rattle.std.proofs.Common.{arith}
use Rattle.std.proofs.lemmas.Grind.{elements}
use Rattle.version_index.proofs.reading.late_at.Goals as goal

pub entry_at-requires : goal.entry_at-requires
entry_at-requires c = grind (arith, elements)

pub hit_ref-requires-clause-write_fits : goal.hit_ref-requires-clause-write_fits
hit_ref-requires-clause-write_fits c = grind (arith, elements)

pub returns-in-Some : goal.returns-in-Some
returns-in-Some c = grind (arith, elements)
