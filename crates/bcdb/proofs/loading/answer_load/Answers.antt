use Rattle.std.proofs.Common.{subst, sym}
use Rattle.bcdb.proofs.Loads.{loads_numbered}
use Rattle.bcdb.proofs.loading.answer_load.Goals as goal
use Rattle.chain_file.specs.Numbered.{NumberedFrom}

pub run_load-requires-clause-blocks : goal.run_load-requires-clause-blocks
run_load-requires-clause-blocks g c κs within = subst (NumberedFrom 1) (sym c.in_ok-load.ensures.blocks) (loads_numbered c.args.number)
