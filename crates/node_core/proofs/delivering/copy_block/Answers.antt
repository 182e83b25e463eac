use Rattle.std.proofs.Common.{rules}
use Rattle.node_core.proofs.delivering.copy_block.Goals as goal
use Rattle.proc_syntax.proofs.Blocks.{same_block}

pub returns-in-Ok : goal.returns-in-Ok
returns-in-Ok c = same_block c.in-Ok.made c.args.block.now (search rules) (search rules) (search rules)
