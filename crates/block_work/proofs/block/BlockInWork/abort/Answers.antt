use Rattle.std.proofs.Common.{refl}
use Rattle.block_work.proofs.Consistent.{after_abort}
use Rattle.block_work.proofs.block.BlockInWork.abort.Goals as goal

pub returns-clause-consistent : goal.returns-clause-consistent
returns-clause-consistent c = λ tables is. after_abort tables c.args.self.now _ is _ c.requires.cause.1 c.push_reserved.ensures.items refl refl refl
