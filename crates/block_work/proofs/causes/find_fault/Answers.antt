use Rattle.std.proofs.Common.{rules}
use Rattle.block_work.proofs.causes.find_fault.Goals as goal

pub returns-in-IllTyped : goal.returns-in-IllTyped
returns-in-IllTyped c = search rules
