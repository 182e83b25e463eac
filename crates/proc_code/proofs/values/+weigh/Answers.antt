use Rattle.std.proofs.Common.{rules}
use Rattle.proc_code.proofs.values.+weigh.Goals as goal

pub weigh_right-returns-then-branch : goal.weigh_right-returns-then-branch
weigh_right-returns-then-branch g t c = search rules
