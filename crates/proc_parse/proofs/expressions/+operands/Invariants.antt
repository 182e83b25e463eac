use Rattle.std.proofs.Common.{ℕ, ◌+◌, ◌*◌}
use Rattle.proc_parse.specs.declared.expressions.Level.{Level}
use Rattle.proc_parse.specs.declared.expressions.Level.TheVariants.{Or, And, Sum, Term}
use Rattle.proc_parse.proofs.expressions.+operands.Given as goal

-- how far a level is from a single operand
abbrev rank : Level → ℕ
rank Or = 500
rank And = 400
rank Sum = 200
rank Term = 100

abbrev pub decreases-atom : goal.decreases-atom
decreases-atom l = 1000 * l.depth + 70

abbrev pub decreases-group : goal.decreases-group
decreases-group l = 1000 * l.depth + 60

abbrev pub decreases-unary : goal.decreases-unary
decreases-unary l = 1000 * l.depth + 90

abbrev pub decreases-negative : goal.decreases-negative
decreases-negative l = 1000 * l.depth + 80

abbrev pub decreases-chain : goal.decreases-chain
decreases-chain l = 1000 * l.depth + rank l.level + 90

abbrev pub decreases-more : goal.decreases-more
decreases-more l = 1000 * l.chain.depth + rank l.chain.level + 12 + 2 * l.chain.most

abbrev pub decreases-operand : goal.decreases-operand
decreases-operand l = 1000 * l.depth + rank l.level + 10

abbrev pub decreases-negation : goal.decreases-negation
decreases-negation l = 1000 * l.depth + 350

abbrev pub decreases-denial : goal.decreases-denial
decreases-denial l = 1000 * l.depth + 340

abbrev pub decreases-comparison : goal.decreases-comparison
decreases-comparison l = 1000 * l.depth + 300

abbrev pub decreases-more_after : goal.decreases-more_after
decreases-more_after l = 1000 * l.chain.depth + rank l.chain.level + 13 + 2 * l.chain.most
