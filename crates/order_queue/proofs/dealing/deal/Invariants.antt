use Rattle.std.specs.Prelude.{take, drop}
use Rattle.order_queue.specs.Filled.{IsFilling, all_of}
use Rattle.order_queue.proofs.Dealt.{Dealing}
use Rattle.order_queue.proofs.dealing.deal.Given as goal

abbrev pub invariant-loop-client : goal.invariant-loop-client
invariant-loop-client l = Dealing l.initial.remaining l.remaining (take l.client-index l.from) (drop l.client-index l.from) (all_of l.filling) × IsFilling l.most l.filling
