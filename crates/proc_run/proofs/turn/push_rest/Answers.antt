use Rattle.std.proofs.Common.{◌≡◌, ◌≤◌, length, subst, refl}
use Rattle.proc_run.specs.Path.{part_of, block_of}
use Rattle.proc_run.proofs.Paths.{rest_done}
use Rattle.proc_run.proofs.turn.push_rest.Goals as goal

pub returns-then-next-whole-clause-same : goal.returns-then-next-whole-clause-same
returns-then-next-whole-clause-same c = λ tables columns S root counted. rw c.push_block.ensures.items (refl, λ state. refl)

pub returns-else-next-whole-clause-same : goal.returns-else-next-whole-clause-same
returns-else-next-whole-clause-same c = λ tables columns S root counted.
    let over : length (part_of (block_of root c.args.spots.now.items) c.args.cursor.at c.args.cursor.branch) ≤ c.args.cursor.next = subst (λ n. n ≤ c.args.cursor.next) counted c.if-next-whole.false in
    rw c.push.ensures.items (rest_done tables columns S root c.args.spots.now.items c.args.cursor.at c.args.cursor.next c.args.cursor.branch over)
