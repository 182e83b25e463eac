use Rattle.std.proofs.Common.{rules, ◌≡◌, ◌++◌}
use Rattle.std.specs.Int.{w64}
use Rattle.canon_code.specs.Codes.{be_code, counted}
use Rattle.canon_code.specs.Values.{int_code}
use Rattle.canon_code.specs.Writes.{write_code}
use Rattle.node_model.specs.BlockCode.{small_code, told_code}
use Rattle.block_digest.proofs.Pushed.{pushed_four}
use Rattle.block_digest.proofs.lent.push_lent.Goals as goal
use Rattle.block_digest.specs.Lent.{result_lent}

pub returns : goal.returns
returns c =
    let block = result_lent c.args.block.now in
    let head : c.push_head.new.out.items ≡ c.args.out.now.items ++ (be_code w64 block.number ++ int_code block.time) = search rules in
    pushed_four c.push_writes.result c.args.out.now.items (be_code w64 block.number ++ int_code block.time) c.push_head.new.out.items
    (counted small_code told_code block.outcomes) c.push_outcomes.new.out.items (counted small_code small_code block.order) c.push_order.new.out.items
    (counted small_code write_code block.writes) c.push_writes.new.out.items
    head c.in_ok-push_outcomes.ensures c.in_ok-push_order.ensures c.push_writes.ensures
