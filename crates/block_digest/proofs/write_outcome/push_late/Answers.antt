use Rattle.std.proofs.Common.{◌++◌}
use Rattle.std.specs.Int.{w64}
use Rattle.canon_code.specs.Codes.{be_code}
use Rattle.canon_code.specs.Rows.{key_code}
use Rattle.node_model.specs.BlockCode.{small_code}
use Rattle.block_digest.proofs.write_outcome.push_late.Goals as goal
use Rattle.rel_base.proofs.Bytes.{pushed_twice}

pub returns : goal.returns
returns c =
    let late = c.args.late.now in
    pushed_twice c.push_ref.result c.args.out.now.items (small_code late.read ++ be_code w64 late.place.block)
    c.push_late_read.new.out.items (small_code late.place.pos ++ small_code late.table ++ key_code late.key) c.push_ref.new.out.items
    c.in_ok-push_late_read.ensures c.push_ref.ensures
