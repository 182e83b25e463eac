use Rattle.std.proofs.Common.{OnOk, rules, ◌≡◌, ◌++◌}
use Rattle.std.specs.Int.{w64}
use Rattle.canon_code.specs.Codes.{be_code}
use Rattle.canon_code.specs.Values.{int_code}
use Rattle.rel_base.proofs.Bytes.{pushed_twice}
use Rattle.block_digest.proofs.write_block.push_head.Goals as goal

pub returns : goal.returns
returns c =
    let timed : OnOk c.push_time.result (c.push_time.new.out.items ≡ c.put_u64.new.out.items ++ int_code c.args.time) = search rules in
    pushed_twice c.push_time.result c.args.out.now.items (be_code w64 c.args.number) c.put_u64.new.out.items (int_code c.args.time) c.push_time.new.out.items
    c.in_ok-put_u64.ensures.ok timed
