use Rattle.std.proofs.Common.{arith, ◌-◌, sym}
use Rattle.sha2.proofs.Schedule256.{slice_index-schedule_next}
use Rattle.sha_lanes.specs.Lanes.{block_of}
use Rattle.sha_lanes.proofs.words.next.Goals as goal

pub returns : goal.returns
returns c = λ bytes held lane low.
    rw (
      c.add-2.ensures lane low,
      c.add.ensures lane low,
      c.add-sum.ensures lane low,
      c.small_sigma1.ensures lane low,
      c.small_sigma0.ensures lane low,
      held lane (c.args.place - 2) low (omega arith),
      held lane (c.args.place - 7) low (omega arith),
      held lane (c.args.place - 15) low (omega arith),
      held lane (c.args.place - 16) low (omega arith),
    )
    (sym (slice_index-schedule_next (block_of bytes lane) 48 c.args.place c.requires.from (omega arith)))
