use Rattle.std.proofs.Common.{◌≡◌, length}
use Rattle.schedule_sim.proofs.Fed.{going_on}
use Rattle.schedule_sim.proofs.schedule_reader.ScheduleReader.feed.Given as goal

-- what is left goes as far after the reader as the piece does
abbrev pub invariant-loop-end : goal.invariant-loop-end
invariant-loop-end l = going_on l.reader l.rest ≡ going_on l.fn.self l.piece

abbrev pub decreases-loop-end : goal.decreases-loop-end
decreases-loop-end l = length l.rest
