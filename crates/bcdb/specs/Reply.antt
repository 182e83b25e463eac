-- A reply is an answer in memory.
use Rattle.std.specs.Prelude.{Bool, false, true, ◌≡◌}
use Rattle.bcdb.specs.ProgramAnswer.{ProgramAnswer}
use Rattle.bcdb.specs.declared.reply.Reply.{Reply}
use Rattle.bcdb.specs.declared.status.Status.TheVariants.{AppRefused, ArrivalRefused, ChainRefused, DigestRefused, Done, NoMemory, OrderRefused, ProofRefused, QueryRefused, ReadFault, ScheduleRefused, Usage, WriteFault}
use Rattle.bcdb.specs.declared.status.Status.{Status}

pub record Means (meant : ProgramAnswer) (reply : Reply) : Type 0 where
  pub status : reply.status ≡ meant.status
  pub bytes : reply.bytes ≡ meant.bytes

-- the statuses of an answer over files; the others are those of words, of memory, and of a read or a write that failed
abbrev pub is_answer : Status → Bool
is_answer Done = true
is_answer Usage = false
is_answer ReadFault = false
is_answer AppRefused = true
is_answer ChainRefused = true
is_answer ArrivalRefused = true
is_answer WriteFault = false
is_answer NoMemory = false
is_answer QueryRefused = true
is_answer ScheduleRefused = true
is_answer OrderRefused = true
is_answer DigestRefused = true
is_answer ProofRefused = true
