-- The numbers that the process ends with.
use Rattle.std.specs.Prelude.{ℕ}
use Rattle.bcdb.specs.declared.status.Status.{Status}
use Rattle.bcdb.specs.declared.status.Status.TheVariants.{AppRefused, ArrivalRefused, ChainRefused, DigestRefused, Done, NoMemory, OrderRefused, ProofRefused, QueryRefused, ReadFault, ScheduleRefused, Usage, WriteFault}

-- the number of a status
abbrev pub number_of_status : Status → ℕ
number_of_status Done = 0
number_of_status Usage = 2
number_of_status ReadFault = 3
number_of_status AppRefused = 4
number_of_status ChainRefused = 5
number_of_status ArrivalRefused = 6
number_of_status WriteFault = 7
number_of_status NoMemory = 8
number_of_status QueryRefused = 9
number_of_status ScheduleRefused = 10
number_of_status OrderRefused = 11
number_of_status DigestRefused = 12
number_of_status ProofRefused = 13
