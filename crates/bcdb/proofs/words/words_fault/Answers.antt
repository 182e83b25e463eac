use Rattle.std.proofs.Common.{rules}
use Rattle.bcdb.proofs.words.words_fault.Goals as goal

pub returns-in-OutOfMemory : goal.returns-in-OutOfMemory
returns-in-OutOfMemory c = search rules
