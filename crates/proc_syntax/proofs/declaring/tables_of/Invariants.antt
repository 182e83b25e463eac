use Rattle.std.proofs.Common.{◌≡◌, map, take}
use Rattle.proc_syntax.specs.Declaring.{declare}
use Rattle.proc_syntax.proofs.declaring.tables_of.Given as goal

abbrev pub invariant-loop-text : goal.invariant-loop-text
invariant-loop-text l = l.tables ≡ map declare (take l.text-index l.text-items)
