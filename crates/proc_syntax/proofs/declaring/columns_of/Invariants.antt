use Rattle.std.proofs.Common.{◌≡◌, map, take}
use Rattle.proc_syntax.specs.Declaring.{column_of}
use Rattle.proc_syntax.proofs.declaring.columns_of.Given as goal

abbrev pub invariant-loop-text : goal.invariant-loop-text
invariant-loop-text l = l.columns ≡ map column_of (take l.text-index l.texts)
