use Rattle.std.proofs.Common.{◌≡◌, ◌++◌, take}
use Rattle.std.specs.List.{flat_map, AllByRecursion}
use Rattle.tx_text.specs.Values.{IsValue}
use Rattle.tx_text.specs.Lines.{arg_text}
use Rattle.tx_text.proofs.line.push_args.Given as goal

abbrev pub invariant-loop-value : goal.invariant-loop-value
invariant-loop-value l = (l.out.items ≡ l.fn.out.items ++ flat_map arg_text (take l.value-index l.args)) × AllByRecursion IsValue (take l.value-index l.args)
