-- The line that ends a report.
use Rattle.std.specs.Prelude.{ℕ, List, ◌++◌, Option, Some, None, codes, decimal}
use Rattle.proc_syntax.specs.declared.chain_fault.ChainFault.{ChainFault}
use Rattle.proc_syntax.specs.declared.chain_fault.ChainKind.{ChainKind}
use Rattle.proc_syntax.specs.declared.chain_fault.ChainKind.TheVariants as kind

-- a kind of fault, by its name
abbrev pub kind_text : ChainKind → List ℕ
kind_text kind.BadHeader = codes "BadHeader"
kind_text kind.BadLine = codes "BadLine"
kind_text kind.WrongNumber = codes "WrongNumber"
kind_text kind.WrongPrev = codes "WrongPrev"
kind_text kind.TooManyTx = codes "TooManyTx"
kind_text kind.LineTooLong = codes "LineTooLong"
kind_text kind.Truncated = codes "Truncated"
kind_text kind.WrongTime = codes "WrongTime"

-- `stopped LINE KIND`
abbrev pub stopped_line : ChainFault → List ℕ
stopped_line fault = codes "stopped " ++ decimal fault.line ++ codes " " ++ kind_text fault.kind ++ codes "\n"

-- `done` where the block file was read to its end, and else where it stopped
abbrev pub end_line : Option ChainFault → List ℕ
end_line None = codes "done\n"
end_line (Some fault) = stopped_line fault
