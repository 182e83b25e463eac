-- Lines that go on with a block that began before them, and what the code keeps of it.
use Rattle.std.specs.Prelude.{◌≡◌, ℕ, List, cond, nat_lt, Option, Some, None, Result, Ok, Err, codes}
use Rattle.std.specs.Str.{bytes_eq}
use Rattle.proc_syntax.specs.declared.call.Tx.{Tx}
use Rattle.proc_syntax.specs.declared.chain_fault.ChainKind.{ChainKind}
use Rattle.proc_syntax.specs.declared.chain_fault.ChainKind.TheVariants as kind
use Rattle.tx_text.specs.Lines.{tx_of}
use Rattle.tx_text.specs.Parts.{is_long}
use Rattle.chain_file.specs.declared.step.StepFault.{StepFault}
use Rattle.chain_file.specs.declared.step.StepFault.TheVariants as stop
use Rattle.proc_syntax.specs.Limits.{most_transactions}

-- a line that is no end: the transaction that it has, at most the 1,024th
abbrev pub next_tx : ℕ → Option Tx → Result (Option Tx) ChainKind
next_tx before None = Err kind.BadLine
next_tx before (Some tx) = cond (nat_lt before most_transactions) (Ok (Some tx)) (Err kind.TooManyTx)

-- what a line says in a block that has so many transactions before it: one more, or nothing where it ends the block
abbrev pub told_within : ℕ → List ℕ → Result (Option Tx) ChainKind
told_within before line = cond (is_long line) (Err kind.LineTooLong) (cond (bytes_eq line (codes "end")) (Ok None) (next_tx before (tx_of line)))

-- what the code answers, against what is meant: the same, unless memory ran out
abbrev pub GivesTold : Result (Option Tx) StepFault → Result (Option Tx) ChainKind → Type 0
GivesTold (Ok told) meant = meant ≡ Ok told
GivesTold (Err stop.NoMemory) meant = Unit {0}
GivesTold (Err (stop.Kind k)) meant = meant ≡ Err k
