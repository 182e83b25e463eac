-- What is read was written so, each byte of it, and what is written is read back.
use Rattle.std.specs.Prelude.{◌≡◌, ◌≤◌, ℕ, List, length, Some}
use Rattle.rel_base.specs.declared.value.Value.{Value}
use Rattle.proc_syntax.specs.declared.call.Tx.{Tx}
use Rattle.tx_text.specs.Values.{IsValue, value_of, value_text}
use Rattle.tx_text.specs.Lines.{IsTx, tx_of, tx_text}
use Rattle.tx_text.specs.Parts.{most_line_bytes}

-- a value has one spelling
abbrev pub ValuesHaveOneSpelling : Type 0
ValuesHaveOneSpelling = (bytes : List ℕ) (v : Value) → value_of bytes ≡ Some v → bytes ≡ value_text v

-- and is read back from it
abbrev pub ValuesComeBack : Type 0
ValuesComeBack = (v : Value) → IsValue v → value_of (value_text v) ≡ Some v

-- a transaction has one line
abbrev pub TransactionsHaveOneLine : Type 0
TransactionsHaveOneLine = (line : List ℕ) (tx : Tx) → tx_of line ≡ Some tx → line ≡ tx_text tx

-- and is read back from it, where it is not too long
abbrev pub TransactionsComeBack : Type 0
TransactionsComeBack = (tx : Tx) → IsTx tx → length (tx_text tx) ≤ most_line_bytes → tx_of (tx_text tx) ≡ Some tx
