-- The kinds of outcomes, of faults and of dangers: of each its word in reports and its byte in the code of a block's result, once.
-- (Words and bytes are this project's own.)
use Rattle.node_model.specs.declared.danger.Danger.TheVariants as danger
use Rattle.node_model.specs.declared.danger.Danger.{Danger}
use Rattle.node_model.specs.declared.kind.OutcomeKind.TheVariants as kind
use Rattle.node_model.specs.declared.kind.OutcomeKind.{OutcomeKind}
use Rattle.node_model.specs.declared.outcome.Outcome.TheVariants as outcome
use Rattle.node_model.specs.declared.outcome.Outcome.{Outcome}
use Rattle.proc_syntax.specs.declared.fault.Fault.TheVariants as fault
use Rattle.proc_syntax.specs.declared.fault.Fault.{Fault}
use Rattle.std.specs.Prelude.{Bool, List, bytes_eq, codes, cond, ℕ}

-- the word and the byte of a kind
abbrev pub mark_of : OutcomeKind → List ℕ × ℕ
mark_of kind.Committed = (codes "committed", 0)
mark_of kind.DuplicateId = (codes "duplicate-id", 1)
mark_of kind.FutureHeight = (codes "future-height", 2)
mark_of kind.UnknownProcedure = (codes "unknown-procedure", 3)
mark_of kind.BadArguments = (codes "bad-arguments", 4)
mark_of kind.Stale = (codes "stale", 5)
mark_of kind.Phantom = (codes "phantom", 6)
mark_of kind.Fault = (codes "fault", 7)
mark_of kind.WriteConflict = (codes "write-conflict", 8)
mark_of kind.Danger = (codes "danger", 9)

-- the same of a fault
abbrev pub fault_mark : Fault → List ℕ × ℕ
fault_mark fault.Overflow = (codes "overflow", 1)
fault_mark fault.ZeroDivide = (codes "zero-divide", 2)
fault_mark fault.DuplicateKey = (codes "duplicate-key", 3)
fault_mark fault.NoRow = (codes "no-row", 4)
fault_mark fault.TextTooLong = (codes "text-too-long", 5)
fault_mark fault.Steps = (codes "steps", 6)
fault_mark (fault.Failed text) = (codes "failed", 7)

-- the same of a danger's form
abbrev pub danger_mark : Danger → List ℕ × ℕ
danger_mark (danger.One z x) = (codes "one", 1)
danger_mark (danger.Two y z) = (codes "two", 2)
danger_mark (danger.Cycle path) = (codes "cycle", 3)

abbrev pub kind_word : OutcomeKind → List ℕ
kind_word kind = (mark_of kind).0

abbrev pub kind_byte : OutcomeKind → ℕ
kind_byte kind = (mark_of kind).1

-- a late read lost a row that it saw, or missed one that it would have seen
abbrev pub late_kind : Bool → OutcomeKind
late_kind stale = cond stale kind.Stale kind.Phantom

-- the kind of an outcome
abbrev pub kind_of : Outcome → OutcomeKind
kind_of outcome.Committed = kind.Committed
kind_of outcome.DuplicateId = kind.DuplicateId
kind_of outcome.FutureHeight = kind.FutureHeight
kind_of outcome.UnknownProcedure = kind.UnknownProcedure
kind_of outcome.BadArguments = kind.BadArguments
kind_of (outcome.Late late) = late_kind late.stale
kind_of (outcome.Fault why) = kind.Fault
kind_of (outcome.WriteConflict clash) = kind.WriteConflict
kind_of (outcome.Danger found) = kind.Danger

-- two kinds are one: they have one word
abbrev pub is_same : OutcomeKind → OutcomeKind → Bool
is_same one other = bytes_eq (kind_word one) (kind_word other)
