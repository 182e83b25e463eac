-- Which bytes are an application, and why others are none.
use Rattle.std.specs.Prelude.{Err, List, None, Ok, Option, Result, Some, cond, length, nat_le, ℕ}
use Rattle.bcdb.specs.declared.refusal.Refusal.{Refusal}
use Rattle.bcdb.specs.declared.refusal.RefusalKind.TheVariants as kind
use Rattle.proc_check.specs.Apps.{first_fault}
use Rattle.proc_check.specs.declared.fault.Bad.{Bad}
use Rattle.proc_parse.specs.Faults.{position_of}
use Rattle.proc_parse.specs.Grammar.{application}
use Rattle.proc_parse.specs.Reading.{Read}
use Rattle.proc_parse.specs.Tokens.{tokens_of}
use Rattle.proc_syntax.specs.declared.tree.App.{App}

-- an application in which the check meets no fault, or its first fault
abbrev pub sound : App → Option Bad → Result App Refusal
sound app None = Ok app
sound app (Some bad) = Err (record { line = bad.line; kind = kind.Bad bad.kind })

-- what the grammar reads is checked; or the place at which it stops
abbrev pub typed : Read App → Result App Refusal
typed (Ok read) = sound read.0 (first_fault read.0)
typed (Err rest) = Err (record { line = (position_of rest).line; kind = kind.Syntax })

-- bytes above 1,048,576
abbrev pub too_long : Refusal
too_long = record { line = 0; kind = kind.TooLong }

-- the application of some bytes, or why they are none: at most 1,048,576 of them, in the grammar, and well typed
abbrev pub accepted : List ℕ → Result App Refusal
accepted bytes = cond (nat_le (length bytes) 1048576) (typed (application (tokens_of bytes))) (Err too_long)
