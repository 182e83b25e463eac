-- What the program answers: a status, and bytes.
use Rattle.std.specs.Prelude.{List, None, Option, Some, ℕ}
use Rattle.bcdb.specs.declared.status.Status.TheVariants.{ChainRefused, Done}
use Rattle.bcdb.specs.declared.status.Status.{Status}
use Rattle.cli_words.specs.declared.flags.Flags.{Flags}
use Rattle.proc_syntax.specs.declared.chain_fault.ChainFault.{ChainFault}
use Rattle.report_text.specs.declared.look.Look.{Look}

-- a status, and all that is written
pub record ProgramAnswer : Type 0 where
  pub status : Status
  pub bytes : List ℕ

abbrev pub says : Status → List ℕ → ProgramAnswer
says status bytes = record { status = status; bytes = bytes }

-- whether the block file was read to its end
abbrev pub status_of : Option ChainFault → Status
status_of None = Done
status_of (Some fault) = ChainRefused

-- what the flags of a run ask the report to show
abbrev pub look_of : Flags → Look
look_of flags = record { orders = flags.orders; digests = flags.digests; json = flags.json; trace = flags.trace }
