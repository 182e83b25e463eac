-- What a seal answers.
use Rattle.std.specs.Prelude.{List, None, Option, Some}
use Rattle.bcdb.specs.ProgramAnswer.{ProgramAnswer, says}
use Rattle.bcdb.specs.declared.status.Status.TheVariants.{ChainRefused, Done}
use Rattle.chain_file.specs.ChainText.{sealed_text}
use Rattle.chain_file.specs.declared.form.ChainVersion.{ChainVersion}
use Rattle.proc_syntax.specs.declared.call.Block.{Block}
use Rattle.proc_syntax.specs.declared.chain_fault.ChainFault.{ChainFault}
use Rattle.report_text.specs.Ending.{stopped_line}

-- the chain file of the blocks of a file without a fault, in the file's version, and else where the file stopped
abbrev pub sealed : Option ChainVersion → List Block → Option ChainFault → ProgramAnswer
sealed version blocks None = says Done (sealed_text version blocks)
sealed version blocks (Some fault) = says ChainRefused (stopped_line fault)
