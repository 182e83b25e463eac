-- What a load answers.
use Rattle.std.specs.Prelude.{Err, Ok, Result, ℕ}
use Rattle.bcdb.specs.ProgramAnswer.{ProgramAnswer, says}
use Rattle.bcdb.specs.Refusals.{refusal_line}
use Rattle.bcdb.specs.declared.refusal.Refusal.{Refusal}
use Rattle.bcdb.specs.declared.status.Status.TheVariants.{AppRefused, Done}
use Rattle.load_gen.specs.Blocks.{load_blocks}
use Rattle.node_model.specs.Fold.{node_result}
use Rattle.proc_syntax.specs.declared.tree.App.{App}
use Rattle.report_text.specs.Summary.{summary_text}

-- the summary of the fold of its blocks on its application, which is read as that of a file
abbrev pub over_load : ℕ → Result App Refusal → ProgramAnswer
over_load number (Err refusal) = says AppRefused (refusal_line refusal)
over_load number (Ok app) = says Done (summary_text number (node_result app (load_blocks number)).blocks)
