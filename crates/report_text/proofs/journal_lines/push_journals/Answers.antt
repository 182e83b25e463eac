use Rattle.std.proofs.Common.{rules}
use Rattle.report_text.proofs.journal_lines.push_journals.Goals as goal

pub returns-else-look : goal.returns-else-look
returns-else-look c = search rules
