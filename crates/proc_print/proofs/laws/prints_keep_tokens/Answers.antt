use Rattle.proc_print.proofs.PrintedBack.{prints_keep_tokens}
use Rattle.proc_print.proofs.laws.prints_keep_tokens.Goals as goal

pub returns : goal.returns
returns c = prints_keep_tokens
