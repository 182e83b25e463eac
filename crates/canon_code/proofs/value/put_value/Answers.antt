use Rattle.std.proofs.Common.{rules}
use Rattle.canon_code.proofs.value.put_value.Goals as goal

pub returns-then-is_err-clause-err : goal.returns-then-is_err-clause-err
returns-then-is_err-clause-err c = search rules
