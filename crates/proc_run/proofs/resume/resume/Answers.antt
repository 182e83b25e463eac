use Rattle.std.proofs.Common.{refl}
use Rattle.proc_run.proofs.Paths.{path_push}
use Rattle.proc_run.proofs.resume.resume.Goals as goal

pub returns-in_ok-seen-in-For-clause-comes : goal.returns-in_ok-seen-in-For-clause-comes
returns-in_ok-seen-in-For-clause-comes c = λ columns S root.
    rw (c.push_rows.ensures.items, path_push, c.in-For.is, c.table-table.ensures, c.in_ok-seen-in-For.ensures) refl
