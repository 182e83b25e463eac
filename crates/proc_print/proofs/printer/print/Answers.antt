use Rattle.std.proofs.Common.{◌≡◌, rules}
use Rattle.proc_print.specs.Printed.{printed}
use Rattle.proc_print.proofs.PrintedBack.{bytes_come_back}
use Rattle.proc_print.proofs.printer.print.Goals as goal

pub returns-clause-back : goal.returns-clause-back
returns-clause-back c =
    let text : c.from_vec.result ≡ printed c.args.app.now = search rules in
    bytes_come_back c.args.app.now c.from_vec.result text
