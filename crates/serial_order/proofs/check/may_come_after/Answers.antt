use Rattle.std.proofs.Common.{rules}
use Rattle.serial_order.proofs.check.may_come_after.Goals as goal

pub returns-then-earlier-later : goal.returns-then-earlier-later
returns-then-earlier-later c = search rules
