use Rattle.std.proofs.Common.{rules}
use Rattle.serial_order.proofs.check.is_serial.Goals as goal

pub returns-then-are_in : goal.returns-then-are_in
returns-then-are_in c = search rules
