use Rattle.serial_laws.proofs.Admitted.{order_is_serial}
use Rattle.serial_laws.proofs.laws.order_is_serial.Goals as goal

pub returns : goal.returns
returns c = order_is_serial
