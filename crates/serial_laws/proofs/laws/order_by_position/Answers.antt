use Rattle.serial_laws.proofs.Positions.{order_by_position}
use Rattle.serial_laws.proofs.laws.order_by_position.Goals as goal

pub returns : goal.returns
returns c = order_by_position
