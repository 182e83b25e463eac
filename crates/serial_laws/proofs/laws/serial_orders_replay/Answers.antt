use Rattle.serial_laws.proofs.Growing.{serial_orders_replay}
use Rattle.serial_laws.proofs.laws.serial_orders_replay.Goals as goal

pub returns : goal.returns
returns c = serial_orders_replay
