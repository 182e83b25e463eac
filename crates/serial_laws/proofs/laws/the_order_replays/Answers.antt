use Rattle.serial_laws.proofs.Growing.{the_order_replays}
use Rattle.serial_laws.proofs.laws.the_order_replays.Goals as goal

pub returns : goal.returns
returns c = the_order_replays
