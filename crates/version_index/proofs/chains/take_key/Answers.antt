use Rattle.std.proofs.Common.{None}
use Rattle.version_index.proofs.Keys.{slot_set}
use Rattle.version_index.proofs.chains.take_key.Goals as goal

pub returns : goal.returns
returns c = slot_set c.args.slots.now.entries c.remove.new.self.entries c.args.key.now None c.remove.ensures.updates.0
