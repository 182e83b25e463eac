use Rattle.std.proofs.lemmas.List.{map-set}
use Rattle.direct_run.specs.Scope.{binding_of}
use Rattle.direct_run.proofs.scope.put.Goals as goal

pub returns-then-slot-len : goal.returns-then-slot-len
returns-then-slot-len c = map-set binding_of c.args.slots.now.items c.args.slot c.args.held
