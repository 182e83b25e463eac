use Rattle.node_core.proofs.Newest.{set_kept, set_newest}
use Rattle.node_core.proofs.index.JobIndex.set.Goals as goal
use Rattle.node_core.specs.declared.index.JobIndex.{JobIndex}

-- the id is held, so its entry is there and takes the number
pub returns-in-Some-clause-set : goal.returns-in-Some-clause-set
returns-in-Some-clause-set c =
    let now : JobIndex = record { newest = c.replace.new.self; older = c.args.self.now.older; alloc = c.args.self.now.alloc } in
    set_newest c.args.self.now now c.args.id.now c.args.number c.replace.ensures.set

-- no entry goes
pub returns-in-Some-clause-kept : goal.returns-in-Some-clause-kept
returns-in-Some-clause-kept c =
    let now : JobIndex = record { newest = c.replace.new.self; older = c.args.self.now.older; alloc = c.args.self.now.alloc } in
    set_kept c.args.self.now now c.args.id.now c.args.number c.replace.ensures.set
