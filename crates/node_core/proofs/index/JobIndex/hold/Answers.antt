use Rattle.std.proofs.Common.{ap, subst, sym, ◌∙◌}
use Rattle.std.specs.Prelude.{is_some}
use Rattle.node_core.proofs.Newest.{Sets, hold_same, set_held, set_kept}
use Rattle.node_core.proofs.index.JobIndex.hold.Goals as goal
use Rattle.node_core.specs.declared.index.JobIndex.{JobIndex}

-- a new id has no job yet
pub returns-clause-newest : goal.returns-clause-newest
returns-clause-newest c =
    let now : JobIndex = record { newest = c.insert.new.self; older = c.args.self.now.older; alloc = c.args.self.now.alloc } in
    hold_same c.args.self.now now c.args.id.now (sym (c.is_some.ensures ∙ ap is_some c.get.ensures) ∙ c.if-is_some.false)
    (subst (λ id. Sets c.args.self.now now id 0) c.in_ok-id.ensures c.in_ok-insert.ensures.set)

-- no entry goes
pub returns-clause-kept : goal.returns-clause-kept
returns-clause-kept c =
    let now : JobIndex = record { newest = c.insert.new.self; older = c.args.self.now.older; alloc = c.args.self.now.alloc } in
    set_kept c.args.self.now now c.args.id.now 0 (subst (λ id. Sets c.args.self.now now id 0) c.in_ok-id.ensures c.in_ok-insert.ensures.set)

-- the new id has an entry
pub returns-clause-held : goal.returns-clause-held
returns-clause-held c =
    let now : JobIndex = record { newest = c.insert.new.self; older = c.args.self.now.older; alloc = c.args.self.now.alloc } in
    set_held c.args.self.now now c.args.id.now 0 (subst (λ id. Sets c.args.self.now now id 0) c.in_ok-id.ensures c.in_ok-insert.ensures.set)
