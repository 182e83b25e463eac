use Rattle.std.proofs.Common.{ap, arith}
use Rattle.bcdb.proofs.Processed.{next_held, next_number, passed_held}
use Rattle.bcdb.proofs.plain.take_block.Goals as goal
use Rattle.bcdb.proofs.plain.take_block.Goals.{else-block-height, then-block-height+in_ok-process}
use Rattle.proc_check.specs.declared.checked.Checked.{Checked}

-- the blocks so far are as many as it was given, so that this one is its next
pub process-requires-clause-next : goal.process-requires-clause-next
process-requires-clause-next g c =
    next_number c.args.height c.args.block.now.number c.requires.holds.0 c.args.taken.now c.args.node.now.chain.app.value.app (g.V.Versions.tables c.args.node.now.chain.versions)
    (g.V.Versions.history c.args.node.now.chain.versions) c.args.node.now.ids c.args.node.now.chain.blocks c.requires.holds.1 c.requires.next (omega (arith, c.if-block-height.true))

pub returns-clause-holds : goal.returns-clause-holds
returns-clause-holds g c = elim c.if-block-height.branch [
  | then-block-height+in_ok-process w ↦ rw w.node-is
      (next_held c.args.height c.args.block.now c.args.taken.now c.args.node.now.chain.app.value.app w.process.new.self.chain.app.value.app (g.V.Versions.tables c.args.node.now.chain.versions)
      (g.V.Versions.tables w.process.new.self.chain.versions) (g.V.Versions.history c.args.node.now.chain.versions) (g.V.Versions.history w.process.new.self.chain.versions) c.args.node.now.ids w.process.new.self.ids
      c.args.node.now.chain.blocks w.process.new.self.chain.blocks c.requires.next (omega (arith, w.if-block-height.true)) (ap (λ (checked : Checked). checked.app) w.process.ensures.app) w.process.ensures.store
      w.process.ensures.ids w.in_ok-process.ensures.holds)
  | else-block-height w ↦ rw w.node-is
      (passed_held c.args.height c.args.block.now c.args.taken.now c.args.node.now.chain.app.value.app (g.V.Versions.tables c.args.node.now.chain.versions) (g.V.Versions.history c.args.node.now.chain.versions)
      c.args.node.now.ids c.args.node.now.chain.blocks c.requires.next (omega (arith, w.if-block-height.false)))
]
