use Rattle.std.proofs.Common.{List, Some, ap, subst, sym, ◌++◌}
use Rattle.bcdb.proofs.folding.FoldingIntake.take.Goals as goal
use Rattle.bcdb.specs.Folds.{HoldsFirst}
use Rattle.chain_file.specs.Chain.{chain}
use Rattle.chain_file.specs.Numbered.{NumberedFrom}
use Rattle.proc_check.specs.declared.checked.Checked.{Checked}
use Rattle.proc_syntax.specs.declared.call.Block.{Block}

pub take_blocks-requires : goal.take_blocks-requires
take_blocks-requires c =
    let bytes = c.requires.took.0 in
    let took = c.requires.took.1 in
    let more = (c.in_ok-fed.ensures.fed bytes took.fed).0 in
    record { holds = ((chain bytes).0, (subst (NumberedFrom 1) more (c.files_are_numbered.ensures (bytes ++ c.args.piece.now)), took.holds)) }

pub returns-clause-follows : goal.returns-clause-follows
returns-clause-follows c = λ bytes took.
    let more = (c.in_ok-fed.ensures.fed bytes took.fed).0 in
    record {
      fed = c.in_ok-fed.ensures.follows bytes took.fed;
      holds = subst (λ (blocks : List Block). HoldsFirst c.args.self.now.height blocks c.take_blocks.new.taken c.take_blocks.new.node.chain.app.value.app c.take_blocks.new.node.chain.versions.0
          c.take_blocks.new.node.chain.versions.1.0 c.take_blocks.new.node.ids c.take_blocks.new.node.chain.blocks) (sym more) (c.in_ok-take_blocks.ensures.holds (chain bytes).0 took.holds);
    }

pub returns-clause-same : goal.returns-clause-same
returns-clause-same c = ap (λ (checked : Checked). Some (checked.app, c.args.self.now.height)) c.in_ok-take_blocks.ensures.app
