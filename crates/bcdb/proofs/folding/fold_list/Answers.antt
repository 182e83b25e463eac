use Rattle.std.proofs.Common.{[], ap, ◌∙◌}
use Rattle.bcdb.proofs.Processed.{none_held}
use Rattle.bcdb.proofs.folding.fold_list.Goals as goal
use Rattle.bcdb.specs.Folds.{HoldsFirst, all_blocks}
use Rattle.proc_check.specs.declared.checked.Checked.{Checked}

pub take_blocks-requires : goal.take_blocks-requires
take_blocks-requires c =
    let node = c.in_ok-node.node in
    let start : HoldsFirst all_blocks [] 0 node.chain.app.value.app node.chain.versions.0 node.chain.versions.1.0 node.ids node.chain.blocks =
    none_held all_blocks node.chain.app.value.app node.chain.versions.0 node.chain.versions.1.0 node.ids node.chain.blocks c.in_ok-node.ensures.store c.in_ok-node.ensures.ids c.in_ok-node.ensures.holds in
    record { holds = ([], (c.requires.numbered, start)) }

pub returns-clause-app : goal.returns-clause-app
returns-clause-app c = c.end_fold.ensures.app ∙ ap (λ (checked : Checked). checked.app) (c.in_ok-take_blocks.ensures.app ∙ c.in_ok-node.ensures.app)

pub returns-clause-folds : goal.returns-clause-folds
returns-clause-folds c =
    let node = c.in_ok-node.node in
    let start : HoldsFirst all_blocks [] 0 node.chain.app.value.app node.chain.versions.0 node.chain.versions.1.0 node.ids node.chain.blocks =
    none_held all_blocks node.chain.app.value.app node.chain.versions.0 node.chain.versions.1.0 node.ids node.chain.blocks c.in_ok-node.ensures.store c.in_ok-node.ensures.ids c.in_ok-node.ensures.holds in
    c.end_fold.ensures.folds c.args.blocks c.requires.numbered (c.in_ok-take_blocks.ensures.holds [] start)
