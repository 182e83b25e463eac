use Rattle.std.proofs.Common.{IfSome, List, subst, ◌∙◌, ◌≡◌}
use Rattle.bcdb.proofs.Processed.{same_app, same_height}
use Rattle.bcdb.proofs.blocks.fold_blocks.Goals as goal
use Rattle.bcdb.specs.Folds.{Folds}
use Rattle.chain_file.specs.Chain.{chain}
use Rattle.proc_syntax.specs.declared.call.Block.{Block}

pub returns-in-Ok-clause-app : goal.returns-in-Ok-clause-app
returns-in-Ok-clause-app g c = c.end.ensures.app ∙ same_app _ _ _ _ c.in-Ok.ensures.same ∙ c.in_ok-folding.ensures.runs.0

pub returns-in-Ok-clause-folds : goal.returns-in-Ok-clause-folds
returns-in-Ok-clause-folds g c =
    let told = g.S.Shelf.told c.args.shelf.now in
    let name = c.args.name.now in
    subst (λ height. (blocks : List Block) × (Folds height blocks c.end.result × IfSome told (λ files. chain (files name) ≡ (blocks, c.end.result.fault))))
    (same_height _ _ _ _ c.in-Ok.ensures.same ∙ c.in_ok-folding.ensures.runs.1) (c.end.ensures.folds told name c.in-Ok.ensures.told)
