use Rattle.std.proofs.Common.{◌≡◌, [], ap, sym, ◌∙◌, true, rules}
use Rattle.proc_run.specs.declared.path.Spot.TheVariants.{Block}
use Rattle.proc_run.specs.Path.{part_of, block_of}
use Rattle.proc_run.proofs.Paths.{path_push, none_inside, none_of}
use Rattle.proc_run.proofs.stepping.enter_block.Goals as goal

pub returns-then-not-is_empty-clause-runs : goal.returns-then-not-is_empty-clause-runs
returns-then-not-is_empty-clause-runs c = λ tables columns S root here state.
    rw c.push_block.ensures.items (path_push tables columns S root c.args.spots.now.items (Block c.args.at c.args.branch 0) state)

pub returns-else-not-is_empty-clause-runs : goal.returns-else-not-is_empty-clause-runs
returns-else-not-is_empty-clause-runs c = λ tables columns S root here.
    let empty : c.is_empty.result ≡ true = search rules in
    none_inside tables columns S root c.args.spots.now.items c.args.at c.args.branch (ap (λ block. part_of block c.args.at c.args.branch) (sym here) ∙ sym c.part.ensures ∙ none_of c.part.result.now (sym c.is_empty.ensures ∙ empty))
