use Rattle.std.proofs.Common.{List, ap, map, refl, subst, sym, ◌∙◌}
use Rattle.bcdb.proofs.Extracts.{held}
use Rattle.bcdb.proofs.FewWrites.{few_held}
use Rattle.bcdb.proofs.Processed.{folds_held}
use Rattle.bcdb.proofs.Queries.{told_history, told_numbers}
use Rattle.bcdb.proofs.extracting.extract_folded.Goals as goal
use Rattle.bcdb.specs.Folds.{app_of}
use Rattle.node_model.specs.declared.result.BlockResult.{BlockResult}
use Rattle.provenance.specs.Laws.{RunFromOne}
use Rattle.provenance.specs.Versions.{history_of}
use Rattle.version_index.specs.declared.store.IndexVersions.{IndexVersions}

pub draw_file-requires-clause-history : goal.draw_file-requires-clause-history
draw_file-requires-clause-history c =
    ap (λ (versions : IndexVersions). versions.1.0) c.versions.ensures
    ∙ told_history (app_of c.args.made.now) c.requires.0 _ _ _ (folds_held c.requires.0 c.args.made.now c.requires.1)
    ∙ ap history_of (sym c.blocks-2.ensures)

pub draw_file-requires-clause-numbers : goal.draw_file-requires-clause-numbers
draw_file-requires-clause-numbers c =
    subst (λ (blocks : List BlockResult). RunFromOne (map (λ block. block.number) blocks)) (sym c.blocks-2.ensures)
    (told_numbers (app_of c.args.made.now) c.requires.0 _ _ _ c.requires.1.numbered (folds_held c.requires.0 c.args.made.now c.requires.1))

pub draw_file-requires-clause-few : goal.draw_file-requires-clause-few
draw_file-requires-clause-few c =
    few_held c.args.made.now.node.chain.app.value c.args.made.now.node.chain.app.value c.requires.0 _ _ _ _ c.blocks-2.result.now refl c.blocks-2.ensures
    c.requires.1.holds.fits (folds_held c.requires.0 c.args.made.now c.requires.1)

pub returns : goal.returns
returns c = held c.args.wanted c.args.made.now c.draw_file.result c.blocks-2.result.now c.blocks-2.ensures c.draw_file.ensures
