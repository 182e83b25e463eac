use Rattle.std.proofs.Common.{ap, subst, sym, ◌∙◌}
use Rattle.bcdb.proofs.Queries.{told_history, told_places}
use Rattle.bcdb.proofs.Processed.{folds_held}
use Rattle.bcdb.proofs.querying.select.Goals as goal
use Rattle.bcdb.specs.Folds.{app_of}
use Rattle.provenance.specs.Versions.{AreTold, history_of}
use Rattle.version_index.specs.declared.store.IndexVersions.{IndexVersions}

pub answer-requires-clause-history : goal.answer-requires-clause-history
answer-requires-clause-history c =
    ap (λ (versions : IndexVersions). versions.1.0) c.versions.ensures
    ∙ told_history (app_of c.args.folded.now) c.requires.folds.0 _ _ _ (folds_held c.requires.folds.0 c.args.folded.now c.requires.folds.1)
    ∙ ap history_of (sym c.blocks-2.ensures)

pub answer-requires-clause-told : goal.answer-requires-clause-told
answer-requires-clause-told c =
    subst AreTold (sym c.blocks-2.ensures) (told_places (app_of c.args.folded.now) c.requires.folds.0 _ _ _ c.requires.folds.1.numbered (folds_held c.requires.folds.0 c.args.folded.now c.requires.folds.1))
