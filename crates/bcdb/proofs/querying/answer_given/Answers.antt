use Rattle.std.proofs.Common.{IfOk, None, subst, sym, ◌≡◌}
use Rattle.std.specs.Prelude.{Result}
use Rattle.bcdb.proofs.Queries.{query_means}
use Rattle.bcdb.proofs.querying.answer_given.Goals as goal
use Rattle.bcdb.specs.Accepted.{accepted}
use Rattle.bcdb.specs.Folds.{all_blocks}
use Rattle.bcdb.specs.Given.{AreFolded}
use Rattle.bcdb.specs.Reply.{Means}
use Rattle.bcdb.specs.VersionsAnswer.{over_query}
use Rattle.bcdb.specs.declared.folding.Folded.{Folded}
use Rattle.bcdb.specs.declared.given.BadSource.{BadSource}
use Rattle.bcdb.specs.declared.sources.Sources.{Sources}
use Rattle.edge_traits.specs.Shelf.{Files}

pub returns-in-Ok-clause-means : goal.returns-in-Ok-clause-means
returns-in-Ok-clause-means c =
    subst (λ (read : Result Folded BadSource). IfOk c.query_folded-reply.result (λ reply. (asked : Sources) (files : Files) → asked.nodes ≡ 0 → asked.schedule ≡ None
    → AreFolded all_blocks read asked files → Means (over_query c.args.text.now (accepted (files asked.app)) (files asked.blocks)) reply))
    (sym c.in-Ok.is) (query_means c.args.text.now c.in-Ok.folded c.query_folded-reply.result c.query_folded-reply.ensures.means)
