use Rattle.std.proofs.Common.{IfOk, IfSome, List, Some, refl, subst, sym, ℕ}
use Rattle.bcdb.proofs.Replying.{replies_told}
use Rattle.bcdb.proofs.commands.reply_to.Goals as goal
use Rattle.bcdb.specs.Accepted.{accepted}
use Rattle.bcdb.specs.ExtractAnswer.{over_extract}
use Rattle.bcdb.specs.Reply.{Means}
use Rattle.bcdb.specs.RowsAnswer.{over_ask}
use Rattle.bcdb.specs.SimulationAnswer.{over_simulation}
use Rattle.bcdb.specs.Sources.{run_sources, simulation_sources}
use Rattle.bcdb.specs.Traced.{Replies, RepliesRun}
use Rattle.bcdb.specs.VersionsAnswer.{over_query}
use Rattle.bcdb.specs.declared.extract.Extract.TheVariants.{Hashes, Proof}
use Rattle.bcdb.specs.declared.extract.Extract.{Extract}
use Rattle.bcdb.specs.declared.sources.Sources.{Sources}
use Rattle.cli_words.specs.declared.settings.Settings.TheVariants.{Checkpoint, Provenance, Prove, Query, Simulate}
use Rattle.cli_words.specs.declared.settings.Settings.{Settings}
use Rattle.report_text.specs.declared.look.Look.{Look}

pub returns-in-Run-clause-told : goal.returns-in-Run-clause-told
returns-in-Run-clause-told g c =
    let told = g.S.Shelf.told c.args.shelf.now in
    let result = c.answer_run-reply.result in
    subst (λ (settings : Settings). IfOk result (λ reply. IfSome told (λ files. Replies (Some settings) files reply))) (sym c.in-Run.is)
    (subst (λ (look : Look). IfOk result (λ reply. IfSome told (λ files. RepliesRun look (run_sources c.in-Run.app c.in-Run.blocks c.in-Run.arrivals c.in-Run.nodes) (accepted (files c.in-Run.app)) files reply))) c.look_of.ensures
    (subst (λ (asked : Sources). IfOk result (λ reply. IfSome told (λ files. RepliesRun c.look_of.result asked (accepted (files asked.app)) files reply))) c.of_run-asked.ensures
    c.answer_run-reply.ensures.told))

pub returns-in-Simulate-clause-told : goal.returns-in-Simulate-clause-told
returns-in-Simulate-clause-told g c =
    let told = g.S.Shelf.told c.args.shelf.now in
    let result = c.answer_simulation-reply.result in
    subst (λ (settings : Settings). IfOk result (λ reply. IfSome told (λ files. Replies (Some settings) files reply))) (sym c.in-Simulate.is)
    (replies_told (Simulate c.in-Simulate.app c.in-Simulate.blocks c.in-Simulate.schedule c.in-Simulate.arrivals c.in-Simulate.flags) told result (λ files. refl)
    (subst (λ (look : Look). IfOk result (λ reply. IfSome told (λ files. Means (over_simulation look (simulation_sources c.in-Simulate.app c.in-Simulate.blocks c.in-Simulate.schedule c.in-Simulate.arrivals) (accepted (files c.in-Simulate.app)) files) reply))) c.look_of-in-Simulate.ensures
    (subst (λ (asked : Sources). IfOk result (λ reply. IfSome told (λ files. Means (over_simulation c.look_of-in-Simulate.result asked (accepted (files asked.app)) files) reply)))
    c.of_simulation-asked.ensures c.answer_simulation-reply.ensures.told)))

pub returns-in-Provenance-clause-told : goal.returns-in-Provenance-clause-told
returns-in-Provenance-clause-told g c =
    let told = g.S.Shelf.told c.args.shelf.now in
    let result = c.answer_query-reply.result in
    subst (λ (settings : Settings). IfOk result (λ reply. IfSome told (λ files. Replies (Some settings) files reply))) (sym c.in-Provenance.is)
    (replies_told (Provenance c.in-Provenance.app c.in-Provenance.blocks c.in-Provenance.query) told result (λ files. refl)
    (subst (λ (query : List ℕ). IfOk result (λ reply. IfSome told (λ files. Means (over_query query (accepted (files c.in-Provenance.app)) (files c.in-Provenance.blocks)) reply))) c.as_str.ensures
    (subst (λ (asked : Sources). IfOk result (λ reply. IfSome told (λ files. Means (over_query c.as_str.result.now (accepted (files asked.app)) (files asked.blocks)) reply)))
    c.of_query-asked.ensures c.answer_query-reply.ensures.told)))

pub returns-in-Order-clause-told : goal.returns-in-Order-clause-told
returns-in-Order-clause-told g c =
    let told = g.S.Shelf.told c.args.shelf.now in
    subst (λ (settings : Settings). IfOk c.answer_order-reply.result (λ reply. IfSome told (λ files. Replies (Some settings) files reply))) (sym c.in-Order.is) c.answer_order-reply.ensures.told

pub returns-in-Checkpoint-clause-told : goal.returns-in-Checkpoint-clause-told
returns-in-Checkpoint-clause-told g c =
    let told = g.S.Shelf.told c.args.shelf.now in
    let result = c.answer_extract-reply.result in
    let wanted : Extract = Hashes c.in-Checkpoint.heads in
    subst (λ (settings : Settings). IfOk result (λ reply. IfSome told (λ files. Replies (Some settings) files reply))) (sym c.in-Checkpoint.is)
    (replies_told (Checkpoint c.in-Checkpoint.app c.in-Checkpoint.blocks c.in-Checkpoint.heads) told result (λ files. refl)
    (subst (λ (asked : Sources). IfOk result (λ reply. IfSome told (λ files. Means (over_extract wanted (accepted (files asked.app)) (files asked.blocks)) reply)))
    c.of_query-asked-in-Checkpoint.ensures c.answer_extract-reply.ensures.told))

pub returns-in-Prove-clause-told : goal.returns-in-Prove-clause-told
returns-in-Prove-clause-told g c =
    let told = g.S.Shelf.told c.args.shelf.now in
    let result = c.answer_extract-reply-in-Prove.result in
    let wanted : Extract = Proof c.in-Prove.block c.in-Prove.write in
    subst (λ (settings : Settings). IfOk result (λ reply. IfSome told (λ files. Replies (Some settings) files reply))) (sym c.in-Prove.is)
    (replies_told (Prove c.in-Prove.app c.in-Prove.blocks c.in-Prove.block c.in-Prove.write) told result (λ files. refl)
    (subst (λ (asked : Sources). IfOk result (λ reply. IfSome told (λ files. Means (over_extract wanted (accepted (files asked.app)) (files asked.blocks)) reply)))
    c.of_query-asked-in-Prove.ensures c.answer_extract-reply-in-Prove.ensures.told))

pub returns-in-Query-clause-told : goal.returns-in-Query-clause-told
returns-in-Query-clause-told g c =
    let told = g.S.Shelf.told c.args.shelf.now in
    let result = c.answer_ask-reply.result in
    subst (λ (settings : Settings). IfOk result (λ reply. IfSome told (λ files. Replies (Some settings) files reply))) (sym c.in-Query.is)
    (replies_told (Query c.in-Query.app c.in-Query.blocks c.in-Query.height c.in-Query.text) told result (λ files. refl)
    (subst (λ (text : List ℕ). IfOk result (λ reply. IfSome told (λ files. Means (over_ask c.in-Query.height text (accepted (files c.in-Query.app)) (files c.in-Query.blocks)) reply))) c.as_str-in-Query.ensures
    (subst (λ (asked : Sources). IfOk result (λ reply. IfSome told (λ files. Means (over_ask c.in-Query.height c.as_str-in-Query.result.now (accepted (files asked.app)) (files asked.blocks)) reply)))
    c.of_query-asked-in-Query.ensures c.answer_ask-reply.ensures.told)))
