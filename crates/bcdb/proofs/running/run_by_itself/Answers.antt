use Rattle.std.proofs.Common.{length}
use Rattle.bcdb.proofs.Clustered.{reply_read}
use Rattle.bcdb.proofs.running.run_by_itself.Goals as goal

pub returns-clause-replies : goal.returns-clause-replies
returns-clause-replies c =
    let given = c.args.given in
    reply_read c.args.look.now (length given.arrivals) given.app.app given.read.blocks given.arrivals given.read.fault c.in_ok-folded.folded c.report_folded.result c.requires.one
    c.in_ok-folded.ensures.app c.in_ok-folded.ensures.fault c.in_ok-folded.ensures.folds c.report_folded.ensures.replies
