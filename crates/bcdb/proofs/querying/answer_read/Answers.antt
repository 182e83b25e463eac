use Rattle.bcdb.proofs.Queries.{means_told}
use Rattle.bcdb.specs.Folds.{all_blocks}
use Rattle.bcdb.proofs.querying.answer_read.Goals as goal

pub returns-clause-told : goal.returns-clause-told
returns-clause-told g c =
    means_told (g.S.Shelf.told c.args.shelf.now) c.args.text.now all_blocks c.args.asked.now c.in_ok-read.read c.in_ok-reply.reply c.requires.none c.requires.unscheduled
    c.in_ok-reply.ensures.means c.in_ok-read.ensures.told
