use Rattle.bcdb.proofs.Clustered.{alone_told}
use Rattle.bcdb.proofs.running.answer_alone.Goals as goal

pub returns-clause-told : goal.returns-clause-told
returns-clause-told g c =
    alone_told (g.S.Shelf.told c.args.shelf.now) c.args.look.now c.args.asked.now c.in_ok-read.read c.in_ok-reply.reply c.requires.one c.requires.unscheduled c.in_ok-reply.ensures.replies c.in_ok-read.ensures.told
