use Rattle.bcdb.proofs.Asked.{text_told}
use Rattle.bcdb.proofs.asking.refuse_text.Goals as goal

pub returns-clause-told : goal.returns-clause-told
returns-clause-told g c =
    text_told (g.S.Shelf.told c.args.shelf.now) c.args.question.height c.args.question.text.now c.args.asked.now c.args.inputs c.args.fault c.in_ok-reply.reply c.requires.reads c.in_ok-reply.ensures.means
