use Rattle.std.proofs.Common.{refl, rules, sym}
use Rattle.plain_node.proofs.Deciding.{found_by, next_added, next_places, one_more}
use Rattle.plain_node.proofs.process.add_decided.Goals as goal

pub returns-clause-added : goal.returns-clause-added
returns-clause-added c =
    next_added c.args.ids.now c.note_id.new.ids c.args.work.now.number c.args.work.now.outcomes.items c.add.new.work.outcomes.items c.in-Ok.own c.args.id.now c.args.id.now
    (found_by c.args.decided) _ c.in-Ok.ensures.copied refl (one_more c.args.work.now c.add.new.work c.in-Ok.own c.args.decided c.add.ensures.work) (search rules) (search rules)
    c.in-Ok.ensures.added

pub returns-clause-places : goal.returns-clause-places
returns-clause-places c =
    next_places c.args.ids.now c.note_id.new.ids c.args.work.now.number c.args.work.now.outcomes.items c.add.new.work.outcomes.items c.in-Ok.own c.args.id.now c.args.id.now
    (found_by c.args.decided) _ c.in-Ok.ensures.copied refl (one_more c.args.work.now c.add.new.work c.in-Ok.own c.args.decided c.add.ensures.work) (search rules) (search rules)
    c.in-Ok.ensures.added
