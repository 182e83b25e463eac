use Rattle.std.proofs.Common.{take}
use Rattle.version_index.specs.Chain.{is_on}
use Rattle.version_index.specs.View.{history_in}
use Rattle.version_index.proofs.Points.{points_last, take_below}
use Rattle.version_index.proofs.Walked.{back_last, back_left, left_in_tail}
use Rattle.version_index.proofs.keyed.last_before.Goals as goal

pub returns-in-None-clause-last : goal.returns-in-None-clause-last
returns-in-None-clause-last c =
    back_last c.args.view.now c.args.key.now c.args.left.now c.args.end c.requires.left c.in-None.ensures.last c.last_noted.result c.last_noted.ensures

pub returns-in-None-clause-left : goal.returns-in-None-clause-left
returns-in-None-clause-left c =
    back_left c.args.view.now c.args.key.now c.args.left.now c.args.end c.requires.left c.in-None.ensures.last c.last_noted.result c.last_noted.ensures

pub returns-in-Some-clause-left : goal.returns-in-Some-clause-left
returns-in-Some-clause-left c =
    let test = is_on (c.args.view.now.table, c.args.key.now) in
    let on = (points_last test (take c.args.end (history_in c.args.view.now)) c.in-Some.number c.in-Some.ensures.last).0 in
    left_in_tail c.args.view.now c.args.key.now c.args.left.now c.args.end c.in-Some.number c.requires.left c.in-Some.ensures.in_tail (take_below test c.args.end (history_in c.args.view.now) c.in-Some.number on)
