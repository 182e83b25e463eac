use Rattle.std.proofs.Common.{◌∙◌, sym}
use Rattle.version_index.proofs.Listed.{room_apart, touched_more}
use Rattle.version_index.proofs.touched.touch.Goals as goal

pub returns-in-Some-clause-touched : goal.returns-in-Some-clause-touched
returns-in-Some-clause-touched c =
    let old = c.args.touched.now in
    touched_more old.places.entries old.values.items old.lists.items c.requires.listed c.push_at.new.lists.items c.args.value.now c.in-Some.place c.args.number (sym c.place.ensures ∙ c.in-Some.is) c.push_at.ensures.pushed

pub returns-in-Some-clause-kept : goal.returns-in-Some-clause-kept
returns-in-Some-clause-kept c =
    let old = c.args.touched.now in
    room_apart old.places.entries old.values.items old.lists.items c.requires.listed c.push_at.new.lists.items c.args.value.now c.in-Some.place c.args.number (sym c.place.ensures ∙ c.in-Some.is) c.push_at.ensures.pushed c.push_at.ensures.kept
