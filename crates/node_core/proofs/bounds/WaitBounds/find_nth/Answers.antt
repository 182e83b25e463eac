use Rattle.std.proofs.Common.{ap, length, ◌%◌, ◌∙◌}
use Rattle.std.specs.Prelude.{slice_get}
use Rattle.node_core.proofs.bounds.WaitBounds.find_nth.Goals as goal

pub find_among-requires : goal.find_among-requires
find_among-requires c = c.first_place.ensures.within c.args.rows.now c.requires

pub returns : goal.returns
returns c = c.find_among.ensures ∙ ap (λ numbers. slice_get numbers (c.args.n % length numbers)) (c.first_place.ensures.all c.args.rows.now c.requires)
