use Rattle.std.proofs.Common.{◌∙◌}
use Rattle.std.specs.Ordering.{ordering_then}
use Rattle.rel_base.proofs.Words.{as_rooms}
use Rattle.rel_base.proofs.rooms.cmp_small_texts.Goals as goal

pub returns : goal.returns
returns c =
    c.then.ensures
    ∙ (λ i. ordering_then (c.cmp_small_rooms.ensures i) (c.cmp.ensures i))
    ∙ as_rooms c.args.first.now c.args.second.now c.args.first_len c.args.second_len c.requires.same c.requires.first.fits c.requires.second.fits c.requires.first.zeros c.requires.second.zeros
