use Rattle.std.proofs.Common.{◌∙◌, ◌&&◌, ◌==◌, ap, sym}
use Rattle.rel_base.proofs.Words.{same_as_rooms}
use Rattle.rel_base.proofs.rooms.are_small_texts_same.Goals as goal

-- the rooms and the lengths decide
pub returns-then-same : goal.returns-then-same
returns-then-same c =
    ap (λ same. same && (c.args.first_len == c.args.second_len)) (sym c.if-same.true)
    ∙ same_as_rooms _ c.args.first.now c.args.second.now c.args.first_len c.args.second_len c.are_small_rooms_same-same.ensures c.requires.same c.requires.first.fits c.requires.second.fits c.requires.first.zeros c.requires.second.zeros

pub returns-else-same : goal.returns-else-same
returns-else-same c =
    c.if-same.false
    ∙ ap (λ same. same && (c.args.first_len == c.args.second_len)) (sym c.if-same.false)
    ∙ same_as_rooms _ c.args.first.now c.args.second.now c.args.first_len c.args.second_len c.are_small_rooms_same-same.ensures c.requires.same c.requires.first.fits c.requires.second.fits c.requires.first.zeros c.requires.second.zeros
