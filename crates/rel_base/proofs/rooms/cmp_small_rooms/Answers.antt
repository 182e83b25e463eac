use Rattle.std.proofs.Common.{◌∙◌, arith, refl, sym}
use Rattle.rel_base.proofs.Words.{alike, is_equal, last_word}
use Rattle.rel_base.proofs.rooms.cmp_small_rooms.Goals as goal

-- the last eight bytes begin among those that are alike, and are all that is left
pub returns : goal.returns
returns c =
    let xs = c.args.first.now in
    let ys = c.args.second.now in
    let first = alike 0 xs ys _ refl c.cmp_word-order.ensures (is_equal _ (sym c.if-is_ne.ensures)) in
    c.cmp_word.ensures ∙ last_word 8 _ xs ys (omega arith) (omega arith) (omega arith) first
