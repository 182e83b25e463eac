use Rattle.std.proofs.Common.{◌∙◌, ap, arith, refl, sym}
use Rattle.std.specs.Ordering.{is_eq}
use Rattle.rel_base.proofs.Words.{differs, goes_on, last_word}
use Rattle.rel_base.proofs.rooms.are_small_rooms_same.Goals as goal

-- where the first words differ, they decide
pub returns-then-not-is_same_word : goal.returns-then-not-is_same_word
returns-then-not-is_same_word c =
    differs 0 c.args.first.now c.args.second.now (omega arith) (omega arith) refl (sym c.if-not-is_same_word.true ∙ c.is_same_word.ensures)

-- the last eight bytes begin among those that are alike, and are all that is left
pub returns : goal.returns
returns c =
    let xs = c.args.first.now in
    let ys = c.args.second.now in
    let first = goes_on 0 xs ys refl (sym c.if-not-is_same_word.false ∙ c.is_same_word.ensures) in
    c.is_same_word-2.ensures ∙ ap is_eq (last_word 8 _ xs ys (omega arith) (omega arith) (omega arith) first)
