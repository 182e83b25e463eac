use Rattle.std.proofs.Common.{◌∙◌, ap, arith, refl, sym}
use Rattle.std.specs.Ordering.{is_eq}
use Rattle.rel_base.proofs.Words.{differs, goes_on, last_word}
use Rattle.rel_base.proofs.rooms.are_rooms_same.Goals as goal

-- where the words before were the same, the one that is not decides
pub returns-then-not-is_same_word : goal.returns-then-not-is_same_word
returns-then-not-is_same_word c =
    differs 0 c.args.first.now c.args.second.now (omega arith) (omega arith) refl (sym c.if-not-is_same_word.true ∙ c.is_same_word.ensures)

pub returns-then-not-is_same_word-2 : goal.returns-then-not-is_same_word-2
returns-then-not-is_same_word-2 c =
    let xs = c.args.first.now in
    let ys = c.args.second.now in
    let first = goes_on 0 xs ys refl (sym c.if-not-is_same_word.false ∙ c.is_same_word.ensures) in
    differs 8 xs ys (omega arith) (omega arith) first (sym c.if-not-is_same_word-2.true ∙ c.is_same_word-2.ensures)

pub returns-then-not-is_same_word-3 : goal.returns-then-not-is_same_word-3
returns-then-not-is_same_word-3 c =
    let xs = c.args.first.now in
    let ys = c.args.second.now in
    let first = goes_on 0 xs ys refl (sym c.if-not-is_same_word.false ∙ c.is_same_word.ensures) in
    let second = goes_on 8 xs ys first (sym c.if-not-is_same_word-2.false ∙ c.is_same_word-2.ensures) in
    differs 16 xs ys (omega arith) (omega arith) second (sym c.if-not-is_same_word-3.true ∙ c.is_same_word-3.ensures)

-- the last eight bytes begin among those that are alike, and are all that is left
pub returns : goal.returns
returns c =
    let xs = c.args.first.now in
    let ys = c.args.second.now in
    let first = goes_on 0 xs ys refl (sym c.if-not-is_same_word.false ∙ c.is_same_word.ensures) in
    let second = goes_on 8 xs ys first (sym c.if-not-is_same_word-2.false ∙ c.is_same_word-2.ensures) in
    let third = goes_on 16 xs ys second (sym c.if-not-is_same_word-3.false ∙ c.is_same_word-3.ensures) in
    c.is_same_word-4.ensures ∙ ap is_eq (last_word 24 _ xs ys (omega arith) (omega arith) (omega arith) third)
