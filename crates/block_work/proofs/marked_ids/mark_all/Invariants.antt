use Rattle.std.proofs.Common.{List, length, true, ◌≡◌, ℕ}
use Rattle.block_work.proofs.Marking.{is_among, is_marked_or}
use Rattle.block_work.proofs.marked_ids.mark_all.Given as goal

-- each id is marked or left
abbrev pub invariant-loop-id : goal.invariant-loop-id
invariant-loop-id g l =
    ((q : List ℕ) → is_among l.initial.id-iterator q ≡ true → is_marked_or l.marks.words.items l.id-iterator q ≡ true)
    × (length l.marks.words.items ≡ length l.fn.marks.words.items)
