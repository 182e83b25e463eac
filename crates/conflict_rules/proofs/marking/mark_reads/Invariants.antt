use Rattle.std.proofs.Common.{drop, length, ◌≡◌}
use Rattle.std.specs.Bool.{nat_eq}
use Rattle.conflict_rules.proofs.Marks.{KeepsMarks, MarkedSoFar}
use Rattle.conflict_rules.proofs.marking.mark_reads.Given as goal
use Rattle.conflict_rules.specs.Marking.{read_place}

-- no mark went, and those so far are marked
abbrev pub invariant-loop-made : goal.invariant-loop-made
invariant-loop-made l =
    KeepsMarks l.fn.words l.words
    × MarkedSoFar (λ m place. nat_eq place (read_place l.marked m.read)) l.reads l.number l.words (drop l.made-index l.reads)
    × (length l.words ≡ length l.fn.words)
