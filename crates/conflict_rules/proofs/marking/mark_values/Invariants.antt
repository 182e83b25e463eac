use Rattle.std.proofs.Common.{drop, length, ◌≡◌}
use Rattle.conflict_rules.proofs.Marks.{KeepsMarks, MarkedSoFar}
use Rattle.conflict_rules.proofs.marking.mark_values.Given as goal
use Rattle.conflict_rules.specs.Marking.{is_value_place}

-- no mark went, and those so far are marked
abbrev pub invariant-loop-write : goal.invariant-loop-write
invariant-loop-write l =
    KeepsMarks l.fn.words l.words
    × MarkedSoFar (λ w place. is_value_place l.column w place) l.writes l.number l.words (drop l.write-index l.writes)
    × (length l.words ≡ length l.fn.words)
