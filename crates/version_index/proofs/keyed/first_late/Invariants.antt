use Rattle.version_index.proofs.Lasts.{count}
use Rattle.version_index.proofs.Walked.{KeyWalk, LeftOf, number_of_back}
use Rattle.version_index.proofs.keyed.first_late.Given as goal

-- the place is that of the last write on the key in a part of the log, and the first late one there, or else the one that was found
-- after it, is so in the whole log
abbrev pub invariant-loop-place : goal.invariant-loop-place
invariant-loop-place l = KeyWalk l.view.entries.now (l.view.table, l.key) l.after l.upto (number_of_back l.place) l.first × LeftOf l.view l.key l.place

-- the numbers go down
abbrev pub decreases-loop-place : goal.decreases-loop-place
decreases-loop-place l = count (number_of_back l.place)
