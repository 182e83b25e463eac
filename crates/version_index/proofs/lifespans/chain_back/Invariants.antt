use Rattle.version_index.specs.View.{history_in}
use Rattle.version_index.proofs.Ended.{VersionWalk}
use Rattle.version_index.proofs.Lasts.{count}
use Rattle.version_index.proofs.Walked.{LeftOf, number_of_back}
use Rattle.version_index.proofs.lifespans.chain_back.Given as goal

-- the place is that of the last write on the key in a part of the log, whose versions and those that were made are all
abbrev pub invariant-loop-place : goal.invariant-loop-place
invariant-loop-place l = VersionWalk (l.view.table, l.key) (history_in l.view) (number_of_back l.place) l.ended l.versions.items × LeftOf l.view l.key l.place

-- the numbers go down
abbrev pub decreases-loop-place : goal.decreases-loop-place
decreases-loop-place l = count (number_of_back l.place)
