-- The transactions that arrive at a node before their blocks.
use Rattle.node_model.specs.declared.journal.Entry.{Entry}
use Rattle.node_model.specs.declared.journal.Event.TheVariants.{Arrive, Claim, Commit, Deliver, Finish, Read, Release, Seal}
use Rattle.node_model.specs.declared.journal.Event.{Event}
use Rattle.node_model.specs.declared.result.NodeResult.{NodeResult}
use Rattle.proc_syntax.specs.declared.call.Tx.{Tx}
use Rattle.std.specs.Prelude.{List, [], ◌++◌, ◌≡◌, ◌∷◌, ◌⊎◌}

-- ---- the arrivals of a journal

abbrev pub arrival : Event → List Tx
arrival (Arrive number tx) = tx.value ∷ []
arrival (Claim number) = []
arrival (Read number) = []
arrival (Finish number) = []
arrival (Release number) = []
arrival (Deliver block) = []
arrival (Commit pos) = []
arrival (Seal number) = []

-- the transactions that arrived, in order
abbrev pub arrived : List Entry → List Tx
arrived [] = []
arrived (entry ∷ entries) = arrival entry.event ++ arrived entries

-- ---- what was handed to a node

-- the one list is the other without some of its items
abbrev pub IsSubsequence : {X : Type 0} → List X → List X → Type 0
IsSubsequence [] ys = Unit {0}
IsSubsequence (x ∷ xs) [] = ⊥
IsSubsequence (x ∷ xs) (y ∷ ys) = ((x ≡ y) × IsSubsequence xs ys) ⊎ IsSubsequence (x ∷ xs) ys

-- what arrived at a node, by its journal, is of what was handed to it, in that order: what it knows already, and what can not begin, makes no entry
abbrev pub IsFedBy : NodeResult → List Tx → Type 0
IsFedBy node handed = IsSubsequence (arrived node.journal) handed

-- each of the nodes has a list of its own, which stands at its place
abbrev pub AreFedBy : List NodeResult → List (List Tx) → Type 0
AreFedBy [] lists = Unit {0}
AreFedBy (node ∷ nodes) [] = ⊥
AreFedBy (node ∷ nodes) (handed ∷ lists) = IsFedBy node handed × AreFedBy nodes lists
