-- How many edges come to a position from those that are left.
use Rattle.node_model.specs.Order.{order, order_from, take_first}
use Rattle.serial_order.specs.declared.left.Left.{Left}
use Rattle.std.specs.List.{count_by, slice_index_or}
use Rattle.std.specs.Prelude.{Bool, List, Some, cond, length, map, remove, reverse, ◌++◌, ◌-◌, ◌<◌, ◌==◌, ◌≡◌, ℕ}

-- of a list whose first stands last: what is taken out first is the element at a place
abbrev pub IsTakenAt : {A : Type 0} → (A → Bool) → List A → ℕ → Type 0
IsTakenAt {A} test list index = (index < length list) × ((d : A) → take_first test (reverse list) ≡ Some (slice_index_or list index d, reverse (remove list index)))

-- how many of some positions have an edge to a position
abbrev pub predecessors : (ℕ → ℕ → Bool) → List ℕ → ℕ → ℕ
predecessors has positions to = count_by (λ from. has from to) positions

-- a position among some that are left
abbrev pub entry_of : (ℕ → ℕ → Bool) → List ℕ → ℕ → Left
entry_of has set to = record { pos = to; predecessors = predecessors has set to }

abbrev pub entries : (ℕ → ℕ → Bool) → List ℕ → List Left
entries has set = map (entry_of has set) set

abbrev pub has_none : Left → Bool
has_none entry = entry.predecessors == 0

-- an entry once a position is placed
abbrev pub lowered : (ℕ → ℕ → Bool) → ℕ → Left → Left
lowered has from entry = record { pos = entry.pos; predecessors = entry.predecessors - cond (has from entry.pos) 1 0 }

-- what the entries that are left and the list made so far are to the whole order
pub record IsLeft (has : ℕ → ℕ → Bool) (all : List ℕ) (left : List Left) (list : List ℕ) : Type 0 where
  pub set : List ℕ
  pub counted : left ≡ entries has set
  pub whole : list ++ order_from has (length set) set ≡ order has all
