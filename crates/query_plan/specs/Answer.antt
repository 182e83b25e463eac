-- The answer to a query: its tuples, or the groups of these, as rows, in order.
use Rattle.std.specs.Prelude.{◌≡◌, ◌+◌, ◌-◌, ◌^◌, ◌+ℤ◌, ℕ, ℤ, pos, negsuc, List, [], ◌∷◌, ◌++◌, map, Bool, true, false, cond, ◌||◌, nat_lt, length, Option, Some, None, Result, Ok, Err}
use Rattle.std.specs.List.{list_any}
use Rattle.std.specs.BTreeMap.{insert_entry, is_at}
use Rattle.std.specs.Map.{lookup}
use Rattle.std.specs.declared.cmp.Ordering.{Ordering}
use Rattle.std.specs.Ordering.{is_lt}
use Rattle.rel_base.specs.Row.{value_at}
use Rattle.rel_base.specs.Tables.{Tables}
use Rattle.rel_base.specs.Value.{key_cmp, value_cmp}
use Rattle.rel_base.specs.declared.access.Seen.{Seen}
use Rattle.rel_base.specs.declared.value.Value.{Value}
use Rattle.rel_base.specs.declared.value.Value.TheVariants as value
use Rattle.query_plan.specs.Tuples.{at, tuples}
use Rattle.query_plan.specs.declared.fault.AskFault.{AskFault}
use Rattle.query_plan.specs.declared.fault.AskFault.TheVariants as fault
use Rattle.query_plan.specs.declared.select.Col.{Col}
use Rattle.query_plan.specs.declared.select.Item.{Item}
use Rattle.query_plan.specs.declared.select.Item.TheVariants.{Plain, Count, Sum, Min, Max}
use Rattle.query_plan.specs.declared.select.Select.{Select}
use Rattle.query_plan.specs.Limits.{most_tuples}

-- ---- groups

-- a group has a first tuple, and may have more
pub record Group : Type 0 where
  pub first : List Seen
  pub more : List (List Seen)

abbrev pub with_tuple : Option Group → List Seen → Group
with_tuple None tuple = record { first = tuple; more = [] }
with_tuple (Some group) tuple = record { first = group.first; more = group.more ++ tuple ∷ [] }

-- a tuple goes to the group of its values; groups stand in the order of these
abbrev pub put_tuple : List Col → List (List Value × Group) → List Seen → List (List Value × Group)
put_tuple columns groups tuple = insert_entry key_cmp groups (map (at tuple) columns) (with_tuple (lookup (is_at (key_cmp (map (at tuple) columns))) groups) tuple)

abbrev pub put_tuples : List Col → List (List Value × Group) → List (List Seen) → List (List Value × Group)
put_tuples columns groups [] = groups
put_tuples columns groups (tuple ∷ tuples) = put_tuples columns (put_tuple columns groups tuple) tuples

-- a query without groups and aggregates has each tuple for itself
abbrev pub is_aggregate : Item → Bool
is_aggregate (Plain col) = false
is_aggregate item = true

abbrev pub is_some_col : List Col → Bool
is_some_col [] = false
is_some_col (col ∷ columns) = true

abbrev pub is_grouped : Select → Bool
is_grouped select = is_some_col select.groups || list_any is_aggregate select.items

abbrev pub alone : List Seen → Group
alone tuple = record { first = tuple; more = [] }

abbrev pub groups_of : Select → List (List Seen) → List Group
groups_of select tuples = cond (is_grouped select) (map (λ e. e.1) (put_tuples select.groups [] tuples)) (map alone tuples)

-- ---- items

abbrev pub int_of : Value → ℤ
int_of (value.Int n) = n
int_of (value.Text t) = pos 0
int_of (value.Bool b) = pos 0
int_of (value.Bytes b) = pos 0

-- a number, where it is an int
abbrev pub int_value : ℤ → Option Value
int_value (pos n) = cond (nat_lt n (2 ^ 63)) (Some (value.Int (pos n))) None
int_value (negsuc n) = cond (nat_lt n (2 ^ 63)) (Some (value.Int (negsuc n))) None

abbrev pub sum_on : Col → ℤ → List (List Seen) → ℤ
sum_on col sum [] = sum
sum_on col sum (tuple ∷ tuples) = sum_on col (sum +ℤ int_of (at tuple col)) tuples

abbrev pub least_on : Col → Value → List (List Seen) → Value
least_on col least [] = least
least_on col least (tuple ∷ tuples) = least_on col (cond (is_lt (value_cmp (at tuple col) least)) (at tuple col) least) tuples

abbrev pub greatest_on : Col → Value → List (List Seen) → Value
greatest_on col greatest [] = greatest
greatest_on col greatest (tuple ∷ tuples) = greatest_on col (cond (is_lt (value_cmp greatest (at tuple col))) (at tuple col) greatest) tuples

-- an item of a group; none where the sum is no int
abbrev pub item_of : Group → Item → Option Value
item_of group (Plain col) = Some (at group.first col)
item_of group Count = Some (value.Int (pos (length group.more + 1)))
item_of group (Sum col) = int_value (sum_on col (int_of (at group.first col)) group.more)
item_of group (Min col) = Some (least_on col (at group.first col) group.more)
item_of group (Max col) = Some (greatest_on col (at group.first col) group.more)

abbrev pub put_one : {X : Type 0} → Option X → Option (List X) → Option (List X)
put_one None rest = None
put_one (Some x) None = None
put_one (Some x) (Some xs) = Some (x ∷ xs)

-- all of them, where each is there
abbrev pub all_of : {X Y : Type 0} → (X → Option Y) → List X → Option (List Y)
all_of f [] = Some []
all_of f (x ∷ xs) = put_one (f x) (all_of f xs)

-- the fields of the items of a query without groups and aggregates
abbrev pub plain_of : Item → Option Col
plain_of (Plain col) = Some col
plain_of item = None

abbrev pub plain_columns : Select → Option (List Col)
plain_columns select = cond (is_some_col select.groups) None (all_of plain_of select.items)

-- the rows of the answer, before they are ordered; none where a sum is no int
abbrev pub rows_of : Select → List (List Seen) → Option (List (List Value))
rows_of select tuples = all_of (λ group. all_of (item_of group) select.items) (groups_of select tuples)

-- ---- order

-- the values of a row at the items of some numbers, from 1
abbrev pub named : List ℕ → List Value → List Value
named order row = map (λ number. value_at row (number - 1)) order

abbrev pub row_cmp : List ℕ → List Value → List Value → Ordering
row_cmp order a b = key_cmp (named order a) (named order b)

abbrev pub put_before : {X : Type 0} → (X → X → Bool) → X → List X → List X
put_before lt x [] = x ∷ []
put_before lt x (y ∷ ys) = cond (lt y x) (y ∷ put_before lt x ys) (x ∷ y ∷ ys)

-- each row is put before the first of the later ones that does not precede it, so rows that agree keep their order
abbrev pub sorted_by : {X : Type 0} → (X → X → Bool) → List X → List X
sorted_by lt [] = []
sorted_by lt (x ∷ xs) = put_before lt x (sorted_by lt xs)

-- rows in order of the named items
abbrev pub in_order : List ℕ → List (List Value) → List (List Value)
in_order order rows = sorted_by (λ a b. is_lt (row_cmp order a b)) rows

-- ---- the answer

-- the tuples of a query over tables
abbrev pub tuples_of : Tables → Select → List (List Seen)
tuples_of tables select = tuples tables select.sources select.comparisons

abbrev pub ordered : List ℕ → Option (List (List Value)) → Result (List (List Value)) AskFault
ordered order None = Err fault.Overflow
ordered order (Some rows) = Ok (in_order order rows)

-- the answer to a query over tables
abbrev pub answer_over : Tables → Select → Result (List (List Value)) AskFault
answer_over tables select = cond (nat_lt most_tuples (length (tuples_of tables select))) (Err fault.TooMany) (ordered select.order (rows_of select (tuples_of tables select)))

-- the answer to a query over the tables at a height, where blocks are sealed up to another
abbrev pub answer_of : Tables → Select → (sealed height : ℕ) → Result (List (List Value)) AskFault
answer_of tables select sealed height = cond (nat_lt sealed height) (Err (fault.TooHigh sealed)) (answer_over tables select)

-- What a function answers is what is meant, unless memory ran out.
abbrev pub Answers : {A : Type 0} → Result A AskFault → Result A AskFault → Type 0
Answers (Ok x) meant = meant ≡ Ok x
Answers (Err fault.NoMemory) meant = Unit {0}
Answers (Err fault) meant = meant ≡ Err fault
