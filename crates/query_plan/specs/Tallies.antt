-- What is kept of each item of a group, in place of its tuples.
use Rattle.std.specs.Prelude.{◌≡◌, ◌<◌, ◌≤◌, Result, Ok, Err, ◌+◌, ◌+ℤ◌, ℕ, zero, suc, pos, List, [], ◌∷◌, map, cond, length, Option, Some, None}
use Rattle.std.specs.BTreeMap.{BTreeMap, insert_entry, is_at}
use Rattle.std.specs.Map.{lookup}
use Rattle.std.specs.List.{filter}
use Rattle.std.specs.Ordering.{is_lt}
use Rattle.rel_base.specs.Value.{key_cmp, value_cmp}
use Rattle.rel_base.specs.declared.access.Seen.{Seen}
use Rattle.rel_base.specs.declared.value.Value.{Value}
use Rattle.rel_base.specs.declared.value.Value.TheVariants as value
use Rattle.query_plan.specs.Answer.{Group, alone, greatest_on, int_of, int_value, least_on, sum_on}
use Rattle.query_plan.specs.Tuples.{at, holds_all}
use Rattle.query_plan.specs.declared.fault.WalkFault.{WalkFault}
use Rattle.query_plan.specs.declared.fault.WalkFault.TheVariants as fault
use Rattle.query_plan.specs.declared.select.Comparison.{Comparison}
use Rattle.query_plan.specs.declared.tally.Tally.{Tally}
use Rattle.query_plan.specs.declared.tally.Tally.TheVariants as tally
use Rattle.query_plan.specs.declared.select.Col.{Col}
use Rattle.query_plan.specs.declared.select.Item.{Item}
use Rattle.query_plan.specs.declared.select.Item.TheVariants.{Plain, Count, Sum, Min, Max}
use Rattle.query_plan.specs.Limits.{most_tuples}

abbrev pub lesser : Value → Value → Value
lesser least v = cond (is_lt (value_cmp v least)) v least

abbrev pub greater : Value → Value → Value
greater greatest v = cond (is_lt (value_cmp greatest v)) v greatest

-- what is kept of an item of a group
abbrev pub tally_of : Group → Item → Tally
tally_of group (Plain col) = tally.Plain (at group.first col)
tally_of group Count = tally.Count (length group.more + 1)
tally_of group (Sum col) = tally.Sum (sum_on col (int_of (at group.first col)) group.more)
tally_of group (Min col) = tally.Min (least_on col (at group.first col) group.more)
tally_of group (Max col) = tally.Max (greatest_on col (at group.first col) group.more)

-- the same with one tuple more
abbrev pub next_tally : List Seen → Tally → Item → Tally
next_tally tuple (tally.Plain v) item = tally.Plain v
next_tally tuple (tally.Count n) item = tally.Count (n + 1)
next_tally tuple (tally.Sum n) (Sum col) = tally.Sum (n +ℤ int_of (at tuple col))
next_tally tuple (tally.Sum n) item = tally.Sum n
next_tally tuple (tally.Min v) (Min col) = tally.Min (lesser v (at tuple col))
next_tally tuple (tally.Min v) item = tally.Min v
next_tally tuple (tally.Max v) (Max col) = tally.Max (greater v (at tuple col))
next_tally tuple (tally.Max v) item = tally.Max v

abbrev pub next_tallies : List Seen → List Tally → List Item → List Tally
next_tallies tuple [] items = []
next_tallies tuple (t ∷ tallies) [] = t ∷ tallies
next_tallies tuple (t ∷ tallies) (item ∷ items) = next_tally tuple t item ∷ next_tallies tuple tallies items

-- the same of the tally of one place
abbrev pub next_at : List Seen → Item → ℕ → List Tally → List Tally
next_at tuple item n [] = []
next_at tuple item zero (t ∷ tallies) = next_tally tuple t item ∷ tallies
next_at tuple item (suc n) (t ∷ tallies) = t ∷ next_at tuple item n tallies

abbrev pub with_tallies : List Item → List Seen → Option (List Tally) → List Tally
with_tallies items tuple None = map (tally_of (alone tuple)) items
with_tallies items tuple (Some tallies) = next_tallies tuple tallies items

abbrev pub put_tallies : List Col → List Item → List (List Value × List Tally) → List Seen → List (List Value × List Tally)
put_tallies columns items entries tuple =
    insert_entry key_cmp entries (map (at tuple) columns) (with_tallies items tuple (lookup (is_at (key_cmp (map (at tuple) columns))) entries))

-- the tallies of a group, under its key
abbrev pub kept : List Item → List Value × Group → List Value × List Tally
kept items entry = (entry.0, map (tally_of entry.1) items)

abbrev pub put_all : List Col → List Item → List (List Value × List Tally) → List (List Seen) → List (List Value × List Tally)
put_all columns items entries [] = entries
put_all columns items entries (tuple ∷ tuples) = put_all columns items (put_tallies columns items entries tuple) tuples

-- the tuples of some rows of one source
abbrev pub passing : List Comparison → List Seen → List (List Seen)
passing comparisons rows = filter (holds_all comparisons) (map (λ row. row ∷ []) rows)

-- tuples were put and counted, and are not too many; or there would be
abbrev pub Puts : Result ℕ WalkFault → List Col → List Item → List (List Value × List Tally) → List (List Value × List Tally) → ℕ → List (List Seen) → Type 0
Puts (Ok number) columns items old new count tuples = (new ≡ put_all columns items old tuples) × (number ≡ count + length tuples) × (number ≤ most_tuples)
Puts (Err fault.NoMemory) columns items old new count tuples = Unit {0}
Puts (Err fault.TooMany) columns items old new count tuples = most_tuples < count + length tuples

abbrev pub AreGrouped : Result (BTreeMap (List Value) (List Tally)) WalkFault → List Col → List Item → List (List Seen) → Type 0
AreGrouped (Ok groups) columns items tuples = (groups.entries ≡ put_all columns items [] tuples) × (length tuples ≤ most_tuples)
AreGrouped (Err fault.NoMemory) columns items tuples = Unit {0}
AreGrouped (Err fault.TooMany) columns items tuples = most_tuples < length tuples

-- the value of a tally, where it is one
abbrev pub value_of : Tally → Option Value
value_of (tally.Plain v) = Some v
value_of (tally.Count n) = Some (value.Int (pos n))
value_of (tally.Sum n) = int_value n
value_of (tally.Min v) = Some v
value_of (tally.Max v) = Some v
