-- A transaction's own writes, each with the row that its key has at the snapshot.
use Rattle.std.specs.Prelude.{◌≡◌, ℕ, List, [], ◌∷◌, ◌++◌, map, Option, Some, None, IfSome}
use Rattle.std.specs.FinMap as finite
use Rattle.std.specs.FinMap.{FinMap}
use Rattle.std.specs.declared.cmp.Ordering.{Ordering}
use Rattle.rel_base.specs.declared.access.Read.{Read}
use Rattle.rel_base.specs.declared.access.Write.{Write}
use Rattle.rel_base.specs.declared.schema.TableDef.{TableDef}
use Rattle.rel_base.specs.declared.value.Value.{Value}
use Rattle.rel_base.specs.NetWrites.{row_in, write_before}
use Rattle.rel_base.specs.OwnWrites.{Own, Keyed, covered, set_row}
use Rattle.rel_base.specs.Tables.{Tables, ref_cmp}
use Rattle.rel_base.specs.Value.{key_cmp}
use Rattle.row_sets.specs.declared.table_writes.OwnWrite.{OwnWrite}

-- the row before and the row after of each table and key that was written
abbrev pub Written : Type 0
Written = FinMap ref_cmp OwnWrite

-- the row before is that of the first put of a key
abbrev pub first_before : Option (List Value) → Option OwnWrite → Option (List Value)
first_before before None = before
first_before before (Some own) = own.before

-- a row is left at a key, or none
abbrev pub put_own : {K : Type 0} {R : K → K → Ordering} → FinMap R OwnWrite → K → Option (List Value) → Option (List Value) → FinMap R OwnWrite
put_own writes key before after = finite.insert writes key (record { before = first_before before (finite.get writes key); after = after })

-- a key, and what was left there
abbrev pub left : {K : Type 0} → K × OwnWrite → K × Option (List Value)
left entry = (entry.0, entry.1.after)

-- what was left at each table and key
abbrev pub own_of : Written → Own
own_of writes = finite.from_entries (map left (finite.entries writes))

-- the net writes of entries: one for each that has a row before or after
abbrev pub net_writes : List ((ℕ × List Value) × OwnWrite) → List Write
net_writes [] = []
net_writes (entry ∷ rest) = write_before entry.0 entry.1.before entry.1.after (net_writes rest)

-- each row before is the row of its key in tables
abbrev pub AreFound : List TableDef → Tables → Written → Type 0
AreFound declared tables writes = (ref : ℕ × List Value) → IfSome (finite.get writes ref) (λ own. own.before ≡ row_in declared tables ref)

-- ---- by one table after the other

-- keys with the number of their table
abbrev pub in_table : {X : Type 0} → ℕ → List (List Value × X) → List ((ℕ × List Value) × X)
in_table table entries = map (λ entry. ((table, entry.0), entry.1)) entries

-- the entries of some tables, one table after the other
abbrev pub flat : {X : Type 0} → List (ℕ × FinMap key_cmp X) → List ((ℕ × List Value) × X)
flat [] = []
flat (own ∷ rest) = in_table own.0 (finite.entries own.1) ++ flat rest

-- the own writes of a read's table over rows, one after the other
abbrev pub lay_keys : TableDef → Read → Keyed → List (List Value × OwnWrite) → Keyed
lay_keys def read rows [] = rows
lay_keys def read rows (own ∷ rest) = lay_keys def read (set_row rows own.0 (covered def read own.1.after)) rest
