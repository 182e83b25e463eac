-- What a write conflict is: one table and key that two transactions of a block wrote.
-- (First committer wins, as in snapshot isolation: Berenson and others, SIGMOD 1995. Which position and key are named is this project's own.)
use Rattle.serial_laws.specs.Least.{IsLeastPair, NoPair}
use Rattle.node_model.specs.declared.outcome.Clash.{Clash}
use Rattle.node_model.specs.declared.result.Committed.{Committed}
use Rattle.rel_base.specs.Tables.{ref_cmp, write_ref}
use Rattle.rel_base.specs.declared.access.Write.{Write}
use Rattle.rel_base.specs.declared.value.Value.{Value}
use Rattle.std.specs.Ordering.{is_le}
use Rattle.std.specs.Prelude.{AllPairs, Any, Contains, IsTrue, List, map, ◌≡◌, ℕ}
use Rattle.std.specs.declared.cmp.Ordering.TheVariants.{Less}

-- writes whose tables and keys rise
abbrev pub StandByKey : List Write → Type 0
StandByKey writes = AllPairs (λ earlier later. ref_cmp (write_ref earlier) (write_ref later) ≡ Less) writes

-- one table and key stands before another by table and key, or is the same
abbrev pub KeyUpTo : ℕ × List Value → ℕ × List Value → Type 0
KeyUpTo ref other = IsTrue (is_le (ref_cmp ref other))

-- one of some writes is of a table and key
abbrev pub Wrote : List Write → ℕ × List Value → Type 0
Wrote writes ref = Contains (map write_ref writes) ref

-- a committed transaction of a position wrote a table and key, and so do some writes
abbrev pub BothWrote : List Committed → List Write → ℕ → ℕ × List Value → Type 0
BothWrote committed writes pos ref = Any (λ done. (done.pos ≡ pos) × Wrote done.writes ref) committed × Wrote writes ref

-- no committed transaction wrote a table and key of some writes
abbrev pub HasNoConflict : List Committed → List Write → Type 0
HasNoConflict committed writes = NoPair (BothWrote committed writes)

-- the least position that wrote a table and key of some writes, and then the least that both wrote
abbrev pub IsLeastConflict : List Committed → List Write → Clash → Type 0
IsLeastConflict committed writes named = IsLeastPair KeyUpTo (BothWrote committed writes) named.with (named.table, named.key)
