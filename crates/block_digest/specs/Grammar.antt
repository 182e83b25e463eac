-- The grammar of codes: what the result of a block holds that a code is read as. A code says nothing of a block's digest, so this is 0
-- there.
use Rattle.canon_code.specs.Codes.{HasCounted}
use Rattle.canon_code.specs.Rows.{HasRowCode}
use Rattle.canon_code.specs.Values.{is_text}
use Rattle.canon_code.specs.Writes.{HasWriteCode}
use Rattle.node_model.specs.declared.danger.Danger.TheVariants as danger
use Rattle.node_model.specs.declared.danger.Danger.{Danger}
use Rattle.node_model.specs.declared.outcome.Clash.{Clash}
use Rattle.node_model.specs.declared.outcome.Late.{Late}
use Rattle.node_model.specs.declared.outcome.Outcome.TheVariants as outcome
use Rattle.node_model.specs.declared.outcome.Outcome.{Outcome}
use Rattle.node_model.specs.declared.result.BlockResult.{BlockResult}
use Rattle.node_model.specs.declared.result.Told.{Told}
use Rattle.proc_syntax.specs.Limits.{most_transactions}
use Rattle.proc_syntax.specs.declared.fault.Fault.TheVariants as fault
use Rattle.proc_syntax.specs.declared.fault.Fault.{Fault}
use Rattle.rel_base.specs.Tables.{ref_cmp, write_ref}
use Rattle.rel_base.specs.Text.{has_id_form}
use Rattle.rel_base.specs.declared.access.Placed.{Placed}
use Rattle.std.specs.Bool.{nat_eq}
use Rattle.std.specs.List.{list_all}
use Rattle.std.specs.List.Sorted.{IsStrictlySortedBy}
use Rattle.std.specs.Ordering.{nat_cmp, ordering_then}
use Rattle.std.specs.Int.{w64}
use Rattle.std.specs.Prelude.{Bool, FitsSigned, List, [], false, int_le, length, not, pos, replicate, true, ◌&&◌, ◌<◌, ◌^◌, ◌≡◌, ◌≤◌, ◌∷◌, ℕ, ℤ}
use Rattle.std.specs.declared.cmp.Ordering.{Ordering}

-- the most transactions of a block
abbrev pub most_outcomes : ℕ
most_outcomes = most_transactions

-- the most transactions on a path: all of a block but one
abbrev pub most_on_path : ℕ
most_on_path = 1023

-- the greatest count of four bytes
abbrev pub most_counted : ℕ
most_counted = 4294967295

-- a number of four bytes
abbrev pub IsSmall : ℕ → Type 0
IsSmall n = n < 2 ^ 32

pub record HasLateCode (late : Late) : Type 0 where
  pub read : IsSmall late.read
  pub block : late.place.block < 2 ^ 64
  pub position : IsSmall late.place.pos
  pub table : IsSmall late.table
  pub key : HasRowCode late.key

abbrev pub HasFaultCode : Fault → Type 0
HasFaultCode fault.Overflow = Unit {0}
HasFaultCode fault.ZeroDivide = Unit {0}
HasFaultCode fault.DuplicateKey = Unit {0}
HasFaultCode fault.NoRow = Unit {0}
HasFaultCode fault.TextTooLong = Unit {0}
HasFaultCode fault.Steps = Unit {0}
HasFaultCode (fault.Failed text) = is_text text ≡ true

pub record HasClashCode (clash : Clash) : Type 0 where
  pub position : IsSmall clash.with
  pub table : IsSmall clash.table
  pub key : HasRowCode clash.key

-- a position of a block of so many transactions, from 1
pub record IsPosition (count position : ℕ) : Type 0 where
  pub from_one : 1 ≤ position
  pub within : position ≤ count

-- no two are equal
abbrev pub are_apart : List ℕ → Bool
are_apart [] = true
are_apart (first ∷ rest) = list_all (λ other. not (nat_eq first other)) rest && are_apart rest

-- some, no two of them equal
abbrev pub is_way : List ℕ → Bool
is_way [] = false
is_way (first ∷ rest) = are_apart (first ∷ rest)

-- a path has from 1 to 1,023 positions, no two of them equal
abbrev pub HasPathCode : List ℕ → Type 0
HasPathCode path = HasCounted most_on_path (IsPosition most_outcomes) path × (is_way path ≡ true)

abbrev pub HasDangerCode : Danger → Type 0
HasDangerCode (danger.One z x) = IsSmall z × IsSmall x
HasDangerCode (danger.Two y z) = IsSmall y × IsSmall z
HasDangerCode (danger.Cycle path) = HasPathCode path

-- the numbers of a cause fit their bytes, a key has at most 32 values, each with a code, and a text is one
abbrev pub HasOutcomeCode : Outcome → Type 0
HasOutcomeCode outcome.Committed = Unit {0}
HasOutcomeCode outcome.DuplicateId = Unit {0}
HasOutcomeCode outcome.FutureHeight = Unit {0}
HasOutcomeCode outcome.UnknownProcedure = Unit {0}
HasOutcomeCode outcome.BadArguments = Unit {0}
HasOutcomeCode (outcome.Late late) = HasLateCode late
HasOutcomeCode (outcome.Fault fault) = HasFaultCode fault
HasOutcomeCode (outcome.WriteConflict clash) = HasClashCode clash
HasOutcomeCode (outcome.Danger danger) = HasDangerCode danger

pub record HasToldCode (told : Told) : Type 0 where
  pub id : has_id_form told.id ≡ true
  pub outcome : HasOutcomeCode told.outcome

-- a write by a transaction of a block of so many
pub record HasPlacedCode (count : ℕ) (placed : Placed) : Type 0 where
  pub write : HasWriteCode placed
  pub position : IsPosition count placed.pos

-- writes stand in order of their positions, those of one position by table and key
abbrev pub placed_cmp : Placed → Placed → Ordering
placed_cmp a b = ordering_then (nat_cmp a.pos b.pos) (ref_cmp (write_ref a.write) (write_ref b.write))

pub record HaveCodes (count : ℕ) (writes : List Placed) : Type 0 where
  pub each : HasCounted most_counted (HasPlacedCode count) writes
  pub rising : IsStrictlySortedBy placed_cmp writes

-- whole seconds from 0 on that have 64 bits
abbrev pub IsTime : ℤ → Type 0
IsTime time = FitsSigned w64 time × (int_le (pos 0) time ≡ true)

pub record HasBlockCode (block : BlockResult) : Type 0 where
  pub number : block.number < 2 ^ 64
  pub time : IsTime block.time
  pub outcomes : HasCounted most_outcomes HasToldCode block.outcomes
  pub order : HasCounted most_counted (IsPosition (length block.outcomes)) block.order
  pub writes : HaveCodes (length block.outcomes) block.writes
  pub digest : block.digest ≡ replicate 32 0
