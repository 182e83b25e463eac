-- The outcome of a transaction: the first cause that applies, in the order of the definitions below, or committed.
-- (The flow is that of Nathan and others, PVLDB 12(11), 2019; the causes and their order are this project's own.)
use Rattle.node_model.specs.Danger.{danger}
use Rattle.node_model.specs.History.{SealedBlock, history_of, ids_of, snapshot, time_at}
use Rattle.node_model.specs.declared.outcome.Outcome.{Outcome}
use Rattle.node_model.specs.declared.outcome.Outcome.TheVariants as outcome
use Rattle.node_model.specs.declared.result.Committed.{Committed}
use Rattle.node_model.specs.declared.result.Told.{Told}
use Rattle.proc_syntax.specs.Call.{call_fault}
use Rattle.proc_syntax.specs.Declaring.{tables_of}
use Rattle.proc_syntax.specs.Run.{run}
use Rattle.proc_syntax.specs.declared.run.Ending.TheVariants.{Good, Faulted, IllTyped}
use Rattle.proc_syntax.specs.declared.run.Ending.{Ending}
use Rattle.proc_syntax.specs.declared.run.Ran.{Ran}
use Rattle.proc_syntax.specs.declared.call.CallFault.TheVariants.{UnknownProcedure, BadArguments}
use Rattle.proc_syntax.specs.declared.call.CallFault.{CallFault}
use Rattle.proc_syntax.specs.declared.call.Tx.{Tx}
use Rattle.proc_syntax.specs.declared.tree.App.{App}
use Rattle.rel_base.specs.Access.{read_table}
use Rattle.rel_base.specs.Late.{LateRead, is_stale, late}
use Rattle.rel_base.specs.Tables.{Stamped, ref_cmp, write_ref, writes_between}
use Rattle.rel_base.specs.declared.access.Write.{Write}
use Rattle.rel_base.specs.declared.schema.TableDef.{TableDef}
use Rattle.std.specs.List.{filter, list_any, position_from}
use Rattle.std.specs.Option.{option_and_then, option_map, option_map_or, option_or}
use Rattle.std.specs.Ordering.{eq_by_cmp}
use Rattle.std.specs.Prelude.{Bool, List, None, Option, Some, [], cond, false, map, nat_le, nat_lt, slice_get, true, unwrap_or, ◌&&◌, ◌-◌, ℕ, ◌∷◌, ◌++◌}
use Rattle.std.specs.Str.{bytes_eq}

-- ---- before its run

-- the id stands earlier in the chain
abbrev pub duplicate : List (List ℕ) → Tx → Option Outcome
duplicate ids tx = cond (list_any (bytes_eq tx.id) ids) (Some outcome.DuplicateId) None

-- the height is not below the number of the block
abbrev pub future : ℕ → Tx → Option Outcome
future number tx = cond (nat_le number tx.height) (Some outcome.FutureHeight) None

-- the call names no procedure, or its arguments differ from the parameters
abbrev pub bad_call : Option CallFault → Option Outcome
bad_call None = None
bad_call (Some UnknownProcedure) = Some outcome.UnknownProcedure
bad_call (Some BadArguments) = Some outcome.BadArguments

-- the causes that are known without a run, where some ids stand earlier in the chain
abbrev pub early : App → List (List ℕ) → ℕ → Tx → Option Outcome
early app ids number tx = option_or (duplicate ids tx) (option_or (future number tx) (bad_call (call_fault app tx)))

-- ---- by its run

-- the first late read, with the least write that hits it, which is a write of the read's table
abbrev pub late_outcome : List TableDef → Option LateRead → Option Outcome
late_outcome tables found = option_map (λ found. outcome.Late (record {
  stale = is_stale tables found.read found.write.1.write;
  read = found.number;
  place = record { block = found.write.0; pos = found.write.1.pos };
  table = read_table found.read;
  key = found.write.1.write.key;
})) found

-- the fault in which the run ended; one that ended ill typed, as none does of a checked application, is refused as one with bad arguments
abbrev pub fault_outcome : Ending → Option Outcome
fault_outcome Good = None
fault_outcome (Faulted fault) = Some (outcome.Fault fault)
fault_outcome IllTyped = Some outcome.BadArguments

-- the position of the first committed transaction of the block that wrote a table and key of the writes, and the place of the first such write
abbrev pub clash : List Committed → List Write → Option (ℕ × ℕ)
clash [] writes = None
clash (done ∷ rest) writes =
    option_map_or (λ index. Some (done.pos, index))
    (position_from (λ write. list_any (λ other. eq_by_cmp ref_cmp (write_ref write) (write_ref other)) done.writes) 0 writes) (clash rest writes)

-- whether a write is of the same table and key as one of some writes
abbrev pub is_shared : List Write → Write → Bool
is_shared others write = list_any (λ other. eq_by_cmp ref_cmp (write_ref write) (write_ref other)) others

-- the place, from 0, of the first of some writes that is of a table and key of others
abbrev pub first_shared : List Write → List Write → Option ℕ
first_shared others writes = position_from (is_shared others) 0 writes

-- the clash with one committed transaction, or else with a later one, as proofs have it
abbrev pub clash_at : Committed → Option ℕ → Option (ℕ × ℕ) → Option (ℕ × ℕ)
clash_at done found later = option_map_or (λ index. Some (done.pos, index)) found later

abbrev pub conflict_outcome : List Write → Option (ℕ × ℕ) → Option Outcome
conflict_outcome writes found =
    option_and_then (λ found. option_map (λ write. outcome.WriteConflict (record { with = found.0; table = write.table; key = write.key })) (slice_get writes found.1)) found

-- the run of a transaction: on the tables of its height, at the time of that height's block
abbrev pub run_at : App → List SealedBlock → Tx → Ran
run_at app chain tx = run app tx (time_at tx.height chain) (snapshot tx.height chain)

-- the causes that its run shows, with exact isolation or without
abbrev pub by_run : Bool → List TableDef → List Stamped → List Committed → Ran → Option Outcome
by_run exact tables since committed ran =
    option_or (late_outcome tables (late tables (map (λ made. made.read) ran.reads) since))
    (option_or (fault_outcome ran.ending)
    (option_or (conflict_outcome ran.writes (clash committed ran.writes)) (option_map outcome.Danger (danger exact tables committed ran.reads ran.writes))))

-- whether an outcome is that the transaction commits
abbrev pub is_committed : Outcome → Bool
is_committed outcome.Committed = true
is_committed _ = false

-- the outcome of a transaction of the block of a number, on the results of the blocks before and on those of its block so far, by its run: the
-- first cause, or else committed. Its reads are late where a write hits them that was committed after its height and before its block
abbrev pub decide_by : App → List SealedBlock → ℕ → List Told → List Committed → Tx → Ran → Outcome
decide_by app chain number outcomes committed tx ran = unwrap_or (option_or (early app (ids_of chain ++ map (λ told. told.id) outcomes) number tx)
    (by_run app.exact (tables_of app) (filter (λ stamped. nat_lt tx.height stamped.0 && nat_le stamped.0 (number - 1)) (history_of chain)) committed ran)) outcome.Committed

-- by its run on the tables of its height
abbrev pub decide : App → List SealedBlock → ℕ → List Told → List Committed → Tx → Outcome
decide app chain number outcomes committed tx = decide_by app chain number outcomes committed tx (run_at app chain tx)

-- ---- for laws

-- the first cause, or else committed
abbrev pub or_committed : Option Outcome → Outcome
or_committed found = unwrap_or found outcome.Committed

-- the writes that were committed after a transaction's height, before the block of a number
abbrev pub writes_since : List SealedBlock → ℕ → Tx → List Stamped
writes_since chain number tx = writes_between tx.height (number - 1) (history_of chain)
