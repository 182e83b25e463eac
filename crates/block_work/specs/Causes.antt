-- The causes of an abort.
use Rattle.block_digest.specs.Codable.{HasFewKey}
use Rattle.block_work.specs.declared.verdict.Verdict.TheVariants.{Aborts, Commits}
use Rattle.block_work.specs.declared.verdict.Verdict.{Verdict}
use Rattle.conflict_rules.specs.Late.{Overtaken}
use Rattle.node_model.specs.Decide.{bad_call, clash, conflict_outcome, fault_outcome, future, is_committed, late_outcome}
use Rattle.node_model.specs.Edges.{comes_from, leads_to}
use Rattle.node_model.specs.declared.outcome.Outcome.TheVariants as outcome
use Rattle.node_model.specs.declared.outcome.Outcome.{Outcome}
use Rattle.node_model.specs.declared.result.Committed.{Committed}
use Rattle.proc_syntax.specs.Call.{call_fault}
use Rattle.proc_syntax.specs.declared.call.Tx.{Tx}
use Rattle.proc_syntax.specs.declared.run.Ran.{Ran}
use Rattle.proc_syntax.specs.declared.tree.App.{App}
use Rattle.rel_base.specs.Among.{ReadFitsIn, WriteFitsIn}
use Rattle.rel_base.specs.Late.{late}
use Rattle.rel_base.specs.Tables.{Stamped}
use Rattle.rel_base.specs.declared.schema.TableDef.{TableDef}
use Rattle.row_sets.specs.Versions.{are_rising}
use Rattle.rw_graph.specs.Held.{holds}
use Rattle.rw_graph.specs.declared.edges.Edges.{Edges}
use Rattle.std.specs.Prelude.{All, Bool, IsTrue, List, None, Option, Some, cond, false, length, map, ◌<◌, ◌^◌, ◌≡◌, ◌≤◌, ℕ}
use Rattle.std.specs.Option.{option_or}
use Rattle.proc_syntax.specs.Limits.{most_steps}

-- a cause of an abort: no commit, and the key that it names, if any, has few values
abbrev pub IsCause : Outcome → Type 0
IsCause found = (is_committed found ≡ false) × HasFewKey found

-- ---- without a run

-- the causes that are known without a run, where it is known whether the id stands earlier in the chain
abbrev pub early_by : Bool → App → ℕ → Tx → Option Outcome
early_by known app number tx = option_or (cond known (Some outcome.DuplicateId) None) (option_or (future number tx) (bad_call (call_fault app tx)))

-- ---- by a run

-- what is needed of a run to judge it: its reads and writes fit the tables, its writes stand in order, and there are not too many of either
pub record RunFits (tables : List TableDef) (ran : Ran) : Type 0 where
  pub reads : All (λ made. ReadFitsIn tables made.read) ran.reads
  pub writes : All (WriteFitsIn tables) ran.writes
  pub rise : IsTrue (are_rising ran.writes)
  pub few : length ran.reads < 2 ^ 32
  pub few_writes : length ran.writes ≤ most_steps

-- the outcome of a late read
abbrev pub outcome_of_late : Overtaken → Outcome
outcome_of_late found = outcome.Late (record {
  stale = found.hit.stale;
  read = found.read;
  place = found.hit.place;
  table = found.table;
  key = found.hit.key;
})

-- the causes that a run shows without its edges
abbrev pub before_edges : List TableDef → List Stamped → List Committed → Ran → Option Outcome
before_edges tables since committed ran =
    option_or (late_outcome tables (late tables (map (λ made. made.read) ran.reads) since)) (option_or (fault_outcome ran.ending) (conflict_outcome ran.writes (clash committed ran.writes)))

-- these are the edges of a run to and from transactions that committed before it
pub record AreOwnEdges (tables : List TableDef) (committed : List Committed) (ran : Ran) (edges : Edges) : Type 0 where
  pub out : (pos : ℕ) → holds edges.out pos ≡ leads_to tables committed ran.reads pos
  pub into : (pos : ℕ) → holds edges.into pos ≡ comes_from tables committed ran.writes pos

-- the outcome that a verdict is
abbrev pub outcome_of : Verdict → Outcome
outcome_of (Commits edges) = outcome.Committed
outcome_of (Aborts cause) = cause

-- a verdict on a run has its edges where it commits, and else a cause
abbrev pub IsVerdictOn : List TableDef → List Committed → Ran → Verdict → Type 0
IsVerdictOn tables committed ran (Commits edges) = AreOwnEdges tables committed ran edges
IsVerdictOn tables committed ran (Aborts cause) = IsCause cause
