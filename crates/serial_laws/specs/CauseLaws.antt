-- The laws, each the contract of a function of the module `cause_laws`.
use Rattle.serial_laws.specs.Conflicts.{HasNoConflict, IsLeastConflict, StandByKey}
use Rattle.serial_laws.specs.Dangers.{HasNoDanger, IsLeastDanger}
use Rattle.node_model.specs.Danger.{danger}
use Rattle.node_model.specs.Decide.{clash, conflict_outcome, run_at}
use Rattle.node_model.specs.Fold.{fold, no_work, seal, work_through}
use Rattle.node_model.specs.History.{SealedBlock}
use Rattle.node_model.specs.declared.outcome.Outcome.TheVariants as outcome
use Rattle.node_model.specs.declared.outcome.Outcome.{Outcome}
use Rattle.node_model.specs.declared.result.Committed.{Committed}
use Rattle.node_model.specs.Edges.{StandByPosition}
use Rattle.proc_syntax.specs.Declaring.{tables_of}
use Rattle.proc_syntax.specs.declared.call.Block.{Block}
use Rattle.proc_syntax.specs.declared.call.Tx.{Tx}
use Rattle.proc_syntax.specs.declared.run.Ran.{Ran}
use Rattle.proc_syntax.specs.declared.tree.App.{App}
use Rattle.rel_base.specs.declared.access.Made.{Made}
use Rattle.rel_base.specs.declared.access.Write.{Write}
use Rattle.rel_base.specs.declared.schema.TableDef.{TableDef}
use Rattle.std.specs.Option.{IsSomeAnd}
use Rattle.std.specs.Prelude.{Bool, List, MatchOption, length, slice_get, ◌++◌, ◌≡◌, ◌∷◌, ℕ}

-- ---- of lists

-- a write conflict with the least that there is
abbrev pub NamesConflict : List Committed → List Write → Outcome → Type 0
NamesConflict committed writes (outcome.WriteConflict named) = IsLeastConflict committed writes named
NamesConflict committed writes _ = ⊥

-- the write conflict that is named is the least, and none is named exactly where there is none
abbrev pub ConflictIsLeast : Type 0
ConflictIsLeast = (committed : List Committed) (writes : List Write) → StandByPosition committed → StandByKey writes
    → MatchOption (conflict_outcome writes (clash committed writes)) (HasNoConflict committed writes) (NamesConflict committed writes)

-- the danger that is named is the least, and none is named exactly where there is none
abbrev pub DangerIsLeast : Type 0
DangerIsLeast = (exact : Bool) (tables : List TableDef) (committed : List Committed) (reads : List Made) (writes : List Write) → StandByPosition committed
    → MatchOption (danger exact tables committed reads writes) (HasNoDanger tables committed reads writes exact) (IsLeastDanger tables committed reads writes exact)

-- ---- of the fold

-- what committed among the first transactions of a block of a number
abbrev pub committed_among : App → List SealedBlock → ℕ → List Tx → List Committed
committed_among app chain number first = (work_through app chain number no_work first).committed

-- wherever the fold decides a transaction after others of its block, what committed among these stands by position, and what it wrote by key
abbrev pub PremisesAreMet : Type 0
PremisesAreMet = (app : App) (chain : List SealedBlock) (number : ℕ) (first : List Tx) (tx : Tx) → StandByPosition (committed_among app chain number first) × StandByKey (run_at app chain tx).writes

-- an outcome of a run among those that committed before it: a write conflict is the least, and so is a danger, which is reported only where
-- there is no conflict; and what committed has neither
abbrev pub NamesTheLeast : Bool → List TableDef → List Committed → Ran → Outcome → Type 0
NamesTheLeast exact tables committed ran (outcome.WriteConflict named) = IsLeastConflict committed ran.writes named
NamesTheLeast exact tables committed ran (outcome.Danger found) = HasNoConflict committed ran.writes × IsLeastDanger tables committed ran.reads ran.writes exact found
NamesTheLeast exact tables committed ran outcome.Committed = HasNoConflict committed ran.writes × HasNoDanger tables committed ran.reads ran.writes exact
NamesTheLeast exact tables committed ran _ = Unit {0}

-- the outcome that is reported of each transaction of a block, after the first ones
abbrev pub OutcomesNameTheLeast : Type 0
OutcomesNameTheLeast = (app : App) (blocks : List Block) (block : Block) (first : List Tx) (tx : Tx) (rest : List Tx) → block.txs ≡ first ++ tx ∷ rest
    → IsSomeAnd (slice_get (seal app (fold app blocks) block).outcomes (length first))
    (λ told. NamesTheLeast app.exact (tables_of app) (committed_among app (fold app blocks) block.number first) (run_at app (fold app blocks) tx) told.outcome)
