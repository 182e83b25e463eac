-- What a pass tells as its node begins, and as it ends.
use Rattle.std.proofs.Common.{Err, IfOk, List, Ok, Result, [], ap, length, refl, subst, sym, ◌∙◌, ◌≡◌, ℕ}
use Rattle.cluster_run.proofs.Blocks.{none_in}
use Rattle.cluster_run.specs.Arrivals.{IsFedBy}
use Rattle.cluster_run.specs.Nodes.{IsNodeOf}
use Rattle.cluster_run.specs.Standing.{AllBring, HasNone, delivered_by, in_work, state_seen}
use Rattle.node_core.specs.Core.{Core}
use Rattle.node_core.specs.Looking.{closed}
use Rattle.node_model.specs.Fold.{all_rows, fold, node_result, results_of}
use Rattle.node_model.specs.History.{SealedBlock, snapshot}
use Rattle.node_model.specs.Journals.{IsLegal, delivered, world}
use Rattle.node_model.specs.declared.journal.Entry.{Entry}
use Rattle.node_model.specs.declared.result.NodeResult.{NodeResult}
use Rattle.node_shared.specs.Turn.{node_seen}
use Rattle.proc_syntax.specs.Declaring.{tables_of}
use Rattle.proc_syntax.specs.declared.call.Block.{Block}
use Rattle.proc_syntax.specs.declared.call.Tx.{Tx}
use Rattle.proc_syntax.specs.declared.tree.App.{App}
use Rattle.rel_base.specs.declared.storied.Storied.{Ghosts}
use Rattle.schedule_laws.proofs.Asking.{fold_of_own, own_deliveries}
use Rattle.schedule_laws.specs.Stable.{entries_by}
use Rattle.serial_laws.proofs.Results.{results_run}
use Rattle.serial_laws.specs.Chained.{AreNumbered}
use Rattle.serial_laws.specs.InOrder.{EachInOrder}
use Rattle.turn_lock.specs.Passes.{mine, pass_base, pass_number, seen}
use Rattle.turn_lock.specs.declared.pass.Pass.{Pass}

module _ {ghosts : Ghosts Core App Entry} (pass : Pass Core App Entry ghosts) (zero_is : pass_number pass ≡ 0) (has : HasNone pass) (rests : in_work pass ≡ []) where
  own : entries_by 0 (seen pass) ≡ mine pass
  own = subst (λ n. entries_by n (seen pass) ≡ mine pass) zero_is has.true_to.own

  sealed_is : (state_seen pass).sealed ≡ fold (pass_base pass) (delivered_by pass)
  sealed_is = fold_of_own (pass_base pass) (seen pass) has.true_to.legal (none_in (state_seen pass).work rests) ∙ ap (λ (entries : List Entry). fold (pass_base pass) (delivered entries)) own

  module _ (made : NodeResult) (is : made ≡ closed (node_seen pass)) where
    folds : record made { journal = [] } ≡ node_result (pass_base pass) (delivered_by pass)
    folds = ap (λ (one : NodeResult). record one { journal = [] }) is ∙ ap told_by sealed_is
      where
        told_by : List SealedBlock → NodeResult
        told_by sealed = record { blocks = results_of (tables_of (pass_base pass)) sealed; tables = all_rows (snapshot (length sealed) sealed) 0 (tables_of (pass_base pass)); journal = [] }

    delivers : delivered made.journal ≡ delivered_by pass
    delivers = ap (λ (one : NodeResult). delivered one.journal) is ∙ (sym (own_deliveries (pass_base pass) (seen pass) has.true_to.legal) ∙ ap delivered own)

  -- the node that is closed is the one that the pass has seen
  module _ (core : Core) (same : core ≡ node_seen pass) where
    seen_by : (made : NodeResult) → made ≡ closed core → made ≡ closed (node_seen pass)
    seen_by made is = is ∙ ap closed same

    pub closed_node : {M : Type 0} (r : Result NodeResult M) → AreNumbered 1 (delivered_by pass) → IfOk r (λ made. made ≡ closed core) → IfOk r (IsNodeOf (pass_base pass) (delivered_by pass))
    closed_node (Ok made) numbered is = let told = seen_by made is in record {
      folds = folds made told;
      legal = subst (λ (one : NodeResult). IsLegal (pass_base pass) one.journal) (sym told) has.true_to.legal;
      delivers = delivers made told;
      tells = subst (λ (one : NodeResult). results_of (tables_of (pass_base pass)) (world (pass_base pass) one.journal).sealed ≡ one.blocks) (sym told) refl;
      replays = subst (EachInOrder (pass_base pass) (delivered_by pass)) (sym (ap (λ (one : NodeResult). one.blocks) (folds made told))) (results_run (pass_base pass) (delivered_by pass) numbered);
    }
    closed_node (Err refused) numbered is = tt

-- the journal that is told is what the pass has seen
pub journal_seen : {ghosts : Ghosts Core App Entry} {M : Type 0} (pass : Pass Core App Entry ghosts) (core : Core) → core ≡ node_seen pass → (r : Result NodeResult M) → IfOk r (λ made. made ≡ closed core) → IfOk r (λ made. made.journal ≡ seen pass)
journal_seen pass core same (Ok made) is = ap (λ (one : NodeResult). one.journal) is ∙ ap (λ (one : Core). one.journal) same
journal_seen pass core same (Err refused) is = tt

-- what is told of arrivals for every list is told of one
pub fed_of : {ghosts : Ghosts Core App Entry} {M : Type 0} (pass : Pass Core App Entry ghosts) (executors : ℕ) (handed : List Tx) → AllBring executors handed pass → (r : Result NodeResult M)
    → IfOk r (λ told. (n : ℕ) (txs : List Tx) → AllBring n txs pass → IsFedBy told txs) → IfOk r (λ told. IsFedBy told handed)
fed_of pass executors handed bring (Ok told) fed = fed executors handed bring
fed_of pass executors handed bring (Err refused) fed = tt

-- what is reported of blocks is reported of those that they are
pub node_of_same : {M : Type 0} (base app : App) (given blocks : List Block) (r : Result NodeResult M) → base ≡ app → given ≡ blocks → IfOk r (IsNodeOf base given) → IfOk r (IsNodeOf app blocks)
node_of_same base app given blocks r same are is = subst (λ (a : App). IfOk r (IsNodeOf a blocks)) same (subst (λ (list : List Block). IfOk r (IsNodeOf base list)) are is)
