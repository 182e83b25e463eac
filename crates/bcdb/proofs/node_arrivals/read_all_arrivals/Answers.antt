use Rattle.std.proofs.Common.{arith}
use Rattle.std.proofs.lemmas.Grind.{common_steps}
use Rattle.std.proofs.lemmas.List.Elements.{All-append, All-cons, All-nil}
use Rattle.std.proofs.Common.{All, Err, IfOk, IfSome, List, Ok, Option, Result, [], rules, subst, sym, ◌+◌, ◌∙◌, ◌≡◌, ◌∷◌, ℕ}
use Rattle.bcdb.proofs.Gathering.{Gathers, failed_counts, failed_turns, gathers_more, is_bad, may_read_node}
use Rattle.bcdb.proofs.node_arrivals.read_all_arrivals.Goals as goal
use Rattle.bcdb.specs.ArrivalFiles.{arrived_in, file_at}
use Rattle.bcdb.specs.Plan.{AllowsPlan, CallsFile, Counted, RoseAt, arrivals_plan, planned_if}
use Rattle.bcdb.specs.declared.fault.FilesFault.{FilesFault}
use Rattle.bcdb.specs.declared.refusal.BadArrivals.{BadArrivals}
use Rattle.edge_traits.specs.Causes.{Counts}
use Rattle.edge_traits.specs.Shelf.{Files}
use Rattle.order_queue.specs.Orders.{IsSubmission}
use Rattle.proc_syntax.specs.declared.call.Tx.{Tx}

pub read_node-requires : goal.read_node-requires
read_node-requires g c = record {
  allowed = subst (λ (told : Option Files). AllowsPlan (planned_if CallsFile (file_at c.args.prefix.now c.loop-node.node)) told (g.S.Shelf.may_read c.loop-node.shelf)) (sym c.loop-node.invariant.0)
      (may_read_node c.args.prefix.now c.args.nodes (g.S.Shelf.told c.args.shelf.now) (g.S.Shelf.may_read c.loop-node.shelf) c.loop-node.node c.loop-node.all c.loop-node.invariant.2 c.loop-node-test.true);
}

pub returns-in_err-txs-clause-turn : goal.returns-in_err-txs-clause-turn
returns-in_err-txs-clause-turn g c =
    let before = g.S.Shelf.faults c.args.shelf.now in
    let now = g.S.Shelf.faults c.read_node.new.shelf in
    let name = file_at c.args.prefix.now c.loop-node.node in
    let same : c.from_residual.result ≡ Err c.in_err-txs.field-0.0 = search rules in
    let counted : Counted {T = Result (List Tx) ℕ} (Err c.in_err-txs.field-0.0) (RoseAt (planned_if CallsFile name) before now) before now =
    subst (λ (counts : Counts). Counted {T = Result (List Tx) ℕ} (Err c.in_err-txs.field-0.0) (RoseAt (planned_if CallsFile name) counts now) counts now) c.loop-node.invariant.1 c.in_err-txs.ensures.counted in
    λ failed. failed_turns c.args.prefix.now c.args.nodes (g.S.Shelf.told c.args.shelf.now) (g.S.Shelf.may_read c.loop-node.shelf) c.loop-node.node c.loop-node.all (Result (List Tx) ℕ) c.from_residual.result c.in_err-txs.field-0.0 before now
    c.loop-node.invariant.2 c.loop-node-test.true counted same failed

pub returns-in_err-txs-clause-counted : goal.returns-in_err-txs-clause-counted
returns-in_err-txs-clause-counted g c =
    let before = g.S.Shelf.faults c.args.shelf.now in
    let now = g.S.Shelf.faults c.read_node.new.shelf in
    let name = file_at c.args.prefix.now c.loop-node.node in
    let same : c.from_residual.result ≡ Err c.in_err-txs.field-0.0 = search rules in
    let counted : Counted {T = Result (List Tx) ℕ} (Err c.in_err-txs.field-0.0) (RoseAt (planned_if CallsFile name) before now) before now =
    subst (λ (counts : Counts). Counted {T = Result (List Tx) ℕ} (Err c.in_err-txs.field-0.0) (RoseAt (planned_if CallsFile name) counts now) counts now) c.loop-node.invariant.1 c.in_err-txs.ensures.counted in
    subst (λ (r : Result (Result (List (List Tx)) BadArrivals) FilesFault). Counted r (RoseAt (arrivals_plan c.args.prefix.now 1 c.args.nodes) before now) before now) (sym same)
    (failed_counts c.args.prefix.now c.args.nodes (g.S.Shelf.told c.args.shelf.now) (g.S.Shelf.may_read c.loop-node.shelf) c.loop-node.node c.loop-node.all (Result (List Tx) ℕ) (Result (List (List Tx)) BadArrivals) c.in_err-txs.field-0.0 before now
    c.loop-node.invariant.2 c.loop-node-test.true counted)

pub loop-node-preserved : goal.loop-node-preserved
loop-node-preserved g c =
    let told = g.S.Shelf.told c.args.shelf.now in
    let name = file_at c.args.prefix.now c.loop-node.node in
    let arrives : IfSome told (λ files. arrived_in name files ≡ Ok c.in-Ok.txs) =
    subst (λ (read : Result (List Tx) ℕ). IfSome told (λ files. arrived_in name files ≡ read)) c.in-Ok.is
    (subst (λ (shown : Option Files). IfSome shown (λ files. arrived_in name files ≡ c.in_ok-txs.field-0)) c.loop-node.invariant.0 c.in_ok-txs.ensures.told) in
    let submission : IsSubmission c.in-Ok.txs = subst (λ (read : Result (List Tx) ℕ). IfOk read IsSubmission) c.in-Ok.is c.in_ok-txs.ensures.submission in (
      c.read_node.ensures.same ∙ c.loop-node.invariant.0,
      c.in_ok-txs.ensures.counted ∙ c.loop-node.invariant.1,
      subst (λ all. (left : ℕ) × Gathers c.args.prefix.now c.args.nodes told (g.S.Shelf.may_read c.read_node.new.shelf) (c.loop-node.node + 1) all left) (sym c.in_ok-push-in-Ok.ensures.ok)
          (gathers_more c.args.prefix.now c.args.nodes told (g.S.Shelf.may_read c.loop-node.shelf) c.loop-node.node c.loop-node.all (g.S.Shelf.may_read c.read_node.new.shelf) c.in-Ok.txs c.loop-node.invariant.2
          c.loop-node-test.true arrives c.read_node.ensures.allowed),
      λ name at size may. c.read_node.ensures.allowed name at size (c.loop-node.invariant.3 name at size may),
      subst (All IsSubmission) (sym c.in_ok-push-in-Ok.ensures.ok)
          (All-append IsSubmission c.loop-node.all (c.in-Ok.txs ∷ []) c.loop-node.invariant.4 (All-cons IsSubmission c.in-Ok.txs [] submission (All-nil IsSubmission))),
    )

pub returns-in-Err-clause-told : goal.returns-in-Err-clause-told
returns-in-Err-clause-told g c =
    let told = g.S.Shelf.told c.args.shelf.now in
    let name = file_at c.args.prefix.now c.loop-node.node in
    let arrives : IfSome told (λ files. arrived_in name files ≡ Err c.in-Err.line) =
    subst (λ (read : Result (List Tx) ℕ). IfSome told (λ files. arrived_in name files ≡ read)) c.in-Err.is
    (subst (λ (shown : Option Files). IfSome shown (λ files. arrived_in name files ≡ c.in_ok-txs.field-0)) c.loop-node.invariant.0 c.in_ok-txs.ensures.told) in
    is_bad c.args.prefix.now c.args.nodes told (g.S.Shelf.may_read c.loop-node.shelf) c.loop-node.node c.loop-node.all c.in-Err.line c.loop-node.invariant.2 c.loop-node-test.true arrives

pub returns-clause-all : goal.returns-clause-all
returns-clause-all g c = grind (arith, common_steps)

pub returns-in_err-txs-clause-allowed : goal.returns-in_err-txs-clause-allowed
returns-in_err-txs-clause-allowed g c = λ name at size may. c.read_node.ensures.allowed name at size (c.loop-node.invariant.3 name at size may)

pub returns-in_err-push-in-Ok-clause-allowed : goal.returns-in_err-push-in-Ok-clause-allowed
returns-in_err-push-in-Ok-clause-allowed g c = λ name at size may. c.read_node.ensures.allowed name at size (c.loop-node.invariant.3 name at size may)

pub returns-in-Err-clause-allowed : goal.returns-in-Err-clause-allowed
returns-in-Err-clause-allowed g c = λ name at size may. c.read_node.ensures.allowed name at size (c.loop-node.invariant.3 name at size may)
