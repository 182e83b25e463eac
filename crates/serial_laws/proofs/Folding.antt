-- What the fold commits in a block are transactions that replay.
use Rattle.std.proofs.Common.{List, None, Some, [], ap, append_assoc, arith, inl, inr, length, map, refl, subst, suc, sym, ⊎_elim, ◌+◌, ◌++◌, ◌∙◌, ◌≡◌, ◌≤◌, ◌∷◌, ◌⊎◌, ℕ}
use Rattle.node_model.specs.Danger.{danger}
use Rattle.node_model.specs.Decide.{decide, fault_outcome, run_at}
use Rattle.node_model.specs.Fold.{Work, join_committed, no_work, seal, work_on, work_through}
use Rattle.node_model.specs.History.{SealedBlock, history_of, snapshot}
use Rattle.node_model.specs.declared.outcome.Outcome.TheVariants as outcome
use Rattle.node_model.specs.declared.outcome.Outcome.{Outcome}
use Rattle.node_model.specs.declared.result.Committed.{Committed}
use Rattle.proc_syntax.specs.Call.{call_fault}
use Rattle.proc_syntax.specs.Declaring.{tables_of}
use Rattle.proc_syntax.specs.declared.call.Block.{Block}
use Rattle.proc_syntax.specs.declared.call.Tx.{Tx}
use Rattle.proc_syntax.specs.declared.run.Ran.{Ran}
use Rattle.proc_syntax.specs.declared.tree.App.{App}
use Rattle.rel_base.specs.Late.{late}
use Rattle.rel_base.specs.Tables.{writes_between}
use Rattle.rel_base.specs.declared.schema.TableDef.{TableDef}
use Rattle.rw_graph.proofs.Firsts.{in_append}
use Rattle.rw_graph.proofs.Lists.{In, Pairs, each_at, each_from}
use Rattle.serial_laws.proofs.Admitted.{Rises}
use Rattle.serial_laws.proofs.Causes.{HasNoCause, has_no_cause}
use Rattle.serial_laws.proofs.Past.{IsPast, made, run_stays}
use Rattle.serial_laws.proofs.Replaying.{Apart, AreOfBlock, RunsAgain}
use Rattle.serial_laws.specs.Decided.{AreAdmitted, MeetNoDanger}
use Rattle.serial_laws.specs.Replay.{own_run, run_on, tx_at}
use Rattle.serial_order.proofs.Taken.{all_pairs}
use Rattle.std.proofs.lemmas.List.{append-nil, length-append}
use Rattle.std.specs.Prelude.{Bool, slice_get, ◌-◌}

-- ---- one more

pub pairs_push : {M : Type 0} (R : M → M → Type 0) (xs : List M) (t : M) → Pairs R xs → ((x : M) → In x xs → R x t) → Pairs R (xs ++ t ∷ [])
pairs_push R [] t h f = (tt, tt)
pairs_push R (x ∷ xs) t h f =
    (each_from (R x) (xs ++ t ∷ []) (λ y k. ⊎_elim (λ i. each_at (R x) xs h.0 y i) (λ i. ⊎_elim (λ e. subst (R x) e (f x (inl refl))) (λ n. absurd n) i) (in_append xs (t ∷ []) y k)), pairs_push R xs t h.1 (λ y k. f y (inr k)))

in_push : {M : Type 0} (P : M → Type 0) (xs : List M) (t : M) → ((x : M) → In x xs → P x) → P t → (x : M) → In x (xs ++ t ∷ []) → P x
in_push P xs t f p x h = ⊎_elim (λ k. f x k) (λ k. ⊎_elim (λ e. subst P e p) (λ n. absurd n) k) (in_append xs (t ∷ []) x h)

meet_push : (exact : Bool) (tables : List TableDef) (before rest : List Committed) (next : Committed) → MeetNoDanger exact tables before rest → danger exact tables (before ++ rest) next.reads next.writes ≡ None → MeetNoDanger exact tables before (rest ++ next ∷ [])
meet_push exact tables before [] next meet safe = (subst (λ l. danger exact tables l next.reads next.writes ≡ None) (append-nil before) safe, tt)
meet_push exact tables before (first ∷ rest) next meet safe =
    (meet.0, meet_push exact tables (before ++ first ∷ []) rest next meet.1 (subst (λ l. danger exact tables l next.reads next.writes ≡ None) (sym (append_assoc before (first ∷ []) rest)) safe))

-- the transaction after some stands at the position after them
next_at : (front rest : List Tx) (tx : Tx) → tx_at (front ++ tx ∷ rest) (length front + 1) ≡ Some tx
next_at front rest tx = subst (λ pos. tx_at (front ++ tx ∷ rest) pos ≡ Some tx) next (at_length front)
  where
    next : suc (length front) ≡ length front + 1
    next = omega arith

    at_length : (front : List Tx) → slice_get (front ++ tx ∷ rest) (length front) ≡ Some tx
    at_length [] = refl
    at_length (first ∷ others) = at_length others

-- an outcome is that it committed, or leaves the committed transactions as they are
joins_or_leaves : (committed : List Committed) (pos : ℕ) (ran : Ran) (o : Outcome) → (o ≡ outcome.Committed) ⊎ (join_committed committed pos ran o ≡ committed)
joins_or_leaves committed pos ran outcome.Committed = inl refl
joins_or_leaves committed pos ran _ = inr refl

module _ (app : App) (chain : List SealedBlock) (block : Block) (last : ℕ) (past : IsPast (tables_of app) last chain) (next : block.number ≡ last + 1) where
  abbrev Runs : Committed → Type 0
  Runs done = RunsAgain app chain block (snapshot last chain) done

  -- a committed transaction is that of its position, and its call can begin
  pub record Begins (done : Committed) : Type 0 where
    pub tx : Tx
    pub there : tx_at block.txs done.pos ≡ Some tx
    pub can : call_fault app tx ≡ None

  -- what holds of the block in work, where so many transactions were decided
  pub record Sofar (count : ℕ) (committed : List Committed) : Type 0 where
    pub rise : Pairs Rises committed
    pub apart : Pairs (Apart app chain block) committed
    pub safe : MeetNoDanger app.exact (tables_of app) [] committed
    pub runs : (t : Committed) → In t committed → Runs t
    pub begin : (t : Committed) → In t committed → Begins t
    pub upto : (t : Committed) → In t committed → t.pos ≤ count

  abbrev newcomer : ℕ → Tx → Committed
  newcomer pos tx = record { pos = pos; reads = (run_at app chain tx).reads; writes = (run_at app chain tx).writes }

  runs_again : (committed : List Committed) (pos : ℕ) (tx : Tx) → tx_at block.txs pos ≡ Some tx → HasNoCause app chain block.number committed tx → Runs (newcomer pos tx)
  runs_again committed pos tx there none =
      let own : own_run app chain (tx_at block.txs pos) ≡ run_at app chain tx = ap (own_run app chain) there in
      let before : block.number - 1 ≡ last = omega (arith, next) in
      record {
        same = ap (run_on app chain (snapshot last chain)) there
            ∙ run_stays app last chain past tx (subst (λ high. late (tables_of app) (map (λ made. made.read) (run_at app chain tx).reads) (writes_between tx.height high (history_of chain)) ≡ None) before none.early)
            ∙ sym own;
        recorded = record { reads = ap (λ (ran : Ran). ran.reads) own; writes = ap (λ (ran : Ran). ran.writes) own; no_fault = subst (λ (ran : Ran). fault_outcome ran.ending ≡ None) (sym own) none.no_fault };
      }

  -- the next transaction commits, or not
  joined : (count : ℕ) (committed : List Committed) (tx : Tx) → Sofar count committed → tx_at block.txs (count + 1) ≡ Some tx → HasNoCause app chain block.number committed tx
      → Sofar (count + 1) (committed ++ newcomer (count + 1) tx ∷ [])
  joined count committed tx so there none = record {
    rise = pairs_push Rises committed (newcomer (count + 1) tx) so.rise (λ t h. let up = so.upto t h in omega (arith, up));
    apart = pairs_push (Apart app chain block) committed (newcomer (count + 1) tx) so.apart none.apart;
    safe = meet_push app.exact (tables_of app) [] committed (newcomer (count + 1) tx) so.safe none.safe;
    runs = in_push Runs committed (newcomer (count + 1) tx) so.runs (runs_again committed (count + 1) tx there none);
    begin = in_push Begins committed (newcomer (count + 1) tx) so.begin (record { tx = tx; there = there; can = none.begins });
    upto = in_push (λ t. t.pos ≤ count + 1) committed (newcomer (count + 1) tx) (λ t h. let up = so.upto t h in omega (arith, up)) (omega arith);
  }

  left : (count : ℕ) (committed : List Committed) → Sofar count committed → Sofar (count + 1) committed
  left count committed so = record { rise = so.rise; apart = so.apart; safe = so.safe; runs = so.runs; begin = so.begin; upto = λ t h. let up = so.upto t h in omega (arith, up) }

  decided : (work : Work) (tx : Tx) → Sofar (length work.outcomes) work.committed → tx_at block.txs (length work.outcomes + 1) ≡ Some tx
      → Sofar (length work.outcomes + 1) (work_on app chain block.number work tx).committed
  decided work tx so there = ⊎_elim
      (λ is. subst (λ o. Sofar (length work.outcomes + 1) (join_committed work.committed (length work.outcomes + 1) (run_at app chain tx) o)) (sym is)
      (joined (length work.outcomes) work.committed tx so there (has_no_cause app chain block.number work.outcomes work.committed tx is)))
      (λ leaves. subst (Sofar (length work.outcomes + 1)) (sym leaves) (left (length work.outcomes) work.committed so))
      (joins_or_leaves work.committed (length work.outcomes + 1) (run_at app chain tx) (decide app chain block.number work.outcomes work.committed tx))

  through : (front rest : List Tx) (work : Work) → front ++ rest ≡ block.txs → length work.outcomes ≡ length front → Sofar (length work.outcomes) work.committed
      → Sofar (length block.txs) (work_through app chain block.number work rest).committed
  through front [] work is same so = subst (λ count. Sofar count work.committed) (same ∙ ap length (sym (append-nil front) ∙ is)) so
  through front (tx ∷ rest) work is same so =
      let there : tx_at block.txs (length work.outcomes + 1) ≡ Some tx =
      ap (λ n. tx_at block.txs (n + 1)) same ∙ subst (λ txs. tx_at txs (length front + 1) ≡ Some tx) is (next_at front rest tx) in
      let longer : length (work_on app chain block.number work tx).outcomes ≡ length work.outcomes + 1 =
      length-append work.outcomes (record { id = tx.id; outcome = decide app chain block.number work.outcomes work.committed tx } ∷ []) in
      through (front ++ tx ∷ []) rest (work_on app chain block.number work tx) (append_assoc front (tx ∷ []) rest ∙ is)
      (longer ∙ ap (λ n. n + 1) same ∙ sym (length-append front (tx ∷ [])))
      (subst (λ count. Sofar count (work_on app chain block.number work tx).committed) (sym longer) (decided work tx so there))

  pub at_end : Sofar (length block.txs) (seal app chain block).committed
  at_end = through [] block.txs no_work refl refl (record { rise = tt; apart = tt; safe = tt; runs = λ t h. absurd h; begin = λ t h. absurd h; upto = λ t h. absurd h })

  -- what the fold commits in the block met no danger
  pub admitted : AreAdmitted app.exact (tables_of app) (seal app chain block).committed
  admitted = record { rise = all_pairs Rises _ at_end.rise; safe = at_end.safe }

  -- and is a block that replays
  pub of_block : AreOfBlock app chain block (snapshot last chain) (seal app chain block).committed
  of_block =
      let so = at_end in
      record { made = made (tables_of app) last chain past block.number (omega (arith, next)); rise = so.rise; apart = so.apart; runs = so.runs }
