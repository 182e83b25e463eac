-- What is decided of a transaction is what the definition decides.
use Rattle.std.proofs.Common.{Bool, Err, List, None, Ok, OnOk, Result, Some, [], ap, arith, length, refl, subst, sym, ◌++◌, ◌+◌, ◌-◌, ◌∙◌, ◌≡◌, ◌∷◌, ℕ}
use Rattle.std.specs.List.{list_any}
use Rattle.std.specs.Prelude.{ℤ}
use Rattle.std.specs.Str.{bytes_eq}
use Rattle.std.specs.Option.{option_or}
use Rattle.block_work.proofs.Causing.{join_abort}
use Rattle.block_work.proofs.Places.{one_added, places_more}
use Rattle.block_work.specs.Block.{IsConsistent, IsSameWork, work_of, work_with}
use Rattle.block_work.specs.Causes.{AreOwnEdges, IsCause, early_by}
use Rattle.block_work.specs.Ids.{AddsAmong, AddsPlace, HasFirstPlaces}
use Rattle.block_work.specs.declared.block.BlockInWork.{BlockInWork}
use Rattle.block_work.specs.declared.ids.IdIndex.{IdIndex}
use Rattle.node_model.specs.Decide.{by_run, or_committed, run_at, writes_since}
use Rattle.node_model.specs.Fold.{Work, work_on}
use Rattle.node_model.specs.History.{SealedBlock, history_of, ids_of, ids_told, time_at}
use Rattle.node_model.specs.declared.outcome.Outcome.TheVariants as outcome
use Rattle.node_model.specs.declared.outcome.Outcome.{Outcome}
use Rattle.node_model.specs.declared.result.Told.{Told}
use Rattle.plain_node.specs.Deciding.{IsDecision, with_decided}
use Rattle.plain_node.specs.declared.decide.TxDecision.TheVariants.{Aborts, Commits}
use Rattle.plain_node.specs.declared.decide.TxDecision.{TxDecision}
use Rattle.proc_syntax.specs.Declaring.{tables_of}
use Rattle.proc_syntax.specs.Run.{no_run, run}
use Rattle.proc_syntax.specs.declared.call.Tx.{Tx}
use Rattle.proc_syntax.specs.declared.run.Ran.{Ran}
use Rattle.proc_syntax.specs.declared.tree.App.{App}
use Rattle.rel_base.specs.declared.access.Place.{Place}
use Rattle.rel_base.specs.Tables.{Stamped, tables_at, writes_between}
use Rattle.rel_base.specs.declared.schema.TableDef.{TableDef}

-- an abort leaves the same, whatever its run was
pub same_abort : (work : Work) (id : List ℕ) (ran other : Ran) (cause : Outcome) → IsCause cause → work_with work id ran cause ≡ work_with work id other cause
same_abort work id ran other cause is = λ i. record {
  outcomes = (work_with work id ran cause).outcomes;
  committed = (join_abort work.committed (length work.outcomes + 1) ran cause is.0 ∙ sym (join_abort work.committed (length work.outcomes + 1) other cause is.0)) i;
}

-- where a cause is known without a run, it decides
pub early_decides : (app : App) (sealed : List SealedBlock) (number : ℕ) (work : Work) (tx : Tx) (known : Bool) (cause : Outcome) → Some cause ≡ early_by known app number tx → IsCause cause
    → known ≡ list_any (bytes_eq tx.id) (ids_of sealed ++ ids_told work.outcomes) → work_with work tx.id no_run cause ≡ work_on app sealed number work tx
early_decides app sealed number work tx known cause is aborts stands =
    same_abort work tx.id no_run (run_at app sealed tx) cause aborts
    ∙ ap (λ found. work_with work tx.id (run_at app sealed tx) (or_committed (option_or found (by_run app.exact (tables_of app) (writes_since sealed number tx) work.committed (run_at app sealed tx)))))
    (is ∙ ap (λ known. early_by known app number tx) stands)

-- else its run does
pub run_decides : (app : App) (sealed : List SealedBlock) (number : ℕ) (work : Work) (tx : Tx) (known : Bool) → None ≡ early_by known app number tx
    → known ≡ list_any (bytes_eq tx.id) (ids_of sealed ++ ids_told work.outcomes)
    → work_with work tx.id (run_at app sealed tx) (or_committed (by_run app.exact (tables_of app) (writes_since sealed number tx) work.committed (run_at app sealed tx))) ≡ work_on app sealed number work tx
run_decides app sealed number work tx known none stands =
    ap (λ found. work_with work tx.id (run_at app sealed tx) (or_committed (option_or found (by_run app.exact (tables_of app) (writes_since sealed number tx) work.committed (run_at app sealed tx)))))
    (none ∙ ap (λ known. early_by known app number tx) stands)

-- what a verdict on a run comes to is what the definition decides
module _ (app : App) (sealed : List SealedBlock) (history : List Stamped) (number : ℕ) (work : Work) (tx : Tx) (ran : Ran) (own : ran ≡ run_at app sealed tx) (writes : history ≡ history_of sealed) where
  pub commit_judged : (found : Outcome) → found ≡ or_committed (by_run app.exact (tables_of app) (writes_between tx.height (number - 1) history) work.committed ran)
      → work_with work tx.id ran found
      ≡ work_with work tx.id (run_at app sealed tx) (or_committed (by_run app.exact (tables_of app) (writes_since sealed number tx) work.committed (run_at app sealed tx)))
  commit_judged found is =
      ap (work_with work tx.id ran) is
      ∙ (λ i. work_with work tx.id (own i) (or_committed (by_run app.exact (tables_of app) (writes_between tx.height (number - 1) (writes i)) work.committed (own i))))

  pub abort_judged : (cause : Outcome) → IsCause cause → cause ≡ or_committed (by_run app.exact (tables_of app) (writes_between tx.height (number - 1) history) work.committed ran)
      → work_with work tx.id no_run cause
      ≡ work_with work tx.id (run_at app sealed tx) (or_committed (by_run app.exact (tables_of app) (writes_since sealed number tx) work.committed (run_at app sealed tx)))
  abort_judged cause aborts is = same_abort work tx.id no_run ran cause aborts ∙ commit_judged cause is

-- ---- the block in work

same_work : (old new : BlockInWork) → IsSameWork old new → work_of new ≡ work_of old
same_work old new same = λ i. record { outcomes = same.outcomes i; committed = same.committed i }

-- the outcome that was decided
abbrev pub found_by : TxDecision → Outcome
found_by (Commits ran edges) = outcome.Committed
found_by (Aborts cause) = cause

outcomes_with : (work : Work) (id : List ℕ) (decided : TxDecision) → (with_decided work id decided).outcomes ≡ work.outcomes ++ record { id = id; outcome = found_by decided } ∷ []
outcomes_with work id (Commits ran edges) = refl
outcomes_with work id (Aborts cause) = refl

-- with what was decided, the block in work has one outcome more
pub one_more : (old new : BlockInWork) (id : List ℕ) (decided : TxDecision) → work_of new ≡ with_decided (work_of old) id decided → new.outcomes.items ≡ old.outcomes.items ++ record { id = id; outcome = found_by decided } ∷ []
one_more old new id decided is = ap (λ (work : Work). work.outcomes) is ∙ outcomes_with (work_of old) id decided

-- where the block in work got room before, it is the block in work of the definition
pub goes_on : (app : App) (sealed : List SealedBlock) (old reserved : BlockInWork) (tx : Tx) (decided : TxDecision) (new : Work) → IsSameWork old reserved → new ≡ with_decided (work_of reserved) tx.id decided
    → with_decided (work_of reserved) tx.id decided ≡ work_on app sealed reserved.number (work_of reserved) tx → new ≡ work_on app sealed old.number (work_of old) tx
goes_on app sealed old reserved tx decided new same is decides = is ∙ decides ∙ (λ i. work_on app sealed (same.number i) (same_work old reserved same i) tx)

-- ---- the ids

module _ (old new : IdIndex) (number : ℕ) (outcomes outcomes' : List Told) (id key own : List ℕ) (found : Outcome) (place : Place) (named : id ≡ own) (keyed : key ≡ own)
    (more : outcomes' ≡ outcomes ++ record { id = id; outcome = found } ∷ []) (block : place.block ≡ number) (position : place.pos ≡ length outcomes + 1) (adds : AddsPlace old new key place) where
  abbrev told : Told
  told = record { id = id; outcome = found }

  here : place ≡ record { block = number; pos = 1 + length outcomes }
  here = let counted : length outcomes + 1 ≡ 1 + length outcomes = omega arith in λ i. record { block = block i; pos = (position ∙ counted) i }

  of_told : AddsPlace old new told.id place
  of_told = subst (λ id. AddsPlace old new id place) (keyed ∙ sym named) adds

  pub next_added : (before : IdIndex) → AddsAmong before old number outcomes → AddsAmong before new number outcomes'
  next_added before added = subst (AddsAmong before new number) (sym more) (one_added before old new number outcomes told place added here of_told)

  pub next_places : (sealed : List SealedBlock) → HasFirstPlaces old sealed number outcomes → HasFirstPlaces new sealed number outcomes'
  next_places sealed has = subst (HasFirstPlaces new sealed number) (sym more) (places_more old new sealed number outcomes told place has here of_told)

-- the run of a transaction on the tables of its height, at the time of the block of its height
pub run_is : (app : App) (sealed : List SealedBlock) (history : List Stamped) (tx : Tx) (time : ℤ) (ran : Ran) → history ≡ history_of sealed → time ≡ time_at tx.height sealed
    → ran ≡ run app tx time (tables_at tx.height history) → ran ≡ run_at app sealed tx
run_is app sealed history tx time ran writes then is = is ∙ (λ i. run app tx (then i) (tables_at tx.height (writes i)))

-- room changes no place and adds none
pub with_room : (old reserved : BlockInWork) (P : ℕ → List Told → Type 0) → IsSameWork old reserved → P old.number old.outcomes.items → P reserved.number reserved.outcomes.items
with_room old reserved P same has = subst (λ number. P number reserved.outcomes.items) (sym same.number) (subst (P old.number) (sym same.outcomes) has)

-- what follows of two facts of a call that succeeded
pub on_ok_both : {T E : Type 0} (answer : Result T E) (One Other After : Type 0) → OnOk answer One → OnOk answer Other → (One → Other → After) → OnOk answer After
on_ok_both (Ok value) One Other After one other follows = follows one other
on_ok_both (Err fault) One Other After one other follows = tt
