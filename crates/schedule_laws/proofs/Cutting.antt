-- What is decided by a record that was cut is what the whole run decides.
use Rattle.std.proofs.Common.{Bool, IsSome, List, None, Option, Some, [], ap, arith, bytes_eq, cond, false, length, map, refl, subst, sym, true, ◌+◌, ◌++◌, ◌-◌, ◌∙◌, ◌≡◌, ◌∷◌, ℕ}
use Rattle.node_model.specs.Danger.{danger}
use Rattle.node_model.specs.Decide.{bad_call, clash, conflict_outcome, early, fault_outcome, late_outcome, or_committed, run_at, writes_since}
use Rattle.node_model.specs.Fold.{Work, join_committed, work_by, work_on}
use Rattle.node_model.specs.History.{SealedBlock, history_of, ids_of, ids_told}
use Rattle.node_model.specs.declared.outcome.Outcome.TheVariants as outcome
use Rattle.node_model.specs.declared.outcome.Outcome.{Outcome}
use Rattle.node_model.specs.declared.result.Committed.{Committed}
use Rattle.proc_syntax.specs.Call.{call_fault}
use Rattle.proc_syntax.specs.Declaring.{tables_of}
use Rattle.proc_syntax.specs.declared.call.CallFault.TheVariants.{BadArguments, UnknownProcedure}
use Rattle.proc_syntax.specs.declared.call.CallFault.{CallFault}
use Rattle.proc_syntax.specs.declared.call.Tx.{Tx}
use Rattle.proc_syntax.specs.declared.run.Ran.{Ran}
use Rattle.proc_syntax.specs.declared.tree.App.{App}
use Rattle.rel_base.specs.Late.{LateRead, late, late_at, late_from, least_hit}
use Rattle.rel_base.specs.Tables.{Stamped, writes_between}
use Rattle.rel_base.specs.declared.access.Made.{Made}
use Rattle.rel_base.specs.declared.access.Read.{Read}
use Rattle.rel_base.specs.declared.schema.TableDef.{TableDef}
use Rattle.schedule_laws.specs.Laws.{CutReadsTell, RecordsDecide}
use Rattle.std.proofs.lemmas.Bool.{false≢true}
use Rattle.std.proofs.lemmas.List.{map-append}
use Rattle.std.proofs.lemmas.Option.{none-some, same_Some}
use Rattle.std.specs.List.{list_any}
use Rattle.std.specs.Prelude.{nat_le}
use Rattle.std.specs.Option.{option_map, option_or}

-- ---- late reads

at-keeps : (number : ℕ) (read : Read) (hit : Option Stamped) (later longer : Option LateRead) → (IsSome later → longer ≡ later) → IsSome (late_at number read hit later)
    → late_at number read hit longer ≡ late_at number read hit later
at-keeps number read None later longer same some = same some
at-keeps number read (Some write) later longer same some = refl

at-some : (number : ℕ) (read : Read) (hit : Option Stamped) (later : Option LateRead) → IsSome later → IsSome (late_at number read hit later)
at-some number read None later some = some
at-some number read (Some write) later some = refl

at-hit : (number : ℕ) (read : Read) (hit : Option Stamped) (later : Option LateRead) → IsSome hit → IsSome (late_at number read hit later)
at-hit number read None later some = absurd (false≢true some)
at-hit number read (Some write) later some = refl

module _ (tables : List TableDef) (writes : List Stamped) where
  -- reads after a late one change nothing
  late-append : (number : ℕ) (xs ys : List Read) → IsSome (late_from number tables xs writes) → late_from number tables (xs ++ ys) writes ≡ late_from number tables xs writes
  late-append number [] ys some = absurd (false≢true some)
  late-append number (x ∷ xs) ys some =
      at-keeps number x (least_hit tables x writes) (late_from (number + 1) tables xs writes) (late_from (number + 1) tables (xs ++ ys) writes) (late-append (number + 1) xs ys) some

  -- a read that is hit is the late one, or one before it is
  late-last : (number : ℕ) (xs : List Read) (x : Read) → IsSome (least_hit tables x writes) → IsSome (late_from number tables (xs ++ x ∷ []) writes)
  late-last number [] x some = at-hit number x (least_hit tables x writes) None some
  late-last number (y ∷ ys) x some = at-some number y (least_hit tables y writes) (late_from (number + 1) tables (ys ++ x ∷ []) writes) (late-last (number + 1) ys x some)

abbrev reads_of : List Made → List Read
reads_of mades = map (λ made. made.read) mades

pub cut_reads_tell : CutReadsTell
cut_reads_tell app sealed tx reads cut =
    let since : List Stamped = writes_since sealed (length sealed + 1) tx in
    let upto : length sealed + 1 - 1 ≡ length sealed = omega arith in
    let hit : IsSome (least_hit (tables_of app) cut.last.read since) = subst (λ high. IsSome (least_hit (tables_of app) cut.last.read (writes_between tx.height high (history_of sealed)))) (sym upto) cut.hit in
    let ends : reads_of reads ≡ reads_of cut.before ++ cut.last.read ∷ [] = ap reads_of cut.ends ∙ map-append (λ (made : Made). made.read) cut.before (cut.last ∷ []) in
    let some : IsSome (late (tables_of app) (reads_of reads) since) = subst (λ rs. IsSome (late (tables_of app) rs since)) (sym ends) (late-last (tables_of app) since 1 (reads_of cut.before) cut.last.read hit) in
    let whole : reads_of (run_at app sealed tx).reads ≡ reads_of reads ++ reads_of cut.front.0 = ap reads_of (sym cut.front.1) ∙ map-append (λ (made : Made). made.read) reads cut.front.0 in
    (some, ap (λ rs. late (tables_of app) rs since) whole ∙ late-append (tables_of app) since 1 (reads_of reads) (reads_of cut.front.0) some)

-- ---- outcomes that hang on no run

module _ (committed : List Committed) (pos : ℕ) (one two : Ran) where
  -- a transaction that does not commit leaves the committed ones as they are, whatever its run
  abbrev Leaves : Outcome → Type 0
  Leaves found = join_committed committed pos one found ≡ join_committed committed pos two found

  named_by : (found o : Outcome) → Leaves found → Some found ≡ Some o → Leaves o
  named_by found o leaves is = subst Leaves (same_Some found o is) leaves

  bad_leaves : (fault : Option CallFault) (o : Outcome) → bad_call fault ≡ Some o → Leaves o
  bad_leaves None o is = absurd (none-some o is)
  bad_leaves (Some UnknownProcedure) o is = named_by outcome.UnknownProcedure o refl is
  bad_leaves (Some BadArguments) o is = named_by outcome.BadArguments o refl is

  early_leaves : (app : App) (ids : List (List ℕ)) (number : ℕ) (tx : Tx) (o : Outcome) → early app ids number tx ≡ Some o → Leaves o
  early_leaves app ids number tx o is = by (list_any (bytes_eq tx.id) ids) (nat_le number tx.height) (call_fault app tx) is where
    by : (a b : Bool) (fault : Option CallFault) → option_or (cond a (Some outcome.DuplicateId) None) (option_or (cond b (Some outcome.FutureHeight) None) (bad_call fault)) ≡ Some o → Leaves o
    by true b fault is = named_by outcome.DuplicateId o refl is
    by false true fault is = named_by outcome.FutureHeight o refl is
    by false false fault is = bad_leaves fault o is

-- what is decided of a transaction, by a cause that may be known without a run and one that the run shows
abbrev done_by : ℕ → Work → Tx → Ran → Option Outcome → Option Outcome → Work
done_by number work tx ran early shown = record {
  outcomes = work.outcomes ++ record { id = tx.id; outcome = or_committed (option_or early shown) } ∷ [];
  committed = join_committed work.committed (length work.outcomes + 1) ran (or_committed (option_or early shown));
}

module _ (number : ℕ) (work : Work) (tx : Tx) (one two : Ran) where
  -- an early cause hangs on no run
  by_early : (found first second : Option Outcome) → IsSome found → ((o : Outcome) → found ≡ Some o → Leaves work.committed (length work.outcomes + 1) one two o)
      → done_by number work tx one found first ≡ done_by number work tx two found second
  by_early None first second some leaves = absurd (false≢true some)
  by_early (Some o) first second some leaves = ap (λ committed. record { outcomes = work.outcomes ++ record { id = tx.id; outcome = o } ∷ []; committed = committed }) (leaves o refl)

  -- nor does a late read that both runs show
  by_late : (tables : List TableDef) (found : Option Outcome) (first second : Option Outcome) (late : Option LateRead) → IsSome late
      → ((o : Outcome) → found ≡ Some o → Leaves work.committed (length work.outcomes + 1) one two o)
      → done_by number work tx one found (option_or (late_outcome tables late) first) ≡ done_by number work tx two found (option_or (late_outcome tables late) second)
  by_late tables (Some o) first second late some leaves = by_early (Some o) (option_or (late_outcome tables late) first) (option_or (late_outcome tables late) second) refl leaves
  by_late tables None first second None some leaves = absurd (false≢true some)
  by_late tables None first second (Some found) some leaves = refl

pub early_decides : (app : App) (sealed : List SealedBlock) (number : ℕ) (work : Work) (tx : Tx) (one two : Ran) → IsSome (early app (ids_of sealed ++ ids_told work.outcomes) number tx)
    → work_by app sealed number work tx one ≡ work_by app sealed number work tx two
early_decides app sealed number work tx one two some =
    by_early number work tx one two (early app (ids_of sealed ++ ids_told work.outcomes) number tx) _ _ some
    (early_leaves work.committed (length work.outcomes + 1) one two app (ids_of sealed ++ ids_told work.outcomes) number tx)

pub records_decide : RecordsDecide
records_decide app sealed work tx recorded tells = by recorded.cut refl where
  number : ℕ
  number = length sealed + 1

  by : (c : Bool) → recorded.cut ≡ c → work_by app sealed (length sealed + 1) work tx recorded.ran ≡ work_on app sealed (length sealed + 1) work tx
  by false e = ap (work_by app sealed (length sealed + 1) work tx) (tells.if_whole e)
  by true e =
      let found = cut_reads_tell app sealed tx recorded.ran.reads (tells.if_cut e) in
      let since : List Stamped = writes_since sealed (length sealed + 1) tx in
      let ids : List (List ℕ) = ids_of sealed ++ ids_told work.outcomes in
      let shown : Option LateRead → Ran → Work = λ late ran. done_by (length sealed + 1) work tx ran (early app ids (length sealed + 1) tx)
      (option_or (late_outcome (tables_of app) late) (option_or (fault_outcome ran.ending) (option_or (conflict_outcome ran.writes (clash work.committed ran.writes)) (option_map outcome.Danger (danger app.exact (tables_of app) work.committed ran.reads ran.writes))))) in
      by_late (length sealed + 1) work tx recorded.ran (run_at app sealed tx) (tables_of app) (early app ids (length sealed + 1) tx) _ _ (late (tables_of app) (reads_of recorded.ran.reads) since) found.0
      (early_leaves work.committed (length work.outcomes + 1) recorded.ran (run_at app sealed tx) app ids (length sealed + 1) tx)
      ∙ ap (λ late. shown late (run_at app sealed tx)) (sym found.1)
