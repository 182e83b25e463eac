-- What the fold decides names the least.
use Rattle.std.proofs.Common.{All, List, MatchOption, None, Option, Some, [], ap, append-nil, append_assoc, arith, length, refl, subst, sym, ◌+◌, ◌++◌, ◌<◌, ◌∙◌, ◌≡◌, ◌≤◌, ◌∷◌, ℕ}
use Rattle.serial_laws.proofs.Conflicting.{conflict_is_least}
use Rattle.serial_laws.proofs.Dangerous.{danger_is_least}
use Rattle.serial_laws.specs.Conflicts.{HasNoConflict}
use Rattle.serial_laws.specs.Dangers.{HasNoDanger, IsLeastDanger}
use Rattle.serial_laws.specs.CauseLaws.{NamesConflict, NamesTheLeast, OutcomesNameTheLeast, PremisesAreMet, committed_among}
use Rattle.node_model.specs.Danger.{danger}
use Rattle.node_model.specs.Decide.{bad_call, by_run, clash, conflict_outcome, decide, duplicate, early, fault_outcome, future, late_outcome, or_committed, run_at, writes_since}
use Rattle.node_model.specs.Fold.{Work, fold, join_committed, no_work, work_on, work_through}
use Rattle.node_model.specs.History.{SealedBlock, ids_of, ids_told, snapshot, time_at}
use Rattle.node_model.specs.declared.danger.Danger.{Danger}
use Rattle.node_model.specs.declared.outcome.Outcome.TheVariants as outcome
use Rattle.node_model.specs.declared.outcome.Outcome.{Outcome}
use Rattle.node_model.specs.declared.result.Committed.{Committed}
use Rattle.node_model.specs.declared.result.Told.{Told}
use Rattle.node_model.specs.Edges.{StandByPosition}
use Rattle.proc_syntax.proofs.Runs.{writes_in_order}
use Rattle.proc_syntax.specs.Call.{call_fault}
use Rattle.proc_syntax.specs.Declaring.{tables_of}
use Rattle.proc_syntax.specs.declared.call.CallFault.TheVariants.{BadArguments, UnknownProcedure}
use Rattle.proc_syntax.specs.declared.call.CallFault.{CallFault}
use Rattle.proc_syntax.specs.declared.call.Tx.{Tx}
use Rattle.proc_syntax.specs.declared.run.Ending.TheVariants.{Faulted, Good, IllTyped}
use Rattle.proc_syntax.specs.declared.run.Ending.{Ending}
use Rattle.proc_syntax.specs.declared.run.Ran.{Ran}
use Rattle.proc_syntax.specs.declared.tree.App.{App}
use Rattle.rel_base.specs.Late.{LateRead, late}
use Rattle.rel_base.specs.Tables.{Stamped}
use Rattle.rel_base.specs.declared.schema.TableDef.{TableDef}
use Rattle.rel_base.proofs.Lists.{item_at}
use Rattle.std.proofs.lemmas.List.Elements.{All-nil, All-push, All-weaker}
use Rattle.std.proofs.lemmas.List.Quantifiers.{all_pairs_push}
use Rattle.std.proofs.lemmas.List.{length-append}
use Rattle.std.specs.List.{list_any}
use Rattle.std.specs.Option.{IsSomeAnd, option_map, option_or}
use Rattle.std.specs.Prelude.{Bool, cond, false, map, nat_le, slice_get, true}
use Rattle.std.specs.Str.{bytes_eq}

-- ---- what committed stands by position

-- positions rise, and none is above a number
record RiseUpTo (count : ℕ) (committed : List Committed) : Type 0 where
  pub rise : StandByPosition committed
  pub upto : All (λ done. done.pos ≤ count) committed

higher : (count : ℕ) (committed : List Committed) → RiseUpTo count committed → RiseUpTo (count + 1) committed
higher count committed are = record {
  rise = are.rise;
  upto = All-weaker (λ done. done.pos ≤ count) (λ done. done.pos ≤ count + 1) (λ done up. omega (arith, up)) committed are.upto;
}

joined : (count : ℕ) (committed : List Committed) (ran : Ran) (found : Outcome) → RiseUpTo count committed → RiseUpTo (count + 1) (join_committed committed (count + 1) ran found)
joined count committed ran outcome.Committed are =
    let new : Committed = record { pos = count + 1; reads = ran.reads; writes = ran.writes } in
    record {
      rise = all_pairs_push (λ earlier later. earlier.pos < later.pos) committed new are.rise (λ k d within. let up = are.upto k d within in omega (arith, up));
      upto = All-push (λ done. done.pos ≤ count + 1) committed new (higher count committed are).upto (omega arith);
    }
joined count committed ran _ are = higher count committed are

module _ (app : App) (chain : List SealedBlock) (number : ℕ) where
  longer : (work : Work) (tx : Tx) → length (work_on app chain number work tx).outcomes ≡ length work.outcomes + 1
  longer work tx = length-append work.outcomes (record { id = tx.id; outcome = decide app chain number work.outcomes work.committed tx } ∷ [])

  rise_through : (work : Work) (txs : List Tx) → RiseUpTo (length work.outcomes) work.committed
      → RiseUpTo (length (work_through app chain number work txs).outcomes) (work_through app chain number work txs).committed
  rise_through work [] are = are
  rise_through work (tx ∷ rest) are =
      rise_through (work_on app chain number work tx) rest
      (subst (λ count. RiseUpTo count (work_on app chain number work tx).committed) (sym (longer work tx))
      (joined (length work.outcomes) work.committed (run_at app chain tx) (decide app chain number work.outcomes work.committed tx) are))

  pub stand_by_position : (first : List Tx) → StandByPosition (committed_among app chain number first)
  stand_by_position first = (rise_through no_work first (record { rise = λ i j d before within. absurd (omega (arith, within)); upto = All-nil (λ done. done.pos ≤ 0) })).rise

  -- ---- the outcome that is reported of a transaction

  through_append : (work : Work) (first rest : List Tx) → work_through app chain number work (first ++ rest) ≡ work_through app chain number (work_through app chain number work first) rest
  through_append work [] rest = refl
  through_append work (tx ∷ first) rest = through_append (work_on app chain number work tx) first rest

  told_length : (work : Work) (txs : List Tx) → length (work_through app chain number work txs).outcomes ≡ length work.outcomes + length txs
  told_length work [] = omega arith
  told_length work (tx ∷ rest) =
      let one = longer work tx in
      let others = told_length (work_on app chain number work tx) rest in
      omega (arith, one, others)

  told_grow : (work : Work) (txs : List Tx) → (more : List Told) × ((work_through app chain number work txs).outcomes ≡ work.outcomes ++ more)
  told_grow work [] = ([], sym (append-nil work.outcomes))
  told_grow work (tx ∷ rest) =
      let told : Told = record { id = tx.id; outcome = decide app chain number work.outcomes work.committed tx } in
      let others = told_grow (work_on app chain number work tx) rest in
      (told ∷ others.0, others.1 ∙ append_assoc work.outcomes (told ∷ []) others.0)

  -- it is what is decided on what those before it made
  pub told_is : (first : List Tx) (tx : Tx) (rest : List Tx) → let work : Work = work_through app chain number no_work first in
      slice_get (work_through app chain number no_work (first ++ tx ∷ rest)).outcomes (length first) ≡ Some (record { id = tx.id; outcome = decide app chain number work.outcomes work.committed tx })
  told_is first tx rest =
      let work : Work = work_through app chain number no_work first in
      let told : Told = record { id = tx.id; outcome = decide app chain number work.outcomes work.committed tx } in
      let others = told_grow (work_on app chain number work tx) rest in
      let count : length work.outcomes ≡ length first = let long = told_length no_work first in omega (arith, long) in
      ap (λ (work : Work). slice_get work.outcomes (length first)) (through_append no_work first (tx ∷ rest))
      ∙ ap (λ told. slice_get told (length first)) (others.1 ∙ append_assoc work.outcomes (told ∷ []) others.0)
      ∙ subst (λ n. slice_get (work.outcomes ++ told ∷ others.0) n ≡ Some told) count (item_at work.outcomes told others.0)

pub premises_are_met : PremisesAreMet
premises_are_met app chain number first tx = (stand_by_position app chain number first, writes_in_order app tx (time_at tx.height chain) (snapshot tx.height chain))

-- ---- the outcome that is decided

module _ (exact : Bool) (tables : List TableDef) (committed : List Committed) (ran : Ran) where
  -- a cause that may be there names the least
  abbrev NamesIfSome : Option Outcome → Type 0
  NamesIfSome None = Unit {0}
  NamesIfSome (Some found) = NamesTheLeast exact tables committed ran found

  names_either : (first second : Option Outcome) → NamesIfSome first → NamesIfSome second → NamesIfSome (option_or first second)
  names_either None second is rest = rest
  names_either (Some found) second is rest = is

  names_next : (first second : Option Outcome) → NamesIfSome first → NamesTheLeast exact tables committed ran (or_committed second) → NamesTheLeast exact tables committed ran (or_committed (option_or first second))
  names_next None second is rest = rest
  names_next (Some found) second is rest = is

  names_if : (b : Bool) (found : Outcome) → NamesTheLeast exact tables committed ran found → NamesIfSome (cond b (Some found) None)
  names_if true found is = is
  names_if false found is = tt

  names_bad_call : (fault : Option CallFault) → NamesIfSome (bad_call fault)
  names_bad_call None = tt
  names_bad_call (Some UnknownProcedure) = tt
  names_bad_call (Some BadArguments) = tt

  names_early : (app : App) (ids : List (List ℕ)) (number : ℕ) (tx : Tx) → NamesIfSome (early app ids number tx)
  names_early app ids number tx = names_either (duplicate ids tx) (option_or (future number tx) (bad_call (call_fault app tx))) (names_if (list_any (bytes_eq tx.id) ids) outcome.DuplicateId tt)
      (names_either (future number tx) (bad_call (call_fault app tx)) (names_if (nat_le number tx.height) outcome.FutureHeight tt) (names_bad_call (call_fault app tx)))

  names_late : (found : Option LateRead) → NamesIfSome (late_outcome tables found)
  names_late None = tt
  names_late (Some found) = tt

  names_fault : (ending : Ending) → NamesIfSome (fault_outcome ending)
  names_fault Good = tt
  names_fault (Faulted fault) = tt
  names_fault IllTyped = tt

  names_conflict : (found : Outcome) → NamesConflict committed ran.writes found → NamesTheLeast exact tables committed ran found
  names_conflict (outcome.WriteConflict named) is = is
  names_conflict _ is = absurd is

  names_last : (conflict : Option Outcome) (found : Option Danger) → MatchOption conflict (HasNoConflict committed ran.writes) (NamesConflict committed ran.writes)
      → MatchOption found (HasNoDanger tables committed ran.reads ran.writes exact) (IsLeastDanger tables committed ran.reads ran.writes exact)
      → NamesTheLeast exact tables committed ran (or_committed (option_or conflict (option_map outcome.Danger found)))
  names_last (Some conflict) found is _ = names_conflict conflict is
  names_last None (Some found) none is = (none, is)
  names_last None None none safe = (none, safe)

module _ (app : App) (chain : List SealedBlock) (number : ℕ) (first : List Tx) (tx : Tx) where
  names_by_run : (since : List Stamped) → let committed : List Committed = committed_among app chain number first in
      NamesTheLeast app.exact (tables_of app) committed (run_at app chain tx) (or_committed (by_run app.exact (tables_of app) since committed (run_at app chain tx)))
  names_by_run since =
      let ran : Ran = run_at app chain tx in
      let committed : List Committed = committed_among app chain number first in
      let met = premises_are_met app chain number first tx in
      names_next app.exact (tables_of app) committed ran (late_outcome (tables_of app) (late (tables_of app) (map (λ made. made.read) ran.reads) since)) _
      (names_late app.exact (tables_of app) committed ran (late (tables_of app) (map (λ made. made.read) ran.reads) since))
      (names_next app.exact (tables_of app) committed ran (fault_outcome ran.ending) _ (names_fault app.exact (tables_of app) committed ran ran.ending)
      (names_last app.exact (tables_of app) committed ran (conflict_outcome ran.writes (clash committed ran.writes)) (danger app.exact (tables_of app) committed ran.reads ran.writes)
      (conflict_is_least committed ran.writes met.0 met.1) (danger_is_least app.exact (tables_of app) committed ran.reads ran.writes met.0)))

  names_decided : (outcomes : List Told) → let committed : List Committed = committed_among app chain number first in
      NamesTheLeast app.exact (tables_of app) committed (run_at app chain tx) (decide app chain number outcomes committed tx)
  names_decided outcomes =
      let committed : List Committed = committed_among app chain number first in
      names_next app.exact (tables_of app) committed (run_at app chain tx) (early app (ids_of chain ++ ids_told outcomes) number tx) _
      (names_early app.exact (tables_of app) committed (run_at app chain tx) app (ids_of chain ++ ids_told outcomes) number tx)
      (names_by_run (writes_since chain number tx))

pub outcomes_name_the_least : OutcomesNameTheLeast
outcomes_name_the_least app blocks block first tx rest is =
    let chain : List SealedBlock = fold app blocks in
    let names : Told → Type 0 = λ told. NamesTheLeast app.exact (tables_of app) (committed_among app chain block.number first) (run_at app chain tx) told.outcome in
    subst (λ txs. IsSomeAnd (slice_get (work_through app chain block.number no_work txs).outcomes (length first)) names) (sym is)
    (subst (λ found. IsSomeAnd found names) (sym (told_is app chain block.number first tx rest))
    (names_decided app chain block.number first tx (work_through app chain block.number no_work first).outcomes))
