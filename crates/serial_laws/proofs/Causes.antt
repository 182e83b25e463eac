-- What it says of a transaction that it committed: none of the causes applies.
use Rattle.std.proofs.Common.{All, List, None, Option, Some, [], arith, cond, inl, inr, map, refl, subst, sym, false, true, ◌++◌, ◌≡◌, ◌∷◌, ℕ}
use Rattle.node_model.specs.Danger.{danger}
use Rattle.node_model.specs.Decide.{bad_call, by_run, clash, clash_at, conflict_outcome, decide, duplicate, early, fault_outcome, first_shared, future, is_shared, late_outcome, or_committed, run_at, writes_since}
use Rattle.node_model.specs.History.{SealedBlock, ids_of, ids_told}
use Rattle.node_model.specs.declared.danger.Danger.{Danger}
use Rattle.node_model.specs.declared.outcome.Outcome.TheVariants as outcome
use Rattle.node_model.specs.declared.outcome.Outcome.{Outcome}
use Rattle.node_model.specs.declared.result.Committed.{Committed}
use Rattle.node_model.specs.declared.result.Told.{Told}
use Rattle.proc_syntax.specs.Call.{call_fault}
use Rattle.proc_syntax.specs.Declaring.{tables_of}
use Rattle.proc_syntax.specs.declared.call.CallFault.TheVariants.{BadArguments, UnknownProcedure}
use Rattle.proc_syntax.specs.declared.call.CallFault.{CallFault}
use Rattle.proc_syntax.specs.declared.call.Tx.{Tx}
use Rattle.proc_syntax.specs.declared.run.Ending.TheVariants.{Faulted, Good, IllTyped}
use Rattle.proc_syntax.specs.declared.run.Ending.{Ending}
use Rattle.proc_syntax.specs.declared.run.Ran.{Ran}
use Rattle.proc_syntax.specs.declared.tree.App.{App}
use Rattle.rel_base.proofs.Least.{late-is, least_hit-is}
use Rattle.rel_base.proofs.Positions.{answers}
use Rattle.rel_base.specs.Late.{LateRead, hits_in, late, least_hit}
use Rattle.rel_base.specs.Tables.{Stamped, ref_cmp, write_ref}
use Rattle.rel_base.specs.declared.access.Made.{Made}
use Rattle.rel_base.specs.declared.access.Read.{Read}
use Rattle.rel_base.specs.declared.access.Write.{Write}
use Rattle.rel_base.specs.declared.schema.TableDef.{TableDef}
use Rattle.rw_graph.proofs.Lists.{In}
use Rattle.serial_order.proofs.Each.{all_at}
use Rattle.serial_order.proofs.Searches.{any_false, map_none}
use Rattle.serial_laws.proofs.Stories.{KeysApart, differs}
use Rattle.std.specs.List.{list_any, position_from}
use Rattle.std.specs.Option.{option_map, option_or}
use Rattle.std.specs.Ordering.{eq_by_cmp}
use Rattle.std.specs.Prelude.{Bool, IsSomeAnd, MatchOption, nat_le, slice_get, ◌-◌, ◌≤◌}
use Rattle.std.specs.Str.{bytes_eq}

-- ---- causes one after another

-- a cause that may be there is not that it committed
abbrev IsAbort : Option Outcome → Type 0
IsAbort None = Unit {0}
IsAbort (Some found) = found ≡ outcome.Committed → ⊥

both_none : (first second : Option Outcome) → IsAbort first → or_committed (option_or first second) ≡ outcome.Committed → (first ≡ None) × (or_committed second ≡ outcome.Committed)
both_none None second abort e = (refl, e)
both_none (Some found) second abort e = absurd (abort e)

last_none : (found : Option Outcome) → IsAbort found → or_committed found ≡ outcome.Committed → found ≡ None
last_none None abort e = refl
last_none (Some found) abort e = absurd (abort e)

abort_or : (first second : Option Outcome) → IsAbort first → IsAbort second → IsAbort (option_or first second)
abort_or None second a b = b
abort_or (Some found) second a b = a

abort_if : (b : Bool) (found : Outcome) → (found ≡ outcome.Committed → ⊥) → IsAbort (cond b (Some found) None)
abort_if true found abort = abort
abort_if false found abort = tt

abort_call : (fault : Option CallFault) → IsAbort (bad_call fault)
abort_call None = tt
abort_call (Some UnknownProcedure) = λ e. cc
abort_call (Some BadArguments) = λ e. cc

abort_early : (app : App) (ids : List (List ℕ)) (number : ℕ) (tx : Tx) → IsAbort (early app ids number tx)
abort_early app ids number tx =
    abort_or (duplicate ids tx) (option_or (future number tx) (bad_call (call_fault app tx))) (abort_if (list_any (bytes_eq tx.id) ids) outcome.DuplicateId (λ e. cc))
    (abort_or (future number tx) (bad_call (call_fault app tx)) (abort_if (nat_le number tx.height) outcome.FutureHeight (λ e. cc)) (abort_call (call_fault app tx)))

abort_late : (tables : List TableDef) (found : Option LateRead) → IsAbort (late_outcome tables found)
abort_late tables None = tt
abort_late tables (Some found) = λ e. cc

abort_fault : (ending : Ending) → IsAbort (fault_outcome ending)
abort_fault Good = tt
abort_fault (Faulted fault) = λ e. cc
abort_fault IllTyped = λ e. cc

abort_conflict : (writes : List Write) (found : Option (ℕ × ℕ)) → IsAbort (conflict_outcome writes found)
abort_conflict writes None = tt
abort_conflict writes (Some found) = by_write (slice_get writes found.1)
  where
    by_write : (o : Option Write) → IsAbort (option_map (λ write. outcome.WriteConflict (record { with = found.0; table = write.table; key = write.key })) o)
    by_write None = tt
    by_write (Some write) = λ e. cc

abort_danger : (found : Option Danger) → IsAbort (option_map outcome.Danger found)
abort_danger None = tt
abort_danger (Some found) = λ e. cc

-- a transaction with none of the causes that are known without a run can begin
can_begin : (app : App) (ids : List (List ℕ)) (number : ℕ) (tx : Tx) → early app ids number tx ≡ None → call_fault app tx ≡ None
can_begin app ids number tx e = no_fault_of (call_fault app tx) (second_none (future number tx) _ (second_none (duplicate ids tx) _ e))
  where
    second_none : (first second : Option Outcome) → option_or first second ≡ None → second ≡ None
    second_none None second e = e
    second_none (Some found) second e = cc

    no_fault_of : (fault : Option CallFault) → bad_call fault ≡ None → fault ≡ None
    no_fault_of None e = refl
    no_fault_of (Some UnknownProcedure) e = cc
    no_fault_of (Some BadArguments) e = cc

-- ---- no late read

no_late : (tables : List TableDef) (found : Option LateRead) → late_outcome tables found ≡ None → found ≡ None
no_late tables None e = refl
no_late tables (Some found) e = cc

in_map : {X Y : Type 0} (f : X → Y) (xs : List X) (x : X) → In x xs → In (f x) (map f xs)
in_map f [] x h = absurd h
in_map f (y ∷ ys) x (inl e) = inl (λ i. f (e i))
in_map f (y ∷ ys) x (inr h) = inr (in_map f ys x h)

-- where no read is late, none hits a write
pub none_hit : (tables : List TableDef) (reads : List Made) (since : List Stamped) → late tables (map (λ made. made.read) reads) since ≡ None
    → (made : Made) → In made reads → (s : Stamped) → In s since → hits_in tables made.read s.1.write ≡ false
none_hit tables reads since none made h s k =
    let all : All (λ read. least_hit tables read since ≡ None) (map (λ made. made.read) reads) =
    subst (λ found. MatchOption found (All (λ read. least_hit tables read since ≡ None) (map (λ (made : Made). made.read) reads)) (λ found. Unit {0})) none
    (weaker _ _ (late tables (map (λ made. made.read) reads) since) (late-is tables (map (λ made. made.read) reads) since)) in
    all_at (λ (other : Stamped). hits_in tables made.read other.1.write ≡ false) since
    (missed made.read (all_at (λ read. least_hit tables read since ≡ None) (map (λ (made : Made). made.read) reads) all made.read (in_map (λ (made : Made). made.read) reads made h))) s k
  where
    weaker : {X : Type 0} (A : Type 0) (B : X → Type 0) (found : Option X) → MatchOption found A B → MatchOption found A (λ found. Unit {0})
    weaker A B None a = a
    weaker A B (Some x) b = tt

    missed : (read : Read) → least_hit tables read since ≡ None → All (λ (other : Stamped). hits_in tables read other.1.write ≡ false) since
    missed read is =
        subst (λ found. MatchOption found (All (λ (other : Stamped). hits_in tables read other.1.write ≡ false) since) (λ found. Unit {0})) is
        (weaker _ _ (least_hit tables read since) (least_hit-is tables read since))

-- ---- no write conflict

found_there : (test : Write → Bool) (writes : List Write) (index : ℕ) → position_from test 0 writes ≡ Some index → slice_get writes index ≡ None → ⊥
found_there test writes index is none =
    let here : index - 0 ≡ index = omega arith in
    some_not_none (slice_get writes index) (subst (λ n. IsSomeAnd (slice_get writes n) (λ write. test write ≡ true)) here
    (subst (λ found. MatchOption found (All (λ write. test write ≡ false) writes) (λ k. (0 ≤ k) × IsSomeAnd (slice_get writes (k - 0)) (λ write. test write ≡ true))) is (answers test 0 writes)).1) none
  where
    some_not_none : (o : Option Write) → IsSomeAnd o (λ write. test write ≡ true) → o ≡ None → ⊥
    some_not_none None there e = there
    some_not_none (Some write) there e = cc

none_shared : (others writes : List Write) → first_shared others writes ≡ None → KeysApart others writes
none_shared others writes none v h u k same =
    let all : All (λ write. is_shared others write ≡ false) writes =
    subst (λ found. MatchOption found (All (λ write. is_shared others write ≡ false) writes) (λ k. (0 ≤ k) × IsSomeAnd (slice_get writes (k - 0)) (λ write. is_shared others write ≡ true))) none (answers (is_shared others) 0 writes) in
    differs (write_ref u) (write_ref v) (any_false (λ other. eq_by_cmp ref_cmp (write_ref u) (write_ref other)) others (all_at (λ write. is_shared others write ≡ false) writes all u k) v h) (sym same)

-- where there is no conflict, no committed transaction wrote a key of the writes
pub no_conflict : (committed : List Committed) (writes : List Write) → conflict_outcome writes (clash committed writes) ≡ None → (done : Committed) → In done committed → KeysApart done.writes writes
no_conflict [] writes e done h = absurd h
no_conflict (first ∷ rest) writes e done h = step (first_shared first.writes writes) refl e (λ later k. no_conflict rest writes later done k)
  where
    at : first_shared first.writes writes ≡ None → (In done rest → KeysApart done.writes writes) → In done (first ∷ rest) → KeysApart done.writes writes
    at none others (inl same) = subst (λ (t : Committed). KeysApart t.writes writes) same (none_shared first.writes writes none)
    at none others (inr k) = others k

    step : (found : Option ℕ) → first_shared first.writes writes ≡ found → conflict_outcome writes (clash_at first found (clash rest writes)) ≡ None
        → (conflict_outcome writes (clash rest writes) ≡ None → In done rest → KeysApart done.writes writes) → KeysApart done.writes writes
    step None is e others = at is (others e) h
    step (Some index) is e others = absurd (found_there (is_shared first.writes) writes index is (map_none _ (slice_get writes index) e))

-- ---- committed

-- what holds of a transaction that committed
pub record HasNoCause (app : App) (chain : List SealedBlock) (number : ℕ) (committed : List Committed) (tx : Tx) : Type 0 where
  pub early : late (tables_of app) (map (λ made. made.read) (run_at app chain tx).reads) (writes_since chain number tx) ≡ None
  pub begins : call_fault app tx ≡ None
  pub no_fault : fault_outcome (run_at app chain tx).ending ≡ None
  pub apart : (done : Committed) → In done committed → KeysApart done.writes (run_at app chain tx).writes
  pub safe : danger app.exact (tables_of app) committed (run_at app chain tx).reads (run_at app chain tx).writes ≡ None

pub has_no_cause : (app : App) (chain : List SealedBlock) (number : ℕ) (outcomes : List Told) (committed : List Committed) (tx : Tx) → decide app chain number outcomes committed tx ≡ outcome.Committed
    → HasNoCause app chain number committed tx
has_no_cause app chain number outcomes committed tx e =
    let ran : Ran = run_at app chain tx in
    let one = both_none (early app (ids_of chain ++ ids_told outcomes) number tx) (by_run app.exact (tables_of app) (writes_since chain number tx) committed ran) (abort_early app (ids_of chain ++ ids_told outcomes) number tx) e in
    let two = both_none (late_outcome (tables_of app) (late (tables_of app) (map (λ made. made.read) ran.reads) (writes_since chain number tx))) _
    (abort_late (tables_of app) (late (tables_of app) (map (λ made. made.read) ran.reads) (writes_since chain number tx))) one.1 in
    let three = both_none (fault_outcome ran.ending) _ (abort_fault ran.ending) two.1 in
    let four = both_none (conflict_outcome ran.writes (clash committed ran.writes)) _ (abort_conflict ran.writes (clash committed ran.writes)) three.1 in
    let five = last_none (option_map outcome.Danger (danger app.exact (tables_of app) committed ran.reads ran.writes)) (abort_danger (danger app.exact (tables_of app) committed ran.reads ran.writes)) four.1 in
    record { early = no_late (tables_of app) _ two.0; begins = can_begin app (ids_of chain ++ ids_told outcomes) number tx one.0; no_fault = three.0; apart = no_conflict committed ran.writes four.0; safe = map_none outcome.Danger _ five }
