-- Each cause is one of an abort, and the key that it names has few values.
use Rattle.std.proofs.Common.{All, Bool, IfSome, List, None, Option, Some, [], ap, cond, false, map, refl, sym, true, ◌+◌, ◌∙◌, ◌≡◌, ◌∷◌, ℕ}
use Rattle.std.proofs.lemmas.List.Elements.{All-filter, All-head, All-tail}
use Rattle.std.specs.List.{filter}
use Rattle.std.specs.Option.{option_map, option_or}
use Rattle.std.specs.Ordering.{is_gt}
use Rattle.std.specs.Prelude.{slice_get}
use Rattle.block_work.proofs.Bounds.{at_place, fitting_few}
use Rattle.block_work.specs.Causes.{IsCause, before_edges}
use Rattle.node_model.specs.Danger.{danger}
use Rattle.node_model.specs.Decide.{by_run, clash, conflict_outcome, fault_outcome, is_committed, late_outcome, or_committed}
use Rattle.node_model.specs.Fold.{join_committed}
use Rattle.node_model.specs.declared.outcome.Outcome.TheVariants as outcome
use Rattle.node_model.specs.declared.outcome.Outcome.{Outcome}
use Rattle.node_model.specs.declared.result.Committed.{Committed}
use Rattle.proc_check.specs.Sizes.{IsSmall}
use Rattle.proc_syntax.specs.declared.run.Ending.TheVariants.{Faulted, Good, IllTyped}
use Rattle.proc_syntax.specs.declared.run.Ending.{Ending}
use Rattle.proc_syntax.specs.declared.run.Ran.{Ran}
use Rattle.rel_base.specs.Among.{WriteFitsIn}
use Rattle.rel_base.specs.Late.{LateRead, late, late_at, late_from, least, least_hit, lesser, stamp_cmp}
use Rattle.rel_base.specs.Tables.{HistoryFits, Stamped, writes_between}
use Rattle.rel_base.specs.declared.access.Read.{Read}
use Rattle.rel_base.specs.declared.access.Write.{Write}
use Rattle.rel_base.specs.declared.schema.TableDef.{TableDef}

-- with an abort the committed transactions stay as they are
pub join_abort : (committed : List Committed) (pos : ℕ) (ran : Ran) (found : Outcome) → is_committed found ≡ false → join_committed committed pos ran found ≡ committed
join_abort committed pos ran outcome.Committed is = cc
join_abort committed pos ran outcome.DuplicateId is = refl
join_abort committed pos ran outcome.FutureHeight is = refl
join_abort committed pos ran outcome.UnknownProcedure is = refl
join_abort committed pos ran outcome.BadArguments is = refl
join_abort committed pos ran (outcome.Late late) is = refl
join_abort committed pos ran (outcome.Fault fault) is = refl
join_abort committed pos ran (outcome.WriteConflict clash) is = refl
join_abort committed pos ran (outcome.Danger danger) is = refl

-- if there is an outcome, it is a cause
abbrev MayBeCause : Option Outcome → Type 0
MayBeCause found = IfSome found IsCause

else_cause : (first second : Option Outcome) → MayBeCause first → MayBeCause second → MayBeCause (option_or first second)
else_cause None second is rest = rest
else_cause (Some found) second is rest = is

fault_cause : (ending : Ending) → MayBeCause (fault_outcome ending)
fault_cause Good = tt
fault_cause (Faulted fault) = (refl, tt)
fault_cause IllTyped = (refl, tt)

module _ (tables : List TableDef) (small : All IsSmall tables) where
  clash_cause : (with : ℕ) (found : Option Write) → IfSome found (WriteFitsIn tables)
      → MayBeCause (option_map (λ write. outcome.WriteConflict (record { with = with; table = write.table; key = write.key })) found)
  clash_cause with None fits = tt
  clash_cause with (Some write) fits = (refl, (fitting_few tables small with write fits).key)

  conflict_cause : (writes : List Write) (found : Option (ℕ × ℕ)) → All (WriteFitsIn tables) writes → MayBeCause (conflict_outcome writes found)
  conflict_cause writes None fits = tt
  conflict_cause writes (Some found) fits = clash_cause found.0 (slice_get writes found.1) (at_place (WriteFitsIn tables) writes found.1 fits)

  abbrev FitsAt : Stamped → Type 0
  FitsAt stamped = WriteFitsIn tables stamped.1.write

  lesser_fits : (stamped : Stamped) (other : Option Stamped) → FitsAt stamped → IfSome other FitsAt → FitsAt (lesser stamp_cmp stamped other)
  lesser_fits stamped None fits others = fits
  lesser_fits stamped (Some other) fits others = either (is_gt (stamp_cmp stamped other)) others fits
    where
      either : (b : Bool) → FitsAt other → FitsAt stamped → FitsAt (cond b other stamped)
      either true first second = first
      either false first second = second

  least_fits : (writes : List Stamped) → All FitsAt writes → IfSome (least stamp_cmp writes) FitsAt
  least_fits [] fits = tt
  least_fits (stamped ∷ rest) fits = lesser_fits stamped (least stamp_cmp rest) (All-head FitsAt stamped rest fits) (least_fits rest (All-tail FitsAt stamped rest fits))

  abbrev NamesFitting : Option LateRead → Type 0
  NamesFitting found = IfSome found (λ late. FitsAt late.write)

  late_at_fits : (number : ℕ) (read : Read) (hit : Option Stamped) (later : Option LateRead) → IfSome hit FitsAt → NamesFitting later → NamesFitting (late_at number read hit later)
  late_at_fits number read None later fits rest = rest
  late_at_fits number read (Some hit) later fits rest = fits

  late_fits : (number : ℕ) (reads : List Read) (writes : List Stamped) → All FitsAt writes → NamesFitting (late_from number tables reads writes)
  late_fits number [] writes fits = tt
  late_fits number (read ∷ reads) writes fits =
      late_at_fits number read (least_hit tables read writes) (late_from (number + 1) tables reads writes)
      (least_fits (filter _ writes) (All-filter _ FitsAt writes fits)) (late_fits (number + 1) reads writes fits)

  late_cause : (found : Option LateRead) → NamesFitting found → MayBeCause (late_outcome tables found)
  late_cause None fits = tt
  late_cause (Some found) fits = (refl, (fitting_few tables small found.write.1.pos found.write.1.write fits).key)

  -- what a run shows without its edges, on a history that fits, is a cause
  pub shown_cause : (low high : ℕ) (history : List Stamped) (committed : List Committed) (ran : Ran) → HistoryFits tables history → All (WriteFitsIn tables) ran.writes
      → MayBeCause (before_edges tables (writes_between low high history) committed ran)
  shown_cause low high history committed ran fits writes_fit =
      else_cause _ _ (late_cause (late tables (map (λ made. made.read) ran.reads) (writes_between low high history))
      (late_fits 1 (map (λ made. made.read) ran.reads) (writes_between low high history) (All-filter _ FitsAt history fits)))
      (else_cause _ _ (fault_cause ran.ending) (conflict_cause ran.writes (clash committed ran.writes) writes_fit))

-- ---- the first of the causes of a run

or_last : (a b c d : Option Outcome) → option_or a (option_or b (option_or c d)) ≡ option_or (option_or a (option_or b c)) d
or_last None None c d = refl
or_last None (Some b) c d = refl
or_last (Some a) b c d = refl

module _ (exact : Bool) (tables : List TableDef) (since : List Stamped) (committed : List Committed) (ran : Ran) where
  by_parts : by_run exact tables since committed ran ≡ option_or (before_edges tables since committed ran) (option_map outcome.Danger (danger exact tables committed ran.reads ran.writes))
  by_parts =
      or_last (late_outcome tables (late tables (map (λ made. made.read) ran.reads) since)) (fault_outcome ran.ending) (conflict_outcome ran.writes (clash committed ran.writes))
      (option_map outcome.Danger (danger exact tables committed ran.reads ran.writes))

  -- where nothing else aborts a transaction, its danger decides
  pub danger_decides : before_edges tables since committed ran ≡ None → or_committed (option_map outcome.Danger (danger exact tables committed ran.reads ran.writes)) ≡ or_committed (by_run exact tables since committed ran)
  danger_decides none = ap (λ first. or_committed (option_or first (option_map outcome.Danger (danger exact tables committed ran.reads ran.writes)))) (sym none) ∙ ap or_committed (sym by_parts)

  -- a cause that it shows without its edges comes before a danger
  pub cause_decides : (cause : Outcome) → before_edges tables since committed ran ≡ Some cause → cause ≡ or_committed (by_run exact tables since committed ran)
  cause_decides cause is = ap (λ first. or_committed (option_or first (option_map outcome.Danger (danger exact tables committed ran.reads ran.writes)))) (sym is) ∙ ap or_committed (sym by_parts)
