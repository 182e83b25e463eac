-- A run of a checked application is never ill typed.
use Rattle.std.proofs.Common.{◌≡◌, ℕ, ℤ, refl, sym, subst, List, [], ◌∷◌, ◌++◌, map, Bool, true, false, cond, ◌||◌, Result, Ok, Err, Option, Some, None, IfSome, append_assoc}
use Rattle.std.specs.FinMap as finite
use Rattle.std.specs.List.{AllByRecursion, find}
use Rattle.std.specs.Str.{bytes_eq}
use Rattle.std.proofs.lemmas.List.{map-append, append-nil}
use Rattle.std.proofs.lemmas.List.Elements.{recursion_from_All}
use Rattle.rel_base.specs.declared.schema.TableDef.{TableDef}
use Rattle.rel_base.specs.declared.value.Value.{Value}
use Rattle.rel_base.specs.Tables.{Tables}
use Rattle.rel_base.proofs.Bits.{first_true, second_true}
use Rattle.proc_syntax.specs.declared.call.CallFault.{CallFault}
use Rattle.proc_syntax.specs.declared.run.Binding.TheVariants.{Plain}
use Rattle.proc_syntax.specs.declared.run.Stop.{Stop}
use Rattle.proc_syntax.specs.declared.run.Stop.TheVariants as stop
use Rattle.proc_syntax.specs.declared.run.Variable.{Variable as Bound}
use Rattle.proc_syntax.specs.declared.tree.App.{App}
use Rattle.proc_syntax.specs.declared.tree.ColumnText.{ColumnText}
use Rattle.proc_syntax.specs.declared.tree.ProcDef.{ProcDef}
use Rattle.proc_syntax.specs.declared.tree.TableText.{TableText}
use Rattle.proc_syntax.specs.Call.{fault_at}
use Rattle.proc_syntax.specs.Declaring.{declare, tables_of}
use Rattle.proc_syntax.specs.Meaning.{Progress, Going, Stopped, in_turn, act}
use Rattle.proc_syntax.specs.Run.{ran, ending_of, called, procedure_named, takes, arguments, start}
use Rattle.proc_syntax.specs.Scope.{bind}
use Rattle.proc_syntax.specs.Values.{has_kind, have_kinds}
use Rattle.proc_syntax.proofs.Sound.{entries-empty}
use Rattle.proc_check.specs.declared.fault.Bad.{Bad}
use Rattle.proc_check.specs.declared.fault.BadKind.TheVariants.{Limit, NameTwice}
use Rattle.proc_check.specs.declared.scope.Sort.TheVariants as sort
use Rattle.proc_check.specs.declared.scope.Variable.{Variable}
use Rattle.proc_check.specs.Apps.{parameter, walk_proc, walk_app, fault_of}
use Rattle.proc_check.specs.Laws.{IsTyped, CheckedRunsAreTyped}
use Rattle.proc_check.specs.Scope.{look_up}
use Rattle.proc_check.specs.Statements.{block, walk_stmt}
use Rattle.proc_check.specs.Tables.{walk_table}
use Rattle.proc_check.specs.Walk.{◌>>=◌, in_order, fresh, has_name, refuse}
use Rattle.proc_check.proofs.Limits.{first, second, not_refused}
use Rattle.proc_check.proofs.Operators.{IsFault, no_truth}
use Rattle.proc_check.proofs.Columns.{none_some}
use Rattle.proc_check.proofs.Names.{Agrees}
use Rattle.proc_check.proofs.Bindings.{agrees_more}
use Rattle.proc_check.proofs.Fitting.{Stands}
use Rattle.proc_check.proofs.Running.{Good, Safe, block_safe}

-- ---- parameters

unseen : (before : List ColumnText) (name : List ℕ) → has_name (λ column. column.name) before name ≡ false → look_up (map parameter before) name ≡ None
unseen [] name h = refl
unseen (column ∷ before) name h =
    elim (bytes_eq column.name.name name) as (λ b. (b || has_name (λ column. column.name) before name) ≡ false → cond b (Some (sort.Value column.kind)) (look_up (map parameter before) name) ≡ None)
    [ true ↦ λ h. cc | false ↦ λ h. unseen before name h ] h

module _ (declared : List TableDef) where
  arguments_agree : (before params : List ColumnText) (values : List Value) (variables : List Bound) → in_order (fresh (λ column. column.name) 16) before params ≡ Ok tt
      → have_kinds (map (λ param. param.kind) params) values ≡ true → Agrees declared (map parameter before) variables → Agrees declared (map parameter (before ++ params)) (arguments variables params values)
  arguments_agree before [] values variables ok kinds agrees = subst (λ ps. Agrees declared (map parameter ps) variables) (sym (append-nil before)) agrees
  arguments_agree before (p ∷ params) [] variables ok kinds agrees = absurd (no_truth kinds)
  arguments_agree before (p ∷ params) (v ∷ values) variables ok kinds agrees =
      let is_fresh = first (fresh (λ column. column.name) 16 before p) (λ _. in_order (fresh (λ column. column.name) 16) (before ++ p ∷ []) params) ok in
      let rest = second (fresh (λ column. column.name) 16 before p) (λ _. in_order (fresh (λ column. column.name) 16) (before ++ p ∷ []) params) ok in
      let none = unseen before p.name.name (not_refused (has_name (λ column. column.name) before p.name.name) p.name.line NameTwice (second (refuse _ p.name.line Limit) (λ _. refuse (has_name (λ column. column.name) before p.name.name) p.name.line NameTwice) is_fresh)) in
      let more = agrees_more declared (map parameter before) variables (parameter p) (Plain v) agrees none (first_true (has_kind p.kind v) _ kinds) in
      subst (λ ps. Agrees declared (map parameter ps) (arguments (bind variables p.name.name (Plain v)) params values)) (append_assoc before (p ∷ []) params)
      (arguments_agree (before ++ p ∷ []) params values (bind variables p.name.name (Plain v)) rest (second_true (has_kind p.kind v) _ kinds)
      (subst (λ scope. Agrees declared scope (bind variables p.name.name (Plain v))) (sym (map-append parameter before (p ∷ []))) more))

-- ---- procedures

record Walked (tables : List TableText) (procedure : ProcDef) : Type 0 where
  pub params : in_order (fresh (λ column. column.name) 16) [] procedure.params ≡ Ok tt
  pub body : block (map (walk_stmt tables) procedure.body) (map parameter procedure.params) ≡ Ok tt

walked_is : (tables : List TableText) (before : List ProcDef) (procedure : ProcDef) → walk_proc tables before procedure ≡ Ok tt → Walked tables procedure
walked_is tables before procedure ok =
    let rest = second (fresh (λ other. other.name) 256 before procedure) (λ _. in_order (fresh (λ column. column.name) 16) [] procedure.params >>= λ _. block (map (walk_stmt tables) procedure.body) (map parameter procedure.params)) ok in
    record {
      params = first (in_order (fresh (λ column. column.name) 16) [] procedure.params) (λ _. block (map (walk_stmt tables) procedure.body) (map parameter procedure.params)) rest;
      body = second (in_order (fresh (λ column. column.name) 16) [] procedure.params) (λ _. block (map (walk_stmt tables) procedure.body) (map parameter procedure.params)) rest;
    }

found_walked : (tables : List TableText) (test : ProcDef → Bool) (before procedures : List ProcDef) → in_order (walk_proc tables) before procedures ≡ Ok tt → IfSome (find test procedures) (Walked tables)
found_walked tables test before [] ok = tt
found_walked tables test before (p ∷ procedures) ok =
    elim (test p) as (λ b. IfSome (cond b (Some p) (find test procedures)) (Walked tables)) [
      | true ↦ walked_is tables before p (first (walk_proc tables before p) (λ _. in_order (walk_proc tables) (before ++ p ∷ []) procedures) ok)
      | false ↦ found_walked tables test (before ++ p ∷ []) procedures (second (walk_proc tables before p) (λ _. in_order (walk_proc tables) (before ++ p ∷ []) procedures) ok)
    ]

-- ---- runs

walk_fine : (walked : Result (Unit {0}) Bad) → fault_of walked ≡ None → walked ≡ Ok tt
walk_fine (Ok walked) h = refl
walk_fine (Err bad) h = absurd (none_some (sym h))

takes_it : (b : Bool) (fault : CallFault) → cond b None (Some fault) ≡ None → b ≡ true
takes_it true fault h = refl
takes_it false fault h = absurd (none_some (sym h))

end_typed : (stopped : Stop) → IsFault stopped → IsTyped (ending_of stopped)
end_typed (stop.Fault fault) h = tt
end_typed stop.IllTyped h = h

module _ (app : App) (S : Tables) (fit : AllByRecursion (Stands (map declare app.tables)) (finite.entries S)) where
  ran_typed : (scope : List Variable) (o : Progress) → Safe app.tables S fit scope o → IsTyped (ran (tables_of app) S o).ending
  ran_typed scope (Going st) s = tt
  ran_typed scope (Stopped st why) s = end_typed why s.is

  start_good : (procedure : ProcDef) (values : List Value) (now : ℤ) → Walked app.tables procedure → takes procedure values ≡ true → Good app.tables S fit (map parameter procedure.params) (start procedure values now)
  start_good procedure values now walked taken = record {
    agrees = arguments_agree (map declare app.tables) [] procedure.params values [] walked.params taken (record { stands = λ name. tt });
    own = rw entries-empty tt;
  }

  called_typed : (procedure : Option ProcDef) (values : List Value) (now : ℤ) → IfSome procedure (Walked app.tables) → fault_at procedure values ≡ None → IsTyped (called app values now S procedure).ending
  called_typed None values now walked begins = absurd (none_some (sym begins))
  called_typed (Some procedure) values now walked begins =
      let taken = takes_it (takes procedure values) _ begins in
      rw taken (ran_typed (map parameter procedure.params) (in_turn (map (act (map declare app.tables) S) procedure.body) (start procedure values now))
      (block_safe app.tables S fit procedure.body (map parameter procedure.params) walked.body (start procedure values now) (start_good procedure values now walked taken)))

pub checked_runs : CheckedRunsAreTyped
checked_runs app tx time tables fine begins fit =
    let walked = second (in_order walk_table [] app.tables) (λ _. in_order (walk_proc app.tables) [] app.procs) (walk_fine (walk_app app) fine) in
    called_typed app tables (recursion_from_All (Stands (tables_of app)) (finite.entries tables) fit) (procedure_named app tx.procedure) tx.args time
    (found_walked app.tables (λ procedure. bytes_eq procedure.name.name tx.procedure) [] app.procs walked) begins
