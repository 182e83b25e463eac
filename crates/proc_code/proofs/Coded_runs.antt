-- The run of an application's code is its run.
use Rattle.std.proofs.Common.{◌≡◌, ℕ, ℤ, refl, ap, ◌∙◌, List, [], ◌∷◌, ◌++◌, length, map, true, false, cond, Option, Some, None}
use Rattle.std.specs.Prelude.{replicate}
use Rattle.std.specs.List.{find}
use Rattle.std.specs.Option.{option_map}
use Rattle.std.specs.Str.{bytes_eq}
use Rattle.rel_base.specs.declared.schema.TableDef.{TableDef}
use Rattle.rel_base.specs.declared.value.Value.{Value}
use Rattle.rel_base.specs.Tables.{Tables}
use Rattle.proc_syntax.specs.declared.tree.App.{App}
use Rattle.proc_syntax.specs.declared.tree.ColumnText.{ColumnText}
use Rattle.proc_syntax.specs.declared.tree.ProcDef.{ProcDef}
use Rattle.proc_syntax.specs.Declaring.{tables_of}
use Rattle.proc_syntax.specs.Meaning.{Progress, block}
use Rattle.proc_syntax.specs.Run.{ran, no_run, start, takes, procedure_named, called}
use Rattle.proc_syntax.specs.Steps.{Going, Stopped}
use Rattle.proc_syntax.specs.Values.{have_kinds}
use Rattle.proc_code.specs.Coded as coded
use Rattle.proc_code.specs.Coded.{Slots, begin, code_called, do_all}
use Rattle.proc_code.specs.Laws.{CodeRunsAreRuns}
use Rattle.proc_code.specs.Numbers.{Names, bound_names, column_names, column_places, joined, slots_of}
use Rattle.proc_code.specs.Resolved.{action_of, param_of, proc_of, code_of}
use Rattle.proc_code.proofs.Following.{Mirrors, Known, over, follows_block}
use Rattle.proc_code.proofs.Numbered.{all_met, all_front, all_back}
use Rattle.proc_code.proofs.Slotted.{slotted_none, slotted_given}

-- a run with its variables in slots comes to the same
over_ran : (declared : List TableDef) (S : Tables) (o : Progress) (slots : Slots) → ran declared S (over o slots) ≡ ran declared S o
over_ran declared S (Going st) slots = refl
over_ran declared S (Stopped st why) slots = refl

follows_ran : (names : Names) (declared : List TableDef) (S : Tables) (o : Progress) (c : coded.Progress) → Mirrors names o c → ran declared S c ≡ ran declared S o
follows_ran names declared S o c k = ap (ran declared S) k.is ∙ over_ran declared S o k.slots

kinds_are : (names : Names) (params : List ColumnText) → map (λ param. param.kind) (map (param_of names) params) ≡ map (λ param. param.kind) params
kinds_are names [] = refl
kinds_are names (param ∷ params) = ap (λ kinds. param.kind ∷ kinds) (kinds_are names params)

code_found : (tables : List TableDef) (procs : List ProcDef) (name : List ℕ)
    → find (λ procedure. bytes_eq procedure.name name) (map (proc_of tables) procs) ≡ option_map (proc_of tables) (find (λ procedure. bytes_eq procedure.name.name name) procs)
code_found tables [] name = refl
code_found tables (procedure ∷ procs) name =
    elim (bytes_eq procedure.name.name name)
    as (λ b. cond b (Some (proc_of tables procedure)) (find (λ procedure. bytes_eq procedure.name name) (map (proc_of tables) procs))
    ≡ option_map (proc_of tables) (cond b (Some procedure) (find (λ procedure. bytes_eq procedure.name.name name) procs)))
    [ true ↦ refl | false ↦ code_found tables procs name ]

module _ (tables : List TableDef) (S : Tables) (procedure : ProcDef) (values : List Value) (now : ℤ) where
  abbrev names : Names
  names = slots_of procedure

  abbrev param_names : Names
  param_names = map (λ param. param.name.name) procedure.params

  abbrev body_names : Names
  body_names = joined (map bound_names procedure.body)

  known : Known names (param_names ++ body_names)
  known = all_met [] (param_names ++ body_names)

  follows_procedure : Mirrors names (block tables S procedure.body (start procedure values now)) (do_all tables (column_places tables) S (map (action_of tables (column_names tables) names) procedure.body) (begin (proc_of tables procedure) values now))
  follows_procedure = follows_block names tables S procedure.body (all_back _ param_names body_names known) (start procedure values now) _
      (slotted_given names procedure.params values [] (replicate (length names) None) (all_front _ param_names body_names known) (slotted_none names))

called_is : (app : App) (values : List Value) (now : ℤ) (S : Tables) (found : Option ProcDef) → code_called (tables_of app) (code_of app) values now S (option_map (proc_of (tables_of app)) found) ≡ called app values now S found
called_is app values now S None = refl
called_is app values now S (Some procedure) =
    ap (λ kinds. cond (have_kinds kinds values) (ran (tables_of app) S (do_all (tables_of app) (column_places (tables_of app)) S (proc_of (tables_of app) procedure).body (begin (proc_of (tables_of app) procedure) values now))) no_run) (kinds_are (slots_of procedure) procedure.params)
    ∙ ap (λ whole. cond (takes procedure values) whole no_run) (follows_ran (slots_of procedure) (tables_of app) S _ _ (follows_procedure (tables_of app) S procedure values now))

pub code_runs : CodeRunsAreRuns
code_runs app tx time S =
    ap (code_called (tables_of app) (code_of app) tx.args time S) (code_found (tables_of app) app.procs tx.procedure)
    ∙ called_is app tx.args time S (procedure_named app tx.procedure)
