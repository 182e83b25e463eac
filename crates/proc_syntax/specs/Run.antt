-- What a call of a procedure gives on tables.
use Rattle.std.specs.Prelude.{ℕ, ℤ, Bool, cond, List, [], ◌∷◌, map, Option}
use Rattle.std.specs.FinMap as finite
use Rattle.std.specs.List.{find}
use Rattle.std.specs.Option.{option_map_or}
use Rattle.std.specs.Str.{bytes_eq}
use Rattle.rel_base.specs.declared.schema.TableDef.{TableDef}
use Rattle.rel_base.specs.declared.value.Value.{Value}
use Rattle.rel_base.specs.NetWrites.{net}
use Rattle.rel_base.specs.Tables.{Tables}
use Rattle.proc_syntax.specs.declared.call.Tx.{Tx}
use Rattle.proc_syntax.specs.declared.run.Binding.TheVariants.{Plain}
use Rattle.proc_syntax.specs.declared.run.Ending.{Ending}
use Rattle.proc_syntax.specs.declared.run.Ending.TheVariants as ending
use Rattle.proc_syntax.specs.declared.run.Ran.{Ran}
use Rattle.proc_syntax.specs.declared.run.Stop.{Stop}
use Rattle.proc_syntax.specs.declared.run.Stop.TheVariants as stop
use Rattle.proc_syntax.specs.declared.run.Variable.{Variable}
use Rattle.proc_syntax.specs.declared.tree.App.{App}
use Rattle.proc_syntax.specs.declared.tree.ColumnText.{ColumnText}
use Rattle.proc_syntax.specs.declared.tree.ProcDef.{ProcDef}
use Rattle.proc_syntax.specs.Declaring.{tables_of}
use Rattle.proc_syntax.specs.Meaning.{State, Going, Stopped, block}
use Rattle.proc_syntax.specs.Scope.{bind}
use Rattle.proc_syntax.specs.Steps as steps
use Rattle.proc_syntax.specs.Values.{have_kinds}

-- ---- the run

abbrev pub ending_of : Stop → Ending
ending_of (stop.Fault fault) = ending.Faulted fault
ending_of stop.IllTyped = ending.IllTyped

-- a run that stopped has no writes
abbrev pub ran : {V : Type 0} → List TableDef → Tables → steps.Progress V → Ran
ran declared tables (Going state) = record { reads = state.made; writes = net declared tables state.own; ending = ending.Good }
ran declared tables (Stopped state why) = record { reads = state.made; writes = []; ending = ending_of why }

-- a run that does not begin
abbrev pub no_run : Ran
no_run = record { reads = []; writes = []; ending = ending.IllTyped }

-- the parameters stand for the arguments
abbrev pub arguments : List Variable → List ColumnText → List Value → List Variable
arguments variables [] values = variables
arguments variables (param ∷ params) [] = variables
arguments variables (param ∷ params) (v ∷ vs) = arguments (bind variables param.name.name (Plain v)) params vs

abbrev pub start : ProcDef → List Value → ℤ → State
start procedure values now = record { environment = record { variables = arguments [] procedure.params values; now = now }; own = finite.empty; made = []; steps = 0 }

-- the first procedure of a name
abbrev pub procedure_named : App → List ℕ → Option ProcDef
procedure_named app name = find (λ procedure. bytes_eq procedure.name.name name) app.procs

-- whether there is one argument of its kind for each parameter
abbrev pub takes : ProcDef → List Value → Bool
takes procedure values = have_kinds (map (λ param. param.kind) procedure.params) values

-- the run of a transaction's call on tables, at a time in seconds, which is what `now` is in it. A call of no procedure, or with arguments that do not fit, is ill typed
abbrev pub run : App → Tx → ℤ → Tables → Ran
run app tx time tables =
    option_map_or (λ procedure. cond (takes procedure tx.args) (ran (tables_of app) tables (block (tables_of app) tables procedure.body (start procedure tx.args time))) no_run)
    (procedure_named app tx.procedure) no_run

-- the same by the procedure of the name, as proofs have it
abbrev pub called : App → List Value → ℤ → Tables → Option ProcDef → Ran
called app values now tables found =
    option_map_or (λ procedure. cond (takes procedure values) (ran (tables_of app) tables (block (tables_of app) tables procedure.body (start procedure values now))) no_run) found no_run
