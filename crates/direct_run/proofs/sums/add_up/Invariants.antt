use Rattle.std.proofs.Common.{◌≡◌, ◌≤◌, ℕ, List, length, drop, Some}
use Rattle.rel_base.specs.declared.schema.TableDef.{TableDef}
use Rattle.rel_base.specs.Tables.{Tables}
use Rattle.proc_syntax.specs.declared.run.Binding.TheVariants.{Held}
use Rattle.proc_code.specs.declared.tree.Action.{Action}
use Rattle.proc_code.specs.Coded.{do_all, in_slot}
use Rattle.direct_run.specs.Runs.{state_of}
use Rattle.direct_run.specs.Scope.{bindings_of}
use Rattle.direct_run.specs.Sums.{BeginsWith}
use Rattle.direct_run.proofs.sums.add_up.Given as goal

-- the assignments so far did what as many statements do
abbrev pub invariant-loop-sum : goal.invariant-loop-sum
invariant-loop-sum l =
    (l.done ≡ l.sum-index)
    × (l.run.own ≡ l.fn.run.own)
    × ((block : List Action) → BeginsWith l.turn.columns.now l.turn.slot l.turn.table block l.sums → in_slot (bindings_of l.fn.run.scope.slots.items) l.turn.slot ≡ Some (Held l.turn.table l.row)
    → (l.done ≤ length block) × (in_slot (bindings_of l.run.scope.slots.items) l.turn.slot ≡ Some (Held l.turn.table l.row))
    × BeginsWith l.turn.columns.now l.turn.slot l.turn.table (drop l.done block) (drop l.done l.sums)
    × ((declared : List TableDef) (tables : Tables) → do_all declared l.turn.columns.now tables (drop l.done block) (state_of l.run) ≡ do_all declared l.turn.columns.now tables block (state_of l.fn.run)))
