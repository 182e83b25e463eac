-- What a statement comes to before its read: the values of its expressions, and the read.
use Rattle.std.specs.Prelude.{ℕ, List, [], Option, Result, Ok, Err, slice_get}
use Rattle.rel_base.specs.declared.access.Read.{Read}
use Rattle.rel_base.specs.declared.access.Read.TheVariants.{Point}
use Rattle.rel_base.specs.declared.schema.TableDef.{TableDef}
use Rattle.rel_base.specs.Among.{ReadFitsIn}
use Rattle.proc_syntax.specs.declared.fault.Fault.TheVariants as fault
use Rattle.proc_syntax.specs.declared.run.Stop.{Stop}
use Rattle.proc_syntax.specs.declared.run.Stop.TheVariants as stop
use Rattle.proc_syntax.specs.Steps.{point_of, span_of, key_for}
use Rattle.proc_syntax.specs.Values.{◌>>=◌, found, flag_of}
use Rattle.proc_code.specs.declared.tree.Action.{Action, Action-F, fold-Action}
use Rattle.proc_code.specs.declared.tree.Action.TheOpen as action
use Rattle.proc_code.specs.declared.tree.Setting.{Setting}
use Rattle.proc_code.specs.declared.tree.Term.{Term}
use Rattle.proc_code.specs.declared.slots.Environment.{Environment}
use Rattle.proc_code.specs.Coded.{worth_of, worths_of, end_worth, sets_worth}
use Rattle.proc_run.specs.declared.plan.Pending.{Pending}
use Rattle.proc_run.specs.declared.plan.Pending.TheVariants.{Insert, Update, Delete, Get, For}
use Rattle.proc_run.specs.declared.plan.Plan.{Plan}
use Rattle.proc_run.specs.declared.plan.Plan.TheVariants.{Set, Enter, Ask}

-- a read is next, which has no rows yet, and then what is pending
abbrev pub ask : Read → Pending → Plan
ask read pending = Ask (record { made = record { read = read; rows = [] }; pending = pending })

module _ (columns : List (List (Option ℕ))) where
  -- a variable gets the value of an expression
  abbrev pub plan_set : ℕ → Term → Environment → Result Plan Stop
  plan_set slot e environment = worth_of columns e environment >>= λ v. Ok (Set slot v)

  -- one block where a test holds, and another where it does not
  abbrev pub plan_if : Term → Environment → Result Plan Stop
  plan_if test environment = worth_of columns test environment >>= λ v. flag_of v >>= λ holds. Ok (Enter holds)

module _ (declared : List TableDef) (columns : List (List (Option ℕ))) where
  -- the point read of a key, and then what is pending
  abbrev pub plan_key : ℕ → List Term → Pending → Environment → Result Plan Stop
  plan_key table key pending environment =
      found (slice_get declared table) >>= λ def. worths_of columns key environment >>= λ key. found (point_of def table key) >>= λ read. Ok (ask read pending)

  -- the span read on a column, and then a block for each row
  abbrev pub plan_for : ℕ → ℕ → Option ℕ → Option Term → Option Term → Environment → Result Plan Stop
  plan_for slot table column low high environment =
      found (slice_get declared table) >>= λ def. end_worth columns low environment >>= λ low. end_worth columns high environment >>= λ high. found (span_of def table column low high) >>= λ read. Ok (ask read (For slot))

  -- the point read of the new row's key, and then the row is put
  abbrev pub plan_insert : ℕ → List Term → Environment → Result Plan Stop
  plan_insert table values environment =
      found (slice_get declared table) >>= λ def. worths_of columns values environment >>= λ row. found (key_for def row) >>= λ key. Ok (ask (Point table key) (Insert row))

  -- the point read of a key, and then its row is changed
  abbrev pub plan_update : ℕ → List Term → List Setting → Environment → Result Plan Stop
  plan_update table key settings environment =
      found (slice_get declared table) >>= λ def. worths_of columns key environment >>= λ key. sets_worth columns settings environment >>= λ changes. found (point_of def table key) >>= λ read. Ok (ask read (Update changes))

  abbrev pub plan_step : Action-F (Environment → Result Plan Stop) → Environment → Result Plan Stop
  plan_step (action.Set slot e) environment = plan_set columns slot e environment
  plan_step (action.If test body other) environment = plan_if columns test environment
  plan_step (action.Get slot table key found absent) environment = plan_key table key (Get slot) environment
  plan_step (action.For slot table column low high body) environment = plan_for slot table column low high environment
  plan_step (action.Insert table values) environment = plan_insert table values environment
  plan_step (action.Update table key settings) environment = plan_update table key settings environment
  plan_step (action.Delete table key) environment = plan_key table key Delete environment
  plan_step (action.Fail text) environment = Err (stop.Fault (fault.Failed text))

  -- what a statement comes to, or why a run stops there
  abbrev pub plan_of : Action → Environment → Result Plan Stop
  plan_of = fold-Action (Environment → Result Plan Stop) plan_step

-- a read that is made up fits its table
abbrev pub PlanFits : List TableDef → Plan → Type 0
PlanFits declared (Set slot v) = Unit {0}
PlanFits declared (Enter first) = Unit {0}
PlanFits declared (Ask asked) = ReadFitsIn declared asked.made.read
