-- Statements with blocks, by these: what they do where a test or a read has stopped, or has chosen a block.
use Rattle.std.proofs.Common.{◌≡◌, ℕ, List, Option, sym, ap, ◌∙◌, Bool, cond, Ok, Err}
use Rattle.rel_base.specs.declared.access.Read.{Read}
use Rattle.rel_base.specs.declared.schema.TableDef.{TableDef}
use Rattle.rel_base.specs.Tables.{Tables}
use Rattle.proc_syntax.specs.Steps.{branch, each_held, for_rows, with_rows}
use Rattle.proc_eval.specs.declared.halt.Halt.{Halt}
use Rattle.proc_eval.specs.declared.halt.Halt.TheVariants as halt
use Rattle.proc_code.specs.declared.tree.Action.{Action, fold-roll-Action}
use Rattle.proc_code.specs.declared.tree.Action.TheOpen as layer
use Rattle.proc_code.specs.declared.tree.Action.TheVariants as action
use Rattle.proc_code.specs.declared.tree.Term.{Term}
use Rattle.proc_code.specs.Coded.{State, Progress, do_action, do_all, do_step, end_worth, hold, table_at, worth_of}
use Rattle.direct_run.specs.Steps.{Chooses, Each, Ends, Fork, Spans}
use Rattle.direct_run.specs.declared.looking.Table.{Table}

module _ (declared : List TableDef) (columns : List (List (Option ℕ))) (S : Tables) (st : State) where
  abbrev all : List Action → State → Progress
  all = do_all declared columns S

  abbrev act : Action → Progress
  act a = do_action declared columns S a st

  -- ---- an `if`

  module _ (test : Term) (body other : List Action) where
    abbrev pub fork : Fork
    fork body other = branch (worth_of columns test st.environment) body other st

    if_does : fork (all body) (all other) ≡ act (action.If test body other)
    if_does =
        sym (ap act (sym (action.rolls-If test body other)) ∙ ap (λ f. f st) (fold-roll-Action (State → Progress) (do_step declared columns S) (layer.If test body other)))

    -- its test stopped the run
    pub if_stops : (e : Halt) → Chooses (Err e) st fork → Ends (Err e) st (act (action.If test body other))
    if_stops halt.NoMemory chose = tt
    if_stops (halt.Stop why) chose = sym if_does ∙ chose (all body) (all other)

    -- it is the block that its test chose
    pub if_goes : (first : Bool) → Chooses (Ok first) st fork → cond first (all body st) (all other st) ≡ act (action.If test body other)
    if_goes first chose = sym (chose (all body) (all other)) ∙ if_does

  -- ---- a `for`

  module _ (slot number : ℕ) (column : Option ℕ) (low high : Option Term) (body : List Action) where
    abbrev pub each : Each
    each body = for_rows S (table_at declared number) (λ def. column) (end_worth columns low st.environment) (end_worth columns high st.environment) (hold slot) body st

    for_does : each (all body) ≡ act (action.For slot number column low high body)
    for_does =
        sym (ap act (sym (action.rolls-For slot number column low high body)) ∙ ap (λ f. f st) (fold-roll-Action (State → Progress) (do_step declared columns S) (layer.For slot number column low high body)))

    -- its read stopped the run
    pub for_stops : (e : Halt) → Spans declared S slot (Err e) st each → Ends (Err e) st (act (action.For slot number column low high body))
    for_stops halt.NoMemory spans = tt
    for_stops (halt.Stop why) spans = sym for_does ∙ spans (all body)

    -- it is its read, and then the block for each row
    pub for_goes : (table : Table) (read : Read) → Spans declared S slot (Ok (table, read)) st each
        → with_rows S table.def.now read st (each_held (hold slot table.number) (all body)) ≡ act (action.For slot number column low high body)
    for_goes table read spans = sym (spans.1 (all body)) ∙ for_does
