-- A statement does what its plan comes to.
use Rattle.std.proofs.Common.{◌≡◌, ℕ, refl, sym, ap, subst, ◌∙◌, List, [], Result, Ok, Err, Option, Some, None, IfSome, IfOk}
use Rattle.std.specs.Prelude.{slice_get}
use Rattle.std.specs.Option.{option_map}
use Rattle.rel_base.specs.declared.access.Read.{Read}
use Rattle.rel_base.specs.declared.access.Read.TheVariants.{Point}
use Rattle.rel_base.specs.declared.schema.TableDef.{TableDef}
use Rattle.rel_base.specs.declared.value.Value.{Value}
use Rattle.rel_base.specs.Access.{read_table, ReadFits}
use Rattle.rel_base.specs.Among.{rows_by, ReadFitsIn}
use Rattle.rel_base.specs.Schema.{KeyFits}
use Rattle.rel_base.specs.Tables.{Tables}
use Rattle.proc_syntax.specs.declared.run.Stop.{Stop}
use Rattle.proc_syntax.specs.Steps.{with_value, with_some, with_rows, asked, point_of, span_of, key_for, update_at, delete_at, held_or, each_held}
use Rattle.proc_syntax.specs.Values.{◌>>=◌, found, flag_of}
use Rattle.proc_syntax.proofs.Fits.{point_fits, span_fits, key_fits, key_of_fit}
use Rattle.proc_code.specs.declared.tree.Action.{Action, Action-F, fold-roll-Action, ind-Action, map-Action, out-roll-Action, roll-Action}
use Rattle.proc_code.specs.declared.tree.Action.TheOpen as action
use Rattle.proc_code.specs.declared.slots.Environment.{Environment}
use Rattle.proc_code.specs.Coded.{State, Progress, hold, table_at, worth_of, worths_of, end_worth, sets_worth, do_step, do_action, do_all}
use Rattle.proc_run.specs.declared.plan.Pending.{Pending}
use Rattle.proc_run.specs.declared.plan.Pending.TheVariants as pending
use Rattle.proc_run.specs.declared.plan.Plan.{Plan}
use Rattle.proc_run.specs.declared.path.Branch.TheVariants.{First, Second}
use Rattle.proc_run.specs.Path.{first_block, second_block, block_in, part_of}
use Rattle.proc_run.specs.Planned.{ask, plan_step, plan_of, PlanFits}
use Rattle.proc_run.specs.Remains.{seen_by, resume, do_plan}

-- what holds of each statement by its form
pub by_form : (P : Action → Type 0) → ((d : Action-F Action) → P (roll-Action d)) → (a : Action) → P a
by_form P each = ind-Action P (λ x y e. each x)

-- ---- steps of a plan

module _ (st : State) (go : Plan → Progress) where
  value_then : {A : Type 0} (r : Result A Stop) (f : A → Result Plan Stop) (h : A → Progress) → ((v : A) → h v ≡ with_value (f v) st go) → with_value r st h ≡ with_value (r >>= f) st go
  value_then (Ok v) f h same = same v
  value_then (Err why) f h same = refl

  some_then : {A : Type 0} (P : A → Type 0) (o : Option A) (f : A → Result Plan Stop) (h : A → Progress) → IfSome o P → ((v : A) → P v → h v ≡ with_value (f v) st go) → with_some o st h ≡ with_value (found o >>= f) st go
  some_then P (Some v) f h p same = same v p
  some_then P None f h p same = refl

  table_then : (declared : List TableDef) (table : ℕ) (f : TableDef → Result Plan Stop) (h : ℕ × TableDef → Progress) → ((def : TableDef) → slice_get declared table ≡ Some def → h (table, def) ≡ with_value (f def) st go)
      → with_some (table_at declared table) st h ≡ with_value (found (slice_get declared table) >>= f) st go
  table_then declared table f h same = by_found (slice_get declared table) refl
    where
      by_found : (o : Option TableDef) → slice_get declared table ≡ o → with_some (option_map (λ def. (table, def)) o) st h ≡ with_value (found o >>= f) st go
      by_found (Some def) here = same def here
      by_found None here = refl

module _ (declared : List TableDef) (columns : List (List (Option ℕ))) (S : Tables) where
  module _ (first second : List Action) (st : State) where
    abbrev then_plan : Plan → State → Progress
    then_plan = do_plan declared columns S first second

    -- a read of a declared table, and what is done with its rows
    asks : (def : TableDef) (read : Read) (what : Pending) → slice_get declared (read_table read) ≡ Some def
        → with_rows S def read st (resume declared columns S first second read what) ≡ then_plan (ask read what) st
    asks def read what here = ap (λ found. resume declared columns S first second read what (seen_by found read st.own (rows_by found read S)) (asked st read (rows_by found read S))) (sym here)

    updates : (def : TableDef) (table : ℕ) (key : List Value) (changes : List (ℕ × Value)) (read : Read) → read ≡ Point table key → slice_get declared table ≡ Some def
        → with_rows S def read st (update_at def table key changes) ≡ then_plan (ask read (pending.Update changes)) st
    updates def table key changes read at_key here =
        subst (λ read. with_rows S def read st (update_at def table key changes) ≡ then_plan (ask read (pending.Update changes)) st) (sym at_key)
        (ap (λ found. with_rows S def (Point table key) st (λ rows state. with_some found state (λ def. update_at def table key changes rows state))) (sym here)
        ∙ asks def (Point table key) (pending.Update changes) here)

    deletes : (def : TableDef) (table : ℕ) (key : List Value) (read : Read) → read ≡ Point table key → slice_get declared table ≡ Some def
        → with_rows S def read st (delete_at table key) ≡ then_plan (ask read pending.Delete) st
    deletes def table key read at_key here =
        subst (λ read. with_rows S def read st (delete_at table key) ≡ then_plan (ask read pending.Delete) st) (sym at_key) (asks def (Point table key) pending.Delete here)

    gets : (def : TableDef) (slot table : ℕ) (key : List Value) (read : Read) → read ≡ Point table key → slice_get declared table ≡ Some def
        → with_rows S def read st (held_or (hold slot table) (do_all declared columns S first) (do_all declared columns S second)) ≡ then_plan (ask read (pending.Get slot)) st
    gets def slot table key read at_key here =
        subst (λ read. with_rows S def read st (held_or (hold slot table) (do_all declared columns S first) (do_all declared columns S second)) ≡ then_plan (ask read (pending.Get slot)) st) (sym at_key) (asks def (Point table key) (pending.Get slot) here)

    visits : (def : TableDef) (slot table : ℕ) (read : Read) → read_table read ≡ table → slice_get declared table ≡ Some def
        → with_rows S def read st (each_held (hold slot table) (do_all declared columns S first)) ≡ then_plan (ask read (pending.For slot)) st
    visits def slot table read at_table here =
        ap (λ t. with_rows S def read st (each_held (hold slot t) (do_all declared columns S first))) (sym at_table) ∙ asks def read (pending.For slot) (ap (slice_get declared) at_table ∙ here)

  abbrev performs : Action → State → Progress
  performs = do_action declared columns S

  abbrev goes : Action-F Action → State → Plan → Progress
  goes d st plan = do_plan declared columns S (first_block d) (second_block d) plan st

  -- by the form of the statement
  planned_step : (d : Action-F Action) (st : State)
      → do_step declared columns S (map-Action Action (State → Progress) performs d) st
      ≡ with_value (plan_step declared columns (map-Action Action (Environment → Result Plan Stop) (plan_of declared columns) d) st.environment) st (goes d st)
  planned_step (action.Set slot e) st = value_then st (goes (action.Set slot e) st) (worth_of columns e st.environment) _ _ (λ v. refl)
  planned_step (action.If test body other) st =
      value_then st (goes (action.If test body other) st) (worth_of columns test st.environment) _ _ (λ v. value_then st (goes (action.If test body other) st) (flag_of v) _ _ (λ holds. refl))
  planned_step (action.Get slot table key some none) st =
      let go = goes (action.Get slot table key some none) st in
      table_then st go declared table _ _ (λ def here.
      value_then st go (worths_of columns key st.environment) _ _ (λ key.
      some_then st go _ (point_of def table key) _ _ (point_fits def table key) (λ read fits. gets some none st def slot table key read fits.0 here)))
  planned_step (action.For slot table column low high body) st =
      let go = goes (action.For slot table column low high body) st in
      table_then st go declared table _ _ (λ def here.
      value_then st go (end_worth columns low st.environment) _ _ (λ low.
      value_then st go (end_worth columns high st.environment) _ _ (λ high.
      some_then st go _ (span_of def table column low high) _ _ (span_fits def table column low high) (λ read fits. visits body [] st def slot table read fits.0 here))))
  planned_step (action.Insert table values) st =
      let go = goes (action.Insert table values) st in
      table_then st go declared table _ _ (λ def here.
      value_then st go (worths_of columns values st.environment) _ _ (λ row.
      some_then st go _ (key_for def row) _ _ (key_fits def row) (λ key fits. asks [] [] st def (Point table key) (pending.Insert row) here)))
  planned_step (action.Update table key settings) st =
      let go = goes (action.Update table key settings) st in
      table_then st go declared table _ _ (λ def here.
      value_then st go (worths_of columns key st.environment) _ _ (λ key.
      value_then st go (sets_worth columns settings st.environment) _ _ (λ changes.
      some_then st go _ (point_of def table key) _ _ (point_fits def table key) (λ read fits. updates [] [] st def table key changes read fits.0 here))))
  planned_step (action.Delete table key) st =
      let go = goes (action.Delete table key) st in
      table_then st go declared table _ _ (λ def here.
      value_then st go (worths_of columns key st.environment) _ _ (λ key.
      some_then st go _ (point_of def table key) _ _ (point_fits def table key) (λ read fits. deletes [] [] st def table key read fits.0 here)))
  planned_step (action.Fail text) st = refl

  pub planned : (d : Action-F Action) (st : State) → performs (roll-Action d) st ≡ with_value (plan_of declared columns (roll-Action d) st.environment) st (goes d st)
  planned d st =
      ap (λ f. f st) (fold-roll-Action (State → Progress) (do_step declared columns S) d) ∙ planned_step d st
      ∙ ap (λ f. with_value (f st.environment) st (goes d st)) (sym (fold-roll-Action (Environment → Result Plan Stop) (plan_step declared columns) d))

  -- a statement of a block does what its plan comes to
  pub goes_at : (block : List Action) (n : ℕ) (a : Action) (st : State) → slice_get block n ≡ Some a
      → performs a st ≡ with_value (plan_of declared columns a st.environment) st (λ plan. do_plan declared columns S (part_of block n First) (part_of block n Second) plan st)
  goes_at block n a st here = by_form At by_blocks a here
    where
      At : Action → Type 0
      At a = slice_get block n ≡ Some a
          → performs a st ≡ with_value (plan_of declared columns a st.environment) st (λ plan. do_plan declared columns S (part_of block n First) (part_of block n Second) plan st)

      by_blocks : (d : Action-F Action) → At (roll-Action d)
      by_blocks d here =
          let first : part_of block n First ≡ first_block d = ap (block_in first_block) here ∙ ap first_block (out-roll-Action d) in
          let second : part_of block n Second ≡ second_block d = ap (block_in second_block) here ∙ ap second_block (out-roll-Action d) in
          planned d st
          ∙ ap (λ b. with_value (plan_of declared columns (roll-Action d) st.environment) st (λ plan. do_plan declared columns S b (second_block d) plan st)) (sym first)
          ∙ ap (λ b. with_value (plan_of declared columns (roll-Action d) st.environment) st (λ plan. do_plan declared columns S (part_of block n First) b plan st)) (sym second)

-- ---- the reads of plans fit

module _ (declared : List TableDef) (columns : List (List (Option ℕ))) where
  abbrev Fit : Result Plan Stop → Type 0
  Fit r = IfOk r (PlanFits declared)

  fit_value : {A : Type 0} (r : Result A Stop) (f : A → Result Plan Stop) → ((v : A) → Fit (f v)) → Fit (r >>= f)
  fit_value (Ok v) f h = h v
  fit_value (Err why) f h = tt

  fit_some : {A : Type 0} (P : A → Type 0) (o : Option A) (f : A → Result Plan Stop) → IfSome o P → ((v : A) → P v → Fit (f v)) → Fit (found o >>= f)
  fit_some P (Some v) f p h = h v p
  fit_some P None f p h = tt

  fit_table : (table : ℕ) (f : TableDef → Result Plan Stop) → ((def : TableDef) → slice_get declared table ≡ Some def → Fit (f def)) → Fit (found (slice_get declared table) >>= f)
  fit_table table f h = by_found (slice_get declared table) refl
    where
      by_found : (o : Option TableDef) → slice_get declared table ≡ o → Fit (found o >>= f)
      by_found (Some def) here = h def here
      by_found None here = tt

  fits_in : (def : TableDef) (read : Read) → slice_get declared (read_table read) ≡ Some def → ReadFits def read → ReadFitsIn declared read
  fits_in def read here fits = rw here fits

  fits_point : (def : TableDef) (table : ℕ) (key : List Value) (read : Read) → slice_get declared table ≡ Some def → (read ≡ Point table key) × KeyFits def key → ReadFitsIn declared read
  fits_point def table key read here is = subst (ReadFitsIn declared) (sym is.0) (fits_in def (Point table key) here is.1)

  fits_step : (d : Action-F (Environment → Result Plan Stop)) (environment : Environment) → Fit (plan_step declared columns d environment)
  fits_step (action.Set slot e) environment = fit_value (worth_of columns e environment) _ (λ v. tt)
  fits_step (action.If test body other) environment = fit_value (worth_of columns test environment) _ (λ v. fit_value (flag_of v) _ (λ holds. tt))
  fits_step (action.Get slot table key some none) environment =
      fit_table table _ (λ def here. fit_value (worths_of columns key environment) _ (λ key. fit_some _ (point_of def table key) _ (point_fits def table key) (λ read is. fits_point def table key read here is)))
  fits_step (action.For slot table column low high body) environment =
      fit_table table _ (λ def here. fit_value (end_worth columns low environment) _ (λ low. fit_value (end_worth columns high environment) _ (λ high.
      fit_some _ (span_of def table column low high) _ (span_fits def table column low high) (λ read is. fits_in def read (ap (slice_get declared) is.0 ∙ here) is.1))))
  fits_step (action.Insert table values) environment =
      fit_table table _ (λ def here. fit_value (worths_of columns values environment) _ (λ row.
      fit_some _ (key_for def row) _ (key_fits def row) (λ key is. fits_in def (Point table key) here (subst (KeyFits def) is.1 (key_of_fit def row is.0)))))
  fits_step (action.Update table key settings) environment =
      fit_table table _ (λ def here. fit_value (worths_of columns key environment) _ (λ key. fit_value (sets_worth columns settings environment) _ (λ changes.
      fit_some _ (point_of def table key) _ (point_fits def table key) (λ read is. fits_point def table key read here is))))
  fits_step (action.Delete table key) environment =
      fit_table table _ (λ def here. fit_value (worths_of columns key environment) _ (λ key. fit_some _ (point_of def table key) _ (point_fits def table key) (λ read is. fits_point def table key read here is)))
  fits_step (action.Fail text) environment = tt

  pub plan_fits : (a : Action) (environment : Environment) → Fit (plan_of declared columns a environment)
  plan_fits = by_form (λ a. (environment : Environment) → Fit (plan_of declared columns a environment))
      (λ d environment. subst (λ f. Fit (f environment)) (sym (fold-roll-Action (Environment → Result Plan Stop) (plan_step declared columns) d)) (fits_step (map-Action Action (Environment → Result Plan Stop) (plan_of declared columns) d) environment))
