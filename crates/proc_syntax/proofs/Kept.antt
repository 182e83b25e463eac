-- What each step of a run keeps, each run keeps. Inside a statement, after its step is counted and before its read, a stronger fact may hold.
use Rattle.std.proofs.Common.{◌≡◌, ℕ, ◌+◌, refl, ap, subst, sym, ◌∙◌, List, [], ◌∷◌, true, false, Bool, cond, map, Result, Ok, Err, Option, Some, None, IfSome}
use Rattle.std.specs.Prelude.{nat_lt, slice_get}
use Rattle.rel_base.specs.declared.access.Read.{Read}
use Rattle.rel_base.specs.declared.access.Read.TheVariants.{Point}
use Rattle.rel_base.specs.declared.schema.TableDef.{TableDef}
use Rattle.rel_base.specs.declared.value.Value.{Value}
use Rattle.rel_base.specs.Access.{read_table, ReadFits, PartFits}
use Rattle.rel_base.specs.Schema.{KeyFits, RowFits, key_of_row}
use Rattle.rel_base.specs.Tables.{Tables, rows}
use Rattle.proc_syntax.specs.declared.run.Binding.{Binding}
use Rattle.proc_syntax.specs.declared.run.Binding.TheVariants.{Held}
use Rattle.proc_syntax.specs.declared.fault.Fault.TheVariants as fault
use Rattle.proc_syntax.specs.declared.run.Stop.{Stop}
use Rattle.proc_syntax.specs.declared.run.Stop.TheVariants as stop
use Rattle.proc_syntax.specs.declared.tree.Stmt.{Stmt, Stmt-F, map-Stmt}
use Rattle.proc_syntax.specs.declared.tree.Stmt.TheOpen as stmt
use Rattle.proc_syntax.specs.Meaning.{State, Progress, Going, Stopped, then_do, step_then, with_value, with_some, bound, wrote, asked, point_of, span_of, key_for, row_under, set_columns, insert_at, update_at, delete_at, get_at, visit, in_turn, with_rows, act_step, act, block}
use Rattle.proc_syntax.specs.Scope.{table_named, column_in, value_of, values_of, end_of, changes_of}
use Rattle.proc_syntax.specs.Values.{flag_of}
use Rattle.proc_syntax.proofs.Fits.{point_fits, span_fits, key_fits, under_fits, key_of_fit}
use Rattle.proc_syntax.proofs.Framed.{state_of}
use Rattle.proc_syntax.proofs.Lookups.{declared_named}
use Rattle.proc_syntax.proofs.Trees.{Such, bare, stripped, every_fold}

-- P holds between statements, and Q in a statement before its read
pub record StepsKeep (declared : List TableDef) (S : Tables) (P Q : State → Type 0) : Type 0 where
  pub counts : (st : State) → P st → nat_lt st.steps 100000 ≡ true → Q (record st { steps = st.steps + 1 })
  pub rests : (st : State) → Q st → P st
  pub binds : (st : State) (name : List ℕ) (binding : Binding) → P st → P (bound st name binding)
  pub reads : (st : State) (def : TableDef) (read : Read) → Q st → slice_get declared (read_table read) ≡ Some def → ReadFits def read → P (asked st read (rows def read S))
  pub writes : (st : State) (def : TableDef) (table : ℕ) (key : List Value) (row : Option (List Value)) → Q st → slice_get declared table ≡ Some def → KeyFits def key → PartFits def key row
      → P (wrote (asked st (Point table key) (rows def (Point table key) S)) table key row)

module _ (declared : List TableDef) (S : Tables) (P Q : State → Type 0) (keeps : StepsKeep declared S P Q) where
  pub record Kept (o : Progress) : Type 0 where
    pub is : P (state_of o)

  kept_then : (o : Progress) (f : State → Progress) → Kept o → ((st : State) → P st → Kept (f st)) → Kept (then_do o f)
  kept_then (Going st) f k h = h st k.is
  kept_then (Stopped st why) f k h = record { is = k.is }

  kept_cond : (b : Bool) (o p : Progress) → Kept o → Kept p → Kept (cond b o p)
  kept_cond true o p k h = k
  kept_cond false o p k h = h

  kept_step : (st : State) (f : State → Progress) → P st → ((st : State) → Q st → Kept (f st)) → Kept (step_then st f)
  kept_step st f p h =
      elim (nat_lt st.steps 100000) as (λ b. nat_lt st.steps 100000 ≡ b → Kept (cond b (f (record st { steps = st.steps + 1 })) (Stopped st (stop.Fault fault.Steps))))
      [ true ↦ λ low. h _ (keeps.counts st p low) | false ↦ λ high. record { is = p } ] refl

  kept_value : {A : Type 0} (r : Result A Stop) (st : State) (f : A → Progress) → P st → ((v : A) → Kept (f v)) → Kept (with_value r st f)
  kept_value (Ok v) st f p h = h v
  kept_value (Err why) st f p h = record { is = p }

  kept_some : {A : Type 0} (R : A → Type 0) (o : Option A) (st : State) (f : A → Progress) → P st → IfSome o R → ((v : A) → R v → Kept (f v)) → Kept (with_some o st f)
  kept_some R (Some v) st f p holds h = h v holds
  kept_some R None st f p holds h = record { is = p }

  kept_visit : (table : ℕ) (name : List ℕ) (body : State → Progress) → ((st : State) → P st → Kept (body st)) → (rows : List (List Value)) (st : State) → P st → Kept (visit table name body rows st)
  kept_visit table name body h [] st p = record { is = p }
  kept_visit table name body h (row ∷ rest) st p =
      kept_step st _ p (λ st q. kept_then (body (bound st name (Held table row))) (visit table name body rest) (h _ (keeps.binds st name (Held table row) (keeps.rests st q))) (kept_visit table name body h rest))

  kept_get : (table : ℕ) (name : List ℕ) (f g : State → Progress) → ((st : State) → P st → Kept (f st)) → ((st : State) → P st → Kept (g st)) → (rows : List (List Value)) (st : State) → P st → Kept (get_at table name f g rows st)
  kept_get table name f g h k [] st p = k st p
  kept_get table name f g h k (row ∷ rest) st p = h _ (keeps.binds st name (Held table row) p)

  abbrev KeptAt : Stmt → Type 0
  KeptAt s = (st : State) → Q st → Kept (act declared S s st)

  kept_in_turn : (stmts : List (Such KeptAt)) (st : State) → P st → Kept (in_turn (map (act declared S) (map bare stmts)) st)
  kept_in_turn [] st p = record { is = p }
  kept_in_turn (e ∷ es) st p = kept_then (step_then st (act declared S e.0)) (in_turn (map (act declared S) (map bare es))) (kept_step st (act declared S e.0) p e.1) (kept_in_turn es)

  module _ (st : State) (q : Q st) (def : TableDef) (table : ℕ) (here : slice_get declared table ≡ Some def) (key : List Value) (fits : KeyFits def key) where
    abbrev now : State
    now = asked st (Point table key) (rows def (Point table key) S)

    after : P now
    after = keeps.reads st def (Point table key) q here fits

    kept_insert : (row : List Value) → RowFits def row × (key_of_row def row ≡ key) → (rows : List (List Value)) → Kept (insert_at table key row rows now)
    kept_insert row row_fits [] = record { is = keeps.writes st def table key (Some row) q here fits row_fits }
    kept_insert row row_fits (old ∷ rest) = record { is = after }

    kept_update : (changes : List (ℕ × Value)) (rows : List (List Value)) → Kept (update_at def table key changes rows now)
    kept_update changes [] = record { is = after }
    kept_update changes (row ∷ rest) =
        kept_some _ (row_under def key (set_columns row changes)) now _ after (under_fits def key (set_columns row changes)) (λ new new_fits. record { is = keeps.writes st def table key (Some new) q here fits new_fits })

    kept_delete : (rows : List (List Value)) → Kept (delete_at table key rows now)
    kept_delete [] = record { is = after }
    kept_delete (row ∷ rest) = record { is = keeps.writes st def table key None q here fits tt }

  kept_act : (d : Stmt-F (Such KeptAt)) (st : State) → Q st → Kept (act_step declared S (map-Stmt Stmt (State → Progress) (act declared S) (stripped d)) st)
  kept_act (stmt.Let name e) st q = kept_value (value_of declared e st.environment) st _ (keeps.rests st q) (λ v. record { is = keeps.binds st name.name _ (keeps.rests st q) })
  kept_act (stmt.Assign name e) st q = kept_value (value_of declared e st.environment) st _ (keeps.rests st q) (λ v. record { is = keeps.binds st name.name _ (keeps.rests st q) })
  kept_act (stmt.If test body None) st q =
      let p = keeps.rests st q in
      kept_value (value_of declared test st.environment) st _ p (λ v. kept_value (flag_of v) st _ p (λ holds. kept_cond holds _ _ (kept_in_turn body st p) (record { is = p })))
  kept_act (stmt.If test body (Some other)) st q =
      let p = keeps.rests st q in
      kept_value (value_of declared test st.environment) st _ p (λ v. kept_value (flag_of v) st _ p (λ holds. kept_cond holds _ _ (kept_in_turn body st p) (kept_in_turn other st p)))
  kept_act (stmt.Get name table key found absent) st q =
      let p = keeps.rests st q in
      kept_some _ (table_named declared table.name) st _ p (declared_named declared table.name) (λ named here.
      kept_value (values_of declared key st.environment) st _ p (λ key.
      kept_some _ (point_of named.1 named.0 key) st _ p (point_fits named.1 named.0 key) (λ read fits.
      kept_get named.0 name.name _ _ (kept_in_turn found) (kept_in_turn absent) _ _
      (keeps.reads st named.1 read q (ap (λ r. slice_get declared (read_table r)) fits.0 ∙ here) (subst (ReadFits named.1) (sym fits.0) fits.1)))))
  kept_act (stmt.For name table column low high body) st q =
      let p = keeps.rests st q in
      kept_some _ (table_named declared table.name) st _ p (declared_named declared table.name) (λ named here.
      kept_value (end_of declared low st.environment) st _ p (λ low.
      kept_value (end_of declared high st.environment) st _ p (λ high.
      kept_some _ (span_of named.1 named.0 (column_in named.1 column.name) low high) st _ p (span_fits named.1 named.0 (column_in named.1 column.name) low high) (λ read fits.
      kept_visit named.0 name.name _ (kept_in_turn body) _ _ (keeps.reads st named.1 read q (ap (slice_get declared) fits.0 ∙ here) fits.1)))))
  kept_act (stmt.Insert table values) st q =
      let p = keeps.rests st q in
      kept_some _ (table_named declared table.name) st _ p (declared_named declared table.name) (λ named here.
      kept_value (values_of declared values st.environment) st _ p (λ row.
      kept_some _ (key_for named.1 row) st _ p (key_fits named.1 row) (λ key fits.
      kept_insert st q named.1 named.0 here key (subst (KeyFits named.1) fits.1 (key_of_fit named.1 row fits.0)) row fits _)))
  kept_act (stmt.Update table key changes) st q =
      let p = keeps.rests st q in
      kept_some _ (table_named declared table.name) st _ p (declared_named declared table.name) (λ named here.
      kept_value (values_of declared key st.environment) st _ p (λ key.
      kept_value (changes_of declared named.1 changes st.environment) st _ p (λ changes.
      kept_some _ (point_of named.1 named.0 key) st _ p (point_fits named.1 named.0 key) (λ read fits.
      subst (λ r. Kept (with_rows S named.1 r st (update_at named.1 named.0 key changes))) (sym fits.0) (kept_update st q named.1 named.0 here key fits.1 changes _)))))
  kept_act (stmt.Delete table key) st q =
      let p = keeps.rests st q in
      kept_some _ (table_named declared table.name) st _ p (declared_named declared table.name) (λ named here.
      kept_value (values_of declared key st.environment) st _ p (λ key.
      kept_some _ (point_of named.1 named.0 key) st _ p (point_fits named.1 named.0 key) (λ read fits.
      subst (λ r. Kept (with_rows S named.1 r st (delete_at named.0 key))) (sym fits.0) (kept_delete st q named.1 named.0 here key fits.1 _))))
  kept_act (stmt.Fail text) st q = record { is = keeps.rests st q }

  kept_stmt : (s : Stmt) → KeptAt s
  kept_stmt = every_fold (State → Progress) (act_step declared S) (λ f. (st : State) → Q st → Kept (f st)) kept_act

  pub kept_block : (stmts : List Stmt) (st : State) → P st → Kept (block declared S stmts st)
  kept_block [] st p = record { is = p }
  kept_block (s ∷ rest) st p = kept_then (step_then st (act declared S s)) (block declared S rest) (kept_step st (act declared S s) p (kept_stmt s)) (kept_block rest)
