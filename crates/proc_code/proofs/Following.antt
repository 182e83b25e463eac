-- What code does follows what its statements do by names.
use Rattle.std.proofs.Common.{◌≡◌, ℕ, ◌+◌, refl, sym, ap, subst, List, [], ◌∷◌, true, false, Bool, cond, map, Result, Ok, Err, Option, Some, None}
use Rattle.std.specs.Prelude.{nat_lt, slice_set}
use Rattle.std.specs.List.{AllByRecursion}
use Rattle.std.specs.Option.{option_map}
use Rattle.rel_base.specs.declared.access.Read.{Read}
use Rattle.rel_base.specs.declared.access.Read.TheVariants.{Point}
use Rattle.rel_base.specs.declared.schema.TableDef.{TableDef}
use Rattle.rel_base.specs.declared.value.Value.{Value}
use Rattle.rel_base.specs.OwnWrites.{merged}
use Rattle.rel_base.specs.Tables.{Tables, rows}
use Rattle.proc_syntax.specs.declared.fault.Fault.TheVariants as fault
use Rattle.proc_syntax.specs.declared.run.Binding.{Binding}
use Rattle.proc_syntax.specs.declared.run.Binding.TheVariants.{Plain, Held}
use Rattle.proc_syntax.specs.declared.run.Stop.{Stop}
use Rattle.proc_syntax.specs.declared.run.Stop.TheVariants as stop
use Rattle.proc_syntax.specs.declared.tree.Stmt.{Stmt, Stmt-F, fold-roll-Stmt, map-Stmt, roll-Stmt}
use Rattle.proc_syntax.specs.declared.tree.Stmt.TheOpen as stmt
use Rattle.proc_syntax.specs.Meaning.{State, Progress, bound, hold, act_step, act, block}
use Rattle.proc_syntax.specs.Scope.{table_named, column_in, value_of, values_of, end_of, changes_of}
use Rattle.proc_syntax.specs.Steps.{Going, Stopped, then_do, step_then, with_value, with_some, wrote, asked, with_rows, point_of, span_of, key_for, row_under, set_columns, insert_at, update_at, delete_at, held_or, each_held, in_turn}
use Rattle.proc_syntax.specs.Values.{flag_of}
use Rattle.proc_syntax.proofs.Framed.{state_of}
use Rattle.proc_syntax.proofs.Trees.{Such, bare, stripped, every_stmt}
use Rattle.proc_code.specs.declared.tree.Action.{Action, Action-F, fold-roll-Action, map-Action, roll-Action}
use Rattle.proc_code.specs.declared.tree.Action.TheOpen as action
use Rattle.proc_code.specs.Coded as coded
use Rattle.proc_code.specs.Coded.{Slots, do_step, do_action, do_all}
use Rattle.proc_code.specs.Numbers.{Names, has_name, number_of_name, joined, bound_step, bound_names, table_number, column_of_table, column_names, column_places}
use Rattle.proc_code.specs.Resolved.{term_of, setting_of, action_step, action_of}
use Rattle.proc_code.proofs.Numbered.{all_front, all_back}
use Rattle.proc_code.proofs.Slotted.{Slotted, in_slots, slotted_put}
use Rattle.proc_code.proofs.Worths.{table_is, worth_is, worths_are, end_is, column_is, sets_are}

-- a state with its variables in slots
abbrev pub with_slots : State → Slots → coded.State
with_slots st slots = record { environment = in_slots st.environment slots; own = st.own; made = st.made; steps = st.steps }

abbrev pub over : Progress → Slots → coded.Progress
over (Going st) slots = Going (with_slots st slots)
over (Stopped st why) slots = Stopped (with_slots st slots) why

module _ (names : Names) where
  -- c is o, with its variables in slots
  pub record Mirrors (o : Progress) (c : coded.Progress) : Type 0 where
    pub slots : Slots
    pub slotted : Slotted names (state_of o).environment.variables slots
    pub is : c ≡ over o slots

  abbrev pub Alike : (State → Progress) → (coded.State → coded.Progress) → Type 0
  Alike f g = (st : State) (slots : Slots) → Slotted names st.environment.variables slots → Mirrors (f st) (g (with_slots st slots))

  going : (st : State) (slots : Slots) → Slotted names st.environment.variables slots → Mirrors (Going st) (Going (with_slots st slots))
  going st slots s = record { slots = slots; slotted = s; is = refl }

  stopped : (st : State) (slots : Slots) (why : Stop) → Slotted names st.environment.variables slots → Mirrors (Stopped st why) (Stopped (with_slots st slots) why)
  stopped st slots why s = record { slots = slots; slotted = s; is = refl }

  -- ---- each combinator

  follows_then : (o : Progress) (c : coded.Progress) (f : State → Progress) (g : coded.State → coded.Progress) → Mirrors o c → Alike f g → Mirrors (then_do o f) (then_do c g)
  follows_then (Going st) c f g k h = subst (λ c. Mirrors (f st) (then_do c g)) (sym k.is) (h st k.slots k.slotted)
  follows_then (Stopped st why) c f g k h = record { slots = k.slots; slotted = k.slotted; is = ap (λ c. then_do c g) k.is }

  follows_cond : (b : Bool) (o p : Progress) (c d : coded.Progress) → Mirrors o c → Mirrors p d → Mirrors (cond b o p) (cond b c d)
  follows_cond true o p c d k h = k
  follows_cond false o p c d k h = h

  follows_step : (f : State → Progress) (g : coded.State → coded.Progress) → Alike f g → Alike (λ st. step_then st f) (λ st. step_then st g)
  follows_step f g h st slots s =
      follows_cond (nat_lt st.steps 100000) _ _ _ _ (h (record st { steps = st.steps + 1 }) slots s) (stopped st slots (stop.Fault fault.Steps) s)

  module _ (st : State) (slots : Slots) (s : Slotted names st.environment.variables slots) where
    follows_value : {A : Type 0} (r r' : Result A Stop) (f : A → Progress) (g : A → coded.Progress) → r' ≡ r → ((v : A) → Mirrors (f v) (g v)) → Mirrors (with_value r st f) (with_value r' (with_slots st slots) g)
    follows_value (Ok v) r' f g e h = subst (λ r'. Mirrors (f v) (with_value r' (with_slots st slots) g)) (sym e) (h v)
    follows_value (Err why) r' f g e h = subst (λ r'. Mirrors (Stopped st why) (with_value r' (with_slots st slots) g)) (sym e) (stopped st slots why s)

    follows_some : {A : Type 0} (o o' : Option A) (f : A → Progress) (g : A → coded.Progress) → o' ≡ o → ((v : A) → o ≡ Some v → Mirrors (f v) (g v)) → Mirrors (with_some o st f) (with_some o' (with_slots st slots) g)
    follows_some (Some v) o' f g e h = subst (λ o'. Mirrors (f v) (with_some o' (with_slots st slots) g)) (sym e) (h v refl)
    follows_some None o' f g e h = subst (λ o'. Mirrors (Stopped st stop.IllTyped) (with_some o' (with_slots st slots) g)) (sym e) (stopped st slots stop.IllTyped s)

    -- a variable gets something
    follows_put : (name : List ℕ) (binding : Binding) → has_name names name ≡ true → Slotted names (bound st name binding).environment.variables (slice_set slots (number_of_name names name) (Some binding))
    follows_put name binding is = slotted_put names st.environment.variables slots name binding is s

  follows_insert : (table : ℕ) (key row : List Value) (rows : List (List Value)) → Alike (insert_at table key row rows) (insert_at table key row rows)
  follows_insert table key row [] st slots s = going (wrote st table key (Some row)) slots s
  follows_insert table key row (old ∷ rest) st slots s = stopped st slots (stop.Fault fault.DuplicateKey) s

  follows_update : (def : TableDef) (table : ℕ) (key : List Value) (changes : List (ℕ × Value)) (rows : List (List Value)) → Alike (update_at def table key changes rows) (update_at def table key changes rows)
  follows_update def table key changes [] st slots s = stopped st slots (stop.Fault fault.NoRow) s
  follows_update def table key changes (row ∷ rest) st slots s =
      follows_some st slots s (row_under def key (set_columns row changes)) _ _ _ refl (λ new here. going (wrote st table key (Some new)) slots s)

  follows_delete : (table : ℕ) (key : List Value) (rows : List (List Value)) → Alike (delete_at table key rows) (delete_at table key rows)
  follows_delete table key [] st slots s = stopped st slots (stop.Fault fault.NoRow) s
  follows_delete table key (row ∷ rest) st slots s = going (wrote st table key None) slots s

  follows_held : (table : ℕ) (name : List ℕ) → has_name names name ≡ true → (f f' : State → Progress) (g g' : coded.State → coded.Progress) → Alike f g → Alike f' g' → (rows : List (List Value))
      → Alike (held_or (hold name table) f f' rows) (held_or (coded.hold (number_of_name names name) table) g g' rows)
  follows_held table name is f f' g g' h k [] st slots s = k st slots s
  follows_held table name is f f' g g' h k (row ∷ rest) st slots s = h (bound st name (Held table row)) _ (follows_put st slots s name (Held table row) is)

  follows_each : (table : ℕ) (name : List ℕ) → has_name names name ≡ true → (f : State → Progress) (g : coded.State → coded.Progress) → Alike f g → (rows : List (List Value))
      → Alike (each_held (hold name table) f rows) (each_held (coded.hold (number_of_name names name) table) g rows)
  follows_each table name is f g h [] st slots s = going st slots s
  follows_each table name is f g h (row ∷ rest) st slots s =
      follows_step (λ st. then_do (f (bound st name (Held table row))) (each_held (hold name table) f rest)) (λ st. then_do (g (coded.hold (number_of_name names name) table row st)) (each_held (coded.hold (number_of_name names name) table) g rest))
      (λ st slots s.
      follows_then (f (bound st name (Held table row))) _ _ _ (h (bound st name (Held table row)) _ (follows_put st slots s name (Held table row) is)) (follows_each table name is f g h rest))
      st slots s

  -- a read, and what is done with its rows
  follows_rows : (S : Tables) (def : TableDef) (read : Read) (f : List (List Value) → State → Progress) (g : List (List Value) → coded.State → coded.Progress) → ((rows : List (List Value)) → Alike (f rows) (g rows))
      → Alike (λ st. with_rows S def read st f) (λ st. with_rows S def read st g)
  follows_rows S def read f g h st slots s = h (merged def read st.own (rows def read S)) (asked st read (rows def read S)) slots s

  -- ---- each statement

  -- names that have numbers
  abbrev pub Known : Names → Type 0
  Known these = AllByRecursion (λ name. has_name names name ≡ true) these

  module _ (tables : List TableDef) (S : Tables) where
    abbrev perform : Action → coded.State → coded.Progress
    perform = do_action tables (column_places tables) S

    abbrev FollowsWhere : Names → (State → Progress) → Action → Type 0
    FollowsWhere these f a = Known these → Alike f (perform a)

    abbrev FollowsAt : Stmt → Type 0
    FollowsAt s = FollowsWhere (bound_names s) (act tables S s) (action_of tables (column_names tables) names s)

    -- what blocks do, by their statements and by their actions
    abbrev block_of : List (Such FollowsAt) → State → Progress
    block_of stmts = in_turn (map (act tables S) (map bare stmts))

    abbrev coded_of : List (Such FollowsAt) → coded.State → coded.Progress
    coded_of stmts = in_turn (map perform (map (action_of tables (column_names tables) names) (map bare stmts)))

    follows_in_turn : (stmts : List (Such FollowsAt)) → Known (joined (map bound_names (map bare stmts)))
        → Alike (block_of stmts) (coded_of stmts)
    follows_in_turn [] known st slots s = going st slots s
    follows_in_turn (e ∷ es) known st slots s =
        follows_then _ _ _ (coded_of es)
        (follows_step (act tables S e.0) (perform (action_of tables (column_names tables) names e.0)) (e.1 (all_front _ (bound_names e.0) _ known)) st slots s)
        (follows_in_turn es (all_back _ (bound_names e.0) _ known))

    rolled : (f : State → Progress) (a : Action-F Action) → Alike f (do_step tables (column_places tables) S (map-Action Action (coded.State → coded.Progress) perform a)) → Alike f (perform (roll-Action a))
    rolled f a h = subst (Alike f) (sym (fold-roll-Action (coded.State → coded.Progress) (do_step tables (column_places tables) S) a)) h

    follows_set : (name : List ℕ) (e : _) → has_name names name ≡ true
        → Alike (λ st. with_value (value_of tables e st.environment) st (λ v. Going (bound st name (Plain v)))) (perform (roll-Action (action.Set (number_of_name names name) (term_of (column_names tables) names e))))
    follows_set name e is = rolled _ (action.Set (number_of_name names name) (term_of (column_names tables) names e)) (λ st slots s.
        follows_value st slots s (value_of tables e st.environment) _ _ _ (worth_is tables names e st.environment slots s) (λ v.
        going (bound st name (Plain v)) _ (follows_put st slots s name (Plain v) is)))

    follows_act : (d : Stmt-F (Such FollowsAt))
        → FollowsWhere (bound_step (map-Stmt Stmt Names bound_names (stripped d))) (act_step tables S (map-Stmt Stmt (State → Progress) (act tables S) (stripped d))) (action_step tables (column_names tables) names (map-Stmt Stmt Action (action_of tables (column_names tables) names) (stripped d)))
    unfolding roll-Action denote.Hole.Carrier.roll
    follows_act (stmt.Let name e) known = follows_set name.name e known.0
    follows_act (stmt.Assign name e) known = follows_set name.name e known.0
    follows_act (stmt.If test body None) known = rolled _ (action.If (term_of (column_names tables) names test) (map (action_of tables (column_names tables) names) (map bare body)) []) (λ st slots s.
        follows_value st slots s (value_of tables test st.environment) _ _ _ (worth_is tables names test st.environment slots s) (λ v.
        follows_value st slots s (flag_of v) _ _ _ refl (λ holds.
        follows_cond holds _ _ _ _ (follows_in_turn body (all_front _ (joined (map bound_names (map bare body))) _ known) st slots s) (going st slots s))))
    follows_act (stmt.If test body (Some other)) known =
        rolled _ (action.If (term_of (column_names tables) names test) (map (action_of tables (column_names tables) names) (map bare body)) (map (action_of tables (column_names tables) names) (map bare other))) (λ st slots s.
        follows_value st slots s (value_of tables test st.environment) _ _ _ (worth_is tables names test st.environment slots s) (λ v.
        follows_value st slots s (flag_of v) _ _ _ refl (λ holds.
        follows_cond holds _ _ _ _
        (follows_in_turn body (all_front _ (joined (map bound_names (map bare body))) _ known) st slots s)
        (follows_in_turn other (all_back _ (joined (map bound_names (map bare body))) _ known) st slots s))))
    follows_act (stmt.Get name table key found absent) known =
        rolled _ (action.Get (number_of_name names name.name) (table_number tables table.name) (map (term_of (column_names tables) names) key) (map (action_of tables (column_names tables) names) (map bare found)) (map (action_of tables (column_names tables) names) (map bare absent))) (λ st slots s.
        follows_some st slots s (table_named tables table.name) _ _ _ (table_is tables table.name) (λ named here.
        follows_value st slots s (values_of tables key st.environment) _ _ _ (worths_are tables names st.environment slots s key) (λ key.
        follows_some st slots s (point_of named.1 named.0 key) _ _ _ refl (λ read there.
        follows_rows S named.1 read _ (held_or (coded.hold (number_of_name names name.name) named.0) (coded_of found) (coded_of absent)) (follows_held named.0 name.name known.0 (block_of found) (block_of absent) (coded_of found) (coded_of absent)
        (follows_in_turn found (all_front _ (joined (map bound_names (map bare found))) _ known.1))
        (follows_in_turn absent (all_back _ (joined (map bound_names (map bare found))) _ known.1)))
        st slots s))))
    follows_act (stmt.For name table column low high body) known =
        rolled _ (action.For (number_of_name names name.name) (table_number tables table.name) (column_of_table tables table.name column.name) (option_map (term_of (column_names tables) names) low) (option_map (term_of (column_names tables) names) high) (map (action_of tables (column_names tables) names) (map bare body))) (λ st slots s.
        follows_some st slots s (table_named tables table.name) _ _ _ (table_is tables table.name) (λ named here.
        follows_value st slots s (end_of tables low st.environment) _ _ _ (end_is tables names st.environment slots s low) (λ low.
        follows_value st slots s (end_of tables high st.environment) _ _ _ (end_is tables names st.environment slots s high) (λ high.
        follows_some st slots s (span_of named.1 named.0 (column_in named.1 column.name) low high) _ _ _
        (ap (λ column. span_of named.1 named.0 column low high) (column_is tables names st.environment slots s table.name named here column.name)) (λ read there.
        follows_rows S named.1 read _ (each_held (coded.hold (number_of_name names name.name) named.0) (coded_of body)) (follows_each named.0 name.name known.0 (block_of body) (coded_of body) (follows_in_turn body known.1)) st slots s)))))
    follows_act (stmt.Insert table values) known = rolled _ (action.Insert (table_number tables table.name) (map (term_of (column_names tables) names) values)) (λ st slots s.
        follows_some st slots s (table_named tables table.name) _ _ _ (table_is tables table.name) (λ named here.
        follows_value st slots s (values_of tables values st.environment) _ _ _ (worths_are tables names st.environment slots s values) (λ row.
        follows_some st slots s (key_for named.1 row) _ _ _ refl (λ key there.
        follows_rows S named.1 (Point named.0 key) _ (insert_at named.0 key row) (follows_insert named.0 key row) st slots s))))
    follows_act (stmt.Update table key changes) known =
        rolled _ (action.Update (table_number tables table.name) (map (term_of (column_names tables) names) key) (map (setting_of tables (column_names tables) names table.name) changes)) (λ st slots s.
        follows_some st slots s (table_named tables table.name) _ _ _ (table_is tables table.name) (λ named here.
        follows_value st slots s (values_of tables key st.environment) _ _ _ (worths_are tables names st.environment slots s key) (λ key.
        follows_value st slots s (changes_of tables named.1 changes st.environment) _ _ _ (sets_are tables names st.environment slots s table.name named here changes) (λ changes.
        follows_some st slots s (point_of named.1 named.0 key) _ _ _ refl (λ read there.
        follows_rows S named.1 read _ (update_at named.1 named.0 key changes) (follows_update named.1 named.0 key changes) st slots s)))))
    follows_act (stmt.Delete table key) known = rolled _ (action.Delete (table_number tables table.name) (map (term_of (column_names tables) names) key)) (λ st slots s.
        follows_some st slots s (table_named tables table.name) _ _ _ (table_is tables table.name) (λ named here.
        follows_value st slots s (values_of tables key st.environment) _ _ _ (worths_are tables names st.environment slots s key) (λ key.
        follows_some st slots s (point_of named.1 named.0 key) _ _ _ refl (λ read there.
        follows_rows S named.1 read _ (delete_at named.0 key) (follows_delete named.0 key) st slots s))))
    follows_act (stmt.Fail text) known = rolled _ (action.Fail text) (λ st slots s. stopped st slots (stop.Fault (fault.Failed text)) s)

    follows_stmt : (s : Stmt) → FollowsAt s
    follows_stmt = every_stmt FollowsAt (λ d.
        subst (λ these. FollowsWhere these (act tables S (roll-Stmt (stripped d))) (action_of tables (column_names tables) names (roll-Stmt (stripped d)))) (sym (fold-roll-Stmt Names bound_step (stripped d)))
        (subst (λ f. FollowsWhere (bound_step (map-Stmt Stmt Names bound_names (stripped d))) f (action_of tables (column_names tables) names (roll-Stmt (stripped d)))) (sym (fold-roll-Stmt (State → Progress) (act_step tables S) (stripped d)))
        (subst (FollowsWhere (bound_step (map-Stmt Stmt Names bound_names (stripped d))) (act_step tables S (map-Stmt Stmt (State → Progress) (act tables S) (stripped d)))) (sym (fold-roll-Stmt Action (action_step tables (column_names tables) names) (stripped d)))
        (follows_act d))))

    pub follows_block : (stmts : List Stmt) → Known (joined (map bound_names stmts)) → Alike (block tables S stmts) (do_all tables (column_places tables) S (map (action_of tables (column_names tables) names) stmts))
    follows_block [] known st slots s = going st slots s
    follows_block (e ∷ es) known st slots s =
        follows_then _ _ _ (do_all tables (column_places tables) S (map (action_of tables (column_names tables) names) es))
        (follows_step (act tables S e) (perform (action_of tables (column_names tables) names e)) (follows_stmt e (all_front _ (bound_names e) _ known)) st slots s)
        (follows_block es (all_back _ (bound_names e) _ known))
