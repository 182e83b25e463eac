-- A run on tables that answer its reads alike is the same run.
use Rattle.std.proofs.Common.{◌≡◌, ℕ, ◌+◌, refl, sym, ap, ◌∙◌, List, [], ◌∷◌, ◌++◌, true, false, Bool, cond, map, append_assoc, Result, Ok, Err, Option, Some, None, IfSome}
use Rattle.std.specs.Prelude.{nat_lt, slice_get}
use Rattle.std.specs.List.{AllByRecursion}
use Rattle.std.proofs.lemmas.List.{append-nil}
use Rattle.rel_base.specs.declared.access.Made.{Made}
use Rattle.rel_base.specs.declared.access.Read.{Read}
use Rattle.rel_base.specs.declared.access.Read.TheVariants.{Point}
use Rattle.rel_base.specs.declared.schema.TableDef.{TableDef}
use Rattle.rel_base.specs.declared.value.Value.{Value}
use Rattle.rel_base.specs.Access.{read_table}
use Rattle.rel_base.specs.Tables.{Tables, rows}
use Rattle.proc_syntax.specs.declared.run.Binding.TheVariants.{Held}
use Rattle.proc_syntax.specs.declared.run.Stop.{Stop}
use Rattle.proc_syntax.specs.declared.tree.Stmt.{Stmt, Stmt-F, map-Stmt}
use Rattle.proc_syntax.specs.declared.tree.Stmt.TheOpen as stmt
use Rattle.rel_base.specs.Among.{rows_in, rows_by}
use Rattle.proc_syntax.specs.Meaning.{State, Progress, Going, Stopped, then_do, step_then, with_value, with_some, bound, asked, point_of, span_of, key_for, row_under, set_columns, insert_at, update_at, delete_at, get_at, visit, in_turn, with_rows, act_step, act, block}
use Rattle.rel_base.specs.OwnWrites.{merged}
use Rattle.proc_syntax.specs.Scope.{table_named, column_in, value_of, values_of, end_of, changes_of}
use Rattle.proc_syntax.specs.Values.{flag_of}
use Rattle.proc_syntax.proofs.Trees.{Such, bare, stripped, every_pair}
use Rattle.proc_syntax.proofs.Lookups.{declared_named, anything, point_table, span_table}

abbrev pub state_of : Progress → State
state_of (Going state) = state
state_of (Stopped state why) = state

module _ (declared : List TableDef) where
  -- the reads have the rows that they get of the tables
  abbrev pub Agrees : Tables → List Made → Type 0
  Agrees tables made = AllByRecursion (λ m. m.rows ≡ rows_in declared m.read tables) made

  agrees_front : (S : Tables) (xs ys : List Made) → Agrees S (xs ++ ys) → Agrees S xs
  agrees_front S [] ys h = tt
  agrees_front S (x ∷ xs) ys h = (h.0, agrees_front S xs ys h.1)

  agrees_at : (S : Tables) (xs : List Made) (a : Made) (ys : List Made) → Agrees S (xs ++ a ∷ ys) → a.rows ≡ rows_in declared a.read S
  agrees_at S [] a ys h = h.0
  agrees_at S (x ∷ xs) a ys h = agrees_at S xs a ys h.1

  module _ (S S' : Tables) where
    -- o is a run on S from a state with the reads made, and o' is the same on S'
    pub record Framed (made : List Made) (o o' : Progress) : Type 0 where
      pub more : List Made
      pub is : (state_of o).made ≡ made ++ more
      pub same : Agrees S' (state_of o).made → o' ≡ o

    framed_same : (made : List Made) (o : Progress) → (state_of o).made ≡ made → Framed made o o
    framed_same made o e = record { more = []; is = e ∙ sym (append-nil made); same = λ h. refl }

    framed_then : (made : List Made) (o o' : Progress) (f f' : State → Progress) → Framed made o o' → ((st : State) → Framed st.made (f st) (f' st)) → Framed made (then_do o f) (then_do o' f')
    framed_then made (Going st) o' f f' g h = record {
      more = g.more ++ (h st).more;
      is = (h st).is ∙ ap (λ l. l ++ (h st).more) g.is ∙ append_assoc made g.more (h st).more;
      same = λ a. let b : Agrees S' (st.made ++ (h st).more) = rw (h st).is at a in ap (λ o. then_do o f') (g.same (agrees_front S' st.made (h st).more b)) ∙ (h st).same a;
    }
    framed_then made (Stopped st e) o' f f' g h = record { more = g.more; is = g.is; same = λ a. ap (λ o. then_do o f') (g.same a) }

    framed_cond : (made : List Made) (b : Bool) (o o' p p' : Progress) → Framed made o o' → Framed made p p' → Framed made (cond b o p) (cond b o' p')
    framed_cond made true o o' p p' g h = g
    framed_cond made false o o' p p' g h = h

    framed_step : (st : State) (f f' : State → Progress) → ((st : State) → Framed st.made (f st) (f' st)) → Framed st.made (step_then st f) (step_then st f')
    framed_step st f f' h = framed_cond st.made (nat_lt st.steps 100000) _ _ _ _ (h (record st { steps = st.steps + 1 })) (framed_same st.made _ refl)

    framed_value : {A : Type 0} (r : Result A Stop) (st : State) (f f' : A → Progress) → ((v : A) → Framed st.made (f v) (f' v)) → Framed st.made (with_value r st f) (with_value r st f')
    framed_value (Ok v) st f f' h = h v
    framed_value (Err e) st f f' h = framed_same st.made _ refl

    framed_some : {A : Type 0} (P : A → Type 0) (o : Option A) (st : State) (f f' : A → Progress) → IfSome o P → ((v : A) → P v → Framed st.made (f v) (f' v)) → Framed st.made (with_some o st f) (with_some o st f')
    framed_some P (Some v) st f f' p h = h v p
    framed_some P None st f f' p h = framed_same st.made _ refl

    -- a read, and what is done with its rows
    framed_rows : (def : TableDef) (read : Read) (st : State) (f f' : List (List Value) → State → Progress) → slice_get declared (read_table read) ≡ Some def
        → ((rows : List (List Value)) (st : State) → Framed st.made (f rows st) (f' rows st)) → Framed st.made (with_rows S def read st f) (with_rows S' def read st f')
    framed_rows def read st f f' here h =
        let got : Made = record { read = read; rows = rows def read S } in
        let g = h (merged def read st.own (rows def read S)) (asked st read (rows def read S)) in
        let whole = g.is ∙ append_assoc st.made (got ∷ []) g.more in
        record {
          more = got ∷ g.more;
          is = whole;
          same = λ a.
              let b : Agrees S' (st.made ++ (got ∷ g.more)) = rw whole at a in
              let e : rows def read S ≡ rows def read S' = agrees_at S' st.made got g.more b ∙ ap (λ d. rows_by d read S') here in
              ap (λ got. f' (merged def read st.own got) (asked st read got)) (sym e) ∙ g.same a;
        }

    framed_visit : (table : ℕ) (name : List ℕ) (body body' : State → Progress) → ((st : State) → Framed st.made (body st) (body' st)) → (rows : List (List Value)) (st : State)
        → Framed st.made (visit table name body rows st) (visit table name body' rows st)
    framed_visit table name body body' h [] st = framed_same st.made _ refl
    framed_visit table name body body' h (row ∷ rest) st =
        framed_step st _ _ (λ st. framed_then st.made _ _ _ _ (h (bound st name (Held table row))) (framed_visit table name body body' h rest))

    framed_insert : (table : ℕ) (key row : List Value) (rows : List (List Value)) (st : State) → Framed st.made (insert_at table key row rows st) (insert_at table key row rows st)
    framed_insert table key row [] st = framed_same st.made _ refl
    framed_insert table key row (old ∷ rest) st = framed_same st.made _ refl

    framed_update : (def : TableDef) (table : ℕ) (key : List Value) (changes : List (ℕ × Value)) (rows : List (List Value)) (st : State)
        → Framed st.made (update_at def table key changes rows st) (update_at def table key changes rows st)
    framed_update def table key changes [] st = framed_same st.made _ refl
    framed_update def table key changes (row ∷ rest) st = framed_some (λ new. Unit {0}) (row_under def key (set_columns row changes)) st _ _ (anything (row_under def key (set_columns row changes))) (λ new p. framed_same st.made _ refl)

    framed_delete : (table : ℕ) (key : List Value) (rows : List (List Value)) (st : State) → Framed st.made (delete_at table key rows st) (delete_at table key rows st)
    framed_delete table key [] st = framed_same st.made _ refl
    framed_delete table key (row ∷ rest) st = framed_same st.made _ refl

    framed_get : (table : ℕ) (name : List ℕ) (f f' g g' : State → Progress) → ((st : State) → Framed st.made (f st) (f' st)) → ((st : State) → Framed st.made (g st) (g' st))
        → (rows : List (List Value)) (st : State) → Framed st.made (get_at table name f g rows st) (get_at table name f' g' rows st)
    framed_get table name f f' g g' h k [] st = k st
    framed_get table name f f' g g' h k (row ∷ rest) st = h (bound st name (Held table row))

    abbrev Alike : (State → Progress) → (State → Progress) → Type 0
    Alike f f' = (st : State) → Framed st.made (f st) (f' st)

    abbrev AlikeAt : Stmt → Type 0
    AlikeAt s = Alike (act declared S s) (act declared S' s)

    framed_in_turn : (stmts : List (Such AlikeAt)) → Alike (in_turn (map (act declared S) (map bare stmts))) (in_turn (map (act declared S') (map bare stmts)))
    framed_in_turn [] st = framed_same st.made _ refl
    framed_in_turn (e ∷ es) st = framed_then st.made _ _ _ _ (framed_step st _ _ e.1) (framed_in_turn es)

    framed_act : (d : Stmt-F (Such AlikeAt))
        → Alike (act_step declared S (map-Stmt Stmt (State → Progress) (act declared S) (stripped d))) (act_step declared S' (map-Stmt Stmt (State → Progress) (act declared S') (stripped d)))
    framed_act (stmt.Let name e) st = framed_value (value_of declared e st.environment) st _ _ (λ v. framed_same st.made _ refl)
    framed_act (stmt.Assign name e) st = framed_value (value_of declared e st.environment) st _ _ (λ v. framed_same st.made _ refl)
    framed_act (stmt.If test body None) st =
        framed_value (value_of declared test st.environment) st _ _ (λ v. framed_value (flag_of v) st _ _ (λ holds. framed_cond st.made holds _ _ _ _ (framed_in_turn body st) (framed_same st.made _ refl)))
    framed_act (stmt.If test body (Some other)) st =
        framed_value (value_of declared test st.environment) st _ _ (λ v. framed_value (flag_of v) st _ _ (λ holds. framed_cond st.made holds _ _ _ _ (framed_in_turn body st) (framed_in_turn other st)))
    framed_act (stmt.Get name table key found absent) st =
        framed_some _ (table_named declared table.name) st _ _ (declared_named declared table.name) (λ named here.
        framed_value (values_of declared key st.environment) st _ _ (λ key.
        framed_some _ (point_of named.1 named.0 key) st _ _ (point_table named.1 named.0 key) (λ read at_table.
        framed_rows named.1 read st _ _ (ap (slice_get declared) at_table ∙ here) (framed_get named.0 name.name _ _ _ _ (framed_in_turn found) (framed_in_turn absent)))))
    framed_act (stmt.For name table column low high body) st =
        framed_some _ (table_named declared table.name) st _ _ (declared_named declared table.name) (λ named here.
        framed_value (end_of declared low st.environment) st _ _ (λ low.
        framed_value (end_of declared high st.environment) st _ _ (λ high.
        framed_some _ (span_of named.1 named.0 (column_in named.1 column.name) low high) st _ _ (span_table named.1 named.0 (column_in named.1 column.name) low high) (λ read at_table.
        framed_rows named.1 read st _ _ (ap (slice_get declared) at_table ∙ here) (framed_visit named.0 name.name _ _ (framed_in_turn body))))))
    framed_act (stmt.Insert table values) st =
        framed_some _ (table_named declared table.name) st _ _ (declared_named declared table.name) (λ named here.
        framed_value (values_of declared values st.environment) st _ _ (λ row.
        framed_some (λ key. Unit {0}) (key_for named.1 row) st _ _ (anything (key_for named.1 row)) (λ key p.
        framed_rows named.1 (Point named.0 key) st _ _ here (framed_insert named.0 key row))))
    framed_act (stmt.Update table key changes) st =
        framed_some _ (table_named declared table.name) st _ _ (declared_named declared table.name) (λ named here.
        framed_value (values_of declared key st.environment) st _ _ (λ key.
        framed_value (changes_of declared named.1 changes st.environment) st _ _ (λ changes.
        framed_some _ (point_of named.1 named.0 key) st _ _ (point_table named.1 named.0 key) (λ read at_table.
        framed_rows named.1 read st _ _ (ap (slice_get declared) at_table ∙ here) (framed_update named.1 named.0 key changes)))))
    framed_act (stmt.Delete table key) st =
        framed_some _ (table_named declared table.name) st _ _ (declared_named declared table.name) (λ named here.
        framed_value (values_of declared key st.environment) st _ _ (λ key.
        framed_some _ (point_of named.1 named.0 key) st _ _ (point_table named.1 named.0 key) (λ read at_table.
        framed_rows named.1 read st _ _ (ap (slice_get declared) at_table ∙ here) (framed_delete named.0 key))))
    framed_act (stmt.Fail text) st = framed_same st.made _ refl

    framed_stmt : (s : Stmt) → AlikeAt s
    framed_stmt = every_pair (State → Progress) (State → Progress) (act_step declared S) (act_step declared S') Alike framed_act

    pub framed_block : (stmts : List Stmt) → Alike (block declared S stmts) (block declared S' stmts)
    framed_block [] st = framed_same st.made _ refl
    framed_block (s ∷ rest) st = framed_then st.made _ _ _ _ (framed_step st _ _ (framed_stmt s)) (framed_block rest)
