-- A statement without a fault runs to its end, or to a fault of the transaction, and leaves what the check takes to be in scope.
use Rattle.std.proofs.Common.{◌≡◌, ℕ, zero, suc, ◌+◌, refl, sym, ap, subst, ◌∙◌, List, [], ◌∷◌, ◌++◌, length, map, Bool, true, false, cond, not, ◌&&◌, ◌==◌, Result, Ok, Err, Option, Some, None, IfSome, MatchOption, arith}
use Rattle.std.specs.Prelude.{slice_get, nat_lt}
use Rattle.std.specs.FinMap as finite
use Rattle.std.specs.List.{AllByRecursion, list_any, position_from}
use Rattle.std.specs.Option.{option_and_then, option_map, option_to_list, is_some}
use Rattle.std.specs.Str.{bytes_eq}
use Rattle.std.specs.Cmp.{eq_by_cmp_equiv}
use Rattle.std.proofs.lemmas.Bool.{eqb-true}
use Rattle.std.proofs.lemmas.List.{append-nil}
use Rattle.std.proofs.lemmas.Option.{slice_get-map, get_or_from_slice_get}
use Rattle.rel_base.specs.declared.access.Read.{Read}
use Rattle.rel_base.specs.declared.access.Read.TheVariants.{Point, Span}
use Rattle.rel_base.specs.declared.access.Seen.{Seen}
use Rattle.rel_base.specs.declared.schema.TableDef.{TableDef}
use Rattle.rel_base.specs.declared.value.Kind.{Kind}
use Rattle.rel_base.specs.declared.value.Kind.TheVariants as kind
use Rattle.rel_base.specs.declared.value.Value.{Value}
use Rattle.rel_base.specs.Schema.{RowFits, key_of_row, kind_at, span_columns}
use Rattle.rel_base.specs.Tables.{Tables, rows}
use Rattle.rel_base.specs.Value.{key_eq, key_cmp-total}
use Rattle.proc_syntax.specs.declared.fault.Fault.TheVariants as fault
use Rattle.proc_syntax.specs.declared.run.Binding.TheVariants.{Plain, Held}
use Rattle.proc_syntax.specs.declared.run.Stop.{Stop}
use Rattle.proc_syntax.specs.declared.run.Stop.TheVariants as stop
use Rattle.proc_syntax.specs.declared.tree.Change.{Change}
use Rattle.proc_syntax.specs.declared.tree.Expr.{Expr}
use Rattle.proc_syntax.specs.declared.tree.Named.{Named}
use Rattle.proc_syntax.specs.declared.tree.Stmt.{Stmt, Stmt-F, map-Stmt}
use Rattle.proc_syntax.specs.declared.tree.Stmt.TheOpen as stmt
use Rattle.proc_syntax.specs.declared.tree.TableText.{TableText}
use Rattle.proc_syntax.specs.Declaring.{declare}
use Rattle.proc_syntax.specs.Meaning.{State, Progress, Going, Stopped, then_do, step_then, with_value, with_some, bound, wrote, asked, point_of, span_of, end_has, row_fits, key_for, row_under, set_columns, insert_at, update_at, delete_at, get_at, visit, in_turn, in_turn_if, with_rows, act_step, act}
use Rattle.rel_base.specs.OwnWrites.{merged}
use Rattle.rel_base.proofs.Lists.{not_some}
use Rattle.proc_syntax.specs.Scope.{Environment, table_named, column_in, value_of, values_of, end_of, changes_of}
use Rattle.proc_syntax.specs.Values.{has_kind, have_kinds, flag_of}
use Rattle.proc_syntax.proofs.Fits.{kinds_held, kinds_hold}
use Rattle.proc_syntax.proofs.Sound.{all_more}
use Rattle.proc_syntax.proofs.Trees.{Such, bare, stripped, every_pair}
use Rattle.proc_check.specs.declared.fault.Bad.{Bad}
use Rattle.proc_check.specs.declared.fault.BadKind.TheVariants.{UnknownName, NameTwice, NoIndex, WrongCount}
use Rattle.proc_check.specs.declared.scope.Sort.{Sort}
use Rattle.proc_check.specs.declared.scope.Sort.TheVariants as sort
use Rattle.proc_check.specs.declared.scope.Variable.{Variable}
use Rattle.proc_check.specs.Kinds.{need, type_of}
use Rattle.proc_check.specs.Scope.{look_up, variable_of, new_name, sort_kind, value_kind}
use Rattle.proc_check.specs.Statements.{Walk, block, maybe_block, stmt_step, walk_stmt, each_fits, all_fit, keyed, walk_let, walk_assign, walk_get, walk_for, walk_span, walk_insert, walk_update, walk_change, end_fits}
use Rattle.proc_check.specs.Tables.{column_kind, columns_in, columns_of, key_in, key_of, is_spanned, is_spanned_in, known_table, known_column}
use Rattle.proc_check.specs.Walk.{◌>>=◌, refuse, found, in_order}
use Rattle.proc_check.proofs.Limits.{first, second, not_refused}
use Rattle.proc_check.proofs.Operators.{IsFault, Of, bools}
use Rattle.proc_check.proofs.Columns.{kinds_of, number_at, run_number, none_some, some_is}
use Rattle.proc_check.proofs.Names.{Agrees, RowOf, err_ok, ok_is, ok_then, found_some}
use Rattle.proc_check.proofs.Bindings.{agrees_less, agrees_more, agrees_set}
use Rattle.proc_check.proofs.Fitting.{Stands, OwnStands, point_rows, span_rows, own_put}
use Rattle.proc_check.proofs.Typed_values.{expr_typed, needed_kind, not_false}
use Rattle.proc_check.proofs.Typed_lists.{IsChange, key_typed, insert_typed, end_typed, changes_typed, set_all, spanned}

-- ---- tables

position_named : (tables : List TableText) (name : List ℕ) (start : ℕ) → position_from (λ def. bytes_eq def.name name) start (map declare tables) ≡ position_from (λ table. bytes_eq table.name.name name) start tables
position_named [] name start = refl
position_named (table ∷ tables) name start = ap (λ rest. cond (bytes_eq table.name.name name) (Some start) rest) (position_named tables name (start + 1))

position_here : {X : Type 0} (test : X → Bool) (start : ℕ) (xs : List X) (number : ℕ) → position_from test start xs ≡ Some number → (place : ℕ) × (number ≡ start + place) × (x : X) × (slice_get xs place ≡ Some x)
position_here test start [] number is = absurd (none_some is)
position_here test start (x ∷ xs) number is =
    elim (test x) as (λ b. cond b (Some start) (position_from test (start + 1) xs) ≡ Some number → (place : ℕ) × (number ≡ start + place) × (y : _) × (slice_get (x ∷ xs) place ≡ Some y)) [
      | true ↦ λ is. let e : start ≡ number = some_is is in (zero, omega (arith, e), x, refl)
      | false ↦ λ is. let rest = position_here test (start + 1) xs number is in let e : number ≡ start + 1 + rest.0 = rest.1 in (suc rest.0, omega (arith, e), rest.2, rest.3)
    ] is

-- a table that the check knows, and a run finds
record Known (tables : List TableText) (name : List ℕ) (number : ℕ) : Type 0 where
  pub text : TableText
  pub here : slice_get tables number ≡ Some text
  pub named : table_named (map declare tables) name ≡ Some (number, declare text)

known_is : (tables : List TableText) (name : Named) (number : ℕ) → known_table tables name ≡ Ok number → Known tables name.name number
known_is tables name number ok =
    let placed : position_from (λ table. bytes_eq table.name.name name.name) 0 tables ≡ Some number = found_some (position_from (λ table. bytes_eq table.name.name name.name) 0 tables) name.line UnknownName number ok in
    let p = position_here (λ table. bytes_eq table.name.name name.name) 0 tables number placed in
    let e : number ≡ 0 + p.0 = p.1 in
    let same : number ≡ p.0 = omega (arith, e) in
    let here : slice_get tables number ≡ Some p.2 = ap (slice_get tables) same ∙ p.3 in
    record {
      text = p.2;
      here = here;
      named = ap (λ o. option_and_then (λ table. option_map (λ def. (table, def)) (slice_get (map declare tables) table)) o) (position_named tables name.name 0 ∙ placed)
          ∙ ap (λ o. option_map (λ def. (number, def)) o) (slice_get-map declare tables number ∙ ap (option_map declare) here);
    }

declared_here : (tables : List TableText) (number : ℕ) (text : TableText) → slice_get tables number ≡ Some text → slice_get (map declare tables) number ≡ Some (declare text)
declared_here tables number text here = slice_get-map declare tables number ∙ ap (option_map declare) here

-- ---- values for places

all_fit_is : {A : Type 0} (kind : A → Option Kind) (tables : List TableText) (scope : List Variable) (name : Named) (places : List A) (values : List Expr) → all_fit kind tables scope name places values ≡ Ok tt
    → (length values ≡ length places) × (each_fits kind tables scope places values ≡ Ok tt)
all_fit_is kind tables scope name places values ok =
    let counted = first (refuse (not (length values == length places)) name.line WrongCount) (λ _. each_fits kind tables scope places values) ok in (
      eqb-true (length values) (length places) (not_false (length values == length places) (not_refused (not (length values == length places)) name.line WrongCount counted)),
      second (refuse (not (length values == length places)) name.line WrongCount) (λ _. each_fits kind tables scope places values) ok,
    )

-- a table and the values of a key of it
record Keyed (tables : List TableText) (environment : Environment) (name : List ℕ) (values : List Expr) (number : ℕ) : Type 0 where
  pub known : Known tables name number
  pub fits : Of (λ vs. have_kinds (map (kind_at (declare known.text)) (declare known.text).key) vs ≡ true) (values_of (map declare tables) values environment)

keyed_at : (tables : List TableText) (scope : List Variable) (environment : Environment) → Agrees (map declare tables) scope environment.variables → (name : Named) (values : List Expr) (number : ℕ) (text : TableText) → slice_get tables number ≡ Some text
    → all_fit (λ column. column_kind (columns_of tables number) column.name) tables scope name (key_of tables number) values ≡ Ok tt
    → Of (λ vs. have_kinds (map (kind_at (declare text)) (declare text).key) vs ≡ true) (values_of (map declare tables) values environment)
keyed_at tables scope environment agrees name values number text here ok =
    let of_text : all_fit (λ column. column_kind text.columns column.name) tables scope name text.key values ≡ Ok tt =
    subst (λ t. all_fit (λ column. column_kind (columns_in t) column.name) tables scope name (key_in t) values ≡ Ok tt) here ok in
    let fits = all_fit_is (λ column. column_kind text.columns column.name) tables scope name text.key values of_text in
    key_typed tables scope environment agrees text.columns text.key values fits.0 fits.1

keyed_is : (tables : List TableText) (scope : List Variable) (environment : Environment) → Agrees (map declare tables) scope environment.variables → (name : Named) (values : List Expr) (number : ℕ) → keyed tables scope name values ≡ Ok number
    → Keyed tables environment name.name values number
keyed_is tables scope environment agrees name values number ok =
    let table = ok_then (known_table tables name) (λ t. all_fit (λ column. column_kind (columns_of tables t) column.name) tables scope name (key_of tables t) values >>= λ _. Ok t) number ok in
    let fits = ok_then (all_fit (λ column. column_kind (columns_of tables table.0) column.name) tables scope name (key_of tables table.0) values) (λ _. Ok table.0) number table.2 in
    let known = known_is tables name table.0 table.1 in
    subst (Keyed tables environment name.name values) (ok_is fits.2) (record { known = known; fits = keyed_at tables scope environment agrees name values table.0 known.text known.here fits.1 })

-- ---- reads

point_is : (def : TableDef) (number : ℕ) (key : List Value) → have_kinds (map (kind_at def) def.key) key ≡ true → point_of def number key ≡ Some (Point number key)
point_is def number key fits = ap (λ b. cond b (Some (Point number key)) None) fits

span_is : (text : TableText) (number : ℕ) (name : List ℕ) (column : ℕ) (k : Kind) (low high : Option Value) → column_in (declare text) name ≡ Some column
    → list_any (λ c. c == column) (span_columns (declare text)) ≡ true → kind_at (declare text) column ≡ k → end_has k low ≡ true → end_has k high ≡ true
    → span_of (declare text) number (column_in (declare text) name) low high ≡ Some (Span number column low high)
span_is text number name column k low high is_in indexed of_kind of_low of_high =
    ap (λ o. span_of (declare text) number o low high) is_in
    ∙ ap (λ b. cond (b && (end_has (kind_at (declare text) column) low && end_has (kind_at (declare text) column) high)) (Some (Span number column low high)) None) indexed
    ∙ ap (λ k. cond (end_has k low && end_has k high) (Some (Span number column low high)) None) of_kind
    ∙ ap (λ b. cond (b && end_has k high) (Some (Span number column low high)) None) of_low
    ∙ ap (λ b. cond b (Some (Span number column low high)) None) of_high

pub under_is : (def : TableDef) (key row : List Value) → RowFits def row × (key_of_row def row ≡ key) → row_under def key row ≡ Some row
under_is def key row under =
    ap (λ b. cond (b && key_eq (key_of_row def row) key) (Some row) None) (kinds_held (map (λ column. column.kind) def.columns) row under.0)
    ∙ ap (λ b. cond b (Some row) None) (ap (λ k. key_eq k key) under.1 ∙ (eq_by_cmp_equiv key_cmp-total).refl key)

-- ---- outcomes

module _ (tables : List TableText) (S : Tables) (fit : AllByRecursion (Stands (map declare tables)) (finite.entries S)) where
  abbrev declared : List TableDef
  declared = map declare tables

  -- the names in scope stand for what the check takes them to, and what was written fits
  pub record Good (scope : List Variable) (st : State) : Type 0 where
    pub agrees : Agrees declared scope st.environment.variables
    pub own : AllByRecursion (OwnStands declared) (finite.entries st.own)

  abbrev pub IsSafe : List Variable → Progress → Type 0
  IsSafe scope (Going st) = Good scope st
  IsSafe scope (Stopped st why) = IsFault why

  pub record Safe (scope : List Variable) (o : Progress) : Type 0 where
    pub is : IsSafe scope o

  then_safe : (scope after : List Variable) (o : Progress) (f : State → Progress) → Safe scope o → ((st : State) → Good scope st → Safe after (f st)) → Safe after (then_do o f)
  then_safe scope after (Going st) f s h = h st s.is
  then_safe scope after (Stopped st why) f s h = record { is = s.is }

  -- names that leave the scope take nothing away
  less : (scope more : List Variable) (o : Progress) → Safe (scope ++ more) o → Safe scope o
  less scope more (Going st) s = record { is = record { agrees = agrees_less declared scope more st.environment.variables s.is.agrees; own = s.is.own } }
  less scope more (Stopped st why) s = record { is = s.is }

  step_safe : (scope after : List Variable) (st : State) (f : State → Progress) → Good scope st → ((st : State) → Good scope st → Safe after (f st)) → Safe after (step_then st f)
  step_safe scope after st f good h =
      elim (nat_lt st.steps 100000) as (λ b. Safe after (cond b (f (record st { steps = st.steps + 1 })) (Stopped st (stop.Fault fault.Steps))))
      [ true ↦ h (record st { steps = st.steps + 1 }) (record { agrees = good.agrees; own = good.own }) | false ↦ record { is = tt } ]

  value_safe : {A : Type 0} (P : A → Type 0) (scope : List Variable) (r : Result A Stop) (st : State) (f : A → Progress) → Of P r → ((x : A) → P x → Safe scope (f x)) → Safe scope (with_value r st f)
  value_safe P scope (Ok x) st f of_r h = h x of_r
  value_safe P scope (Err why) st f of_r h = record { is = of_r }

  some_safe : {A : Type 0} (scope : List Variable) (o : Option A) (x : A) (st : State) (f : A → Progress) → o ≡ Some x → Safe scope (f x) → Safe scope (with_some o st f)
  some_safe scope o x st f is s = subst (λ o. Safe scope (with_some o st f)) (sym is) s

  branch_safe : (scope : List Variable) (v : Value) (st : State) (o p : Progress) → has_kind kind.Bool v ≡ true → Safe scope o → Safe scope p → Safe scope (with_value (flag_of v) st (λ holds. cond holds o p))
  branch_safe scope v st o p of_v so sp =
      bools (λ v. Safe scope (with_value (flag_of v) st (λ holds. cond holds o p))) (λ b. elim b as (λ b. Safe scope (cond b o p)) [ true ↦ so | false ↦ sp ]) v of_v

  -- a statement that brings nothing into scope, or a variable
  quiet : (scope : List Variable) (brought : Option Variable) (o : Progress) → ◌≡◌ {A = Result (Option Variable) Bad} (Ok None) (Ok brought) → Safe scope o → Safe (scope ++ option_to_list brought) o
  quiet scope brought o is s = subst (λ b. Safe (scope ++ option_to_list b) o) (ok_is is) (subst (λ scope. Safe scope o) (sym (append-nil scope)) s)

  brings : (scope : List Variable) (variable : Variable) (brought : Option Variable) (o : Progress) → ◌≡◌ {A = Result (Option Variable) Bad} (Ok (Some variable)) (Ok brought) → Safe (scope ++ variable ∷ []) o → Safe (scope ++ option_to_list brought) o
  brings scope variable brought o is s = subst (λ b. Safe (scope ++ option_to_list b) o) (ok_is is) s

  asked_good : (scope : List Variable) (st : State) (read : Read) (rows : List Seen) → Good scope st → Good scope (asked st read rows)
  asked_good scope st read rows good = record { agrees = good.agrees; own = good.own }

  -- a row comes into scope
  row_good : (scope : List Variable) (name : Named) (number : ℕ) (row : List Value) (st : State) → look_up scope name.name ≡ None → RowOf declared number row → Good scope st
      → Good (scope ++ variable_of name (sort.Row number) ∷ []) (bound st name.name (Held number row))
  row_good scope name number row st none fits good =
      record { agrees = agrees_more declared scope st.environment.variables (variable_of name (sort.Row number)) (Held number row) good.agrees none (refl, fits); own = good.own }

  get_safe : (scope : List Variable) (name : Named) (number : ℕ) (found absent : State → Progress) → look_up scope name.name ≡ None
      → ((st : State) → Good (scope ++ variable_of name (sort.Row number) ∷ []) st → Safe (scope ++ variable_of name (sort.Row number) ∷ []) (found st))
      → ((st : State) → Good scope st → Safe scope (absent st))
      → (rows : List (List Value)) → AllByRecursion (RowOf declared number) rows → (st : State) → Good scope st → Safe scope (get_at number name.name found absent rows st)
  get_safe scope name number found absent none of_found of_absent [] all st good = of_absent st good
  get_safe scope name number found absent none of_found of_absent (row ∷ rest) all st good =
      less scope (variable_of name (sort.Row number) ∷ []) (found (bound st name.name (Held number row))) (of_found (bound st name.name (Held number row)) (row_good scope name number row st none all.0 good))

  visit_safe : (scope : List Variable) (name : Named) (number : ℕ) (body : State → Progress) → look_up scope name.name ≡ None
      → ((st : State) → Good (scope ++ variable_of name (sort.Row number) ∷ []) st → Safe (scope ++ variable_of name (sort.Row number) ∷ []) (body st))
      → (rows : List (List Value)) → AllByRecursion (RowOf declared number) rows → (st : State) → Good scope st → Safe scope (visit number name.name body rows st)
  visit_safe scope name number body none of_body [] all st good = record { is = good }
  visit_safe scope name number body none of_body (row ∷ rest) all st good =
      step_safe scope scope st (λ counted. then_do (body (bound counted name.name (Held number row))) (visit number name.name body rest)) good (λ st good.
      then_safe scope scope (body (bound st name.name (Held number row))) (visit number name.name body rest)
      (less scope (variable_of name (sort.Row number) ∷ []) (body (bound st name.name (Held number row))) (of_body (bound st name.name (Held number row)) (row_good scope name number row st none all.0 good)))
      (visit_safe scope name number body none of_body rest all.1))

  -- ---- reads and writes of a table

  module _ (scope : List Variable) (number : ℕ) (text : TableText) (here : slice_get tables number ≡ Some text) (st : State) (good : Good scope st) where
    abbrev in_declared : slice_get declared number ≡ Some (declare text)
    in_declared = declared_here tables number text here

    row_of : (row : List Value) → RowFits (declare text) row → RowOf declared number row
    row_of row fits = subst (λ d. MatchOption d ⊥ (λ def. RowFits def row)) (sym in_declared) fits

    abbrev point_seen : List Value → List (List Value)
    point_seen key = merged (declare text) (Point number key) st.own (rows (declare text) (Point number key) S)

    point_under : (key : List Value) → AllByRecursion (λ row. RowFits (declare text) row × (key_of_row (declare text) row ≡ key)) (point_seen key)
    point_under key = point_rows declared number (declare text) in_declared key st.own S good.own fit

    point_fit : (key : List Value) → AllByRecursion (RowOf declared number) (point_seen key)
    point_fit key = all_more (λ row. RowFits (declare text) row × (key_of_row (declare text) row ≡ key)) (RowOf declared number) (point_seen key) (λ row under. row_of row under.0) (point_under key)

    span_fit : (column : ℕ) (low high : Option Value)
        → AllByRecursion (RowOf declared number) (merged (declare text) (Span number column low high) st.own (rows (declare text) (Span number column low high) S))
    span_fit column low high =
        all_more (RowFits (declare text)) (RowOf declared number) (merged (declare text) (Span number column low high) st.own (rows (declare text) (Span number column low high) S)) row_of
        (span_rows declared number (declare text) in_declared column low high st.own S good.own fit)

    abbrev now : List Value → State
    now key = asked st (Point number key) (rows (declare text) (Point number key) S)

    wrote_good : (key : List Value) (row : Option (List Value)) → IfSome row (λ row. RowFits (declare text) row × (key_of_row (declare text) row ≡ key)) → Good scope (wrote (now key) number key row)
    wrote_good key row under = record { agrees = good.agrees; own = own_put declared number (declare text) in_declared st.own key row good.own under }

    insert_safe : (key row : List Value) → RowFits (declare text) row × (key_of_row (declare text) row ≡ key) → (rows : List (List Value)) → Safe scope (insert_at number key row rows (now key))
    insert_safe key row under [] = record { is = wrote_good key (Some row) under }
    insert_safe key row under (old ∷ rest) = record { is = tt }

    update_safe : (key : List Value) (changes : List (ℕ × Value)) → AllByRecursion (IsChange (declare text)) changes → (rows : List (List Value))
        → AllByRecursion (λ row. RowFits (declare text) row × (key_of_row (declare text) row ≡ key)) rows → Safe scope (update_at (declare text) number key changes rows (now key))
    update_safe key changes all [] under = record { is = tt }
    update_safe key changes all (row ∷ rest) under =
        let new = set_all (declare text) key changes row all under.0 in
        some_safe scope (row_under (declare text) key (set_columns row changes)) (set_columns row changes) (now key) (λ new. Going (wrote (now key) number key (Some new)))
        (under_is (declare text) key (set_columns row changes) new) (record { is = wrote_good key (Some (set_columns row changes)) new })

    delete_safe : (key : List Value) (rows : List (List Value)) → Safe scope (delete_at number key rows (now key))
    delete_safe key [] = record { is = tt }
    delete_safe key (row ∷ rest) = record { is = wrote_good key None tt }

  -- ---- statements

  -- what the walk says of a statement holds of what it does
  abbrev pub Holds : Walk → (State → Progress) → Type 0
  Holds walk does = (scope : List Variable) (brought : Option Variable) → walk scope ≡ Ok brought → (st : State) → Good scope st → Safe (scope ++ option_to_list brought) (does st)

  abbrev HoldsOf : Stmt → Type 0
  HoldsOf s = Holds (walk_stmt tables s) (act declared S s)

  in_turn_safe : (stmts : List (Such HoldsOf)) (scope : List Variable) → block (map (walk_stmt tables) (map bare stmts)) scope ≡ Ok tt → (st : State) → Good scope st
      → Safe scope (in_turn (map (act declared S) (map bare stmts)) st)
  in_turn_safe [] scope ok st good = record { is = good }
  in_turn_safe (e ∷ es) scope ok st good =
      let walked = ok_then (walk_stmt tables e.0 scope) (λ brought. block (map (walk_stmt tables) (map bare es)) (scope ++ option_to_list brought)) tt ok in
      less scope (option_to_list walked.0) (then_do (step_then st (act declared S e.0)) (in_turn (map (act declared S) (map bare es))))
      (then_safe (scope ++ option_to_list walked.0) (scope ++ option_to_list walked.0) (step_then st (act declared S e.0)) (in_turn (map (act declared S) (map bare es)))
      (step_safe scope (scope ++ option_to_list walked.0) st (act declared S e.0) good (e.1 scope walked.0 walked.1))
      (in_turn_safe es (scope ++ option_to_list walked.0) walked.2))

  new_is : (scope : List Variable) (name : Named) → new_name scope name ≡ Ok tt → look_up scope name.name ≡ None
  new_is scope name ok = not_some (look_up scope name.name) (not_refused (is_some (look_up scope name.name)) name.line NameTwice ok)

  value_is : (scope : List Variable) (name : Named) (k : Kind) → value_kind scope name ≡ Ok k → look_up scope name.name ≡ Some (sort.Value k)
  value_is scope name k ok =
      let known = ok_then (found (look_up scope name.name) name.line UnknownName) (sort_kind name.line) k ok in
      found_some (look_up scope name.name) name.line UnknownName known.0 known.1 ∙ ap Some (of_sort name.line known.0 k known.2)
    where
      of_sort : (line : ℕ) (s : Sort) (k : Kind) → sort_kind line s ≡ Ok k → s ≡ sort.Value k
      of_sort line (sort.Value kind) k h = ap sort.Value (ok_is h)
      of_sort line (sort.Row number) k h = absurd (err_ok h)

  let_safe : (name : Named) (e : Expr) → Holds (λ scope. walk_let tables scope name e >>= λ k. Ok (Some (variable_of name (sort.Value k)))) (λ st. with_value (value_of declared e st.environment) st (λ v. Going (bound st name.name (Plain v))))
  let_safe name e scope brought ok st good =
      let walked = ok_then (walk_let tables scope name e) (λ k. Ok (Some (variable_of name (sort.Value k)))) brought ok in
      let new = ok_then (new_name scope name) (λ _. (type_of tables scope e).kind) walked.0 walked.1 in
      brings scope (variable_of name (sort.Value walked.0)) brought (with_value (value_of declared e st.environment) st (λ v. Going (bound st name.name (Plain v)))) walked.2
      (value_safe (λ v. has_kind walked.0 v ≡ true) (scope ++ variable_of name (sort.Value walked.0) ∷ []) (value_of declared e st.environment) st (λ v. Going (bound st name.name (Plain v)))
      (expr_typed tables scope st.environment good.agrees e walked.0 new.2)
      (λ v of_v. record { is = record { agrees = agrees_more declared scope st.environment.variables (variable_of name (sort.Value walked.0)) (Plain v) good.agrees (new_is scope name new.1) of_v; own = good.own } }))

  assign_safe : (name : Named) (e : Expr) → Holds (λ scope. walk_assign tables scope name e >>= λ _. Ok None) (λ st. with_value (value_of declared e st.environment) st (λ v. Going (bound st name.name (Plain v))))
  assign_safe name e scope brought ok st good =
      let walked = ok_then (walk_assign tables scope name e) (λ _. Ok None) brought ok in
      let known = ok_then (value_kind scope name) (λ k. need (Some k) (type_of tables scope e)) tt walked.1 in
      quiet scope brought (with_value (value_of declared e st.environment) st (λ v. Going (bound st name.name (Plain v)))) walked.2
      (value_safe (λ v. has_kind known.0 v ≡ true) scope (value_of declared e st.environment) st (λ v. Going (bound st name.name (Plain v)))
      (expr_typed tables scope st.environment good.agrees e known.0 (needed_kind known.0 (type_of tables scope e) known.2))
      (λ v of_v. record { is = record { agrees = agrees_set declared scope st.environment.variables name.name known.0 v good.agrees (value_is scope name known.0 known.1) of_v; own = good.own } }))

  -- the two blocks of an `if`
  if_safe : (test : Expr) (body : List (Such HoldsOf)) (other : Option (List (Such HoldsOf))) → (scope : List Variable) (brought : Option Variable)
      → (need (Some kind.Bool) (type_of tables scope test) >>= λ _. block (map (walk_stmt tables) (map bare body)) scope >>= λ _.
      maybe_block (option_map (map (walk_stmt tables)) (option_map (map bare) other)) scope >>= λ _. Ok None) ≡ Ok brought
      → (st : State) → Good scope st → Safe (scope ++ option_to_list brought)
      (with_value (value_of declared test st.environment) st (λ v. with_value (flag_of v) st (λ holds. cond holds (in_turn (map (act declared S) (map bare body)) st) (in_turn_if (option_map (map (act declared S)) (option_map (map bare) other)) st))))
  if_safe test body other scope brought ok st good =
      let tested = ok_then (need (Some kind.Bool) (type_of tables scope test)) (λ _. block (map (walk_stmt tables) (map bare body)) scope >>= λ _.
      maybe_block (option_map (map (walk_stmt tables)) (option_map (map bare) other)) scope >>= λ _. Ok None) brought ok in
      let walked = ok_then (block (map (walk_stmt tables) (map bare body)) scope) (λ _. maybe_block (option_map (map (walk_stmt tables)) (option_map (map bare) other)) scope >>= λ _. Ok None) brought tested.2 in
      let rest = ok_then (maybe_block (option_map (map (walk_stmt tables)) (option_map (map bare) other)) scope) (λ _. Ok None) brought walked.2 in
      quiet scope brought _ rest.2
      (value_safe (λ v. has_kind kind.Bool v ≡ true) scope (value_of declared test st.environment) st _
      (expr_typed tables scope st.environment good.agrees test kind.Bool (needed_kind kind.Bool (type_of tables scope test) tested.1))
      (λ v of_v. branch_safe scope v st (in_turn (map (act declared S) (map bare body)) st) (in_turn_if (option_map (map (act declared S)) (option_map (map bare) other)) st) of_v
      (in_turn_safe body scope walked.1 st good) (maybe_safe other rest.1)))
    where
      maybe_safe : (other : Option (List (Such HoldsOf))) → maybe_block (option_map (map (walk_stmt tables)) (option_map (map bare) other)) scope ≡ Ok tt
          → Safe scope (in_turn_if (option_map (map (act declared S)) (option_map (map bare) other)) st)
      maybe_safe None ok = record { is = good }
      maybe_safe (Some stmts) ok = in_turn_safe stmts scope ok st good

  get_holds : (name table : Named) (key : List Expr) (found absent : List (Such HoldsOf)) → (scope : List Variable) (brought : Option Variable)
      → (walk_get tables scope name table key >>= λ number. block (map (walk_stmt tables) (map bare found)) (scope ++ variable_of name (sort.Row number) ∷ []) >>= λ _.
      block (map (walk_stmt tables) (map bare absent)) scope >>= λ _. Ok None) ≡ Ok brought
      → (st : State) → Good scope st → Safe (scope ++ option_to_list brought)
      (with_some (table_named declared table.name) st (λ named. with_value (values_of declared key st.environment) st (λ key. with_some (point_of named.1 named.0 key) st (λ read.
      with_rows S named.1 read st (get_at named.0 name.name (in_turn (map (act declared S) (map bare found))) (in_turn (map (act declared S) (map bare absent))))))))
  get_holds name table key found absent scope brought ok st good =
      let walked = ok_then (walk_get tables scope name table key) (λ number. block (map (walk_stmt tables) (map bare found)) (scope ++ variable_of name (sort.Row number) ∷ []) >>= λ _.
      block (map (walk_stmt tables) (map bare absent)) scope >>= λ _. Ok None) brought ok in
      let new = ok_then (new_name scope name) (λ _. keyed tables scope table key) walked.0 walked.1 in
      let one = ok_then (block (map (walk_stmt tables) (map bare found)) (scope ++ variable_of name (sort.Row walked.0) ∷ [])) (λ _. block (map (walk_stmt tables) (map bare absent)) scope >>= λ _. Ok None) brought walked.2 in
      let two = ok_then (block (map (walk_stmt tables) (map bare absent)) scope) (λ _. Ok None) brought one.2 in
      let k = keyed_is tables scope st.environment good.agrees table key walked.0 new.2 in
      let def = declare k.known.text in
      quiet scope brought _ two.2
      (some_safe scope (table_named declared table.name) (walked.0, def) st _ k.known.named
      (value_safe (λ vs. have_kinds (map (kind_at def) def.key) vs ≡ true) scope (values_of declared key st.environment) st _ k.fits (λ vs fits.
      some_safe scope (point_of def walked.0 vs) (Point walked.0 vs) st _ (point_is def walked.0 vs fits)
      (get_safe scope name walked.0 (in_turn (map (act declared S) (map bare found))) (in_turn (map (act declared S) (map bare absent))) (new_is scope name new.1)
      (in_turn_safe found (scope ++ variable_of name (sort.Row walked.0) ∷ []) one.1) (in_turn_safe absent scope two.1)
      _ (point_fit scope walked.0 k.known.text k.known.here st good vs) _ (asked_good scope st (Point walked.0 vs) (rows def (Point walked.0 vs) S) good)))))

  -- the span of a `for`
  record Spanned (scope : List Variable) (environment : Environment) (text : TableText) (column : Named) (low high : Option Expr) : Type 0 where
    pub kind : Kind
    pub number : ℕ
    pub is_in : column_in (declare text) column.name ≡ Some number
    pub indexed : list_any (λ c. c == number) (span_columns (declare text)) ≡ true
    pub of_kind : kind_at (declare text) number ≡ kind
    pub of_low : Of (λ v. end_has kind v ≡ true) (end_of declared low environment)
    pub of_high : Of (λ v. end_has kind v ≡ true) (end_of declared high environment)

  spanned_is : (scope : List Variable) (environment : Environment) → Agrees declared scope environment.variables → (number : ℕ) (text : TableText) → slice_get tables number ≡ Some text → (column : Named) (low high : Option Expr)
      → walk_span tables scope number column low high ≡ Ok tt → Spanned scope environment text column low high
  spanned_is scope environment agrees number text here column low high ok =
      let known = ok_then (known_column tables number column) (λ k. refuse (not (is_spanned tables number column.name)) column.line NoIndex >>= λ _. end_fits tables scope k low >>= λ _. end_fits tables scope k high) tt ok in
      let on = ok_then (refuse (not (is_spanned tables number column.name)) column.line NoIndex) (λ _. end_fits tables scope known.0 low >>= λ _. end_fits tables scope known.0 high) tt known.2 in
      let ends = ok_then (end_fits tables scope known.0 low) (λ _. end_fits tables scope known.0 high) tt on.2 in
      let of_column : column_kind text.columns column.name ≡ Some known.0 =
      ap (λ t. column_kind (columns_in t) column.name) (sym here) ∙ found_some (column_kind (columns_of tables number) column.name) column.line UnknownName known.0 known.1 in
      let on_text : is_spanned_in (Some text) column.name ≡ true =
      ap (λ t. is_spanned_in t column.name) (sym here) ∙ not_false (is_spanned tables number column.name) (not_refused (not (is_spanned tables number column.name)) column.line NoIndex on.1) in
      let at_number = number_at text.columns column.name known.0 of_column in
      record {
        kind = known.0;
        number = at_number.0;
        is_in = run_number text.columns column.name at_number.0 at_number.1;
        indexed = spanned text column.name at_number.0 at_number.1 on_text;
        of_kind = get_or_from_slice_get (kinds_of text.columns) at_number.0 known.0 kind.Int at_number.2;
        of_low = end_typed tables scope environment agrees known.0 low ends.1;
        of_high = end_typed tables scope environment agrees known.0 high ends.2;
      }

  for_holds : (name table column : Named) (low high : Option Expr) (body : List (Such HoldsOf)) → (scope : List Variable) (brought : Option Variable)
      → (walk_for tables scope name table column low high >>= λ number. block (map (walk_stmt tables) (map bare body)) (scope ++ variable_of name (sort.Row number) ∷ []) >>= λ _. Ok None) ≡ Ok brought
      → (st : State) → Good scope st → Safe (scope ++ option_to_list brought)
      (with_some (table_named declared table.name) st (λ named. with_value (end_of declared low st.environment) st (λ low. with_value (end_of declared high st.environment) st (λ high.
      with_some (span_of named.1 named.0 (column_in named.1 column.name) low high) st (λ read. with_rows S named.1 read st (visit named.0 name.name (in_turn (map (act declared S) (map bare body)))))))))
  for_holds name table column low high body scope brought ok st good =
      let walked = ok_then (walk_for tables scope name table column low high) (λ number. block (map (walk_stmt tables) (map bare body)) (scope ++ variable_of name (sort.Row number) ∷ []) >>= λ _. Ok None) brought ok in
      let new = ok_then (new_name scope name) (λ _. known_table tables table >>= λ number. walk_span tables scope number column low high >>= λ _. Ok number) walked.0 walked.1 in
      let named = ok_then (known_table tables table) (λ number. walk_span tables scope number column low high >>= λ _. Ok number) walked.0 new.2 in
      let span = ok_then (walk_span tables scope named.0 column low high) (λ _. Ok named.0) walked.0 named.2 in
      let inner = ok_then (block (map (walk_stmt tables) (map bare body)) (scope ++ variable_of name (sort.Row walked.0) ∷ [])) (λ _. Ok None) brought walked.2 in
      let known = subst (Known tables table.name) (ok_is span.2) (known_is tables table named.0 named.1) in
      let def = declare known.text in
      let s = spanned_is scope st.environment good.agrees walked.0 known.text known.here column low high (subst (λ n. walk_span tables scope n column low high ≡ Ok tt) (ok_is span.2) span.1) in
      quiet scope brought _ inner.2
      (some_safe scope (table_named declared table.name) (walked.0, def) st _ known.named
      (value_safe (λ v. end_has s.kind v ≡ true) scope (end_of declared low st.environment) st _ s.of_low (λ l of_low.
      value_safe (λ v. end_has s.kind v ≡ true) scope (end_of declared high st.environment) st _ s.of_high (λ h of_high.
      some_safe scope (span_of def walked.0 (column_in def column.name) l h) (Span walked.0 s.number l h) st _ (span_is known.text walked.0 column.name s.number s.kind l h s.is_in s.indexed s.of_kind of_low of_high)
      (visit_safe scope name walked.0 (in_turn (map (act declared S) (map bare body))) (new_is scope name new.1) (in_turn_safe body (scope ++ variable_of name (sort.Row walked.0) ∷ []) inner.1)
      _ (span_fit scope walked.0 known.text known.here st good s.number l h) _ (asked_good scope st (Span walked.0 s.number l h) (rows def (Span walked.0 s.number l h) S) good))))))

  insert_holds : (table : Named) (values : List Expr) → Holds (λ scope. walk_insert tables scope table values >>= λ _. Ok None)
      (λ st. with_some (table_named declared table.name) st (λ named. with_value (values_of declared values st.environment) st (λ row. with_some (key_for named.1 row) st (λ key.
      with_rows S named.1 (Point named.0 key) st (insert_at named.0 key row)))))
  insert_holds table values scope brought ok st good =
      let walked = ok_then (walk_insert tables scope table values) (λ _. Ok None) brought ok in
      let named = ok_then (known_table tables table) (λ number. all_fit (λ column. Some column.kind) tables scope table (columns_of tables number) values) tt walked.1 in
      let known = known_is tables table named.0 named.1 in
      let def = declare known.text in
      let fits = all_fit_is (λ column. Some column.kind) tables scope table known.text.columns values
      (subst (λ t. all_fit (λ column. Some column.kind) tables scope table (columns_in t) values ≡ Ok tt) known.here named.2) in
      quiet scope brought _ walked.2
      (some_safe scope (table_named declared table.name) (named.0, def) st _ known.named
      (value_safe (λ row. row_fits def row ≡ true) scope (values_of declared values st.environment) st _ (insert_typed tables scope st.environment good.agrees known.text.columns values fits.0 fits.1) (λ row of_row.
      some_safe scope (key_for def row) (key_of_row def row) st _ (ap (λ b. cond b (Some (key_of_row def row)) None) of_row)
      (insert_safe scope named.0 known.text known.here st good (key_of_row def row) row (kinds_hold (map (λ column. column.kind) def.columns) row of_row, refl) _))))

  update_holds : (table : Named) (key : List Expr) (changes : List Change) → Holds (λ scope. walk_update tables scope table key changes >>= λ _. Ok None)
      (λ st. with_some (table_named declared table.name) st (λ named. with_value (values_of declared key st.environment) st (λ key. with_value (changes_of declared named.1 changes st.environment) st (λ changes.
      with_some (point_of named.1 named.0 key) st (λ read. with_rows S named.1 read st (update_at named.1 named.0 key changes))))))
  update_holds table key changes scope brought ok st good =
      let walked = ok_then (walk_update tables scope table key changes) (λ _. Ok None) brought ok in
      let named = ok_then (keyed tables scope table key) (λ number. in_order (walk_change tables scope number) [] changes) tt walked.1 in
      let k = keyed_is tables scope st.environment good.agrees table key named.0 named.1 in
      let def = declare k.known.text in
      quiet scope brought _ walked.2
      (some_safe scope (table_named declared table.name) (named.0, def) st _ k.known.named
      (value_safe (λ vs. have_kinds (map (kind_at def) def.key) vs ≡ true) scope (values_of declared key st.environment) st _ k.fits (λ vs fits.
      value_safe (AllByRecursion (IsChange def)) scope (changes_of declared def changes st.environment) st _ (changes_typed tables scope st.environment good.agrees named.0 k.known.text k.known.here [] changes named.2) (λ cs all.
      some_safe scope (point_of def named.0 vs) (Point named.0 vs) st _ (point_is def named.0 vs fits)
      (update_safe scope named.0 k.known.text k.known.here st good vs cs all _ (point_under scope named.0 k.known.text k.known.here st good vs))))))

  delete_holds : (table : Named) (key : List Expr) → Holds (λ scope. keyed tables scope table key >>= λ _. Ok None)
      (λ st. with_some (table_named declared table.name) st (λ named. with_value (values_of declared key st.environment) st (λ key.
      with_some (point_of named.1 named.0 key) st (λ read. with_rows S named.1 read st (delete_at named.0 key)))))
  delete_holds table key scope brought ok st good =
      let walked = ok_then (keyed tables scope table key) (λ _. Ok None) brought ok in
      let k = keyed_is tables scope st.environment good.agrees table key walked.0 walked.1 in
      let def = declare k.known.text in
      quiet scope brought _ walked.2
      (some_safe scope (table_named declared table.name) (walked.0, def) st _ k.known.named
      (value_safe (λ vs. have_kinds (map (kind_at def) def.key) vs ≡ true) scope (values_of declared key st.environment) st _ k.fits (λ vs fits.
      some_safe scope (point_of def walked.0 vs) (Point walked.0 vs) st _ (point_is def walked.0 vs fits)
      (delete_safe scope walked.0 k.known.text k.known.here st good vs _))))

  holds_step : (d : Stmt-F (Such HoldsOf)) → Holds (stmt_step tables (map-Stmt Stmt Walk (walk_stmt tables) (stripped d))) (act_step declared S (map-Stmt Stmt (State → Progress) (act declared S) (stripped d)))
  holds_step (stmt.Let name e) = let_safe name e
  holds_step (stmt.Assign name e) = assign_safe name e
  holds_step (stmt.If test body None) = if_safe test body None
  holds_step (stmt.If test body (Some other)) = if_safe test body (Some other)
  holds_step (stmt.Get name table key found absent) = get_holds name table key found absent
  holds_step (stmt.For name table column low high body) = for_holds name table column low high body
  holds_step (stmt.Insert table values) = insert_holds table values
  holds_step (stmt.Update table key changes) = update_holds table key changes
  holds_step (stmt.Delete table key) = delete_holds table key
  holds_step (stmt.Fail text) = λ scope brought ok st good. quiet scope brought _ ok (record { is = tt })

  stmt_holds : (s : Stmt) → HoldsOf s
  stmt_holds = every_pair Walk (State → Progress) (stmt_step tables) (act_step declared S) Holds holds_step

  -- a block of statements
  pub block_safe : (stmts : List Stmt) (scope : List Variable) → block (map (walk_stmt tables) stmts) scope ≡ Ok tt → (st : State) → Good scope st → Safe scope (in_turn (map (act declared S) stmts) st)
  block_safe stmts scope ok st good =
      subst (λ ss. Safe scope (in_turn (map (act declared S) ss) st)) (bare_such stmts)
      (in_turn_safe (map such stmts) scope (subst (λ ss. block (map (walk_stmt tables) ss) scope ≡ Ok tt) (sym (bare_such stmts)) ok) st good)
    where
      such : Stmt → Such HoldsOf
      such s = (s, stmt_holds s)

      bare_such : (stmts : List Stmt) → map bare (map such stmts) ≡ stmts
      bare_such [] = refl
      bare_such (s ∷ stmts) = ap (λ rest. s ∷ rest) (bare_such stmts)
