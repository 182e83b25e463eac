-- The check of applications in a form that computes: folds over expressions and statements do not, so both are data here, of the forms that a load's
-- application has.
use Rattle.std.proofs.Common.{List, None, Option, Some, [], ap, false, map, refl, suc, sym, ◌++◌, ◌==◌, ◌∙◌, ◌≡◌, ◌∷◌, ℕ}
use Rattle.std.specs.Prelude.{Ok, Result, length, not, pos}
use Rattle.proc_check.specs.Apps.{fault_of, first_fault, parameter, walk_proc}
use Rattle.proc_check.specs.Kinds.{need, type_of, type_step}
use Rattle.proc_check.specs.Scope.{new_name, value_kind, variable_of}
use Rattle.proc_check.specs.Statements.{Walk, block, each_fits, keyed, stmt_step, walk_stmt}
use Rattle.proc_check.specs.Tables.{column_kind, columns_of, is_spanned, key_of, known_column, known_table, walk_table}
use Rattle.proc_check.specs.Walk.{◌>>=◌, fresh, has_name, in_order, refuse}
use Rattle.proc_check.specs.declared.expressions.Typed.{Typed}
use Rattle.proc_check.specs.declared.fault.Bad.{Bad}
use Rattle.proc_check.specs.declared.fault.BadKind.TheVariants.{KeySet, NameTwice, NoIndex, WrongCount}
use Rattle.proc_check.specs.declared.scope.Sort.TheVariants as sort
use Rattle.proc_check.specs.declared.scope.Variable.{Variable}
use Rattle.proc_syntax.specs.declared.tree.App.{App}
use Rattle.proc_syntax.specs.declared.tree.Change.{Change}
use Rattle.proc_syntax.specs.declared.tree.ColumnText.{ColumnText}
use Rattle.proc_syntax.specs.declared.tree.Expr.{Expr, fold-roll-Expr}
use Rattle.proc_syntax.specs.declared.tree.Expr.TheOpen as layer
use Rattle.proc_syntax.specs.declared.tree.Expr.TheVariants as expr
use Rattle.proc_syntax.specs.declared.tree.Named.{Named}
use Rattle.proc_syntax.specs.declared.tree.Op.{Op}
use Rattle.proc_syntax.specs.declared.tree.ProcDef.{ProcDef}
use Rattle.proc_syntax.specs.declared.tree.Stmt.{Stmt, Stmt-F, fold-roll-Stmt}
use Rattle.proc_syntax.specs.declared.tree.Stmt.TheOpen as stage
use Rattle.proc_syntax.specs.declared.tree.Stmt.TheVariants as stmt
use Rattle.proc_syntax.specs.declared.tree.TableText.{TableText}
use Rattle.rel_base.specs.declared.value.Kind.{Kind}
use Rattle.rel_base.specs.declared.value.Kind.TheVariants as kind
use Rattle.rel_base.specs.declared.value.Value.TheVariants as value

-- ---- expressions as data

pub data Term : Type 0 where
  Number : ℕ → ℕ → Term
  Var : Named → Term
  Field : Named → Named → Term
  Two : Op → Term → Term → Term

abbrev pub expr_of : Term → Expr
expr_of (Number n line) = expr.Value (value.Int (pos n)) line
expr_of (Var name) = expr.Var name
expr_of (Field row column) = expr.Field row column
expr_of (Two op left right) = expr.Two op (expr_of left) (expr_of right)

abbrev pub kinds : List TableText → List Variable → Term → Typed
kinds tables scope (Number n line) = type_step tables scope (layer.Value (value.Int (pos n)) line)
kinds tables scope (Var name) = type_step tables scope (layer.Var name)
kinds tables scope (Field row column) = type_step tables scope (layer.Field row column)
kinds tables scope (Two op left right) = type_step tables scope (layer.Two op (kinds tables scope left) (kinds tables scope right))

abbrev types : List TableText → List Variable → Term → Typed
types tables scope term = type_of tables scope (expr_of term)

kinds_are : (tables : List TableText) (scope : List Variable) (term : Term) → types tables scope term ≡ kinds tables scope term
kinds_are tables scope (Number n line) =
    ap (type_of tables scope) (sym (expr.rolls-Value (value.Int (pos n)) line)) ∙ fold-roll-Expr Typed (type_step tables scope) (layer.Value (value.Int (pos n)) line)
kinds_are tables scope (Var name) = ap (type_of tables scope) (sym (expr.rolls-Var name)) ∙ fold-roll-Expr Typed (type_step tables scope) (layer.Var name)
kinds_are tables scope (Field row column) = ap (type_of tables scope) (sym (expr.rolls-Field row column)) ∙ fold-roll-Expr Typed (type_step tables scope) (layer.Field row column)
kinds_are tables scope (Two op left right) =
    ap (type_of tables scope) (sym (expr.rolls-Two op (expr_of left) (expr_of right)))
    ∙ (fold-roll-Expr Typed (type_step tables scope) (layer.Two op (expr_of left) (expr_of right))
    ∙ (λ i. type_step tables scope (layer.Two op (kinds_are tables scope left i) (kinds_are tables scope right i))))

-- ---- statements as data

-- the statements of a block
pub data Forms : Type 0 where
  End : Forms
  Let : Named → Term → Forms → Forms
  Assign : Named → Term → Forms → Forms
  If : Term → Forms → Forms → Forms
  IfElse : Term → Forms → Forms → Forms → Forms
  Get : Named → Named → Term → Forms → Forms → Forms → Forms
  For : Named → Named → Named → Term → Term → Forms → Forms → Forms
  Insert : Named → List Term → Forms → Forms
  Update : Named → Term → Named → Term → Forms → Forms
  Delete : Named → Term → Forms → Forms
  Fail : List ℕ → Forms → Forms

abbrev set : Named → Term → Change
set column term = record { column = column; value = expr_of term }

abbrev pub stmts : Forms → List Stmt
stmts End = []
stmts (Let name term rest) = stmt.Let name (expr_of term) ∷ stmts rest
stmts (Assign name term rest) = stmt.Assign name (expr_of term) ∷ stmts rest
stmts (If test then rest) = stmt.If (expr_of test) (stmts then) None ∷ stmts rest
stmts (IfElse test then other rest) = stmt.If (expr_of test) (stmts then) (Some (stmts other)) ∷ stmts rest
stmts (Get name table key found absent rest) = stmt.Get name table (expr_of key ∷ []) (stmts found) (stmts absent) ∷ stmts rest
stmts (For name table column low high body rest) = stmt.For name table column (Some (expr_of low)) (Some (expr_of high)) (stmts body) ∷ stmts rest
stmts (Insert table terms rest) = stmt.Insert table (map expr_of terms) ∷ stmts rest
stmts (Update table key column term rest) = stmt.Update table (expr_of key ∷ []) (set column term ∷ []) ∷ stmts rest
stmts (Delete table key rest) = stmt.Delete table (expr_of key ∷ []) ∷ stmts rest
stmts (Fail text rest) = stmt.Fail text ∷ stmts rest

-- ---- their check, by what gives the kinds of expressions

abbrev no_fault : Result (Unit {0}) Bad
no_fault = Ok tt

module _ (typ : List TableText → List Variable → Term → Typed) (tables : List TableText) where
  abbrev each_by : {A : Type 0} → (A → Option Kind) → List Variable → List A → List Term → Result (Unit {0}) Bad
  each_by kind scope (place ∷ places) (term ∷ terms) = need (kind place) (typ tables scope term) >>= λ _. each_by kind scope places terms
  each_by kind scope _ _ = Ok tt

  abbrev keyed_by : List Variable → Named → Term → Result ℕ Bad
  keyed_by scope name key =
      known_table tables name >>= λ table.
      (refuse (not (1 == length (key_of tables table))) name.line WrongCount >>= λ _.
      each_by (λ column. column_kind (columns_of tables table) column.name) scope (key_of tables table) (key ∷ [])) >>= λ _. Ok table

  abbrev let_by : Named → Term → Walk
  let_by name term scope = (new_name scope name >>= λ _. (typ tables scope term).kind) >>= λ kind. Ok (Some (variable_of name (sort.Value kind)))

  abbrev assign_by : Named → Term → Walk
  assign_by name term scope = (value_kind scope name >>= λ kind. need (Some kind) (typ tables scope term)) >>= λ _. Ok None

  abbrev if_by : Term → List Walk → Walk
  if_by test then scope = need (Some kind.Bool) (typ tables scope test) >>= λ _. block then scope >>= λ _. no_fault >>= λ _. Ok None

  abbrev if_else_by : Term → List Walk → List Walk → Walk
  if_else_by test then other scope = need (Some kind.Bool) (typ tables scope test) >>= λ _. block then scope >>= λ _. block other scope >>= λ _. Ok None

  abbrev get_by : Named → Named → Term → List Walk → List Walk → Walk
  get_by name table key found absent scope =
      (new_name scope name >>= λ _. keyed_by scope table key) >>= λ number.
      block found (scope ++ variable_of name (sort.Row number) ∷ []) >>= λ _. block absent scope >>= λ _. Ok None

  abbrev for_by : Named → Named → Named → Term → Term → List Walk → Walk
  for_by name table column low high body scope =
      (new_name scope name >>= λ _.
      known_table tables table >>= λ number.
      (known_column tables number column >>= λ kind.
      refuse (not (is_spanned tables number column.name)) column.line NoIndex >>= λ _.
      need (Some kind) (typ tables scope low) >>= λ _. need (Some kind) (typ tables scope high)) >>= λ _. Ok number) >>= λ number.
      block body (scope ++ variable_of name (sort.Row number) ∷ []) >>= λ _. Ok None

  abbrev insert_by : Named → List Term → Walk
  insert_by table terms scope =
      (known_table tables table >>= λ number.
      refuse (not (length terms == length (columns_of tables number))) table.line WrongCount >>= λ _.
      each_by (λ column. Some column.kind) scope (columns_of tables number) terms) >>= λ _. Ok None

  abbrev update_by : Named → Term → Named → Term → Walk
  update_by table key column term scope =
      (keyed_by scope table key >>= λ number.
      (known_column tables number column >>= λ kind.
      refuse (has_name (λ other. other) (key_of tables number) column.name) column.line KeySet >>= λ _.
      refuse false column.line NameTwice >>= λ _.
      need (Some kind) (typ tables scope term)) >>= λ _. no_fault) >>= λ _. Ok None

  abbrev delete_by : Named → Term → Walk
  delete_by table key scope = keyed_by scope table key >>= λ _. Ok None

  abbrev fail_by : Walk
  fail_by scope = Ok None

  abbrev walks : Forms → List Walk
  walks End = []
  walks (Let name term rest) = let_by name term ∷ walks rest
  walks (Assign name term rest) = assign_by name term ∷ walks rest
  walks (If test then rest) = if_by test (walks then) ∷ walks rest
  walks (IfElse test then other rest) = if_else_by test (walks then) (walks other) ∷ walks rest
  walks (Get name table key found absent rest) = get_by name table key (walks found) (walks absent) ∷ walks rest
  walks (For name table column low high body rest) = for_by name table column low high (walks body) ∷ walks rest
  walks (Insert table terms rest) = insert_by table terms ∷ walks rest
  walks (Update table key column term rest) = update_by table key column term ∷ walks rest
  walks (Delete table key rest) = delete_by table key ∷ walks rest
  walks (Fail text rest) = fail_by ∷ walks rest

-- ---- by those of the check it is the check

module _ (tables : List TableText) where
  terms_count : (terms : List Term) → length (map expr_of terms) ≡ length terms
  terms_count [] = refl
  terms_count (term ∷ terms) = ap suc (terms_count terms)

  each_is : {A : Type 0} (kind : A → Option Kind) (scope : List Variable) (places : List A) (terms : List Term)
      → each_fits kind tables scope places (map expr_of terms) ≡ each_by types tables kind scope places terms
  each_is kind scope (place ∷ places) (term ∷ terms) = ap (λ (r : Result (Unit {0}) Bad). need (kind place) (types tables scope term) >>= λ _. r) (each_is kind scope places terms)
  each_is kind scope (place ∷ places) [] = refl
  each_is kind scope [] terms = refl

  keyed_is : (scope : List Variable) (name : Named) (key : Term) → keyed tables scope name (expr_of key ∷ []) ≡ keyed_by types tables scope name key
  keyed_is scope name key =
      λ i. known_table tables name >>= λ table.
      (refuse (not (1 == length (key_of tables table))) name.line WrongCount >>= λ _.
      each_is (λ column. column_kind (columns_of tables table) column.name) scope (key_of tables table) (key ∷ []) i) >>= λ _. Ok table

  insert_is : (table : Named) (terms : List Term) (scope : List Variable) → stmt_step tables (stage.Insert table (map expr_of terms)) scope ≡ insert_by types tables table terms scope
  insert_is table terms scope =
      λ i. (known_table tables table >>= λ number.
      refuse (not (terms_count terms i == length (columns_of tables number))) table.line WrongCount >>= λ _.
      each_is (λ column. Some column.kind) scope (columns_of tables number) terms i) >>= λ _. Ok None

  abbrev folded : Stmt → Walk
  folded = walk_stmt tables

  put_first : {x y : Walk} {xs ys : List Walk} → x ≡ y → xs ≡ ys → x ∷ xs ≡ y ∷ ys
  put_first p q = λ i. p i ∷ q i

  same_walk : (x y : Walk) → ((scope : List Variable) → x scope ≡ y scope) → x ≡ y
  same_walk x y same = λ i scope. same scope i

  abbrev step : Stmt-F Walk → Walk
  step = stmt_step tables

  walks_are : (forms : Forms) → map folded (stmts forms) ≡ walks types tables forms
  walks_are End = refl
  walks_are (Let name term rest) =
      put_first (ap folded (sym (stmt.rolls-Let name (expr_of term))) ∙ (fold-roll-Stmt Walk step (stage.Let name (expr_of term))
      ∙ same_walk (step (stage.Let name (expr_of term))) (let_by types tables name term) (λ scope. refl))) (walks_are rest)
  walks_are (Assign name term rest) =
      put_first (ap folded (sym (stmt.rolls-Assign name (expr_of term))) ∙ (fold-roll-Stmt Walk step (stage.Assign name (expr_of term))
      ∙ same_walk (step (stage.Assign name (expr_of term))) (assign_by types tables name term) (λ scope. refl))) (walks_are rest)
  walks_are (If test then rest) =
      put_first (ap folded (sym (stmt.rolls-If (expr_of test) (stmts then) None)) ∙ (fold-roll-Stmt Walk step (stage.If (expr_of test) (stmts then) None)
      ∙ (ap (λ (w : List Walk). step (stage.If (expr_of test) w None)) (walks_are then)
      ∙ same_walk (step (stage.If (expr_of test) (walks types tables then) None)) (if_by types tables test (walks types tables then)) (λ scope. refl)))) (walks_are rest)
  walks_are (IfElse test then other rest) =
      put_first (ap folded (sym (stmt.rolls-If (expr_of test) (stmts then) (Some (stmts other)))) ∙ (fold-roll-Stmt Walk step (stage.If (expr_of test) (stmts then) (Some (stmts other)))
      ∙ ((λ i. step (stage.If (expr_of test) (walks_are then i) (Some (walks_are other i))))
      ∙ same_walk (step (stage.If (expr_of test) (walks types tables then) (Some (walks types tables other)))) (if_else_by types tables test (walks types tables then) (walks types tables other)) (λ scope. refl))))
      (walks_are rest)
  walks_are (Get name table key found absent rest) =
      put_first (ap folded (sym (stmt.rolls-Get name table (expr_of key ∷ []) (stmts found) (stmts absent))) ∙ (fold-roll-Stmt Walk step (stage.Get name table (expr_of key ∷ []) (stmts found) (stmts absent))
      ∙ ((λ i. step (stage.Get name table (expr_of key ∷ []) (walks_are found i) (walks_are absent i)))
      ∙ same_walk (step (stage.Get name table (expr_of key ∷ []) (walks types tables found) (walks types tables absent))) (get_by types tables name table key (walks types tables found) (walks types tables absent))
      (λ scope. λ i. (new_name scope name >>= λ _. keyed_is scope table key i) >>= λ number.
      block (walks types tables found) (scope ++ variable_of name (sort.Row number) ∷ []) >>= λ _. block (walks types tables absent) scope >>= λ _. Ok None)))) (walks_are rest)
  walks_are (For name table column low high body rest) =
      put_first (ap folded (sym (stmt.rolls-For name table column (Some (expr_of low)) (Some (expr_of high)) (stmts body)))
      ∙ (fold-roll-Stmt Walk step (stage.For name table column (Some (expr_of low)) (Some (expr_of high)) (stmts body))
      ∙ (ap (λ (w : List Walk). step (stage.For name table column (Some (expr_of low)) (Some (expr_of high)) w)) (walks_are body)
      ∙ same_walk (step (stage.For name table column (Some (expr_of low)) (Some (expr_of high)) (walks types tables body))) (for_by types tables name table column low high (walks types tables body)) (λ scope. refl))))
      (walks_are rest)
  walks_are (Insert table terms rest) =
      put_first (ap folded (sym (stmt.rolls-Insert table (map expr_of terms))) ∙ (fold-roll-Stmt Walk step (stage.Insert table (map expr_of terms))
      ∙ same_walk (step (stage.Insert table (map expr_of terms))) (insert_by types tables table terms) (insert_is table terms))) (walks_are rest)
  walks_are (Update table key column term rest) =
      put_first (ap folded (sym (stmt.rolls-Update table (expr_of key ∷ []) (set column term ∷ []))) ∙ (fold-roll-Stmt Walk step (stage.Update table (expr_of key ∷ []) (set column term ∷ []))
      ∙ same_walk (step (stage.Update table (expr_of key ∷ []) (set column term ∷ []))) (update_by types tables table key column term)
      (λ scope. ap (λ (r : Result ℕ Bad). (r >>= λ number.
      (known_column tables number column >>= λ kind.
      refuse (has_name (λ other. other) (key_of tables number) column.name) column.line KeySet >>= λ _.
      refuse false column.line NameTwice >>= λ _.
      need (Some kind) (types tables scope term)) >>= λ _. no_fault) >>= λ _. Ok None) (keyed_is scope table key)))) (walks_are rest)
  walks_are (Delete table key rest) =
      put_first (ap folded (sym (stmt.rolls-Delete table (expr_of key ∷ []))) ∙ (fold-roll-Stmt Walk step (stage.Delete table (expr_of key ∷ []))
      ∙ same_walk (step (stage.Delete table (expr_of key ∷ []))) (delete_by types tables table key) (λ scope. ap (λ (r : Result ℕ Bad). r >>= λ _. Ok None) (keyed_is scope table key)))) (walks_are rest)
  walks_are (Fail text rest) =
      put_first (ap folded (sym (stmt.rolls-Fail text)) ∙ (fold-roll-Stmt Walk step (stage.Fail text) ∙ same_walk (step (stage.Fail text)) (fail_by types tables) (λ scope. refl))) (walks_are rest)

-- ---- applications

pub record Procedure : Type 0 where
  pub name : Named
  pub params : List ColumnText
  pub forms : Forms

abbrev pub proc_of : Procedure → ProcDef
proc_of one = record { name = one.name; params = one.params; body = stmts one.forms }

abbrev pub app_with : List TableText → List Procedure → App
app_with tables procedures = record { exact = false; tables = tables; procs = map proc_of procedures }

module _ (tables : List TableText) where
  abbrev proc_by : (Forms → List Walk) → List ProcDef → Procedure → Result (Unit {0}) Bad
  proc_by check before one =
      fresh (λ other. other.name) 256 before (proc_of one) >>= λ _.
      in_order (fresh (λ column. column.name) 16) [] one.params >>= λ _.
      block (check one.forms) (map parameter one.params)

  abbrev procs_by : (Forms → List Walk) → List ProcDef → List Procedure → Result (Unit {0}) Bad
  procs_by check before [] = Ok tt
  procs_by check before (one ∷ more) = proc_by check before one >>= λ _. procs_by check (before ++ proc_of one ∷ []) more

  abbrev plain : Forms → List Walk
  plain forms = map (walk_stmt tables) (stmts forms)

  procs_are : (before : List ProcDef) (procedures : List Procedure) → procs_by plain before procedures ≡ in_order (walk_proc tables) before (map proc_of procedures)
  procs_are before [] = refl
  procs_are before (one ∷ more) = ap (λ (r : Result (Unit {0}) Bad). walk_proc tables before (proc_of one) >>= λ _. r) (procs_are (before ++ proc_of one ∷ []) more)

  same_check : walks kinds tables ≡ plain
  same_check = sym ((λ i forms. walks_are tables forms i) ∙ (λ i. walks (λ tables scope term. kinds_are tables scope term i) tables))

  abbrev pub fault_by : List Procedure → Option Bad
  fault_by procedures = fault_of (in_order walk_table [] tables >>= λ _. procs_by (walks kinds tables) [] procedures)

  pub fault_is : (procedures : List Procedure) → fault_by procedures ≡ first_fault (app_with tables procedures)
  fault_is procedures =
      ap (λ (check : Forms → List Walk). fault_of (in_order walk_table [] tables >>= λ _. procs_by check [] procedures)) same_check
      ∙ ap (λ (r : Result (Unit {0}) Bad). fault_of (in_order walk_table [] tables >>= λ _. r)) (procs_are [] procedures)
