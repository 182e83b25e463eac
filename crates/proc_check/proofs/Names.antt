-- What a name stands for in a run is of the sort that the check knows.
use Rattle.std.proofs.Common.{◌≡◌, ℕ, ◌+◌, arith, refl, sym, ap, subst, ◌∙◌, List, map, true, Result, Ok, Err, Option, Some, None, IfSome, MatchOption}
use Rattle.std.specs.Prelude.{slice_get}
use Rattle.std.specs.Option.{option_and_then, option_map}
use Rattle.std.proofs.lemmas.Option.{slice_get-map}
use Rattle.rel_base.specs.declared.schema.TableDef.{TableDef}
use Rattle.rel_base.specs.declared.value.Kind.{Kind}
use Rattle.rel_base.specs.declared.value.Value.{Value}
use Rattle.rel_base.specs.Schema.{RowFits}
use Rattle.proc_syntax.specs.declared.run.Binding.{Binding}
use Rattle.proc_syntax.specs.declared.run.Binding.TheVariants.{Plain, Held}
use Rattle.proc_syntax.specs.declared.run.Variable.{Variable as Bound}
use Rattle.proc_syntax.specs.declared.tree.Named.{Named}
use Rattle.proc_syntax.specs.declared.tree.TableText.{TableText}
use Rattle.proc_syntax.specs.Declaring.{declare}
use Rattle.proc_syntax.specs.Scope.{binding_of, column_in, plain_of, field_of}
use Rattle.proc_syntax.specs.Values.{has_kind, found as had}
use Rattle.proc_check.specs.declared.fault.Bad.{Bad}
use Rattle.proc_check.specs.declared.fault.BadKind.{BadKind}
use Rattle.proc_check.specs.declared.fault.BadKind.TheVariants.{UnknownName}
use Rattle.proc_check.specs.declared.scope.Sort.{Sort}
use Rattle.proc_check.specs.declared.scope.Sort.TheVariants as sort
use Rattle.proc_check.specs.declared.scope.Variable.{Variable}
use Rattle.proc_check.specs.Walk.{◌>>=◌, found}
use Rattle.proc_check.specs.Scope.{look_up, sort_kind, sort_table}
use Rattle.proc_check.specs.Tables.{known_column, columns_in, columns_of, column_kind}
use Rattle.proc_check.proofs.Operators.{GivesKind}
use Rattle.proc_check.proofs.Columns.{column_at, row_value, kinds_of}

pub err_ok : {A : Type 0} {bad : Bad} {x : A} → Err bad ≡ Ok x → ⊥
err_ok h = subst is_err h tt
  where
    is_err : {A : Type 0} → Result A Bad → Type 0
    is_err (Ok x) = ⊥
    is_err (Err bad) = Unit {0}

pub ok_is : {A : Type 0} {x y : A} → ◌≡◌ {A = Result A Bad} (Ok x) (Ok y) → x ≡ y
ok_is h = cc

-- a step that found no fault, and the next one, which found none either
pub ok_then : {A B : Type 0} (step : Result A Bad) (go : A → Result B Bad) (y : B) → (step >>= go) ≡ Ok y → (x : A) × (step ≡ Ok x) × (go x ≡ Ok y)
ok_then (Ok x) go y ok = (x, refl, ok)
ok_then (Err bad) go y ok = absurd (err_ok ok)

pub found_some : {A : Type 0} (o : Option A) (line : ℕ) (kind : BadKind) (x : A) → found o line kind ≡ Ok x → o ≡ Some x
found_some (Some y) line kind x h = ap Some (ok_is h)
found_some None line kind x h = absurd (err_ok h)

-- a row of the table of a number
abbrev pub RowOf : List TableDef → ℕ → List Value → Type 0
RowOf declared number row = MatchOption (slice_get declared number) ⊥ (λ def. RowFits def row)

abbrev pub StandsFor : List TableDef → Sort → Option Binding → Type 0
StandsFor declared (sort.Value kind) (Some (Plain v)) = has_kind kind v ≡ true
StandsFor declared (sort.Row number) (Some (Held table row)) = (table ≡ number) × RowOf declared number row
StandsFor declared sort binding = ⊥

-- each name in scope stands for something of its sort
pub record Agrees (declared : List TableDef) (scope : List Variable) (variables : List Bound) : Type 0 where
  pub stands : (name : List ℕ) → IfSome (look_up scope name) (λ sort. StandsFor declared sort (binding_of variables name))

module _ (declared : List TableDef) where
  -- a name that stands for a value of a kind
  pub name_kind : (s : Option Sort) (binding : Option Binding) (line : ℕ) (k : Kind) → IfSome s (λ sort. StandsFor declared sort binding)
      → (found s line UnknownName >>= sort_kind line) ≡ Ok k → GivesKind k (had (option_and_then plain_of binding))
  name_kind None binding line k stands ok = absurd (err_ok ok)
  name_kind (Some (sort.Value kind)) None line k stands ok = absurd stands
  name_kind (Some (sort.Value kind)) (Some (Plain v)) line k stands ok = subst (λ k. has_kind k v ≡ true) (ok_is ok) stands
  name_kind (Some (sort.Value kind)) (Some (Held table row)) line k stands ok = absurd stands
  name_kind (Some (sort.Row number)) binding line k stands ok = absurd (err_ok ok)

-- the column of a row of a table

had_value : (k : Kind) (o : Option Value) → MatchOption o ⊥ (λ v. has_kind k v ≡ true) → GivesKind k (had o)
had_value k None h = absurd h
had_value k (Some v) h = h

-- a column of a row of a table
at_column : (text : Option TableText) (row : List Value) (name : List ℕ) (k : Kind) → MatchOption (option_map declare text) ⊥ (λ def. RowFits def row)
    → column_kind (columns_in text) name ≡ Some k → GivesKind k (had (option_and_then (λ def. option_and_then (λ number. slice_get row number) (column_in def name)) (option_map declare text)))
at_column None row name k fits is = absurd fits
at_column (Some text) row name k fits is =
    let column = column_at text.columns name k 0 is in
    let first : column.0 ≡ 0 + column.0 = omega arith in
    rw column.1 (had_value k (slice_get row (0 + column.0)) (row_value row (kinds_of text.columns) (0 + column.0) k fits (subst (λ n. slice_get (kinds_of text.columns) n ≡ Some k) first column.2)))

module _ (tables : List TableText) where
  -- `row.column`, where the row stands for one of its table
  field_at : (s : Option Sort) (binding : Option Binding) (line : ℕ) (column : Named) (number : ℕ) (k : Kind) → IfSome s (λ sort. StandsFor (map declare tables) sort binding)
      → (found s line UnknownName >>= sort_table line) ≡ Ok number → column_kind (columns_of tables number) column.name ≡ Some k
      → GivesKind k (had (option_and_then (field_of (map declare tables) column.name) binding))
  field_at None binding line column number k stands ok is = absurd (err_ok ok)
  field_at (Some (sort.Value kind)) binding line column number k stands ok is = absurd (err_ok ok)
  field_at (Some (sort.Row n)) None line column number k stands ok is = absurd stands
  field_at (Some (sort.Row n)) (Some (Plain v)) line column number k stands ok is = absurd stands
  field_at (Some (sort.Row n)) (Some (Held table row)) line column number k stands ok is =
      let same : table ≡ number = stands.0 ∙ ok_is ok in
      let fits : RowOf (map declare tables) number row = subst (λ n. RowOf (map declare tables) n row) (ok_is ok) stands.1 in
      let here : slice_get (map declare tables) number ≡ option_map declare (slice_get tables number) = slice_get-map declare tables number in
      subst (λ n. GivesKind k (had (option_and_then (λ def. option_and_then (λ c. slice_get row c) (column_in def column.name)) (slice_get (map declare tables) n)))) (sym same)
      (subst (λ d. GivesKind k (had (option_and_then (λ def. option_and_then (λ c. slice_get row c) (column_in def column.name)) d))) (sym here)
      (at_column (slice_get tables number) row column.name k (subst (λ d. MatchOption d ⊥ (λ def. RowFits def row)) here fits) is))

  pub field_typed : (s : Option Sort) (binding : Option Binding) (line : ℕ) (column : Named) (k : Kind) → IfSome s (λ sort. StandsFor (map declare tables) sort binding)
      → ((found s line UnknownName >>= sort_table line) >>= λ table. known_column tables table column) ≡ Ok k → GivesKind k (had (option_and_then (field_of (map declare tables) column.name) binding))
  field_typed s binding line column k stands ok =
      let row = ok_then (found s line UnknownName >>= sort_table line) (λ table. known_column tables table column) k ok in
      field_at s binding line column row.0 k stands row.1 (found_some (column_kind (columns_of tables row.0) column.name) column.line UnknownName k row.2)
