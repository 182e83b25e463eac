-- The values of expressions in code are their values by names.
use Rattle.std.proofs.Common.{◌≡◌, ℕ, zero, suc, ◌+◌, ◌<◌, refl, sym, ap, subst, ◌∙◌, List, [], ◌∷◌, length, map, true, false, Bool, cond, Option, Some, None, Result, Ok, ◌||◌, ⊎_elim}
use Rattle.std.specs.Prelude.{slice_get, nat_lt}
use Rattle.std.specs.List.{flat_map, position_from}
use Rattle.std.specs.Option.{option_and_then, option_map}
use Rattle.std.specs.Str.{bytes_eq}
use Rattle.std.proofs.lemmas.Bool.{cases_lt, lt-ltb}
use Rattle.std.proofs.lemmas.Iterator.Adapters.{position_from-zero}
use Rattle.std.proofs.lemmas.List.Folds.{find_at, list_any-append}
use Rattle.std.proofs.lemmas.Option.{slice_get-map, slice_get_past}
use Rattle.rel_base.specs.declared.schema.Column.{Column}
use Rattle.rel_base.specs.declared.schema.TableDef.{TableDef}
use Rattle.rel_base.specs.declared.value.Value.{Value}
use Rattle.rel_base.proofs.Bits.{or_first, or_second}
use Rattle.proc_syntax.specs.declared.run.Binding.{Binding}
use Rattle.proc_syntax.specs.declared.run.Binding.TheVariants.{Plain, Held}
use Rattle.proc_syntax.specs.declared.run.Stop.{Stop}
use Rattle.proc_syntax.specs.declared.tree.Change.{Change}
use Rattle.proc_syntax.specs.declared.tree.Expr.{Expr, Expr-F, map-Expr}
use Rattle.proc_syntax.specs.declared.tree.Expr.TheOpen as expr
use Rattle.proc_syntax.specs.Scope.{Environment, binding_of, column_in, table_named, plain_of, field_of, value_step, value_of, values_of, end_of, changes_of}
use Rattle.proc_syntax.specs.Values.{◌>>=◌, found, negation_of, not_of, apply}
use Rattle.proc_syntax.proofs.ExprTrees.{Such, stripped, every_pair}
use Rattle.proc_code.specs.declared.tree.Term.{Term, Term-F, fold-roll-Term, map-Term, roll-Term}
use Rattle.proc_code.specs.declared.tree.Term.TheOpen as term
use Rattle.proc_code.specs.declared.slots.Environment as coded
use Rattle.proc_code.specs.Coded.{Slots, table_at, column_at, cell_of, worth_step, worth_of, worths_of, end_worth, sets_worth}
use Rattle.proc_code.specs.Numbers.{Names, has_name, number_of_name, with_names, table_number, column_of_table, column_names, column_places}
use Rattle.proc_code.specs.Resolved.{term_step, term_of, setting_of}
use Rattle.proc_code.proofs.Numbered.{find_name, met}
use Rattle.proc_code.proofs.Slotted.{Slotted, in_slots}

-- ---- tables

module _ (tables : List TableDef) (name : List ℕ) where
  abbrev number : ℕ
  number = table_number tables name

  abbrev with_number : ℕ → Option (ℕ × TableDef)
  with_number table = option_map (λ def. (table, def)) (slice_get tables table)

  below_not : number < length tables → nat_lt number (length tables) ≡ false → ⊥
  below_not below past = let h = lt-ltb number (length tables) below in cc

  by_number : (b : Bool) → nat_lt number (length tables) ≡ b → table_at tables number ≡ option_and_then with_number (cond b (Some number) None)
  by_number true here = refl
  by_number false past = ap (option_map (λ def. (number, def))) (slice_get_past tables number (⊎_elim (λ below. absurd (below_not below past)) (λ above. above) (cases_lt number (length tables))))

  -- the table of a name's number is the table of the name
  pub table_is : table_at tables number ≡ table_named tables name
  table_is = subst (λ place. table_at tables number ≡ option_and_then with_number place) (position_from-zero (λ def. bytes_eq def.name name) tables) (by_number (nat_lt number (length tables)) refl)

-- ---- columns of held rows

no_column : (columns : List Column) (name : List ℕ) (first : ℕ) → has_name (map (λ column. column.name) columns) name ≡ false → position_from (λ column. bytes_eq column.name name) first columns ≡ None
no_column [] name first none = refl
no_column (column ∷ columns) name first none =
    elim (bytes_eq column.name name)
    as (λ b. (b || has_name (map (λ column. column.name) columns) name) ≡ false → cond b (Some first) (position_from (λ column. bytes_eq column.name name) (first + 1) columns) ≡ None)
    [ true ↦ λ none. cc | false ↦ λ none. no_column columns name (first + 1) none ] none

-- the value in the column of a name
abbrev cell : List Value → List ℕ → TableDef → Option Value
cell row name def = option_and_then (slice_get row) (column_in def name)

no_cell : (tables : List TableDef) (table : ℕ) (row : List Value) (name : List ℕ) → has_name (flat_map (λ def. map (λ column. column.name) def.columns) tables) name ≡ false
    → option_and_then (cell row name) (slice_get tables table) ≡ None
no_cell [] table row name none = refl
no_cell (def ∷ tables) zero row name none =
    let here = sym (list_any-append (λ other. bytes_eq other name) (map (λ column. column.name) def.columns) (flat_map (λ def. map (λ column. column.name) def.columns) tables)) ∙ none in
    ap (option_and_then (slice_get row)) (no_column def.columns name 0 (or_first _ _ here))
no_cell (def ∷ tables) (suc table) row name none =
    let here = sym (list_any-append (λ other. bytes_eq other name) (map (λ column. column.name) def.columns) (flat_map (λ def. map (λ column. column.name) def.columns) tables)) ∙ none in
    no_cell tables table row name (or_second (has_name (map (λ column. column.name) def.columns) name) _ here)

-- what was not met was not there
unmet : (more : Names) (name : List ℕ) → has_name (with_names [] more) name ≡ false → has_name more name ≡ false
unmet more name none =
    elim (has_name more name) as (λ b. has_name more name ≡ b → b ≡ false) [ true ↦ λ there. sym (met [] more name there) ∙ none | false ↦ λ there. refl ] refl

gathered : {A B C : Type 0} (f : A → Option B) (g : B → Option C) (o : Option A) → option_and_then g (option_and_then (λ x. x) (option_map f o)) ≡ option_and_then (λ x. option_and_then g (f x)) o
gathered f g None = refl
gathered f g (Some x) = refl

module _ (tables : List TableDef) (name : List ℕ) (table : ℕ) (row : List Value) where
  abbrev known : Names
  known = column_names tables

  abbrev places_of : List ℕ → List (Option ℕ)
  places_of name = map (λ def. column_in def name) tables

  abbrev in_table : List (Option ℕ) → Option ℕ
  in_table places = option_and_then (λ column. column) (slice_get places table)

  places_are : slice_get (map places_of known) (number_of_name known name) ≡ option_map places_of (cond (has_name known name) (Some name) None)
  places_are = slice_get-map places_of known (number_of_name known name) ∙ ap (option_map places_of) (sym (find_at (λ other. bytes_eq other name) known) ∙ find_name known name)

  by_place : (b : Bool) → has_name known name ≡ b → option_and_then (slice_get row) (option_and_then in_table (option_map places_of (cond b (Some name) None))) ≡ option_and_then (cell row name) (slice_get tables table)
  by_place true there =
      ap (λ place. option_and_then (slice_get row) (option_and_then (λ column. column) place)) (slice_get-map (λ def. column_in def name) tables table)
      ∙ gathered (λ def. column_in def name) (slice_get row) (slice_get tables table)
  by_place false absent = sym (no_cell tables table row name (unmet (flat_map (λ def. map (λ column. column.name) def.columns) tables) name absent))

  cell_is : option_and_then (slice_get row) (column_at (column_places tables) (number_of_name (column_names tables) name) table) ≡ option_and_then (cell row name) (slice_get tables table)
  cell_is = ap (λ places. option_and_then (slice_get row) (option_and_then in_table places)) places_are ∙ by_place (has_name known name) refl

cells_are : (tables : List TableDef) (name : List ℕ) (b : Option Binding) → option_and_then (cell_of (column_places tables) (number_of_name (column_names tables) name)) b ≡ option_and_then (field_of tables name) b
cells_are tables name None = refl
cells_are tables name (Some (Plain v)) = refl
cells_are tables name (Some (Held table row)) = cell_is tables name table row

-- ---- expressions

module _ (tables : List TableDef) (names : Names) where
  abbrev columns : List (List (Option ℕ))
  columns = column_places tables

  -- a term has in slots the value that is meant
  abbrev Means : Term → (Environment → Result Value Stop) → Type 0
  Means t meant = (environment : Environment) (slots : Slots) → Slotted names environment.variables slots → worth_of columns t (in_slots environment slots) ≡ meant environment

  rolled : (t : Term-F Term) (e : coded.Environment) → worth_of columns (roll-Term t) e ≡ worth_step columns (map-Term Term (coded.Environment → Result Value Stop) (worth_of columns) t) e
  rolled t e = ap (λ f. f e) (fold-roll-Term (coded.Environment → Result Value Stop) (worth_step columns) t)

  abbrev MeansAt : Expr → Type 0
  MeansAt e = Means (term_of (column_names tables) names e) (value_of tables e)

  means : (d : Expr-F (Such MeansAt)) → Means (term_step (column_names tables) names (map-Expr Expr Term (term_of (column_names tables) names) (stripped d))) (value_step tables (map-Expr Expr (Environment → Result Value Stop) (value_of tables) (stripped d)))
  unfolding roll-Term denote.Hole.Carrier.roll
  means (expr.Value v line) environment slots s = rolled (term.Value v) (in_slots environment slots)
  means (expr.Var named) environment slots s = rolled (term.Var (number_of_name names named.name)) (in_slots environment slots) ∙ ap (λ b. found (option_and_then plain_of b)) (s.same named.name)
  means (expr.Field row column) environment slots s =
      rolled (term.Field (number_of_name names row.name) (number_of_name (column_names tables) column.name)) (in_slots environment slots)
      ∙ ap (λ b. found (option_and_then (cell_of columns (number_of_name (column_names tables) column.name)) b)) (s.same row.name)
      ∙ ap found (cells_are tables column.name (binding_of environment.variables row.name))
  means (expr.Now line) environment slots s = rolled term.Now (in_slots environment slots)
  means (expr.Not inner line) environment slots s = rolled (term.Not (term_of (column_names tables) names inner.0)) (in_slots environment slots) ∙ ap (λ r. r >>= not_of) (inner.1 environment slots s)
  means (expr.Neg inner line) environment slots s = rolled (term.Neg (term_of (column_names tables) names inner.0)) (in_slots environment slots) ∙ ap (λ r. r >>= negation_of) (inner.1 environment slots s)
  means (expr.Paren inner line) environment slots s = inner.1 environment slots s
  means (expr.Two o left right) environment slots s =
      rolled (term.Two o (term_of (column_names tables) names left.0) (term_of (column_names tables) names right.0)) (in_slots environment slots)
      ∙ ap (λ l. l >>= λ v. apply o v (worth_of columns (term_of (column_names tables) names right.0) (in_slots environment slots))) (left.1 environment slots s)
      ∙ ap (λ r. value_of tables left.0 environment >>= λ v. apply o v r) (right.1 environment slots s)

  pub worth_is : (e : Expr) → MeansAt e
  worth_is = every_pair Term (Environment → Result Value Stop) (term_step (column_names tables) names) (value_step tables) Means means

  module _ (environment : Environment) (slots : Slots) (s : Slotted names environment.variables slots) where
    pub worths_are : (es : List Expr) → worths_of columns (map (term_of (column_names tables) names) es) (in_slots environment slots) ≡ values_of tables es environment
    worths_are [] = refl
    worths_are (e ∷ es) =
        ap (λ first. first >>= λ v. worths_of columns (map (term_of (column_names tables) names) es) (in_slots environment slots) >>= λ vs. Ok (v ∷ vs)) (worth_is e environment slots s)
        ∙ ap (λ rest. value_of tables e environment >>= λ v. rest >>= λ vs. Ok (v ∷ vs)) (worths_are es)

    pub end_is : (end : Option Expr) → end_worth columns (option_map (term_of (column_names tables) names) end) (in_slots environment slots) ≡ end_of tables end environment
    end_is None = refl
    end_is (Some e) = ap (λ r. r >>= λ v. Ok (Some v)) (worth_is e environment slots s)

    module _ (table : List ℕ) (named : ℕ × TableDef) (here : table_named tables table ≡ Some named) where
      -- the column of a name in the table that was found
      pub column_is : (name : List ℕ) → column_of_table tables table name ≡ column_in named.1 name
      column_is name = ap (option_and_then (λ named. column_in named.1 name)) here

      abbrev with_column : Result ℕ Stop → Result Value Stop → Result (ℕ × Value) Stop
      with_column column worth = column >>= λ column. worth >>= λ v. Ok (column, v)

      abbrev before : Result (ℕ × Value) Stop → Result (List (ℕ × Value)) Stop → Result (List (ℕ × Value)) Stop
      before first rest = first >>= λ first. rest >>= λ rest. Ok (first ∷ rest)

      pub sets_are : (changes : List Change) → sets_worth columns (map (setting_of tables (column_names tables) names table) changes) (in_slots environment slots) ≡ changes_of tables named.1 changes environment
      sets_are [] = refl
      sets_are (change ∷ changes) =
          ap (λ column. before (with_column (found column) (worth_of columns (term_of (column_names tables) names change.value) (in_slots environment slots))) (sets_worth columns (map (setting_of tables (column_names tables) names table) changes) (in_slots environment slots))) (column_is change.column.name)
          ∙ ap (λ worth. before (with_column (found (column_in named.1 change.column.name)) worth) (sets_worth columns (map (setting_of tables (column_names tables) names table) changes) (in_slots environment slots))) (worth_is change.value environment slots s)
          ∙ ap (before (with_column (found (column_in named.1 change.column.name)) (value_of tables change.value environment))) (sets_are changes)
