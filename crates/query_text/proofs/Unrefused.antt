-- The walk finds no fault of the grammar.
use Rattle.std.proofs.Common.{◌≡◌, ℕ, List, [], ◌∷◌, ◌++◌, map, length, Bool, true, false, not, ◌||◌, Option, Some, None, Ok, Err, subst}
use Rattle.std.specs.List.{list_any, position_from}
use Rattle.std.specs.Option.{option_map}
use Rattle.std.specs.Prelude.{IfOk, nat_abs}
use Rattle.std.specs.Str.{bytes_eq}
use Rattle.proc_parse.specs.declared.lexer.Position.{Position}
use Rattle.proc_parse.specs.declared.token.Token.{Token}
use Rattle.query_plan.specs.Answer as plan
use Rattle.query_plan.specs.Answer.{is_some_col}
use Rattle.query_plan.specs.Fits.{IsSelectOver}
use Rattle.query_plan.specs.declared.fault.AskFault.{AskFault}
use Rattle.query_plan.specs.declared.fault.AskFault.TheVariants as fault
use Rattle.query_plan.specs.declared.select.Col.{Col}
use Rattle.query_plan.specs.declared.select.Field.TheVariants as field
use Rattle.query_plan.specs.declared.select.Item.TheVariants as item
use Rattle.query_plan.specs.declared.select.Select.{Select}
use Rattle.query_plan.specs.declared.select.Side.TheVariants as side
use Rattle.query_text.proofs.Trees.{query_tree}
use Rattle.query_text.proofs.Walked.{over_if}
use Rattle.query_text.specs.Faults.{IfSyntax}
use Rattle.query_text.specs.Grammar.{query}
use Rattle.query_text.specs.Walk.{Met, Scope, allowed, col_kind, column_of, each, is_aggregate, is_named, known, names_item, same_col, same_kind, side_kind, side_place, table_of, twice, ◌>>=◌, walk, walk_col, walk_comparison, walk_field, walk_item, walk_number, walk_rest, walk_selected, walk_side, walk_source, walk_sources, wrong}
use Rattle.query_text.specs.declared.tree.ColText.{ColText}
use Rattle.query_text.specs.declared.tree.ComparisonText.{ComparisonText}
use Rattle.query_text.specs.declared.tree.FieldText.{FieldText}
use Rattle.query_text.specs.declared.tree.FieldText.TheVariants as field_text
use Rattle.query_text.specs.declared.tree.ItemText.{ItemText}
use Rattle.query_text.specs.declared.tree.ItemText.TheVariants as item_text
use Rattle.query_text.specs.declared.tree.NumberText.{NumberText}
use Rattle.query_text.specs.declared.tree.SelectText.{SelectText}
use Rattle.query_text.specs.declared.tree.SelectedText.{SelectedText}
use Rattle.query_text.specs.declared.tree.SelectedText.TheVariants as selected
use Rattle.query_text.specs.declared.tree.SideText.{SideText}
use Rattle.query_text.specs.declared.tree.SideText.TheVariants as side_text
use Rattle.query_text.specs.declared.tree.SourceText.{SourceText}
use Rattle.rel_base.specs.declared.schema.TableDef.{TableDef}
use Rattle.rel_base.specs.declared.value.Kind.TheVariants as kind

-- no fault of the grammar
abbrev IsWalked : {A : Type 0} → Met A → Type 0
IsWalked result = IfSyntax result (λ line col. ⊥)

then_walked : {A B : Type 0} → (m : Met A) (f : A → Met B) → IsWalked m → ((x : A) → IsWalked (f x)) → IsWalked (m >>= f)
then_walked (Ok x) f a b = b x
then_walked (Err fault.NoMemory) f a b = tt
then_walked (Err (fault.Syntax line col)) f a b = absurd a
then_walked (Err (fault.UnknownName line col)) f a b = tt
then_walked (Err (fault.NameTwice line col)) f a b = tt
then_walked (Err (fault.WrongKind line col)) f a b = tt
then_walked (Err (fault.TooHigh sealed)) f a b = tt
then_walked (Err fault.TooMany) f a b = tt
then_walked (Err fault.Overflow) f a b = tt

known_walked : {A : Type 0} → (at : Position) (o : Option A) → IsWalked (known at o)
known_walked at None = tt
known_walked at (Some x) = tt

allowed_walked : {A : Type 0} → (f : AskFault) → IsWalked {A = A} (Err f) → (may : Bool) (x : A) → IsWalked (allowed f may x)
allowed_walked f w true x = tt
allowed_walked f w false x = w

each_walked : {A B : Type 0} → (f : A → Met B) → ((x : A) → IsWalked (f x)) → (xs : List A) → IsWalked (each f xs)
each_walked f w [] = tt
each_walked f w (x ∷ xs) = then_walked (f x) (λ y. each f xs >>= λ ys. Ok (y ∷ ys)) (w x) (λ y. then_walked (each f xs) (λ ys. Ok (y ∷ ys)) (each_walked f w xs) (λ ys. tt))

source_walked : (tables : List TableDef) (earlier : List SourceText) (s : SourceText) → IsWalked (walk_source tables earlier s)
source_walked tables earlier s =
    then_walked (known s.table.at (position_from (λ (def : TableDef). bytes_eq def.name s.table.name) 0 tables)) (λ table. allowed (twice s.name.at) (not (list_any (is_named s.name.name) earlier)) table)
    (known_walked s.table.at _) (λ table. allowed_walked (twice s.name.at) tt (not (list_any (is_named s.name.name) earlier)) table)

sources_walked : (tables : List TableDef) (earlier sources : List SourceText) → IsWalked (walk_sources tables earlier sources)
sources_walked tables earlier [] = tt
sources_walked tables earlier (s ∷ ss) =
    then_walked (walk_source tables earlier s) (λ number. walk_sources tables (earlier ++ s ∷ []) ss >>= λ numbers. Ok (number ∷ numbers)) (source_walked tables earlier s)
    (λ number. then_walked (walk_sources tables (earlier ++ s ∷ []) ss) (λ numbers. Ok (number ∷ numbers)) (sources_walked tables (earlier ++ s ∷ []) ss) (λ numbers. tt))

module _ (scope : Scope) where
  field_walked : (def : Option TableDef) (text : FieldText) → IsWalked (walk_field def text)
  field_walked def (field_text.Column name) = known_walked name.at (option_map field.Column (column_of def name.name))
  field_walked def field_text.Block = tt
  field_walked def field_text.Pos = tt

  col_walked : (text : ColText) → IsWalked (walk_col scope text)
  col_walked text =
      then_walked (known text.source.at (position_from (is_named text.source.name) 0 scope.names)) (λ source. walk_field (table_of scope source) text.field >>= λ field. Ok (record { source = source; field = field }))
      (known_walked text.source.at _) (λ source. then_walked (walk_field (table_of scope source) text.field) (λ field. Ok (record { source = source; field = field })) (field_walked (table_of scope source) text.field) (λ field. tt))

  side_walked : (text : SideText) → IsWalked (walk_side scope text)
  side_walked (side_text.Field text) = then_walked (walk_col scope text) (λ col. Ok (side.Field col)) (col_walked text) (λ col. tt)
  side_walked (side_text.Given v at) = tt

  comparison_walked : (c : ComparisonText) → IsWalked (walk_comparison scope c)
  comparison_walked c =
      then_walked (walk_col scope c.left) (λ left. walk_side scope c.right >>= λ right.
      allowed (wrong (side_place c.right)) (same_kind (col_kind scope left) (side_kind scope right)) (record { left = left; relation = c.relation; right = right })) (col_walked c.left)
      (λ left. then_walked (walk_side scope c.right) (λ right.
      allowed (wrong (side_place c.right)) (same_kind (col_kind scope left) (side_kind scope right)) (record { left = left; relation = c.relation; right = right })) (side_walked c.right)
      (λ right. allowed_walked (wrong (side_place c.right)) tt (same_kind (col_kind scope left) (side_kind scope right)) (record { left = left; relation = c.relation; right = right })))

  item_walked : (grouped : Bool) (groups : List Col) (text : ItemText) → IsWalked (walk_item scope grouped groups text)
  item_walked grouped groups (item_text.Plain text) =
      then_walked (walk_col scope text) (λ col. allowed (wrong text.source.at) (not grouped || list_any (same_col col) groups) (item.Plain col)) (col_walked text)
      (λ col. allowed_walked (wrong text.source.at) tt (not grouped || list_any (same_col col) groups) (item.Plain col))
  item_walked grouped groups item_text.Count = tt
  item_walked grouped groups (item_text.Sum text) =
      then_walked (walk_col scope text) (λ col. allowed (wrong text.source.at) (same_kind (col_kind scope col) kind.Int) (item.Sum col)) (col_walked text)
      (λ col. allowed_walked (wrong text.source.at) tt (same_kind (col_kind scope col) kind.Int) (item.Sum col))
  item_walked grouped groups (item_text.Min text) = then_walked (walk_col scope text) (λ col. Ok (item.Min col)) (col_walked text) (λ col. tt)
  item_walked grouped groups (item_text.Max text) = then_walked (walk_col scope text) (λ col. Ok (item.Max col)) (col_walked text) (λ col. tt)

  selected_walked : (text : SelectedText) → IsWalked (walk_selected scope text)
  selected_walked (selected.Items groups items) =
      then_walked (each (walk_col scope) groups) (λ columns. each (walk_item scope (is_some_col columns || list_any is_aggregate items) columns) items >>= λ items. Ok (columns, items))
      (each_walked (walk_col scope) col_walked groups)
      (λ columns. then_walked (each (walk_item scope (is_some_col columns || list_any is_aggregate items) columns) items) (λ items. Ok (columns, items))
      (each_walked (walk_item scope (is_some_col columns || list_any is_aggregate items) columns) (item_walked (is_some_col columns || list_any is_aggregate items) columns) items) (λ items. tt))
  selected_walked (selected.Columns columns) =
      then_walked (each (walk_col scope) columns) (λ columns. Ok ([], map item.Plain columns)) (each_walked (walk_col scope) col_walked columns) (λ columns. tt)

number_walked : (items : ℕ) (n : NumberText) → IsWalked (walk_number items n)
number_walked items n = allowed_walked (wrong n.at) tt (names_item items n.number) (nat_abs n.number)

rest_walked : (scope : Scope) (select : SelectText) → IsWalked (walk_rest scope select)
rest_walked scope select =
    then_walked (each (walk_comparison scope) select.comparisons) (λ comparisons. walk_selected scope select.selected >>= λ chosen. each (walk_number (length chosen.1)) select.order >>= λ order.
    Ok (record { sources = scope.numbers; comparisons = comparisons; groups = chosen.0; items = chosen.1; order = order })) (each_walked (walk_comparison scope) (comparison_walked scope) select.comparisons)
    (λ comparisons. then_walked (walk_selected scope select.selected) (λ chosen. each (walk_number (length chosen.1)) select.order >>= λ order.
    Ok (record { sources = scope.numbers; comparisons = comparisons; groups = chosen.0; items = chosen.1; order = order })) (selected_walked scope select.selected)
    (λ chosen. then_walked (each (walk_number (length chosen.1)) select.order) (λ order.
    Ok (record { sources = scope.numbers; comparisons = comparisons; groups = chosen.0; items = chosen.1; order = order })) (each_walked (walk_number (length chosen.1)) (number_walked (length chosen.1)) select.order)
    (λ order. tt)))

walk_walked : (tables : List TableDef) (select : SelectText) → IsWalked (walk tables select)
walk_walked tables select =
    then_walked (walk_sources tables [] select.sources) (λ numbers. walk_rest (record { tables = tables; names = select.sources; numbers = numbers }) select) (sources_walked tables [] select.sources)
    (λ numbers. rest_walked (record { tables = tables; names = select.sources; numbers = numbers }) select)

none_refused : (place : ℕ → ℕ → Type 0) (result meant : Met Select) → plan.Answers result meant → IsWalked meant → IfSyntax result place
none_refused place (Ok x) meant a w = tt
none_refused place (Err fault.NoMemory) meant a w = tt
none_refused place (Err (fault.Syntax line col)) meant a w = absurd (subst (λ (m : Met Select). IsWalked m) a w)
none_refused place (Err (fault.UnknownName line col)) meant a w = tt
none_refused place (Err (fault.NameTwice line col)) meant a w = tt
none_refused place (Err (fault.WrongKind line col)) meant a w = tt
none_refused place (Err (fault.TooHigh sealed)) meant a w = tt
none_refused place (Err fault.TooMany) meant a w = tt
none_refused place (Err fault.Overflow) meant a w = tt

-- so what is said of the place of such a fault holds of an answer of the walk
pub walk_refuses : (place : ℕ → ℕ → Type 0) (tables : List TableDef) (select : SelectText) (result : Met Select) → plan.Answers result (walk tables select) → IfSyntax result place
walk_refuses place tables select result a = none_refused place result (walk tables select) a (walk_walked tables select)

-- and what it makes of a query that was read may be asked
pub walk_gives : (tables : List TableDef) (ts rest : List Token) (select : SelectText) (result : Met Select) → query ts ≡ Ok (select, rest) → plan.Answers result (walk tables select) → IfOk result (IsSelectOver tables)
walk_gives tables ts rest select result read a = over_if tables select result (query_tree ts (select, rest) read) a
