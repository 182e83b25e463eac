-- The walk over a query in the order of its text, which finds what each name names and stops at the first fault.
use Rattle.std.specs.Prelude.{ℕ, pos, negsuc, ℤ, nat_abs, List, [], ◌∷◌, ◌++◌, map, length, Bool, true, false, not, ◌&&◌, ◌||◌, ◌==◌, cond, nat_le, nat_lt, Option, Some, None, Result, Ok, Err, slice_get}
use Rattle.std.specs.List.{list_any, position_from}
use Rattle.std.specs.Option.{option_and_then, option_map}
use Rattle.std.specs.Str.{bytes_eq}
use Rattle.proc_parse.specs.Faults.{position_of}
use Rattle.proc_parse.specs.Reading.{Read}
use Rattle.proc_parse.specs.Tokens.{tokens_of}
use Rattle.proc_parse.specs.declared.lexer.Position.{Position}
use Rattle.rel_base.specs.Schema.{kind_at}
use Rattle.rel_base.specs.Value.{kind_of}
use Rattle.rel_base.specs.declared.schema.TableDef.{TableDef}
use Rattle.rel_base.specs.declared.value.Kind.{Kind}
use Rattle.rel_base.specs.declared.value.Kind.TheVariants as kind
use Rattle.query_plan.specs.Answer.{is_some_col}
use Rattle.query_plan.specs.declared.fault.AskFault.{AskFault}
use Rattle.query_plan.specs.declared.fault.AskFault.TheVariants as fault
use Rattle.query_plan.specs.declared.select.Col.{Col}
use Rattle.query_plan.specs.declared.select.Comparison.{Comparison}
use Rattle.query_plan.specs.declared.select.Field.{Field}
use Rattle.query_plan.specs.declared.select.Field.TheVariants as field
use Rattle.query_plan.specs.declared.select.Item.{Item}
use Rattle.query_plan.specs.declared.select.Item.TheVariants as item
use Rattle.query_plan.specs.declared.select.Select.{Select}
use Rattle.query_plan.specs.declared.select.Side.{Side}
use Rattle.query_plan.specs.declared.select.Side.TheVariants as side
use Rattle.query_text.specs.Grammar.{most_text_bytes, query}
use Rattle.query_text.specs.declared.scope.Sources.{Sources}
use Rattle.query_text.specs.declared.tree.ColText.{ColText}
use Rattle.query_text.specs.declared.tree.ComparisonText.{ComparisonText}
use Rattle.query_text.specs.declared.tree.FieldText.{FieldText}
use Rattle.query_text.specs.declared.tree.FieldText.TheVariants as field_text
use Rattle.query_text.specs.declared.tree.ItemText.{ItemText}
use Rattle.query_text.specs.declared.tree.ItemText.TheVariants as item_text
use Rattle.query_text.specs.declared.tree.NumberText.{NumberText}
use Rattle.query_text.specs.declared.tree.SelectText.{SelectText}
use Rattle.query_text.specs.declared.tree.SelectedText.{SelectedText}
use Rattle.query_text.specs.declared.tree.SelectedText.TheVariants as selected
use Rattle.query_text.specs.declared.tree.SideText.{SideText}
use Rattle.query_text.specs.declared.tree.SideText.TheVariants as side_text
use Rattle.query_text.specs.declared.tree.SourceText.{SourceText}

-- what is met, or the first fault
abbrev pub Met : Type 0 → Type 0
Met A = Result A AskFault

-- one part, and then another, which may depend on the first
infixr 10 ◌>>=◌
abbrev pub ◌>>=◌ : {A B : Type 0} → Met A → (A → Met B) → Met B
(Ok x >>= f) = f x
(Err fault >>= f) = Err fault

-- all of these, from the first on
abbrev pub each : {A B : Type 0} → (A → Met B) → List A → Met (List B)
each f [] = Ok []
each f (x ∷ xs) = f x >>= λ y. each f xs >>= λ ys. Ok (y ∷ ys)

-- those that were met, and the rest
abbrev pub with_made : {A : Type 0} → List A → Met (List A) → Met (List A)
with_made made (Ok xs) = Ok (made ++ xs)
with_made made (Err fault) = Err fault

abbrev pub syntax : Position → AskFault
syntax at = fault.Syntax at.line at.col

abbrev pub unknown : Position → AskFault
unknown at = fault.UnknownName at.line at.col

abbrev pub twice : Position → AskFault
twice at = fault.NameTwice at.line at.col

abbrev pub wrong : Position → AskFault
wrong at = fault.WrongKind at.line at.col

-- what a name names, if anything
abbrev pub known : {A : Type 0} → Position → Option A → Met A
known at None = Err (unknown at)
known at (Some x) = Ok x

-- what is said at a place, where it may be said
abbrev pub allowed : {A : Type 0} → AskFault → Bool → A → Met A
allowed fault may x = cond may (Ok x) (Err fault)

-- ---- sources

abbrev pub is_named : List ℕ → SourceText → Bool
is_named name source = bytes_eq source.name.name name

abbrev pub walk_source : List TableDef → List SourceText → SourceText → Met ℕ
walk_source tables earlier s =
    known s.table.at (position_from (λ def. bytes_eq def.name s.table.name) 0 tables) >>= λ table.
    allowed (twice s.name.at) (not (list_any (is_named s.name.name) earlier)) table

-- the numbers of the tables of some sources, after earlier ones
abbrev pub walk_sources : List TableDef → List SourceText → List SourceText → Met (List ℕ)
walk_sources tables earlier [] = Ok []
walk_sources tables earlier (s ∷ ss) = walk_source tables earlier s >>= λ number. walk_sources tables (earlier ++ s ∷ []) ss >>= λ numbers. Ok (number ∷ numbers)

-- ---- fields

-- what the names of a query speak of: the declared tables, the sources and the numbers of their tables
pub record Scope : Type 0 where
  pub tables : List TableDef
  pub names : List SourceText
  pub numbers : List ℕ

abbrev pub scope_of : Sources → Scope
scope_of sources = record { tables = sources.tables.now; names = sources.names.now; numbers = sources.numbers.now }

-- the table of a source
abbrev pub table_of : Scope → ℕ → Option TableDef
table_of scope source = option_and_then (slice_get scope.tables) (slice_get scope.numbers source)

abbrev pub column_of : Option TableDef → List ℕ → Option ℕ
column_of None name = None
column_of (Some def) name = position_from (λ column. bytes_eq column.name name) 0 def.columns

abbrev pub walk_field : Option TableDef → FieldText → Met Field
walk_field def (field_text.Column name) = known name.at (option_map field.Column (column_of def name.name))
walk_field def field_text.Block = Ok field.Block
walk_field def field_text.Pos = Ok field.Pos

abbrev pub walk_col : Scope → ColText → Met Col
walk_col scope col =
    known col.source.at (position_from (is_named col.source.name) 0 scope.names) >>= λ source.
    walk_field (table_of scope source) col.field >>= λ field. Ok (record { source = source; field = field })

-- the numbers of a place are ints
abbrev pub field_kind : Option TableDef → Field → Kind
field_kind (Some def) (field.Column column) = kind_at def column
field_kind def field = kind.Int

abbrev pub col_kind : Scope → Col → Kind
col_kind scope col = field_kind (table_of scope col.source) col.field

abbrev pub same_kind : Kind → Kind → Bool
same_kind kind.Int kind.Int = true
same_kind kind.Text kind.Text = true
same_kind kind.Bool kind.Bool = true
same_kind kind.Bytes kind.Bytes = true
same_kind a b = false

-- ---- comparisons

abbrev pub walk_side : Scope → SideText → Met Side
walk_side scope (side_text.Field col) = walk_col scope col >>= λ col. Ok (side.Field col)
walk_side scope (side_text.Given v at) = Ok (side.Given v)

abbrev pub side_kind : Scope → Side → Kind
side_kind scope (side.Field col) = col_kind scope col
side_kind scope (side.Given v) = kind_of v

-- where a side begins
abbrev pub side_place : SideText → Position
side_place (side_text.Field col) = col.source.at
side_place (side_text.Given v at) = at

abbrev pub walk_comparison : Scope → ComparisonText → Met Comparison
walk_comparison scope c =
    walk_col scope c.left >>= λ left. walk_side scope c.right >>= λ right.
    allowed (wrong (side_place c.right)) (same_kind (col_kind scope left) (side_kind scope right)) (record { left = left; relation = c.relation; right = right })

-- ---- items

abbrev pub same_field : Field → Field → Bool
same_field (field.Column a) (field.Column b) = a == b
same_field field.Block field.Block = true
same_field field.Pos field.Pos = true
same_field a b = false

abbrev pub same_col : Col → Col → Bool
same_col a b = (a.source == b.source) && same_field a.field b.field

abbrev pub is_aggregate : ItemText → Bool
is_aggregate (item_text.Plain col) = false
is_aggregate item = true

-- a field stands as an item where there are no groups, or where it is one that makes them
abbrev pub walk_item : Scope → (grouped : Bool) → (groups : List Col) → ItemText → Met Item
walk_item scope grouped groups (item_text.Plain text) =
    walk_col scope text >>= λ col. allowed (wrong text.source.at) (not grouped || list_any (same_col col) groups) (item.Plain col)
walk_item scope grouped groups item_text.Count = Ok item.Count
walk_item scope grouped groups (item_text.Sum text) =
    walk_col scope text >>= λ col. allowed (wrong text.source.at) (same_kind (col_kind scope col) kind.Int) (item.Sum col)
walk_item scope grouped groups (item_text.Min text) = walk_col scope text >>= λ col. Ok (item.Min col)
walk_item scope grouped groups (item_text.Max text) = walk_col scope text >>= λ col. Ok (item.Max col)

abbrev pub walk_grouped : Scope → List ColText → List ItemText → Met (List Col × List Item)
walk_grouped scope groups items =
    each (walk_col scope) groups >>= λ columns.
    each (walk_item scope (is_some_col columns || list_any is_aggregate items) columns) items >>= λ items. Ok (columns, items)

-- the fields that make the groups, and the items
abbrev pub walk_selected : Scope → SelectedText → Met (List Col × List Item)
walk_selected scope (selected.Items groups items) = walk_grouped scope groups items
walk_selected scope (selected.Columns columns) = each (walk_col scope) columns >>= λ columns. Ok ([], map item.Plain columns)

-- ---- order

-- a number names an item, from 1
abbrev pub names_item : ℕ → ℤ → Bool
names_item items (pos n) = nat_lt 0 n && nat_le n items
names_item items (negsuc n) = false

abbrev pub walk_number : ℕ → NumberText → Met ℕ
walk_number items n = allowed (wrong n.at) (names_item items n.number) (nat_abs n.number)

-- ---- a query

abbrev pub walk_rest : Scope → SelectText → Met Select
walk_rest scope select =
    each (walk_comparison scope) select.comparisons >>= λ comparisons. walk_selected scope select.selected >>= λ chosen.
    each (walk_number (length chosen.1)) select.order >>= λ order.
    Ok (record { sources = scope.numbers; comparisons = comparisons; groups = chosen.0; items = chosen.1; order = order })

abbrev pub walk : List TableDef → SelectText → Met Select
walk tables select =
    walk_sources tables [] select.sources >>= λ numbers. walk_rest (record { tables = tables; names = select.sources; numbers = numbers }) select

abbrev pub walk_read : List TableDef → Read SelectText → Met Select
walk_read tables (Ok read) = walk tables read.0
walk_read tables (Err rest) = Err (syntax (position_of rest))

-- the query that a text is over declared tables, or the first fault of the text
abbrev pub select_of : List TableDef → List ℕ → Met Select
select_of tables text = cond (nat_lt most_text_bytes (length text)) (Err (fault.Syntax 0 0)) (walk_read tables (query (tokens_of text)))
