-- The read of the rows of a source, by what the comparisons say of them and the rows of the sources before it.
use Rattle.std.specs.Prelude.{ℕ, List, [], ◌∷◌, Bool, true, false, cond, nat_lt, ◌&&◌, ◌==◌, length, Option, Some, None}
use Rattle.rel_base.specs.Schema.{kind_at}
use Rattle.rel_base.specs.declared.access.Read.{Read}
use Rattle.rel_base.specs.declared.access.Read.TheVariants as read
use Rattle.rel_base.specs.declared.access.Seen.{Seen}
use Rattle.rel_base.specs.declared.schema.TableDef.{TableDef}
use Rattle.rel_base.specs.declared.value.Kind.{Kind}
use Rattle.rel_base.specs.declared.value.Kind.TheVariants as kind
use Rattle.rel_base.specs.declared.value.Value.{Value}
use Rattle.rel_base.specs.declared.value.Value.TheVariants as value
use Rattle.query_plan.specs.Tuples.{side_at}
use Rattle.query_plan.specs.declared.access.Access.{Access}
use Rattle.query_plan.specs.declared.access.Access.TheVariants as access
use Rattle.query_plan.specs.declared.access.Bound.{Bound}
use Rattle.query_plan.specs.declared.access.Bound.TheVariants.{Exact, Low, High}
use Rattle.query_plan.specs.declared.select.Comparison.{Comparison}
use Rattle.query_plan.specs.declared.select.Field.{Field}
use Rattle.query_plan.specs.declared.select.Field.TheVariants.{Column}
use Rattle.query_plan.specs.declared.select.Relation.{Relation}
use Rattle.query_plan.specs.declared.select.Relation.TheVariants as relation
use Rattle.query_plan.specs.declared.select.Side.{Side}
use Rattle.query_plan.specs.declared.select.Side.TheVariants.{Field as Other, Given}

abbrev pub serves : Bound → Relation → Bool
serves bound relation.Equal = true
serves Low relation.Greater = true
serves Low relation.GreaterOrEqual = true
serves High relation.Less = true
serves High relation.LessOrEqual = true
serves bound relation = false

abbrev pub is_column : ℕ → Field → Bool
is_column column (Column other) = column == other
is_column column field = false

abbrev pub is_some_column : Field → Bool
is_some_column (Column column) = true
is_some_column field = false

-- a side is a value or a column of an earlier source
abbrev pub is_given : ℕ → Side → Bool
is_given source (Other col) = nat_lt col.source source && is_some_column col.field
is_given source (Given v) = true

-- a comparison bounds a column of a source by a value or a column of an earlier source
abbrev pub bounds : ℕ → ℕ → Bound → Comparison → Bool
bounds source column bound c = (source == c.left.source) && (is_column column c.left.field && (serves bound c.relation && is_given source c.right))

-- the value by which the first of some comparisons that bounds a column of the next source bounds it
abbrev pub end_of : List Comparison → List Seen → ℕ → Bound → Option Value
end_of [] prefix column bound = None
end_of (c ∷ cs) prefix column bound = cond (bounds (length prefix) column bound c) (Some (side_at prefix c.right)) (end_of cs prefix column bound)

abbrev pub has_kind : Kind → Value → Bool
has_kind kind.Int (value.Int n) = true
has_kind kind.Text (value.Text t) = true
has_kind kind.Bool (value.Bool b) = true
has_kind kind.Bytes (value.Bytes b) = true
has_kind k v = false

abbrev pub fitting : Kind → Option Value → Option Value
fitting k None = None
fitting k (Some v) = cond (has_kind k v) (Some v) None

-- the same, where the value has the kind of the column
abbrev pub fit_end : TableDef → List Comparison → List Seen → Bound → ℕ → Option Value
fit_end def comparisons prefix bound column = fitting (kind_at def column) (end_of comparisons prefix column bound)

abbrev pub put_first : Option Value → Option (List Value) → Option (List Value)
put_first None rest = None
put_first (Some v) None = None
put_first (Some v) (Some vs) = Some (v ∷ vs)

-- the values of some columns of the next source, where each is given
abbrev pub key_ends : TableDef → List Comparison → List Seen → List ℕ → Option (List Value)
key_ends def comparisons prefix [] = Some []
key_ends def comparisons prefix (column ∷ columns) = put_first (fit_end def comparisons prefix Exact column) (key_ends def comparisons prefix columns)

abbrev pub whole_by : ℕ → List ℕ → Read
whole_by table [] = read.Point table []
whole_by table (column ∷ columns) = read.Span table column None None

abbrev pub point_or : ℕ → TableDef → Option (List Value) → Read
point_or table def None = whole_by table def.key
point_or table def (Some key) = read.Point table key

abbrev pub read_by : ℕ → TableDef → Access → List Comparison → List Seen → Read
read_by table def access.Point comparisons prefix = point_or table def (key_ends def comparisons prefix def.key)
read_by table def (access.Span column) comparisons prefix = read.Span table column (fit_end def comparisons prefix Low column) (fit_end def comparisons prefix High column)
read_by table def access.Whole comparisons prefix = whole_by table def.key
