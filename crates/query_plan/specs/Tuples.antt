-- The tuples of a query: all choices of one row of each source for which every comparison holds.
use Rattle.std.specs.Prelude.{ℕ, pos, List, [], ◌∷◌, map, Bool, not, Option, Some, None, slice_get, ◌==◌}
use Rattle.std.specs.List.{filter, flat_map, list_all}
use Rattle.std.specs.declared.cmp.Ordering.{Ordering}
use Rattle.std.specs.Ordering.{is_eq, is_lt, is_le, is_gt, is_ge}
use Rattle.std.specs.FinMap as finite
use Rattle.rel_base.specs.Row.{value_at}
use Rattle.rel_base.specs.Tables.{Tables}
use Rattle.rel_base.specs.Value.{value_cmp}
use Rattle.rel_base.specs.declared.access.Seen.{Seen}
use Rattle.rel_base.specs.declared.value.Value.{Value}
use Rattle.rel_base.specs.declared.value.Value.TheVariants as value
use Rattle.query_plan.specs.declared.select.Col.{Col}
use Rattle.query_plan.specs.declared.select.Comparison.{Comparison}
use Rattle.query_plan.specs.declared.select.Field.{Field}
use Rattle.query_plan.specs.declared.select.Field.TheVariants.{Column, Block, Pos}
use Rattle.query_plan.specs.declared.select.Relation.{Relation}
use Rattle.query_plan.specs.declared.select.Relation.TheVariants as relation
use Rattle.query_plan.specs.declared.select.Side.{Side}
use Rattle.query_plan.specs.declared.select.Side.TheVariants.{Field as Other, Given}

-- a field of a row
abbrev pub field_of : Seen → Field → Value
field_of seen (Column column) = value_at seen.row column
field_of seen Block = value.Int (pos seen.place.block)
field_of seen Pos = value.Int (pos seen.place.pos)

abbrev pub field_of_some : Option Seen → Field → Value
field_of_some None field = value.Int (pos 0)
field_of_some (Some seen) field = field_of seen field

-- a field of a row of a tuple
abbrev pub at : List Seen → Col → Value
at tuple col = field_of_some (slice_get tuple col.source) col.field

abbrev pub side_at : List Seen → Side → Value
side_at tuple (Other col) = at tuple col
side_at tuple (Given v) = v

abbrev pub relates : Relation → Ordering → Bool
relates relation.Equal o = is_eq o
relates relation.NotEqual o = not (is_eq o)
relates relation.Less o = is_lt o
relates relation.LessOrEqual o = is_le o
relates relation.Greater o = is_gt o
relates relation.GreaterOrEqual o = is_ge o

-- a comparison holds of a tuple
abbrev pub holds : List Seen → Comparison → Bool
holds tuple c = relates c.relation (value_cmp (at tuple c.left) (side_at tuple c.right))

abbrev pub holds_all : List Comparison → List Seen → Bool
holds_all comparisons tuple = list_all (holds tuple) comparisons

-- the rows of a table, in the order of their keys
abbrev pub table_rows : Tables → ℕ → List Seen
table_rows tables table = map (λ e. e.1) (filter (λ e. table == e.0.0) (finite.entries tables))

-- all choices of one row of each list: those with an earlier row of the first list first, and so on
abbrev pub choices : List (List Seen) → List (List Seen)
choices [] = [] ∷ []
choices (rows ∷ rest) = flat_map (λ row. map (λ tuple. row ∷ tuple) (choices rest)) rows

-- the tuples of comparisons over the tables of some sources
abbrev pub tuples : Tables → List ℕ → List Comparison → List (List Seen)
tuples tables sources comparisons = filter (holds_all comparisons) (choices (map (table_rows tables) sources))
