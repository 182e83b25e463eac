-- The kinds of expressions.
use Rattle.std.specs.Prelude.{List, Bool, true, false, not, Result, Ok, Option, Some, None}
use Rattle.rel_base.specs.Value.{kind_of}
use Rattle.rel_base.specs.declared.value.Kind.{Kind}
use Rattle.rel_base.specs.declared.value.Kind.TheVariants as kind
use Rattle.proc_syntax.specs.declared.tree.Named.{Named}
use Rattle.proc_syntax.specs.declared.tree.TableText.{TableText}
use Rattle.proc_syntax.specs.declared.tree.Op.{Op}
use Rattle.proc_syntax.specs.declared.tree.Op.TheVariants as op
use Rattle.proc_syntax.specs.declared.tree.Expr.{Expr, Expr-F, fold-Expr}
use Rattle.proc_syntax.specs.declared.tree.Expr.TheOpen as expr
use Rattle.proc_check.specs.declared.fault.Bad.{Bad}
use Rattle.proc_check.specs.declared.fault.BadKind.TheVariants.{WrongKind}
use Rattle.proc_check.specs.declared.expressions.Typed.{Typed}
use Rattle.proc_check.specs.declared.scope.Variable.{Variable}
use Rattle.proc_check.specs.Walk.{◌>>=◌, refuse}
use Rattle.proc_check.specs.Scope.{value_kind, row_table}
use Rattle.proc_check.specs.Tables.{known_column}

-- a kind is the wanted one
abbrev pub is_wanted : Option Kind → Kind → Bool
is_wanted (Some kind.Int) kind.Int = true
is_wanted (Some kind.Text) kind.Text = true
is_wanted (Some kind.Bool) kind.Bool = true
is_wanted (Some kind.Bytes) kind.Bytes = true
is_wanted _ _ = false

-- an expression of a wanted kind: it is walked first, and its kind compared then, on the line of its first token
abbrev pub need : Option Kind → Typed → Result (Unit {0}) Bad
need wanted typed = typed.kind >>= λ kind. refuse (not (is_wanted wanted kind)) typed.line WrongKind

-- an operator before an operand of a kind, which gives that kind
abbrev pub one : Kind → Typed → Result Kind Bad
one kind operand = need (Some kind) operand >>= λ _. Ok kind

-- the kind that an operator needs on both sides; a comparison takes any, the same on both
abbrev pub operand_kind : Op → Option Kind
operand_kind op.Or = Some kind.Bool
operand_kind op.And = Some kind.Bool
operand_kind op.Add = Some kind.Int
operand_kind op.Sub = Some kind.Int
operand_kind op.Join = Some kind.Text
operand_kind op.Mul = Some kind.Int
operand_kind op.Div = Some kind.Int
operand_kind op.Rem = Some kind.Int
operand_kind _ = None

-- the kind that an operator gives: a comparison gives a bool, and any other the kind of its operands
abbrev pub result_kind : Option Kind → Kind
result_kind None = kind.Bool
result_kind (Some kind) = kind

-- the left operand, and its kind
abbrev pub left_kind : Option Kind → Typed → Result Kind Bad
left_kind None left = left.kind
left_kind (Some kind) left = one kind left

-- an operator between two operands: the left one is walked and compared, and then the right one
abbrev pub two : Option Kind → Typed → Typed → Result Kind Bad
two wanted left right = left_kind wanted left >>= λ kind. need (Some kind) right >>= λ _. Ok (result_kind wanted)

-- `row.column`
abbrev pub field_kind : List TableText → List Variable → Named → Named → Result Kind Bad
field_kind tables scope row column = row_table scope row >>= λ table. known_column tables table column

-- an expression, from what its parts are
abbrev pub type_step : List TableText → List Variable → Expr-F Typed → Typed
type_step tables scope (expr.Value value line) = record { line = line; kind = Ok (kind_of value) }
type_step tables scope (expr.Var name) = record { line = name.line; kind = value_kind scope name }
type_step tables scope (expr.Field row column) = record { line = row.line; kind = field_kind tables scope row column }
type_step tables scope (expr.Now line) = record { line = line; kind = Ok kind.Int }
type_step tables scope (expr.Not inner line) = record { line = line; kind = one kind.Bool inner }
type_step tables scope (expr.Neg inner line) = record { line = line; kind = one kind.Int inner }
type_step tables scope (expr.Paren inner line) = record { line = line; kind = inner.kind }
type_step tables scope (expr.Two op left right) = record { line = left.line; kind = two (operand_kind op) left right }

-- an expression: the line of its first token, and its kind or its first fault
abbrev pub type_of : List TableText → List Variable → Expr → Typed
type_of tables scope = fold-Expr Typed (type_step tables scope)
