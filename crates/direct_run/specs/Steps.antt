-- What a step of a run comes to, but where memory runs out.
use Rattle.std.specs.Prelude.{◌≡◌, ℕ, Bool, true, false, cond, List, Result, Ok, Err}
use Rattle.rel_base.specs.declared.access.Read.{Read}
use Rattle.rel_base.specs.declared.access.Read.TheVariants.{Point, Span}
use Rattle.rel_base.specs.declared.schema.TableDef.{TableDef}
use Rattle.rel_base.specs.declared.value.Value.{Value}
use Rattle.rel_base.specs.Access.{ReadFits, read_table}
use Rattle.rel_base.specs.Tables.{Tables}
use Rattle.proc_syntax.specs.Steps.{Going, Stopped, each_held, with_rows}
use Rattle.proc_syntax.specs.declared.run.Stop.{Stop}
use Rattle.proc_syntax.specs.Values.{◌>>=◌, flag_of}
use Rattle.proc_eval.specs.declared.halt.Halt.{Halt}
use Rattle.proc_eval.specs.declared.halt.Halt.TheVariants as halt
use Rattle.proc_code.specs.Coded.{State, Progress, hold}
use Rattle.direct_run.specs.Runs.{IsTable}
use Rattle.direct_run.specs.declared.looking.Table.{Table}

-- a step that was made is the one that is meant
abbrev pub Ends : Result (Unit {0}) Halt → State → Progress → Type 0
Ends (Ok done) reached meant = meant ≡ Going reached
Ends (Err halt.NoMemory) reached meant = Unit {0}
Ends (Err (halt.Stop why)) reached meant = meant ≡ Stopped reached why

-- the truth value that an expression is worth
abbrev pub truth_of : Result Value Stop → Result Bool Stop
truth_of worth = worth >>= flag_of

-- a statement with two blocks, as a function of these
abbrev pub Fork : Type 0
Fork = (State → Progress) → (State → Progress) → Progress

-- a test or a read chose one of two blocks, which begins where the run then stands
abbrev pub Chooses : Result Bool Halt → State → Fork → Type 0
Chooses (Ok first) reached meant = (body other : State → Progress) → meant body other ≡ cond first (body reached) (other reached)
Chooses (Err halt.NoMemory) reached meant = Unit {0}
Chooses (Err (halt.Stop why)) reached meant = (body other : State → Progress) → meant body other ≡ Stopped reached why

abbrev pub is_span : Read → Bool
is_span (Point table key) = false
is_span (Span table column low high) = true

-- a read is a span of a declared table, and fits it
pub record IsSpanOf (declared : List TableDef) (table : Table) (read : Read) : Type 0 where
  pub table_is : IsTable declared table
  pub of : read_table read ≡ table.number
  pub fits : ReadFits table.def.now read
  pub span : is_span read ≡ true

-- what a `for` does from where a run stands, as a function of its block
abbrev pub Each : Type 0
Each = (State → Progress) → Progress

-- the read of a `for` was made up: what is left is the read, and then the block for each row
abbrev pub Spans : List TableDef → Tables → ℕ → Result (Table × Read) Halt → State → Each → Type 0
Spans declared tables slot (Ok (table, read)) st meant =
    IsSpanOf declared table read × ((body : State → Progress) → meant body ≡ with_rows tables table.def.now read st (each_held (hold slot table.number) body))
Spans declared tables slot (Err halt.NoMemory) st meant = Unit {0}
Spans declared tables slot (Err (halt.Stop why)) st meant = (body : State → Progress) → meant body ≡ Stopped st why
