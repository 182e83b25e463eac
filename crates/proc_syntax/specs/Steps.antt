-- What a run does step by step, whatever its expressions are evaluated in: with variables by names, or by numbers.
use Rattle.std.specs.Prelude.{ℕ, ◌+◌, Bool, true, cond, ◌&&◌, ◌==◌, List, [], ◌∷◌, ◌++◌, map, Option, Some, None, Result, Ok, Err, nat_lt, slice_set, take, unwrap_or}
use Rattle.std.specs.FinMap as finite
use Rattle.std.specs.List as list
use Rattle.std.specs.List.{list_any}
use Rattle.std.specs.Option.{option_map_or}
use Rattle.rel_base.specs.declared.access.Made.{Made}
use Rattle.rel_base.specs.declared.access.Read.{Read}
use Rattle.rel_base.specs.declared.access.Read.TheVariants.{Point, Span}
use Rattle.rel_base.specs.declared.access.Seen.{Seen}
use Rattle.rel_base.specs.declared.schema.TableDef.{TableDef}
use Rattle.rel_base.specs.declared.value.Kind.{Kind}
use Rattle.rel_base.specs.declared.value.Value.{Value}
use Rattle.rel_base.specs.OwnWrites.{Own, merged}
pub use Rattle.rel_base.specs.Row.{set_columns}
use Rattle.rel_base.specs.Schema.{kind_at, key_of_row}
use Rattle.rel_base.specs.Tables.{Tables, rows}
use Rattle.rel_base.specs.Value.{key_eq}
use Rattle.proc_syntax.specs.declared.fault.Fault.TheVariants as fault
use Rattle.proc_syntax.specs.declared.run.Stop.{Stop}
use Rattle.proc_syntax.specs.declared.run.Stop.TheVariants as stop
use Rattle.proc_syntax.specs.Values.{found, has_kind, have_kinds, flag_of}
use Rattle.proc_syntax.specs.Limits.{most_steps}

-- ---- what a run has on its way

pub record State (V : Type 0) : Type 0 where
  pub environment : V
  pub own : Own
  pub made : List Made
  pub steps : ℕ

-- how a run stands: it goes on, or it has stopped
pub data Progress (V : Type 0) : Type 0 where
  Going : State V → Progress V
  Stopped : State V → Stop → Progress V

abbrev pub then_do : {V : Type 0} → Progress V → (State V → Progress V) → Progress V
then_do (Going state) go = go state
then_do (Stopped state why) go = Stopped state why

-- one more step, where fewer than 100,000 were made
abbrev pub step_then : {V : Type 0} → State V → (State V → Progress V) → Progress V
step_then state go = cond (nat_lt state.steps most_steps) (go (record state { steps = state.steps + 1 })) (Stopped state (stop.Fault fault.Steps))

-- goes on with a result, or stops with it
abbrev pub with_value : {V A : Type 0} → Result A Stop → State V → (A → Progress V) → Progress V
with_value (Ok x) state go = go x
with_value (Err why) state go = Stopped state why

-- a key of a table gets a row, or none
abbrev pub wrote : {V : Type 0} → State V → ℕ → List Value → Option (List Value) → State V
wrote state table key row = record state { own = finite.insert state.own (table, key) row }

-- ---- reads and rows that fit their table

-- the point read of a key, which has one value of its kind for each key column
abbrev pub point_of : TableDef → ℕ → List Value → Option Read
point_of def table key = cond (have_kinds (map (kind_at def) def.key) key) (Some (Point table key)) None

-- whether an end, where it is given, has a kind
abbrev pub end_has : Kind → Option Value → Bool
end_has kind end = option_map_or (has_kind kind) end true

-- the span read on a column, which is the first key column or indexed, between ends of its kind
abbrev pub span_of : TableDef → ℕ → Option ℕ → Option Value → Option Value → Option Read
span_of def table None low high = None
span_of def table (Some column) low high =
    cond (list_any (λ c. c == column) (take 1 def.key ++ def.index) && (end_has (kind_at def column) low && end_has (kind_at def column) high)) (Some (Span table column low high)) None

-- whether a row has one value of its kind for each column
abbrev pub row_fits : TableDef → List Value → Bool
row_fits def row = have_kinds (map (λ column. column.kind) def.columns) row

-- the key of a row that fits
abbrev pub key_for : TableDef → List Value → Option (List Value)
key_for def row = cond (row_fits def row) (Some (key_of_row def row)) None

-- a row that fits and has a key
abbrev pub row_under : TableDef → List Value → List Value → Option (List Value)
row_under def key row = cond (row_fits def row && key_eq (key_of_row def row) key) (Some row) None

-- ---- what is done with the rows of a read

-- a new row is put where its key has none
abbrev pub insert_at : {V : Type 0} → ℕ → List Value → List Value → List (List Value) → State V → Progress V
insert_at table key row [] state = Going (wrote state table key (Some row))
insert_at table key row (old ∷ rest) state = Stopped state (stop.Fault fault.DuplicateKey)

-- the row of a key is changed: its columns are set, one after the other
abbrev pub update_at : {V : Type 0} → TableDef → ℕ → List Value → List (ℕ × Value) → List (List Value) → State V → Progress V
update_at def table key changes [] state = Stopped state (stop.Fault fault.NoRow)
update_at def table key changes (row ∷ rest) state =
    with_value (found (row_under def key (list.fold (λ row change. slice_set row change.0 change.1) row changes))) state (λ new. Going (wrote state table key (Some new)))

-- the row of a key is deleted
abbrev pub delete_at : {V : Type 0} → ℕ → List Value → List (List Value) → State V → Progress V
delete_at table key [] state = Stopped state (stop.Fault fault.NoRow)
delete_at table key (row ∷ rest) state = Going (wrote state table key None)

-- one block where the key has a row, which a variable then holds, and another where it has none
abbrev pub held_or : {V : Type 0} → (List Value → State V → State V) → (State V → Progress V) → (State V → Progress V) → List (List Value) → State V → Progress V
held_or hold present absent [] state = absent state
held_or hold present absent (row ∷ rest) state = present (hold row state)

-- each row has its turn in a variable, with a step of its own
abbrev pub each_held : {V : Type 0} → (List Value → State V → State V) → (State V → Progress V) → List (List Value) → State V → Progress V
each_held hold body [] state = Going state
each_held hold body (row ∷ rest) state = step_then state (λ counted. then_do (body (hold row counted)) (each_held hold body rest))

-- ---- statements, by what their expressions are worth and what their blocks do

-- a block: each statement in turn, with a step of its own
abbrev pub in_turn : {V : Type 0} → List (State V → Progress V) → State V → Progress V
in_turn [] state = Going state
in_turn (act ∷ acts) state = then_do (step_then state act) (in_turn acts)

-- a variable gets a value
abbrev pub set_to : {V : Type 0} → Result Value Stop → (Value → State V → State V) → State V → Progress V
set_to worth put state = with_value worth state (λ v. Going (put v state))

-- one block where a test holds, and another where it does not
abbrev pub branch : {V : Type 0} → Result Value Stop → (State V → Progress V) → (State V → Progress V) → State V → Progress V
branch worth body other state = with_value worth state (λ v. with_value (flag_of v) state (λ holds. cond holds (body state) (other state)))

module _ (tables : Tables) where
  -- a read is recorded with its rows in the tables, whatever the transaction wrote; what follows gets the rows that the transaction sees
  abbrev pub with_rows : {V : Type 0} → TableDef → Read → State V → (List (List Value) → State V → Progress V) → Progress V
  with_rows def read state go =
      go (merged def read state.own (rows def read tables)) (record state { made = state.made ++ record { read = read; rows = rows def read tables } ∷ [] })

  -- the point read of a key, and then one block or the other
  abbrev pub get_row : {V : Type 0} → Option (ℕ × TableDef) → Result (List Value) Stop → (ℕ → List Value → State V → State V) → (State V → Progress V) → (State V → Progress V) → State V → Progress V
  get_row table key hold present absent state =
      with_value (found table) state (λ named. with_value key state (λ key.
      with_value (found (point_of named.1 named.0 key)) state (λ read. with_rows named.1 read state (held_or (hold named.0) present absent))))

  -- the span read on a column; the rows are fixed now, and then each has its turn
  abbrev pub for_rows : {V : Type 0} → Option (ℕ × TableDef) → (TableDef → Option ℕ) → Result (Option Value) Stop → Result (Option Value) Stop → (ℕ → List Value → State V → State V) → (State V → Progress V) → State V → Progress V
  for_rows table column low high hold body state =
      with_value (found table) state (λ named. with_value low state (λ low. with_value high state (λ high.
      with_value (found (span_of named.1 named.0 (column named.1) low high)) state (λ read. with_rows named.1 read state (each_held (hold named.0) body)))))

  -- the point read of the new row's key, and then the row is put
  abbrev pub insert_row : {V : Type 0} → Option (ℕ × TableDef) → Result (List Value) Stop → State V → Progress V
  insert_row table values state =
      with_value (found table) state (λ named. with_value values state (λ row.
      with_value (found (key_for named.1 row)) state (λ key. with_rows named.1 (Point named.0 key) state (insert_at named.0 key row))))

  -- the point read of a key, and then its row is changed
  abbrev pub update_row : {V : Type 0} → Option (ℕ × TableDef) → Result (List Value) Stop → (TableDef → Result (List (ℕ × Value)) Stop) → State V → Progress V
  update_row table key changes state =
      with_value (found table) state (λ named. with_value key state (λ key. with_value (changes named.1) state (λ changes.
      with_value (found (point_of named.1 named.0 key)) state (λ read. with_rows named.1 read state (update_at named.1 named.0 key changes)))))

  -- the point read of a key, and then its row is deleted
  abbrev pub delete_row : {V : Type 0} → Option (ℕ × TableDef) → Result (List Value) Stop → State V → Progress V
  delete_row table key state =
      with_value (found table) state (λ named. with_value key state (λ key.
      with_value (found (point_of named.1 named.0 key)) state (λ read. with_rows named.1 read state (delete_at named.0 key))))

-- ---- for proofs

-- a read was made, with the rows that it got
abbrev pub asked : {V : Type 0} → State V → Read → List Seen → State V
asked state read rows = record state { made = state.made ++ record { read = read; rows = rows } ∷ [] }

-- goes on with what there is; where there is nothing, the procedure is not well typed
abbrev pub with_some : {V A : Type 0} → Option A → State V → (A → Progress V) → Progress V
with_some there state go = with_value (found there) state go

-- the block of an `else`, where there is one
abbrev pub in_turn_if : {V : Type 0} → Option (List (State V → Progress V)) → State V → Progress V
in_turn_if acts = in_turn (unwrap_or acts [])
