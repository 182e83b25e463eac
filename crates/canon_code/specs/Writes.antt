-- The code of a write: the position of its transaction, the number of its table, its key, and what became of the row.
use Rattle.std.specs.Prelude.{◌<◌, ◌≤◌, ◌^◌, ◌++◌, ℕ, List, [], ◌∷◌, length, cond, ◌==◌, Option, Some, None, IfSome}
use Rattle.std.specs.Int.{w32}
use Rattle.rel_base.specs.declared.value.Value.{Value}
use Rattle.rel_base.specs.declared.access.Placed.{Placed}
use Rattle.canon_code.specs.declared.write.RowChange.{RowChange}
use Rattle.canon_code.specs.Codes.{be_code}
use Rattle.canon_code.specs.Parts.{◌>>=◌, number_at}
use Rattle.canon_code.specs.Rows.{row_code, key_code, HasRowCode, row_at}

-- ---- codes

-- 1 and the row after an insert, 2 and the rows before and after an update, 3 and the row before a delete; a write without a
-- row, which no run makes, gets the byte 0, and no reader takes it
abbrev pub change_code : Option (List Value) → Option (List Value) → List ℕ
change_code None None = 0 ∷ []
change_code None (Some after) = 1 ∷ row_code after
change_code (Some before) (Some after) = 2 ∷ row_code before ++ row_code after
change_code (Some before) None = 3 ∷ row_code before

-- which row is written, and by which transaction of the block
abbrev pub head_code : Placed → List ℕ
head_code placed = be_code w32 placed.pos ++ be_code w32 placed.write.table ++ key_code placed.write.key

abbrev pub write_code : Placed → List ℕ
write_code placed = head_code placed ++ change_code placed.write.before placed.write.after

-- a row is there, and each that is there has at most 32 values
abbrev pub HasChangeCode : Option (List Value) → Option (List Value) → Type 0
HasChangeCode None None = ⊥
HasChangeCode None (Some after) = HasRowCode after
HasChangeCode (Some before) (Some after) = HasRowCode before × HasRowCode after
HasChangeCode (Some before) None = HasRowCode before

pub record HasHeadCode (placed : Placed) : Type 0 where
  pub pos : placed.pos < 2 ^ 32
  pub table : placed.write.table < 2 ^ 32
  pub key : HasRowCode placed.write.key

pub record HasWriteCode (placed : Placed) : Type 0 where
  pub head : HasHeadCode placed
  pub change : HasChangeCode placed.write.before placed.write.after

-- a row that is there has at most 32 values
abbrev pub IsFewPart : Option (List Value) → Type 0
IsFewPart row = IfSome row (λ values. length values ≤ 32)

-- ---- reading

abbrev pub insert_at : List ℕ → Option (RowChange × List ℕ)
insert_at bytes = do
  after ← row_at bytes
  Some (record { before = None; after = Some after.0 }, after.1)

abbrev pub update_at : List ℕ → Option (RowChange × List ℕ)
update_at bytes = do
  before ← row_at bytes
  after ← row_at before.1
  Some (record { before = Some before.0; after = Some after.0 }, after.1)

abbrev pub delete_at : List ℕ → Option (RowChange × List ℕ)
delete_at bytes = do
  before ← row_at bytes
  Some (record { before = Some before.0; after = None }, before.1)

abbrev pub change_at : List ℕ → Option (RowChange × List ℕ)
change_at [] = None
change_at (kind ∷ bytes) =
    cond (kind == 1) (insert_at bytes) (cond (kind == 2) (update_at bytes) (cond (kind == 3) (delete_at bytes) None))

-- the write at the start of the bytes, and what follows it
abbrev pub write_at : List ℕ → Option (Placed × List ℕ)
write_at bytes = do
  pos ← number_at w32 bytes
  table ← number_at w32 pos.1
  key ← row_at table.1
  change ← change_at key.1
  Some (record { pos = pos.0; write = record { table = table.0; key = key.0; before = change.0.before; after = change.0.after } }, change.1)
