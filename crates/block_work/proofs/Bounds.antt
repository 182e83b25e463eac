-- Keys and rows of few values: those of checked tables, and of the writes that fit them.
use Rattle.std.proofs.Common.{All, IfSome, List, None, Option, Some, [], ap, arith, length, suc, sym, zero, ⊎_elim, ◌∙◌, ◌≡◌, ◌≤◌, ◌∷◌, ℕ}
use Rattle.std.proofs.lemmas.List.Elements.{All-head, All-tail}
use Rattle.std.proofs.lemmas.List.{length-map}
use Rattle.std.specs.Prelude.{IsSome, IsSomeAnd, slice_get}
use Rattle.block_digest.specs.Codable.{IsFewWrite}
use Rattle.block_digest.specs.Lent.{placed_at}
use Rattle.canon_code.specs.Writes.{IsFewPart}
use Rattle.proc_check.specs.Sizes.{IsSmall}
use Rattle.rel_base.specs.Access.{PartFits, WriteFits}
use Rattle.rel_base.specs.Among.{WriteFitsIn}
use Rattle.rel_base.specs.Row.{value_at}
use Rattle.rel_base.specs.Schema.{RowFits, key_of_row}
use Rattle.rel_base.specs.Value.{kind_of}
use Rattle.rel_base.specs.declared.access.Write.{Write}
use Rattle.rel_base.specs.declared.schema.Column.{Column}
use Rattle.rel_base.specs.declared.schema.TableDef.{TableDef}
use Rattle.rel_base.specs.declared.value.Value.{Value}

-- ---- writes

row_few : (def : TableDef) (row : List Value) → IsSmall def → RowFits def row → length row ≤ 32
row_few def row small fits =
    let columns = small.columns in
    let same : length row ≡ length def.columns = sym (length-map row kind_of) ∙ ap length fits ∙ length-map def.columns (λ (c : Column). c.kind) in
    omega (arith, columns, same)

key_few : (def : TableDef) (key row : List Value) → IsSmall def → key_of_row def row ≡ key → length key ≤ 32
key_few def key row small has =
    let few = small.key in
    let same : length key ≡ length def.key = sym (ap length has) ∙ length-map def.key (value_at row) in
    omega (arith, few, same)

part_few : (def : TableDef) (key : List Value) (part : Option (List Value)) → IsSmall def → PartFits def key part → IsFewPart part
part_few def key None small fits = tt
part_few def key (Some row) small fits = row_few def row small fits.0

part_key_few : (def : TableDef) (key : List Value) (part : Option (List Value)) → IsSmall def → PartFits def key part → IsSome part → length key ≤ 32
part_key_few def key None small fits there = cc
part_key_few def key (Some row) small fits there = key_few def key row small fits.1

write_few : (def : TableDef) (pos : ℕ) (write : Write) → IsSmall def → WriteFits def write → IsFewWrite (placed_at pos write)
write_few def pos write small fits = record {
  key = ⊎_elim (part_key_few def write.key write.before small fits.before) (part_key_few def write.key write.after small fits.after) fits.some;
  before = part_few def write.key write.before small fits.before;
  after = part_few def write.key write.after small fits.after;
}

declared_few : (pos : ℕ) (write : Write) (found : Option TableDef) → IfSome found IsSmall → IsSomeAnd found (λ def. WriteFits def write) → IsFewWrite (placed_at pos write)
declared_few pos write None small fits = absurd fits
declared_few pos write (Some def) small fits = write_few def pos write small fits

-- what holds of each item holds of the one at a place
pub at_place : {X : Type 0} (P : X → Type 0) (xs : List X) (place : ℕ) → All P xs → IfSome (slice_get xs place) P
at_place P [] place all = tt
at_place P (x ∷ xs) zero all = All-head P x xs all
at_place P (x ∷ xs) (suc place) all = at_place P xs place (All-tail P x xs all)

pub fitting_few : (tables : List TableDef) → All IsSmall tables → (pos : ℕ) (write : Write) → WriteFitsIn tables write → IsFewWrite (placed_at pos write)
fitting_few tables small pos write fits = declared_few pos write (slice_get tables write.table) (at_place IsSmall tables write.table small) fits
