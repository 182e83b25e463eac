-- The codes of values, rows and writes are exact.
use Rattle.std.proofs.Common.{◌≡◌, ◌<◌, ◌^◌, ℕ, List, [], ◌∷◌, ◌++◌, Bool, true, false, cond, Option, Some, None, refl, sym, ◌∙◌, ap, subst, arith, append_assoc}
use Rattle.std.specs.Prelude.{ℤ, FitsSigned, ◌==◌}
use Rattle.std.specs.Int.{w32, w64, cast_signed, cast_unsigned}
use Rattle.std.proofs.lemmas.Bool.{eqb-true}
use Rattle.std.proofs.lemmas.Int.{to_z-of_z, of_z-to_z}
use Rattle.std.proofs.Math.Facts.{Fits-of_z, sfits_to_z}
use Rattle.std.proofs.lemmas.Option.{none-some, some_pair_parts}
use Rattle.rel_base.specs.declared.value.Value.{Value}
use Rattle.rel_base.specs.declared.value.Value.TheVariants as value
use Rattle.rel_base.specs.declared.access.Placed.{Placed}
use Rattle.rel_base.specs.Reading.{as_kind}
use Rattle.canon_code.specs.declared.write.RowChange.{RowChange}
use Rattle.canon_code.specs.Codes.{AreBytes, be_code, byte_code, short_code, HasShortCode}
use Rattle.canon_code.specs.Parts.{◌>>=◌, number_at, byte_at, short_at}
use Rattle.canon_code.specs.Laws.{ComesBack, WasWritten}
use Rattle.canon_code.specs.Values.{int_code, bool_code, value_code, is_text, HasValueCode, int_at, text_at, bool_at, value_at}
use Rattle.canon_code.specs.Rows.{row_code, HasRowCode, row_at}
use Rattle.canon_code.specs.Writes.{change_code, write_code, HasChangeCode, HasWriteCode, insert_at, update_at, delete_at, change_at, write_at}
use Rattle.canon_code.proofs.Exact.{IsExact, bind_some, cond_found, bytes_tail, bytes_after, u32_exact, u64_exact, byte_exact, short_back, short_exact, counted_exact}

-- ---- the kinds of values

bits_fit : (n : ℤ) → FitsSigned w64 n → cast_unsigned w64 n < 2 ^ 64
bits_fit n fits = (Fits-of_z fits).fits

int_back : ComesBack int_code (FitsSigned w64) int_at
int_back n rest fits =
    ap (λ found. found >>= λ bits. Some (cast_signed w64 bits.0, bits.1)) (u64_exact.back (cast_unsigned w64 n) rest (bits_fit n fits))
    ∙ ap (λ z. Some (z, rest)) (to_z-of_z w64 n fits)

signed_fits : (bits : ℕ) → bits < 2 ^ 64 → FitsSigned w64 (cast_signed w64 bits)
signed_fits bits lt = sfits_to_z {w = w64} {n = bits} (record { fits = lt })

int_written : WasWritten int_code (FitsSigned w64) int_at
int_written bytes n rest fits e =
    let a = bind_some (number_at w64 bytes) (λ bits. Some (cast_signed w64 bits.0, bits.1)) (n, rest) e in
    let bits = u64_exact.written bytes a.0.0 a.0.1 fits a.1 in
    let parts = some_pair_parts (cast_signed w64 a.0.0) n a.0.1 rest a.2 in
    let same : a.0.0 ≡ cast_unsigned w64 n = sym (of_z-to_z w64 a.0.0 bits.0) ∙ ap (cast_unsigned w64) parts.0 in
    (subst (FitsSigned w64) parts.0 (signed_fits a.0.0 bits.0), bits.1 ∙ ap (λ k. be_code w64 k ++ a.0.1) same ∙ ap (λ xs. int_code n ++ xs) parts.1)

pub int_exact : IsExact int_code (FitsSigned w64) int_at
int_exact = record { back = int_back; written = int_written }

abbrev IsText : List ℕ → Type 0
IsText text = is_text text ≡ true

text_back : ComesBack short_code IsText text_at
text_back text rest fine =
    ap (λ found. found >>= λ t. cond (is_text t.0) (Some t) None) (short_back text rest) ∙ ap (λ test. cond test (Some (text, rest)) None) fine

text_written : WasWritten short_code IsText text_at
text_written bytes text rest fits e =
    let a = bind_some (short_at bytes) (λ t. cond (is_text t.0) (Some t) None) (text, rest) e in
    let test = cond_found (is_text a.0.0) (Some a.0) (text, rest) a.2 in
    let parts = some_pair_parts a.0.0 text a.0.1 rest test.1 in
    let found = short_exact.written bytes a.0.0 a.0.1 fits a.1 in
    (subst IsText parts.0 test.0, found.1 ∙ ap (λ t. short_code t ++ a.0.1) parts.0 ∙ ap (λ xs. short_code text ++ xs) parts.1)

text_exact : IsExact short_code IsText text_at
text_exact = record { back = text_back; written = text_written }

-- every bool has a code
abbrev IsAny : Bool → Type 0
IsAny b = Unit {0}

bool_back : ComesBack bool_code IsAny bool_at
bool_back true rest any = refl
bool_back false rest any = refl

bool_choice : (b : ℕ) (bytes : List ℕ) (p q : Bool) → (b == 0) ≡ p → (b == 1) ≡ q → (flag : Bool) (rest : List ℕ)
    → cond {A = Option (Bool × List ℕ)} p (Some (false, bytes)) (cond q (Some (true, bytes)) None) ≡ Some (flag, rest) → b ∷ bytes ≡ bool_code flag ++ rest
bool_choice b bytes true q ep eq flag rest e =
    let parts = some_pair_parts false flag bytes rest e in
    ap (λ x. x ∷ bytes) (eqb-true b 0 ep) ∙ ap (λ f. bool_code f ++ bytes) parts.0 ∙ ap (λ xs. bool_code flag ++ xs) parts.1
bool_choice b bytes false true ep eq flag rest e =
    let parts = some_pair_parts true flag bytes rest e in
    ap (λ x. x ∷ bytes) (eqb-true b 1 eq) ∙ ap (λ f. bool_code f ++ bytes) parts.0 ∙ ap (λ xs. bool_code flag ++ xs) parts.1
bool_choice b bytes false false ep eq flag rest e = absurd (none-some (flag, rest) e)

bool_written : WasWritten bool_code IsAny bool_at
bool_written [] flag rest fits e = absurd (none-some (flag, rest) e)
bool_written (b ∷ bytes) flag rest fits e = (tt, bool_choice b bytes (b == 0) (b == 1) refl refl flag rest e)

bool_exact : IsExact bool_code IsAny bool_at
bool_exact = record { back = bool_back; written = bool_written }

-- ---- values

value_back : ComesBack value_code HasValueCode value_at
value_back (value.Int n) rest has = ap (as_kind value.Int) (int_exact.back n rest has)
value_back (value.Text t) rest has = ap (as_kind value.Text) (text_exact.back t rest has)
value_back (value.Bool b) rest has = ap (as_kind value.Bool) (bool_exact.back b rest has)
value_back (value.Bytes b) rest has = ap (as_kind value.Bytes) (short_exact.back b rest has)

-- a value and the bytes whose prefix is its code
abbrev IsWritten : List ℕ → Value → List ℕ → Type 0
IsWritten bytes v rest = HasValueCode v × (bytes ≡ value_code v ++ rest)

kind_found : {A : Type 0} (make : A → Value) (found : Option (A × List ℕ)) (v : Value) (rest : List ℕ) → as_kind make found ≡ Some (v, rest)
    → (x : A) × (found ≡ Some (x, rest)) × (make x ≡ v)
kind_found make None v rest e = absurd (none-some (v, rest) e)
kind_found make (Some found) v rest e = let parts = some_pair_parts (make found.0) v found.1 rest e in (found.0, ap (λ xs. Some (found.0, xs)) parts.1, parts.0)

kind_written : {A : Type 0} (kind : ℕ) (make : A → Value) (code : A → List ℕ) (HasCode : A → Type 0) (reading : List ℕ → Option (A × List ℕ)) → IsExact code HasCode reading
    → ((x : A) → HasCode x → HasValueCode (make x)) → ((x : A) → value_code (make x) ≡ kind ∷ code x)
    → (b : ℕ) (bytes : List ℕ) (v : Value) (rest : List ℕ) → (b == kind) ≡ true → AreBytes bytes → as_kind make (reading bytes) ≡ Some (v, rest) → IsWritten (b ∷ bytes) v rest
kind_written kind make code HasCode reading exact promises coded b bytes v rest same fits e =
    let found = kind_found make (reading bytes) v rest e in
    let written = exact.written bytes found.0 rest fits found.1 in
    subst (λ (w : Value). IsWritten (b ∷ bytes) w rest) found.2
    (promises found.0 written.0, ap (λ x. x ∷ bytes) (eqb-true b kind same) ∙ ap (λ xs. kind ∷ xs) written.1 ∙ ap (λ xs. xs ++ rest) (sym (coded found.0)))

value_choice : (b : ℕ) (bytes : List ℕ) (p q r s : Bool) → (b == 1) ≡ p → (b == 2) ≡ q → (b == 3) ≡ r → (b == 4) ≡ s → AreBytes bytes → (v : Value) (rest : List ℕ)
    → cond {A = Option (Value × List ℕ)} p (as_kind value.Int (int_at bytes)) (cond q (as_kind value.Text (text_at bytes)) (cond r (as_kind value.Bool (bool_at bytes)) (cond s (as_kind value.Bytes (short_at bytes)) None))) ≡ Some (v, rest)
    → IsWritten (b ∷ bytes) v rest
value_choice b bytes true q r s ep eq er es fits v rest e =
    kind_written 1 value.Int int_code (FitsSigned w64) int_at int_exact (λ x h. h) (λ x. refl) b bytes v rest ep fits e
value_choice b bytes false true r s ep eq er es fits v rest e =
    kind_written 2 value.Text short_code IsText text_at text_exact (λ x h. h) (λ x. refl) b bytes v rest eq fits e
value_choice b bytes false false true s ep eq er es fits v rest e =
    kind_written 3 value.Bool bool_code IsAny bool_at bool_exact (λ x h. tt) (λ x. refl) b bytes v rest er fits e
value_choice b bytes false false false true ep eq er es fits v rest e =
    kind_written 4 value.Bytes short_code HasShortCode short_at short_exact (λ x h. h) (λ x. refl) b bytes v rest es fits e
value_choice b bytes false false false false ep eq er es fits v rest e = absurd (none-some (v, rest) e)

value_written : WasWritten value_code HasValueCode value_at
value_written [] v rest fits e = absurd (none-some (v, rest) e)
value_written (b ∷ bytes) v rest fits e = value_choice b bytes (b == 1) (b == 2) (b == 3) (b == 4) refl refl refl refl (bytes_tail b bytes fits) v rest e

pub value_exact : IsExact value_code HasValueCode value_at
value_exact = record { back = value_back; written = value_written }

-- ---- rows

pub row_exact : IsExact row_code HasRowCode row_at
row_exact = counted_exact byte_code 256 byte_at byte_exact value_code HasValueCode value_at value_exact 32 (omega arith)

-- ---- what became of a row

abbrev change_bytes : RowChange → List ℕ
change_bytes change = change_code change.before change.after

abbrev HasChange : RowChange → Type 0
HasChange change = HasChangeCode change.before change.after

-- the change after one row, and after two
abbrev inserted : List Value → RowChange
inserted after = record { before = None; after = Some after }

abbrev updated : List Value → List Value → RowChange
updated before after = record { before = Some before; after = Some after }

abbrev deleted : List Value → RowChange
deleted before = record { before = Some before; after = None }

change_back : (before after : Option (List Value)) (rest : List ℕ) → HasChangeCode before after → change_at (change_code before after ++ rest) ≡ Some (record { before = before; after = after }, rest)
change_back None None rest has = absurd has
change_back None (Some after) rest has = ap (λ found. found >>= λ row. Some (inserted row.0, row.1)) (row_exact.back after rest has)
change_back (Some before) (Some after) rest has =
    ap (λ xs. update_at xs) (append_assoc (row_code before) (row_code after) rest)
    ∙ ap (λ found. found >>= λ first. (row_at first.1 >>= λ row. Some (updated first.0 row.0, row.1))) (row_exact.back before (row_code after ++ rest) has.0)
    ∙ ap (λ found. found >>= λ row. Some (updated before row.0, row.1)) (row_exact.back after rest has.1)
change_back (Some before) None rest has = ap (λ found. found >>= λ row. Some (deleted row.0, row.1)) (row_exact.back before rest has)

abbrev IsChanged : List ℕ → List ℕ → RowChange → Type 0
IsChanged bytes rest change = HasChange change × (bytes ≡ change_bytes change ++ rest)

insert_written : (b : ℕ) (bytes : List ℕ) (change : RowChange) (rest : List ℕ) → (b == 1) ≡ true → AreBytes bytes → insert_at bytes ≡ Some (change, rest) → IsChanged (b ∷ bytes) rest change
insert_written b bytes change rest same fits e =
    let a = bind_some (row_at bytes) (λ row. Some (inserted row.0, row.1)) (change, rest) e in
    let row = row_exact.written bytes a.0.0 a.0.1 fits a.1 in
    let parts = some_pair_parts (inserted a.0.0) change a.0.1 rest a.2 in
    subst (IsChanged (b ∷ bytes) rest) parts.0
    (row.0, ap (λ x. x ∷ bytes) (eqb-true b 1 same) ∙ ap (λ xs. 1 ∷ xs) (row.1 ∙ ap (λ xs. row_code a.0.0 ++ xs) parts.1))

delete_written : (b : ℕ) (bytes : List ℕ) (change : RowChange) (rest : List ℕ) → (b == 3) ≡ true → AreBytes bytes → delete_at bytes ≡ Some (change, rest) → IsChanged (b ∷ bytes) rest change
delete_written b bytes change rest same fits e =
    let a = bind_some (row_at bytes) (λ row. Some (deleted row.0, row.1)) (change, rest) e in
    let row = row_exact.written bytes a.0.0 a.0.1 fits a.1 in
    let parts = some_pair_parts (deleted a.0.0) change a.0.1 rest a.2 in
    subst (IsChanged (b ∷ bytes) rest) parts.0
    (row.0, ap (λ x. x ∷ bytes) (eqb-true b 3 same) ∙ ap (λ xs. 3 ∷ xs) (row.1 ∙ ap (λ xs. row_code a.0.0 ++ xs) parts.1))

update_written : (b : ℕ) (bytes : List ℕ) (change : RowChange) (rest : List ℕ) → (b == 2) ≡ true → AreBytes bytes → update_at bytes ≡ Some (change, rest) → IsChanged (b ∷ bytes) rest change
update_written b bytes change rest same fits e =
    let a = bind_some (row_at bytes) (λ first. row_at first.1 >>= λ row. Some (updated first.0 row.0, row.1)) (change, rest) e in
    let c = bind_some (row_at a.0.1) (λ row. Some (updated a.0.0 row.0, row.1)) (change, rest) a.2 in
    let before = row_exact.written bytes a.0.0 a.0.1 fits a.1 in
    let after = row_exact.written a.0.1 c.0.0 c.0.1 (bytes_after (row_code a.0.0) a.0.1 bytes before.1 fits) c.1 in
    let parts = some_pair_parts (updated a.0.0 c.0.0) change c.0.1 rest c.2 in
    let whole : bytes ≡ (row_code a.0.0 ++ row_code c.0.0) ++ rest =
    before.1 ∙ ap (λ xs. row_code a.0.0 ++ xs) (after.1 ∙ ap (λ xs. row_code c.0.0 ++ xs) parts.1) ∙ sym (append_assoc (row_code a.0.0) (row_code c.0.0) rest) in
    subst (IsChanged (b ∷ bytes) rest) parts.0 ((before.0, after.0), ap (λ x. x ∷ bytes) (eqb-true b 2 same) ∙ ap (λ xs. 2 ∷ xs) whole)

change_choice : (b : ℕ) (bytes : List ℕ) (p q r : Bool) → (b == 1) ≡ p → (b == 2) ≡ q → (b == 3) ≡ r → AreBytes bytes → (change : RowChange) (rest : List ℕ)
    → cond {A = Option (RowChange × List ℕ)} p (insert_at bytes) (cond q (update_at bytes) (cond r (delete_at bytes) None)) ≡ Some (change, rest) → IsChanged (b ∷ bytes) rest change
change_choice b bytes true q r ep eq er fits change rest e = insert_written b bytes change rest ep fits e
change_choice b bytes false true r ep eq er fits change rest e = update_written b bytes change rest eq fits e
change_choice b bytes false false true ep eq er fits change rest e = delete_written b bytes change rest er fits e
change_choice b bytes false false false ep eq er fits change rest e = absurd (none-some (change, rest) e)

change_written : (bytes : List ℕ) (change : RowChange) (rest : List ℕ) → AreBytes bytes → change_at bytes ≡ Some (change, rest) → IsChanged bytes rest change
change_written [] change rest fits e = absurd (none-some (change, rest) e)
change_written (b ∷ bytes) change rest fits e = change_choice b bytes (b == 1) (b == 2) (b == 3) refl refl refl (bytes_tail b bytes fits) change rest e

-- ---- writes

abbrev placed_of : ℕ → ℕ → List Value → RowChange → Placed
placed_of p table key change = record { pos = p; write = record { table = table; key = key; before = change.before; after = change.after } }

-- the parts of a code, each followed by the next
regrouped : (a b c d rest : List ℕ) → ((a ++ (b ++ c)) ++ d) ++ rest ≡ a ++ (b ++ (c ++ (d ++ rest)))
regrouped a b c d rest =
    append_assoc (a ++ (b ++ c)) d rest ∙ append_assoc a (b ++ c) (d ++ rest) ∙ ap (λ xs. a ++ xs) (append_assoc b c (d ++ rest))

then_rest : (front bytes after rest : List ℕ) → bytes ≡ front ++ after → after ≡ rest → bytes ≡ front ++ rest
then_rest front bytes after rest whole same = whole ∙ ap (λ xs. front ++ xs) same

joined : (a b c d bytes after_a after_b after_c rest : List ℕ) → bytes ≡ a ++ after_a → after_a ≡ b ++ after_b → after_b ≡ c ++ after_c → after_c ≡ d ++ rest
    → bytes ≡ ((a ++ (b ++ c)) ++ d) ++ rest
joined a b c d bytes after_a after_b after_c rest ha hb hc hd =
    ha ∙ ap (λ xs. a ++ xs) (hb ∙ ap (λ xs. b ++ xs) (hc ∙ ap (λ xs. c ++ xs) hd)) ∙ sym (regrouped a b c d rest)

-- what is read after the position, the table, the key and the change
abbrev with_change : ℕ → ℕ → List Value → RowChange × List ℕ → Option (Placed × List ℕ)
with_change p table key change = Some (placed_of p table key change.0, change.1)

abbrev with_key : ℕ → ℕ → List Value × List ℕ → Option (Placed × List ℕ)
with_key p table key = change_at key.1 >>= with_change p table key.0

abbrev with_table : ℕ → ℕ × List ℕ → Option (Placed × List ℕ)
with_table p table = row_at table.1 >>= with_key p table.0

abbrev with_pos : ℕ × List ℕ → Option (Placed × List ℕ)
with_pos p = number_at w32 p.1 >>= with_table p.0

write_back : ComesBack write_code HasWriteCode write_at
write_back placed rest has =
    let p = placed.pos in
    let table = placed.write.table in
    let key = placed.write.key in
    let change = change_code placed.write.before placed.write.after in
    ap write_at (regrouped (be_code w32 p) (be_code w32 table) (row_code key) change rest)
    ∙ ap (λ found. found >>= with_pos) (u32_exact.back p (be_code w32 table ++ (row_code key ++ (change ++ rest))) has.head.pos)
    ∙ ap (λ found. found >>= with_table p) (u32_exact.back table (row_code key ++ (change ++ rest)) has.head.table)
    ∙ ap (λ found. found >>= with_key p table) (row_exact.back key (change ++ rest) has.head.key)
    ∙ ap (λ found. found >>= with_change p table key) (change_back placed.write.before placed.write.after rest has.change)

write_written : WasWritten write_code HasWriteCode write_at
write_written bytes placed rest fits e =
    let a = bind_some (number_at w32 bytes) with_pos (placed, rest) e in
    let b = bind_some (number_at w32 a.0.1) (with_table a.0.0) (placed, rest) a.2 in
    let c = bind_some (row_at b.0.1) (with_key a.0.0 b.0.0) (placed, rest) b.2 in
    let d = bind_some (change_at c.0.1) (with_change a.0.0 b.0.0 c.0.0) (placed, rest) c.2 in
    let first = u32_exact.written bytes a.0.0 a.0.1 fits a.1 in
    let first_fits = bytes_after (be_code w32 a.0.0) a.0.1 bytes first.1 fits in
    let second = u32_exact.written a.0.1 b.0.0 b.0.1 first_fits b.1 in
    let second_fits = bytes_after (be_code w32 b.0.0) b.0.1 a.0.1 second.1 first_fits in
    let third = row_exact.written b.0.1 c.0.0 c.0.1 second_fits c.1 in
    let third_fits = bytes_after (row_code c.0.0) c.0.1 b.0.1 third.1 second_fits in
    let fourth = change_written c.0.1 d.0.0 d.0.1 third_fits d.1 in
    let parts = some_pair_parts (placed_of a.0.0 b.0.0 c.0.0 d.0.0) placed d.0.1 rest d.2 in
    let last : c.0.1 ≡ change_bytes d.0.0 ++ rest = then_rest (change_bytes d.0.0) c.0.1 d.0.1 rest fourth.1 parts.1 in
    let whole : bytes ≡ write_code (placed_of a.0.0 b.0.0 c.0.0 d.0.0) ++ rest =
    joined (be_code w32 a.0.0) (be_code w32 b.0.0) (row_code c.0.0) (change_bytes d.0.0) bytes a.0.1 b.0.1 c.0.1 rest first.1 second.1 third.1 last in
    subst (λ (w : Placed). HasWriteCode w × (bytes ≡ write_code w ++ rest)) {x = placed_of a.0.0 b.0.0 c.0.0 d.0.0} parts.0
    (record { head = record { pos = first.0; table = second.0; key = third.0 }; change = fourth.0 }, whole)

pub write_exact : IsExact write_code HasWriteCode write_at
write_exact = record { back = write_back; written = write_written }
