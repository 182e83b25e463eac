-- One more write that is noted: what becomes of an index by the values of a column.
use Rattle.std.proofs.Common.{◌≡◌, ◌∙◌, ℕ, suc, List, [], ◌∷◌, ◌++◌, Bool, true, false, ◌&&◌, ◌||◌, ◌==◌, All, cond, not, Option, Some, None, is_some, refl, ap, sym, arith, slice_get, take, length, map}
use Rattle.std.specs.List.{AllZip}
use Rattle.std.proofs.lemmas.Bool.Decides.{Decides-eqb}
use Rattle.std.proofs.lemmas.List.{append-nil}
use Rattle.std.proofs.lemmas.List.Elements.{All-cons, All-head, All-nil, All-tail}
use Rattle.rel_base.specs.declared.value.Value.{Value}
use Rattle.rel_base.specs.Tables.{Stamped, write_ref}
use Rattle.rel_base.specs.Value.{key_eq}
use Rattle.rel_base.proofs.Bits.{no_both, not_true}
use Rattle.row_sets.proofs.Histories.{unwrapped}
use Rattle.version_index.specs.Chains.{AreChains, IsNoted, IsSame, lists_of, numbers_at, slot_of, slot_or}
use Rattle.version_index.specs.Index.{row_by}
use Rattle.version_index.specs.Columns.{IsColumn, IsNotedIn, IsSameColumn, cell, has, has_slot, touched_at, touches, touches_at}
use Rattle.version_index.specs.Left.{left_at}
use Rattle.version_index.specs.Numbers.{passing}
use Rattle.version_index.specs.declared.chains.Chains.{Chains}
use Rattle.version_index.specs.declared.column.ColumnIndex.{ColumnIndex}
use Rattle.version_index.proofs.Noting.{on_none, on_own, place_apart, slot_stays}
use Rattle.version_index.proofs.Passing.{left_by_numbers, left_next}
use Rattle.version_index.proofs.Slots.{below_got}

-- ---- all columns alike

pub all_zip : {X : Type 0} (P Q : X → Type 0) (R : X → X → Type 0) → ((x y : X) → P x → R x y → Q y) → (xs ys : List X) → All P xs → AllZip R xs ys → All Q ys
all_zip P Q R step [] [] all zipped = All-nil Q
all_zip P Q R step (x ∷ xs) [] all zipped = absurd zipped
all_zip P Q R step [] (y ∷ ys) all zipped = absurd zipped
all_zip P Q R step (x ∷ xs) (y ∷ ys) all zipped = All-cons Q y ys (step x y (All-head P x xs all) zipped.0) (all_zip P Q R step xs ys (All-tail P x xs all) zipped.1)

-- what is the same of each is the same of all
pub map_zip : {X Y : Type 0} (f : X → Y) (R : X → X → Type 0) → ((x y : X) → R x y → f y ≡ f x) → (xs ys : List X) → AllZip R xs ys → map f ys ≡ map f xs
map_zip f R step [] [] zipped = refl
map_zip f R step (x ∷ xs) [] zipped = absurd zipped
map_zip f R step [] (y ∷ ys) zipped = absurd zipped
map_zip f R step (x ∷ xs) (y ∷ ys) zipped = (λ i. step x y zipped.0 i ∷ map_zip f R step xs ys zipped.1 i)

-- ---- nothing changed

module _ (table : ℕ) (history : List Stamped) (noted : ℕ) where
  pub column_stays : (chains : Chains) (old new : ColumnIndex) → IsColumn table history noted chains old → IsSameColumn old new → IsColumn table history noted chains new
  column_stays chains old new is same =
      record {
        living = λ key slot value own here.
            same.living value slot (is.living key slot value own (ap (λ column. has value (cell column (left_at (table, key) (take noted history)))) (sym same.column) ∙ here));
        touched = λ value. same.touched value ∙ is.touched value ∙ ap (λ column. passing (touches_at table column value history) noted) (sym same.column);
        listed = same.listed is.listed;
      }

  pub column_with : (old new : Chains) → IsSame old new → (column : ColumnIndex) → IsColumn table history noted old column → IsColumn table history noted new column
  column_with old new same column is =
      record {
        living = λ key slot value own here. is.living key slot value (sym (slot_stays old new same key) ∙ own) here;
        touched = is.touched;
        listed = is.listed;
      }

module _ (table : ℕ) (history : List Stamped) (number : ℕ) (stamped : Stamped) (there : slice_get history number ≡ Some stamped) where
  -- ---- a write of the table

  module _ (own : table ≡ stamped.1.write.table) (old new : Chains) (are : AreChains table history number old) where
    abbrev key : List Value
    key = stamped.1.write.key

    -- its slot
    abbrev place : ℕ
    place = slot_or (length (lists_of old)) (slot_of old key)

    -- what it finds
    abbrev found : Option (List Value)
    found = left_at (table, key) (take number history)

    -- the slot of the write is at the value of the row that it found
    was_at : (column : ColumnIndex) → IsColumn table history number old column → (value : Value) → has value (cell column.column found) ≡ true → has_slot column.living.entries value place ≡ true
    was_at column is value had = go (slot_of old key) refl
      where
        none_at : slot_of old key ≡ None → found ≡ None
        none_at none =
            sym (left_by_numbers (table, key) history number (let below = below_got history number stamped there in omega (arith, below)))
            ∙ ap (row_by history) (sym (are.numbers key) ∙ ap (numbers_at (lists_of old)) none)

        go : (slot : Option ℕ) → slot_of old key ≡ slot → has_slot column.living.entries value (slot_or (length (lists_of old)) slot) ≡ true
        go (Some s) here = is.living key s value here had
        go None none = absurd (no_both (has value (cell column.column found)) had (ap (λ row. has value (cell column.column row)) (none_at none)))

    -- which values it touches
    touch_is : (column : ℕ) (value : Value) → touches_at table column value history number ≡ (has value (cell column found) || has value (cell column stamped.1.write.before) || has value (cell column stamped.1.write.after))
    touch_is column value =
        ap (touches table column value (take number history)) there
        ∙ ap (λ b. b && (has value (cell column (left_at (write_ref stamped.1.write) (take number history))) || has value (cell column stamped.1.write.before) || has value (cell column stamped.1.write.after)))
        ((Decides-eqb table stamped.1.write.table).1 own)
        ∙ ap (λ t. has value (cell column (left_at (t, key) (take number history))) || has value (cell column stamped.1.write.before) || has value (cell column stamped.1.write.after)) (sym own)

    module _ (noted : IsNoted key (is_some stamped.1.write.after) number old new) (one two : ColumnIndex) (is : IsColumn table history number old one) (more : IsNotedIn place found stamped.1.write number one two) where
      left_here : (k : List Value) (b : Bool) → key_eq k key ≡ b → left_at (table, k) (take (suc number) history) ≡ cond b stamped.1.write.after (left_at (table, k) (take number history))
      left_here k b test = left_next (table, k) history number stamped there ∙ ap (λ t. cond t stamped.1.write.after (left_at (table, k) (take number history))) (on_own table stamped k own ∙ test)

      slot_here : (k : List Value) (b : Bool) → key_eq k key ≡ b → slot_of new k ≡ cond b (Some place) (slot_of old k)
      slot_here k b test = noted.slots k ∙ ap (λ t. cond t (Some place) (slot_of old k)) test

      -- no slot is lost but where the key had another value
      stays_at : (value : Value) (slot : ℕ) (b a : Bool) → (slot == place) ≡ b → has value (cell one.column stamped.1.write.after) ≡ a → (b && not a) ≡ false → has_slot one.living.entries value slot ≡ true → has_slot two.living.entries value slot ≡ true
      stays_at value slot b a here now off had = more.kept value slot had ((λ i. here i && not (now i)) ∙ off)

      -- the slot of the write is at the value of the row that it left
      own_next : (value : Value) → has value (cell one.column stamped.1.write.after) ≡ true → has_slot two.living.entries value place ≡ true
      own_next value now = go (has value (cell one.column found)) refl
        where
          go : (b : Bool) → has value (cell one.column found) ≡ b → has_slot two.living.entries value place ≡ true
          go true had = stays_at value place true true ((Decides-eqb place place).1 refl) now refl (was_at one is value had)
          go false other = more.own value (λ i. now i && not (other i))

      living_next : (k : List Value) (slot : ℕ) (value : Value) → slot_of new k ≡ Some slot → has value (cell two.column (left_at (table, k) (take (suc number) history))) ≡ true → has_slot two.living.entries value slot ≡ true
      living_next k slot value here has_it = go (key_eq k key) refl
        where
          go : (b : Bool) → key_eq k key ≡ b → has_slot two.living.entries value slot ≡ true
          go true tied =
              let same : slot ≡ place = unwrapped slot place (sym here ∙ slot_here k true tied) in
              ap (has_slot two.living.entries value) same ∙ own_next value ((λ i. has value (cell (sym more.column i) (sym (left_here k true tied) i))) ∙ has_it)
          go false other =
              let was : slot_of old k ≡ Some slot = sym (slot_here k false other) ∙ here in
              let apart : (slot == place) ≡ false = not_true (slot == place) (λ same. place_apart table history number old are key k other slot was (sym ((Decides-eqb slot place).0 same))) in
              stays_at value slot false (has value (cell one.column stamped.1.write.after)) apart refl refl
              (is.living k slot value was ((λ i. has value (cell (sym more.column i) (sym (left_here k false other) i))) ∙ has_it))

      more_if : (b : Bool) (xs : List ℕ) → cond b (xs ++ number ∷ []) xs ≡ xs ++ cond b (number ∷ []) []
      more_if true xs = refl
      more_if false xs = sym (append-nil xs)

      touched_next : (value : Value) → touched_at two.touched value ≡ passing (touches_at table two.column value history) (suc number)
      touched_next value =
          more.touched value ∙ more_if (has value (cell one.column found) || has value (cell one.column stamped.1.write.before) || has value (cell one.column stamped.1.write.after)) (touched_at one.touched value)
          ∙ (λ i. is.touched value i ++ cond (sym (touch_is one.column value) i) (number ∷ []) [])
          ∙ ap (λ column. passing (touches_at table column value history) (suc number)) (sym more.column)

      pub column_next : IsColumn table history (suc number) new two
      column_next = record { living = living_next; touched = touched_next; listed = more.listed }

  -- ---- a write of another table

  pub column_skip : (table ≡ stamped.1.write.table → ⊥) → (chains : Chains) (column : ColumnIndex) → IsColumn table history number chains column → IsColumn table history (suc number) chains column
  column_skip other chains column is =
      record {
        living = λ key slot value here has_it.
            is.living key slot value here
            (ap (λ row. has value (cell column.column row)) (sym (left_next (table, key) history number stamped there ∙ ap (λ b. cond b stamped.1.write.after (left_at (table, key) (take number history))) (on_none table stamped key other))) ∙ has_it);
        touched = λ value.
            is.touched value ∙ sym (append-nil (passing (touches_at table column.column value history) number))
            ∙ ap (λ b. passing (touches_at table column.column value history) number ++ cond b (number ∷ []) []) (sym (none column.column value));
        listed = is.listed;
      }
    where
      none : (c : ℕ) (value : Value) → touches_at table c value history number ≡ false
      none c value =
          ap (touches table c value (take number history)) there
          ∙ ap (λ b. b && (has value (cell c (left_at (write_ref stamped.1.write) (take number history))) || has value (cell c stamped.1.write.before) || has value (cell c stamped.1.write.after)))
          (not_true (table == stamped.1.write.table) (λ same. other ((Decides-eqb table stamped.1.write.table).0 same)))
