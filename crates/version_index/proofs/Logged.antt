-- What an entry of the log says of the history, and what its place there says of it.
use Rattle.std.proofs.Common.{◌≡◌, ◌∙◌, ℕ, suc, zero, ◌<◌, ◌≤◌, List, [], ◌∷◌, Bool, true, false, ◌&&◌, Some, All, Contains, refl, ap, sym, subst, arith, slice_get, take, drop, length, get_or, nat_le, nat_lt}
use Rattle.std.specs.Option.{option_map}
use Rattle.std.proofs.lemmas.Bool.Decides.{nat_tests}
use Rattle.std.proofs.lemmas.List.Elements.{All-nil, All-cons, All-head, All-tail, All-weaker, All-contains}
use Rattle.rel_base.specs.declared.schema.TableDef.{TableDef}
use Rattle.rel_base.specs.declared.value.Value.{Value}
use Rattle.rel_base.specs.Access.{WriteFits}
use Rattle.rel_base.specs.Tables.{Stamped, ref_cmp, ref_cmp-exact, write_ref}
use Rattle.rel_base.proofs.Bits.{is_Equal}
use Rattle.row_sets.proofs.Histories.{unwrapped}
use Rattle.row_sets.specs.declared.entry.LogEntry.{LogEntry}
use Rattle.row_sets.specs.Log.{FitsTable, history_of, stamped_of}
use Rattle.version_index.specs.Chain.{is_late, is_on}
use Rattle.version_index.specs.Log.{InOrder, Precedes}

-- ---- items by their numbers

-- an item that was read is there
pub get_read : {X : Type 0} (xs : List X) (number : ℕ) (x : X) → number < length xs → x ≡ get_or xs number x → slice_get xs number ≡ Some x
get_read [] number x below is = absurd (omega (arith, below))
get_read (y ∷ ys) zero x below is = ap Some (sym is)
get_read (y ∷ ys) (suc number) x below is = get_read ys number x (omega (arith, below)) is

-- an item that was got is one of the list
pub contains_got : {X : Type 0} (xs : List X) (number : ℕ) (x : X) → slice_get xs number ≡ Some x → Contains xs x
contains_got [] number x there = cc
contains_got (y ∷ ys) zero x there = (0, omega arith, unwrapped y x there)
contains_got (y ∷ ys) (suc number) x there = let rest = contains_got ys number x there in (suc rest.0, omega (arith, rest.1), rest.2)

-- what holds before an item and of it, holds up to it
pub all_next : {X : Type 0} (P : X → Type 0) (xs : List X) (number : ℕ) (x : X) → slice_get xs number ≡ Some x → All P (take number xs) → P x → All P (take (suc number) xs)
all_next P [] number x there before here = cc
all_next P (y ∷ ys) zero x there before here = All-cons P y [] (subst P (sym (unwrapped y x there)) here) (All-nil P)
all_next P (y ∷ ys) (suc number) x there before here = All-cons P y (take (suc number) ys) (All-head P y (take number ys) before) (all_next P ys number x there (All-tail P y (take number ys) before) here)

-- what holds of an item and of those after it, holds from it on
pub all_from : {X : Type 0} (P : X → Type 0) (xs : List X) (number : ℕ) (x : X) → slice_get xs number ≡ Some x → P x → All P (drop (suc number) xs) → All P (drop number xs)
all_from P [] number x there here after = cc
all_from P (y ∷ ys) zero x there here after = All-cons P y ys (subst P (sym (unwrapped y x there)) here) after
all_from P (y ∷ ys) (suc number) x there here after = all_from P ys number x there here after

-- ---- entries

-- the committed write of a number is that of the entry
pub get_history : (entries : List LogEntry) (number : ℕ) (entry : LogEntry) → slice_get entries number ≡ Some entry → slice_get (history_of entries) number ≡ Some (stamped_of entry)
get_history [] number entry there = cc
get_history (e ∷ es) zero entry there = ap (λ found. option_map stamped_of found) there
get_history (e ∷ es) (suc number) entry there = get_history es number entry there

-- an entry of the table of a read fits its declaration
pub entry_fits : (def : TableDef) (entries : List LogEntry) (table number : ℕ) (entry : LogEntry) → FitsTable def table (history_of entries) → slice_get entries number ≡ Some entry → table ≡ entry.placed.write.table
    → WriteFits def entry.placed.write
entry_fits def entries table number entry fits there same =
    All-contains (λ stamped. stamped.1.write.table ≡ table → WriteFits def stamped.1.write) (history_of entries) (stamped_of entry) fits
    (contains_got (history_of entries) number (stamped_of entry) (get_history entries number entry there)) (sym same)

-- ---- keys

-- a write that is on a table and key is on its own
pub same_ref : (ref : ℕ × List Value) (stamped : Stamped) → is_on ref stamped ≡ true → write_ref stamped.1.write ≡ ref
same_ref ref stamped on = sym (ref_cmp-exact ref (write_ref stamped.1.write) (is_Equal (ref_cmp ref (write_ref stamped.1.write)) on))

-- what is not on a key is not late on it
pub late_within : (ref : ℕ × List Value) (after upto : ℕ) (stamped : Stamped) → is_on ref stamped ≡ false → is_late ref after upto stamped ≡ false
late_within ref after upto stamped off = ap (λ b. b && (nat_lt after stamped.0 && nat_le stamped.0 upto)) off

-- ---- heights

pub le_true : (a b : ℕ) → a ≤ b → nat_le a b ≡ true
le_true a b h = grind (arith, nat_tests)

pub le_false : (a b : ℕ) → b < a → nat_le a b ≡ false
le_false a b h = grind (arith, nat_tests)

pub lt_true : (a b : ℕ) → a < b → nat_lt a b ≡ true
lt_true a b h = grind (arith, nat_tests)

pub lt_false : (a b : ℕ) → b ≤ a → nat_lt a b ≡ false
lt_false a b h = grind (arith, nat_tests)

pub le_from : (a b : ℕ) → nat_le a b ≡ true → a ≤ b
le_from a b h = grind (arith, nat_tests)

pub lt_from : (a b : ℕ) → nat_lt a b ≡ true → a < b
lt_from a b h = grind (arith, nat_tests)

-- a test that fails after another
pub all_fail : (b : Bool) → (b && false) ≡ false
all_fail true = refl
all_fail false = refl

-- what is in no block above is not late
pub not_late : (ref : ℕ × List Value) (after upto : ℕ) (stamped : Stamped) → stamped.0 ≤ after → is_late ref after upto stamped ≡ false
not_late ref after upto stamped low =
    ap (λ b. is_on ref stamped && (b && nat_le stamped.0 upto)) (lt_false after stamped.0 low) ∙ all_fail (is_on ref stamped)

-- what is on a key in a block above is late by the other height alone
pub late_by_upto : (ref : ℕ × List Value) (after upto : ℕ) (stamped : Stamped) → is_on ref stamped ≡ true → after < stamped.0 → is_late ref after upto stamped ≡ nat_le stamped.0 upto
late_by_upto ref after upto stamped on high =
    ap (λ b. b && (nat_lt after stamped.0 && nat_le stamped.0 upto)) on ∙ ap (λ b. b && nat_le stamped.0 upto) (lt_true after stamped.0 high)

-- the writes before one of a number are in no later block
pub blocks_before : (xs : List Stamped) (number : ℕ) (stamped : Stamped) → InOrder xs → slice_get xs number ≡ Some stamped → All (λ other. other.0 ≤ stamped.0) (take number xs)
blocks_before [] number stamped ordered there = cc
blocks_before (x ∷ xs) zero stamped ordered there = All-nil (λ other. other.0 ≤ stamped.0)
blocks_before (x ∷ xs) (suc number) stamped ordered there =
    All-cons (λ other. other.0 ≤ stamped.0) x (take number xs) (All-contains (Precedes x) xs stamped ordered.0 (contains_got xs number stamped there)).0 (blocks_before xs number stamped ordered.1 there)

-- a write is in no later block than one after it
pub blocks_rise : (xs : List Stamped) (one other : ℕ) (a b : Stamped) → InOrder xs → slice_get xs one ≡ Some a → slice_get xs other ≡ Some b → one ≤ other → a.0 ≤ b.0
blocks_rise [] one other a b ordered here there up = cc
blocks_rise (x ∷ xs) zero zero a b ordered here there up = let same = ap (λ s. s.0) (unwrapped x a here) in let equal = ap (λ s. s.0) (unwrapped x b there) in omega (arith, same, equal)
blocks_rise (x ∷ xs) zero (suc other) a b ordered here there up =
    let same = ap (λ s. s.0) (unwrapped x a here) in let below = (All-contains (Precedes x) xs b ordered.0 (contains_got xs other b there)).0 in omega (arith, same, below)
blocks_rise (x ∷ xs) (suc one) zero a b ordered here there up = absurd (omega (arith, up))
blocks_rise (x ∷ xs) (suc one) (suc other) a b ordered here there up = blocks_rise xs one other a b ordered.1 here there (omega (arith, up))

-- the writes up to one that is low are low
pub low_up_to : (entries : List LogEntry) (height start number : ℕ) (entry : LogEntry) → start ≡ suc number → InOrder (history_of entries) → slice_get entries number ≡ Some entry → entry.block ≤ height
    → All (λ stamped. stamped.0 ≤ height) (take start (history_of entries))
low_up_to entries height start number entry next ordered there low =
    let P : Stamped → Type 0 = λ stamped. stamped.0 ≤ height in
    let here = get_history entries number entry there in
    let before = All-weaker (λ (s : Stamped). s.0 ≤ entry.block) P (λ s below. omega (arith, below, low)) (take number (history_of entries)) (blocks_before (history_of entries) number (stamped_of entry) ordered here) in
    subst (λ n. All P (take n (history_of entries))) (sym next) (all_next P (history_of entries) number (stamped_of entry) here before low)
