-- A code and its reading are inverse to each other. What follows from that, and that it holds of the parts which all codes share.
use Rattle.std.proofs.Common.{◌≡◌, ◌≤◌, ◌<◌, ◌+◌, ◌-◌, ◌^◌, ℕ, zero, suc, List, [], ◌∷◌, ◌++◌, Bool, true, false, cond, Option, Some, None, Err, length, take, drop, inl, inr, refl, sym, ◌∙◌, ap, subst, arith, append_assoc, length-append}
use Rattle.std.specs.Prelude.{nat_lt, nat_le}
use Rattle.std.specs.Int.{Width, w32, w64, byte_len, from_be_bytes, to_be_bytes}
use Rattle.std.specs.List.{flat_map, AllByRecursion}
use Rattle.std.proofs.lemmas.Bool.{cases_lt, ltb-false, le-ltb, le-leb, leb-true}
use Rattle.std.proofs.lemmas.List.{take_at, drop_at, take-append-drop, length-take, get_or-drop, get_or-take, get_or_past, get_or-append-add}
use Rattle.std.proofs.lemmas.Nat.{be_bytes_4, be_bytes_8, from_be_bytes-to_be_bytes_4, from_be_bytes-to_be_bytes_8}
use Rattle.std.proofs.lemmas.Option.{none-some, same_Some, some_pair_parts}
use Rattle.rel_base.specs.declared.reading.ReadFault.{ReadFault}
use Rattle.rel_base.specs.declared.reading.ReadFault.TheVariants as fault
use Rattle.canon_code.specs.Codes.{AreBytes, be_code, byte_code, short_code, HasShortCode, counted, HasCounted}
use Rattle.canon_code.specs.Parts.{◌>>=◌, number_at, byte_at, short_at, items_at, counted_at}
use Rattle.canon_code.specs.Reads.{Reads, IsFront, Gets}
use Rattle.canon_code.specs.Laws.{IsOneToOne, IsPrefixFree, ComesBack, WasWritten}

pub record IsExact {A : Type 0} (code : A → List ℕ) (HasCode : A → Type 0) (reading : List ℕ → Option (A × List ℕ)) : Type 0 where
  pub back : ComesBack code HasCode reading
  pub written : WasWritten code HasCode reading

-- ---- what follows

pub prefix_free : {A : Type 0} (code : A → List ℕ) (HasCode : A → Type 0) (reading : List ℕ → Option (A × List ℕ)) → IsExact code HasCode reading → IsPrefixFree code HasCode
prefix_free code HasCode reading exact x y after_x after_y hx hy e =
    some_pair_parts x y after_x after_y (sym (exact.back x after_x hx) ∙ ap reading e ∙ exact.back y after_y hy)

pub one_to_one : {A : Type 0} (code : A → List ℕ) (HasCode : A → Type 0) (reading : List ℕ → Option (A × List ℕ)) → IsExact code HasCode reading → IsOneToOne code HasCode
one_to_one code HasCode reading exact x y hx hy e = (prefix_free code HasCode reading exact x y [] [] hx hy (ap (λ c. c ++ []) e)).0

-- what follows a code is no longer than the bytes
pub rest_within : {A : Type 0} (code : A → List ℕ) (HasCode : A → Type 0) (reading : List ℕ → Option (A × List ℕ)) → IsExact code HasCode reading
    → (bytes : List ℕ) (x : A) (rest : List ℕ) → AreBytes bytes → reading bytes ≡ Some (x, rest) → length rest ≤ length bytes
rest_within code HasCode reading exact bytes x rest fits e =
    let written = exact.written bytes x rest fits e in
    omega (arith, ap length written.1, length-append (code x) rest)

-- what was read stands at the start, and what precedes the rest is its code
pub is_front : {A : Type 0} (code : A → List ℕ) (HasCode : A → Type 0) (reading : List ℕ → Option (A × List ℕ)) → IsExact code HasCode reading
    → (bytes : List ℕ) (x : A) (rest : List ℕ) → AreBytes bytes → reading bytes ≡ Some (x, rest) → IsFront code HasCode bytes (x, length bytes - length rest)
is_front code HasCode reading exact bytes x rest fits e =
    let written = exact.written bytes x rest fits e in
    let len : length bytes - length rest ≡ length (code x) = omega (arith, ap length written.1, length-append (code x) rest) in
    record {
      has_code = written.0;
      front = ap (take (length bytes - length rest)) written.1 ∙ take_at (code x) rest (length bytes - length rest) (sym len);
      len = len;
    }

-- where nothing was read, no code stands at the start
pub no_front : {A : Type 0} (code : A → List ℕ) (HasCode : A → Type 0) (reading : List ℕ → Option (A × List ℕ)) → IsExact code HasCode reading
    → (bytes : List ℕ) (e : ReadFault) → Reads {A = A} (Err e) (reading bytes) → Gets code HasCode bytes (Err e)
no_front code HasCode reading exact bytes fault.NoMemory none = tt
no_front code HasCode reading exact bytes fault.Bad none = λ x rest has e. none-some (x, rest) (sym none ∙ ap reading e ∙ exact.back x rest has)

-- ---- steps of reading

pub bind_some : {A B : Type 0} (found : Option A) (f : A → Option B) (y : B) → (found >>= f) ≡ Some y → (x : A) × (found ≡ Some x) × (f x ≡ Some y)
bind_some None f y e = absurd (none-some y e)
bind_some (Some x) f y e = (x, refl, e)

guard_some : {A : Type 0} (b : Bool) (x y : A) → cond b None (Some x) ≡ Some y → (b ≡ false) × (x ≡ y)
guard_some true x y e = absurd (none-some y e)
guard_some false x y e = (refl, same_Some x y e)

pub cond_found : {A : Type 0} (b : Bool) (found : Option A) (y : A) → cond b found None ≡ Some y → (b ≡ true) × (found ≡ Some y)
cond_found true found y e = (refl, e)
cond_found false found y e = absurd (none-some y e)

-- ---- bytes

bytes_drop : (n : ℕ) (bytes : List ℕ) → AreBytes bytes → AreBytes (drop n bytes)
bytes_drop n bytes h i = rw get_or-drop (h (n + i))

bytes_take : (n : ℕ) (bytes : List ℕ) → AreBytes bytes → AreBytes (take n bytes)
bytes_take n bytes h i =
    elim (cases_lt i n) [
      | inl lt ↦ rw (get_or-take n bytes i 0 lt) (h i)
      | inr le ↦ rw (get_or_past (take n bytes) i 0 (omega (arith, length-take n bytes))) (omega arith)
    ]

pub bytes_tail : (b : ℕ) (bytes : List ℕ) → AreBytes (b ∷ bytes) → AreBytes bytes
bytes_tail b bytes h i = h (suc i)

pub bytes_after : (front rest bytes : List ℕ) → bytes ≡ front ++ rest → AreBytes bytes → AreBytes rest
bytes_after front rest bytes e h i = subst (λ (b : ℕ). b < 256) (get_or-append-add front rest i 0) (subst AreBytes e h (length front + i))

-- ---- numbers

record IsWide (w : Width) (limit : ℕ) : Type 0 where
  pub len : (n : ℕ) → length (to_be_bytes w n) ≡ byte_len w
  pub back : (bytes : List ℕ) → length bytes ≡ byte_len w → AreBytes bytes → to_be_bytes w (from_be_bytes w bytes) ≡ bytes
  pub again : (n : ℕ) → n < limit → from_be_bytes w (to_be_bytes w n) ≡ n
  pub below : (bytes : List ℕ) → AreBytes bytes → from_be_bytes w bytes < limit

wide32 : IsWide w32 (2 ^ 32)
wide32 = record {
  len = λ n. refl;
  back = λ bytes len fits. be_bytes_4 bytes _ len fits refl;
  again = λ n lt. from_be_bytes-to_be_bytes_4 n lt;
  below = λ bytes fits. omega (arith, fits 0, fits 1, fits 2, fits 3);
}

wide64 : IsWide w64 (2 ^ 64)
wide64 = record {
  len = λ n. refl;
  back = λ bytes len fits. be_bytes_8 bytes _ len fits refl;
  again = λ n lt. from_be_bytes-to_be_bytes_8 n lt;
  below = λ bytes fits. omega (arith, fits 0, fits 1, fits 2, fits 3, fits 4, fits 5, fits 6, fits 7);
}

number_back : (w : Width) (limit : ℕ) → IsWide w limit → ComesBack (be_code w) (λ n. n < limit) (number_at w)
number_back w limit wide n rest lt =
    let len = wide.len n in
    let long : nat_lt (length (to_be_bytes w n ++ rest)) (byte_len w) ≡ false = le-ltb _ _ (omega (arith, length-append (to_be_bytes w n) rest)) in
    rw (long, take_at (to_be_bytes w n) rest (byte_len w) len, drop_at (to_be_bytes w n) rest (byte_len w) len, wide.again n lt) refl

number_written : (w : Width) (limit : ℕ) → IsWide w limit → WasWritten (be_code w) (λ n. n < limit) (number_at w)
number_written w limit wide bytes n rest fits e =
    let found = guard_some (nat_lt (length bytes) (byte_len w)) (from_be_bytes w (take (byte_len w) bytes), drop (byte_len w) bytes) (n, rest) e in
    let long : byte_len w ≤ length bytes = ltb-false _ _ found.0 in
    let n-is : from_be_bytes w (take (byte_len w) bytes) ≡ n = ap (λ (p : ℕ × List ℕ). p.0) found.1 in
    let rest-is : drop (byte_len w) bytes ≡ rest = ap (λ (p : ℕ × List ℕ). p.1) found.1 in
    let front : to_be_bytes w n ≡ take (byte_len w) bytes = rw (← n-is) (wide.back (take (byte_len w) bytes) (omega (arith, length-take (byte_len w) bytes)) (bytes_take (byte_len w) bytes fits)) in
    (rw (← n-is) (wide.below (take (byte_len w) bytes) (bytes_take (byte_len w) bytes fits)), rw (front, ← rest-is) (sym (take-append-drop (byte_len w) bytes)))

pub u32_exact : IsExact (be_code w32) (λ n. n < 2 ^ 32) (number_at w32)
u32_exact = record { back = number_back w32 (2 ^ 32) wide32; written = number_written w32 (2 ^ 32) wide32 }

pub u64_exact : IsExact (be_code w64) (λ n. n < 2 ^ 64) (number_at w64)
u64_exact = record { back = number_back w64 (2 ^ 64) wide64; written = number_written w64 (2 ^ 64) wide64 }

byte_written : WasWritten byte_code (λ n. n < 256) byte_at
byte_written [] n rest fits e = absurd (none-some (n, rest) e)
byte_written (b ∷ bytes) n rest fits e =
    let parts = some_pair_parts b n bytes rest e in
    (subst (λ (x : ℕ). x < 256) parts.0 (fits 0), ap (λ x. x ∷ bytes) parts.0 ∙ ap (λ xs. n ∷ xs) parts.1)

pub byte_exact : IsExact byte_code (λ n. n < 256) byte_at
byte_exact = record { back = λ n rest lt. refl; written = byte_written }

-- ---- bytes after their length

pub short_back : (bytes rest : List ℕ) → short_at (short_code bytes ++ rest) ≡ Some (bytes, rest)
short_back bytes rest =
    let long : nat_lt (length (bytes ++ rest)) (length bytes) ≡ false = le-ltb _ _ (omega (arith, length-append bytes rest)) in
    rw (long, take_at bytes rest (length bytes) refl, drop_at bytes rest (length bytes) refl) refl

short_written : WasWritten short_code HasShortCode short_at
short_written [] found rest fits e = absurd (none-some (found, rest) e)
short_written (len ∷ bytes) found rest fits e =
    let parts = guard_some (nat_lt (length bytes) len) (take len bytes, drop len bytes) (found, rest) e in
    let long : len ≤ length bytes = ltb-false _ _ parts.0 in
    let found-is : take len bytes ≡ found = ap (λ (p : List ℕ × List ℕ). p.0) parts.1 in
    let rest-is : drop len bytes ≡ rest = ap (λ (p : List ℕ × List ℕ). p.1) parts.1 in
    let len-is : len ≡ length found = omega (arith, long, length-take len bytes, ap length found-is) in
    let low : AreBytes found = subst AreBytes found-is (bytes_take len bytes (bytes_tail len bytes fits)) in
    let whole : bytes ≡ found ++ rest = sym (take-append-drop len bytes) ∙ ap (λ xs. xs ++ drop len bytes) found-is ∙ ap (λ xs. found ++ xs) rest-is in
    ((low, omega (arith, len-is, fits 0)), ap (λ x. x ∷ bytes) len-is ∙ ap (λ xs. length found ∷ xs) whole)

pub short_exact : IsExact short_code HasShortCode short_at
short_exact = record { back = λ bytes rest has. short_back bytes rest; written = short_written }

-- ---- items after their count

items_back : {A : Type 0} (code : A → List ℕ) (HasCode : A → Type 0) (reading : List ℕ → Option (A × List ℕ)) → IsExact code HasCode reading
    → (items : List A) (rest : List ℕ) → AllByRecursion HasCode items → items_at reading (length items) (flat_map code items ++ rest) ≡ Some (items, rest)
items_back code HasCode reading exact [] rest has = refl
items_back code HasCode reading exact (x ∷ xs) rest has =
    ap (items_at reading (suc (length xs))) (append_assoc (code x) (flat_map code xs) rest)
    ∙ ap (λ found. found >>= λ first. (items_at reading (length xs) first.1 >>= λ others. Some (first.0 ∷ others.0, others.1))) (exact.back x (flat_map code xs ++ rest) has.0)
    ∙ ap (λ found. found >>= λ others. Some (x ∷ others.0, others.1)) (items_back code HasCode reading exact xs rest has.1)

-- so many items stand at the start of the bytes
abbrev AreItems : {A : Type 0} → (A → List ℕ) → (A → Type 0) → ℕ → List ℕ → List ℕ → List A → Type 0
AreItems code HasCode n bytes rest items = (length items ≡ n) × AllByRecursion HasCode items × (bytes ≡ flat_map code items ++ rest)

items_written : {A : Type 0} (code : A → List ℕ) (HasCode : A → Type 0) (reading : List ℕ → Option (A × List ℕ)) → IsExact code HasCode reading
    → (n : ℕ) (bytes : List ℕ) (items : List A) (rest : List ℕ) → AreBytes bytes → items_at reading n bytes ≡ Some (items, rest) → AreItems code HasCode n bytes rest items
items_written code HasCode reading exact zero bytes items rest fits e =
    let parts = some_pair_parts [] items bytes rest e in
    subst (AreItems code HasCode 0 bytes rest) parts.0 (refl, tt, parts.1)
items_written code HasCode reading exact (suc n) bytes items rest fits e =
    let a = bind_some (reading bytes) (λ first. items_at reading n first.1 >>= λ others. Some (first.0 ∷ others.0, others.1)) (items, rest) e in
    let b = bind_some (items_at reading n a.0.1) (λ others. Some (a.0.0 ∷ others.0, others.1)) (items, rest) a.2 in
    let first = exact.written bytes a.0.0 a.0.1 fits a.1 in
    let others = items_written code HasCode reading exact n a.0.1 b.0.0 b.0.1 (bytes_after (code a.0.0) a.0.1 bytes first.1 fits) b.1 in
    let parts = some_pair_parts (a.0.0 ∷ b.0.0) items b.0.1 rest b.2 in
    let whole : bytes ≡ flat_map code (a.0.0 ∷ b.0.0) ++ rest =
    first.1 ∙ ap (λ xs. code a.0.0 ++ xs) (others.2 ∙ ap (λ xs. flat_map code b.0.0 ++ xs) parts.1) ∙ sym (append_assoc (code a.0.0) (flat_map code b.0.0) rest) in
    subst (AreItems code HasCode (suc n) bytes rest) parts.0 (ap suc others.0, (first.0, others.1), whole)

counted_back : {A : Type 0} (count : ℕ → List ℕ) (limit : ℕ) (count_at : List ℕ → Option (ℕ × List ℕ)) → IsExact count (λ n. n < limit) count_at
    → (code : A → List ℕ) (HasCode : A → Type 0) (reading : List ℕ → Option (A × List ℕ)) → IsExact code HasCode reading
    → (most : ℕ) → most < limit → ComesBack (counted count code) (HasCounted most HasCode) (counted_at count_at most reading)
counted_back count limit count_at counting code HasCode reading exact most lt items rest has =
    ap (counted_at count_at most reading) (append_assoc (count (length items)) (flat_map code items) rest)
    ∙ ap (λ found. found >>= λ n. cond (nat_le n.0 most) (items_at reading n.0 n.1) None) (counting.back (length items) (flat_map code items ++ rest) (omega (arith, lt, has.0)))
    ∙ ap (λ test. cond test (items_at reading (length items) (flat_map code items ++ rest)) None) (le-leb (length items) most has.0)
    ∙ items_back code HasCode reading exact items rest has.1

counted_written : {A : Type 0} (count : ℕ → List ℕ) (limit : ℕ) (count_at : List ℕ → Option (ℕ × List ℕ)) → IsExact count (λ n. n < limit) count_at
    → (code : A → List ℕ) (HasCode : A → Type 0) (reading : List ℕ → Option (A × List ℕ)) → IsExact code HasCode reading
    → (most : ℕ) → WasWritten (counted count code) (HasCounted most HasCode) (counted_at count_at most reading)
counted_written count limit count_at counting code HasCode reading exact most bytes items rest fits e =
    let a = bind_some (count_at bytes) (λ n. cond (nat_le n.0 most) (items_at reading n.0 n.1) None) (items, rest) e in
    let few = cond_found (nat_le a.0.0 most) (items_at reading a.0.0 a.0.1) (items, rest) a.2 in
    let first = counting.written bytes a.0.0 a.0.1 fits a.1 in
    let others = items_written code HasCode reading exact a.0.0 a.0.1 items rest (bytes_after (count a.0.0) a.0.1 bytes first.1 fits) few.1 in
    let le : a.0.0 ≤ most = leb-true a.0.0 most few.0 in
    let whole : bytes ≡ counted count code items ++ rest =
    first.1 ∙ ap (λ n. count n ++ a.0.1) (sym others.0) ∙ ap (λ xs. count (length items) ++ xs) others.2 ∙ sym (append_assoc (count (length items)) (flat_map code items) rest) in
    ((omega (arith, le, others.0), others.1), whole)

pub counted_exact : {A : Type 0} (count : ℕ → List ℕ) (limit : ℕ) (count_at : List ℕ → Option (ℕ × List ℕ)) → IsExact count (λ n. n < limit) count_at
    → (code : A → List ℕ) (HasCode : A → Type 0) (reading : List ℕ → Option (A × List ℕ)) → IsExact code HasCode reading
    → (most : ℕ) → most < limit → IsExact (counted count code) (HasCounted most HasCode) (counted_at count_at most reading)
counted_exact count limit count_at counting code HasCode reading exact most lt = record {
  back = counted_back count limit count_at counting code HasCode reading exact most lt;
  written = counted_written count limit count_at counting code HasCode reading exact most;
}
