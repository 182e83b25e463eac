-- Blocks are read back from their file.
use Rattle.std.proofs.Common.{◌≡◌, ◌≤◌, ◌<◌, ◌+◌, ◌^◌, ◌/◌, ◌%◌, ℕ, zero, suc, pos, List, [], ◌∷◌, ◌++◌, Bool, true, false, cond, Option, Some, None, length, refl, sym, ◌∙◌, ap, subst, append_assoc, length-append, arith}
use Rattle.std.specs.Prelude.{ℤ, int_le, nat_le, nat_lt, ◌==◌, ◌&&◌, not, codes, decimal, negsuc, Result, Ok, Err, slice_index}
use Rattle.std.specs.Char.{is_ascii_digit}
use Rattle.std.specs.Int.{w32, to_be_bytes}
use Rattle.std.specs.List.{flat_map, list_all, AllByRecursion}
use Rattle.std.specs.Str.{bytes_eq, all_ascii_digits}
use Rattle.std.proofs.lemmas.Bool.{and_parts, and_from, leb-true, lt-ltb, le-leb, eq-eqb}
use Rattle.std.proofs.lemmas.Bool.Decides.{nat_tests}
use Rattle.std.proofs.lemmas.Fmt.{digits_decimal, digits_value-decimal, length-decimal-le}
use Rattle.std.proofs.lemmas.List.{append-nil, drop-append-le, drop_all, take-append-le, take_all}
use Rattle.sha2.specs.Sha256.{sha256, digest_bytes, final_hash, initial_hash_256}
use Rattle.sha2.proofs.Facts256.{length-sha256}
use Rattle.hex.specs.Hex.{encode_with, lower_digits}
use Rattle.hex.proofs.HexLemmas.{length-encode_with}
use Rattle.literals.specs.Number.{is_canonical}
use Rattle.literals.proofs.Again.{canonical_decimal}
use Rattle.literals.proofs.Numerals.{own}
use Rattle.proc_syntax.specs.declared.call.Tx.{Tx}
use Rattle.proc_syntax.specs.declared.call.Block.{Block}
use Rattle.tx_text.specs.Fields.{is_space, past_word, word}
use Rattle.tx_text.specs.Lines.{tx_text, HasLine}
use Rattle.tx_text.proofs.Again.{digit_no_space, tx_again, word_again, past_again}
use Rattle.proc_syntax.specs.declared.chain_fault.ChainKind.{ChainKind}
use Rattle.proc_syntax.specs.declared.chain_fault.ChainKind.TheVariants as kind
use Rattle.proc_syntax.specs.declared.chain_fault.ChainFault.{ChainFault}
use Rattle.chain_file.specs.declared.form.ChainVersion.{ChainVersion}
use Rattle.chain_file.specs.declared.form.ChainVersion.TheVariants as version
use Rattle.chain_file.specs.declared.form.FileForm.{FileForm}
use Rattle.chain_file.specs.declared.form.FileKind.{FileKind}
use Rattle.chain_file.specs.declared.form.FileKind.TheVariants as file
use Rattle.chain_file.specs.declared.section.Section.TheVariants as place
use Rattle.chain_file.specs.declared.section.Taken.{Taken}
use Rattle.tx_text.specs.Parts.{parts_of, line_text, is_long}
use Rattle.chain_file.specs.Numbered.{HaveNoTimes, NumberedFrom, TimesFit, TimesFrom}
use Rattle.chain_file.specs.Text.{block_line, block_text, blocks_text, file_text, first_line, hash_field, time_field, tx_line, CanStand}
use Rattle.chain_file.specs.Steps.{add_tx, begins, ends, fields_say, goes_on, has_digits, has_hash, has_time, hash_part, is_hash_field, is_hex, is_next, is_number, line_step, most_time, next_time, numbered, said_time, time_part, timed}
use Rattle.chain_file.specs.Chain.{Position, Walked, front, no_digits, hash_digits, position_after, told, take_line, ended_blocks, with_blocks, walk, fault_at_end, chain}
use Rattle.chain_file.specs.Headers.{header_text}
use Rattle.chain_file.proofs.Blocks.{made_block}
use Rattle.chain_file.proofs.Forms.{header_said, header_short}
use Rattle.chain_file.proofs.Times.{time_taken}
use Rattle.tx_text.proofs.Plain.{plain, plain-append, plain-from, decimal_plain, tx_plain, parts_line}
use Rattle.chain_file.proofs.Walking.{walk_split}
use Rattle.rel_base.proofs.Bytes.{bytes_same}

-- the digits of a hash are 64, each a hexadecimal digit in lower case
abbrev AreDigits : List ℕ → Type 0
AreDigits digits = (length digits ≡ 64) × (list_all is_hex digits ≡ true)

all_at : (p : ℕ → Bool) (xs : List ℕ) (i : ℕ) → list_all p xs ≡ true → i < length xs → p (slice_index xs i) ≡ true
all_at p [] i all low = absurd (omega (arith, low))
all_at p (x ∷ xs) zero all low = (and_parts (p x) (list_all p xs) all).0
all_at p (x ∷ xs) (suc i) all low = all_at p xs i (and_parts (p x) (list_all p xs) all).1 (omega (arith, low))

digit_hex : (d : ℕ) → d < 16 → is_hex (slice_index lower_digits d) ≡ true
digit_hex d low = all_at is_hex lower_digits d refl low

-- each is below 256
abbrev AreBytes : List ℕ → Type 0
AreBytes xs = AllByRecursion (λ b. b < 256) xs

encode_hex : (xs : List ℕ) → AreBytes xs → list_all is_hex (encode_with lower_digits xs) ≡ true
unfolding encode_with
encode_hex [] bytes = refl
encode_hex (b ∷ bs) bytes =
    let small : b < 256 = bytes.0 in
    and_from (is_hex (slice_index lower_digits (b / 16))) _ (digit_hex (b / 16) (omega (arith, small)))
    (and_from (is_hex (slice_index lower_digits (b % 16))) (list_all is_hex (encode_with lower_digits bs)) (digit_hex (b % 16) (omega arith)) (encode_hex bs bytes.1))

bytes-append : (xs ys : List ℕ) → AreBytes xs → AreBytes ys → AreBytes (xs ++ ys)
bytes-append [] ys hx hy = hy
bytes-append (x ∷ xs) ys hx hy = (hx.0, bytes-append xs ys hx.1 hy)

word_bytes : (n : ℕ) → AreBytes (to_be_bytes w32 n)
word_bytes n = (omega arith, (omega arith, (omega arith, (omega arith, tt))))

digest_small : (h : List ℕ) (n : ℕ) → AreBytes (digest_bytes h n)
unfolding digest_bytes
digest_small h zero = tt
digest_small h (suc n) = bytes-append (digest_bytes h n) (to_be_bytes w32 (slice_index h n)) (digest_small h n) (word_bytes (slice_index h n))

sha_small : (bytes : List ℕ) → AreBytes (sha256 bytes)
unfolding sha256
sha_small bytes = digest_small (final_hash initial_hash_256 bytes) 8

pub hash_are_digits : (bytes : List ℕ) → AreDigits (hash_digits bytes)
hash_are_digits bytes = (omega (arith, length-encode_with lower_digits (sha256 bytes), length-sha256 bytes), encode_hex (sha256 bytes) (sha_small bytes))

-- a number and a hash after it
no_space-from : (p : ℕ → Bool) → ((b : ℕ) → p b ≡ true → not (is_space b) ≡ true) → (bytes : List ℕ) → list_all p bytes ≡ true → list_all (λ b. not (is_space b)) bytes ≡ true
no_space-from p then_none [] all = refl
no_space-from p then_none (b ∷ bs) all = let parts = and_parts (p b) (list_all p bs) all in and_from (not (is_space b)) _ (then_none b parts.0) (no_space-from p then_none bs parts.1)

hex_plain : (b : ℕ) → is_hex b ≡ true → not (b == 10) ≡ true
hex_plain b = λ e. grind (arith, nat_tests)

not_long : (line : List ℕ) → length line ≤ 4096 → is_long line ≡ false
not_long line short = grind (arith, nat_tests)

-- a line that is taken
pub taken_line : (at : Position) (line : List ℕ) (taken : Taken) → length line ≤ 4096 → line_step at.place at.digits line ≡ Ok taken
    → take_line at line ≡ Ok (position_after (at.line + 1) at.digits (at.bytes ++ line_text line) taken.place taken.ended, taken.ended)
taken_line at line taken short e = ap (λ test. told at line (cond test (Err kind.LineTooLong) (line_step at.place at.digits line))) (not_long line short) ∙ ap (told at line) e

pub walk_back : (at : Position) (line rest : List ℕ) (taken : Taken) → plain line ≡ true → length line ≤ 4096 → line_step at.place at.digits line ≡ Ok taken
    → walk at (parts_of (line_text line ++ rest)) ≡ with_blocks (ended_blocks taken.ended) (walk (position_after (at.line + 1) at.digits (at.bytes ++ line_text line) taken.place taken.ended) (parts_of rest))
walk_back at line rest taken fine short e =
    walk_split at (line_text line ++ rest) line rest (Ok (position_after (at.line + 1) at.digits (at.bytes ++ line_text line) taken.place taken.ended, taken.ended))
    (ap parts_of (append_assoc line (10 ∷ []) rest) ∙ parts_line line rest fine) (taken_line at line taken short e)

-- in the block that follows so many
abbrev in_block : FileForm → ℕ → ℕ → ℕ → List ℕ → List Tx → List ℕ → Position
in_block f line count time digits txs bytes = record { line = line; place = place.Within f count time txs; digits = digits; bytes = bytes }

-- after so many blocks
abbrev behind_blocks : FileForm → ℕ → ℕ → ℕ → List ℕ → Position
behind_blocks f line count time digits = record { line = line; place = place.Between f count time; digits = digits; bytes = [] }

-- transactions
tx_step : (f : FileForm) (count time : ℕ) (txs : List Tx) (digits : List ℕ) (tx : Tx) → HasLine tx → length txs < 1024
    → line_step (place.Within f count time txs) digits (tx_text tx) ≡ Ok (goes_on (place.Within f count time (txs ++ (tx ∷ []))))
tx_step f count time txs digits tx fine few =
    ap (add_tx f count time txs) (tx_again tx fine.sound fine.short)
    ∙ ap (λ test. cond test (Ok (goes_on (place.Within f count time (txs ++ (tx ∷ []))))) (Err kind.TooManyTx)) (lt-ltb (length txs) 1024 few)

walk_txs : (f : FileForm) (line count time : ℕ) (digits : List ℕ) (done txs : List Tx) (bytes rest : List ℕ) → AllByRecursion HasLine txs → length (done ++ txs) ≤ 1024
    → walk (in_block f line count time digits done bytes) (parts_of (flat_map tx_line txs ++ rest))
    ≡ walk (in_block f (line + length txs) count time digits (done ++ txs) (bytes ++ flat_map tx_line txs)) (parts_of rest)
walk_txs f line count time digits done [] bytes rest fine few =
    ap (λ n. walk (in_block f n count time digits done bytes) (parts_of rest)) (omega arith)
    ∙ ap (λ all. walk (in_block f (line + 0) count time digits all bytes) (parts_of rest)) (sym (append-nil done))
    ∙ ap (λ all. walk (in_block f (line + 0) count time digits (done ++ []) all) (parts_of rest)) (sym (append-nil bytes))
walk_txs f line count time digits done (tx ∷ txs) bytes rest fine few =
    let room : length done < 1024 = omega (arith, few, length-append done (tx ∷ txs)) in
    let same : (done ++ (tx ∷ [])) ++ txs ≡ done ++ (tx ∷ txs) = append_assoc done (tx ∷ []) txs in
    let less : length ((done ++ (tx ∷ [])) ++ txs) ≤ 1024 = omega (arith, few, ap length same) in
    ap (λ text. walk (in_block f line count time digits done bytes) (parts_of text)) (append_assoc (tx_line tx) (flat_map tx_line txs) rest)
    ∙ walk_back (in_block f line count time digits done bytes) (tx_text tx) (flat_map tx_line txs ++ rest) (goes_on (place.Within f count time (done ++ (tx ∷ [])))) (tx_plain tx fine.0.sound) fine.0.short (tx_step f count time done digits tx fine.0 room)
    ∙ walk_txs f (line + 1) count time digits (done ++ (tx ∷ [])) txs (bytes ++ tx_line tx) rest fine.1 less
    ∙ ap (λ n. walk (in_block f n count time digits ((done ++ (tx ∷ [])) ++ txs) ((bytes ++ tx_line tx) ++ flat_map tx_line txs)) (parts_of rest)) (omega arith)
    ∙ ap (λ all. walk (in_block f (line + length (tx ∷ txs)) count time digits all ((bytes ++ tx_line tx) ++ flat_map tx_line txs)) (parts_of rest)) same
    ∙ ap (λ all. walk (in_block f (line + length (tx ∷ txs)) count time digits (done ++ (tx ∷ txs)) all) (parts_of rest)) (append_assoc bytes (tx_line tx) (flat_map tx_line txs))

-- ---- the fields of a `block` line

ascii_same : (ds : List ℕ) → all_ascii_digits ds ≡ true → list_all is_ascii_digit ds ≡ true
ascii_same [] e = refl
ascii_same (d ∷ ds) e = let parts = and_parts (is_ascii_digit d) (all_ascii_digits ds) e in and_from (is_ascii_digit d) (list_all is_ascii_digit ds) parts.0 (ascii_same ds parts.1)

decimal_digits : (n : ℕ) → n < 2 ^ 64 → list_all is_ascii_digit (decimal n) ≡ true
decimal_digits n low = ascii_same (decimal n) (digits_decimal own n low)

decimal_short : (n : ℕ) → n < 2 ^ 64 → length (decimal n) ≤ 20
decimal_short n low = length-decimal-le 20 n (omega arith) (omega (arith, low)) low

no_space_decimal : (n : ℕ) → n < 2 ^ 64 → list_all (λ b. not (is_space b)) (decimal n) ≡ true
no_space_decimal n low = no_space-from is_ascii_digit digit_no_space (decimal n) (decimal_digits n low)

decimal_number : (n : ℕ) → n < 2 ^ 64 → is_number (decimal n) ≡ true
decimal_number n low =
    and_from (nat_le (length (decimal n)) 20 && list_all is_ascii_digit (decimal n)) (is_canonical (decimal n))
    (and_from (nat_le (length (decimal n)) 20) (list_all is_ascii_digit (decimal n)) (le-leb (length (decimal n)) 20 (decimal_short n low)) (decimal_digits n low))
    (canonical_decimal n low)

digits_field : (digits : List ℕ) → AreDigits digits → is_hash_field (32 ∷ digits) ≡ true
digits_field digits fine =
    and_from (is_space 32 && (length digits == 64)) (list_all is_hex digits) (and_from (is_space 32) (length digits == 64) refl (eq-eqb (length digits) 64 fine.0)) fine.1

-- what stands after the number
abbrev fields : FileKind → ChainVersion → List ℕ → ℕ → List ℕ
fields k v digits time = hash_field k digits ++ time_field v (pos time)

word_fields : (n : List ℕ) (k : FileKind) (v : ChainVersion) (digits : List ℕ) (time : ℕ) → list_all (λ b. not (is_space b)) n ≡ true → word (n ++ fields k v digits time) ≡ n
word_fields n file.Draft version.One digits time none = word_again n (fields file.Draft version.One digits time) none refl
word_fields n file.Draft version.Two digits time none = word_again n (fields file.Draft version.Two digits time) none refl
word_fields n file.Chain v digits time none = word_again n (fields file.Chain v digits time) none refl

past_fields : (n : List ℕ) (k : FileKind) (v : ChainVersion) (digits : List ℕ) (time : ℕ) → list_all (λ b. not (is_space b)) n ≡ true → past_word (n ++ fields k v digits time) ≡ fields k v digits time
past_fields n file.Draft version.One digits time none = past_again n (fields file.Draft version.One digits time) none refl
past_fields n file.Draft version.Two digits time none = past_again n (fields file.Draft version.Two digits time) none refl
past_fields n file.Chain v digits time none = past_again n (fields file.Chain v digits time) none refl

hash_again : (k : FileKind) (v : ChainVersion) (digits : List ℕ) (time : ℕ) → AreDigits digits → hash_part k (fields k v digits time) ≡ hash_field k digits
hash_again file.Draft v digits time fine = refl
hash_again file.Chain v digits time fine =
    take-append-le 65 (32 ∷ digits) (time_field v (pos time)) (omega (arith, fine.0)) ∙ take_all 65 (32 ∷ digits) (omega (arith, fine.0))

time_again : (k : FileKind) (v : ChainVersion) (digits : List ℕ) (time : ℕ) → AreDigits digits → time_part k (fields k v digits time) ≡ time_field v (pos time)
time_again file.Draft v digits time fine = refl
time_again file.Chain v digits time fine =
    drop-append-le 65 (32 ∷ digits) (time_field v (pos time)) (omega (arith, fine.0)) ∙ ap (λ rest. rest ++ time_field v (pos time)) (drop_all 65 (32 ∷ digits) (omega (arith, fine.0)))

-- the time that a version can say
abbrev pub CanSay : ChainVersion → ℕ → Type 0
CanSay version.One time = time ≡ 0
CanSay version.Two time = Unit {0}

has_hash_again : (k : FileKind) (digits : List ℕ) → AreDigits digits → has_hash k (hash_field k digits) ≡ true
has_hash_again file.Draft digits fine = refl
has_hash_again file.Chain digits fine = digits_field digits fine

has_time_again : (v : ChainVersion) (time : ℕ) → time ≤ most_time → has_time v (time_field v (pos time)) ≡ true
has_time_again version.One time low = refl
has_time_again version.Two time low = and_from (is_space 32) (is_number (decimal time)) refl (decimal_number time (omega (arith, low)))

has_digits_again : (k : FileKind) (digits : List ℕ) → has_digits k digits (hash_field k digits) ≡ true
has_digits_again file.Draft digits = refl
has_digits_again file.Chain digits = bytes_same (32 ∷ digits)

said_again : (v : ChainVersion) (time : ℕ) → CanSay v time → time ≤ most_time → said_time v (time_field v (pos time)) ≡ time
said_again version.One time can low = sym can
said_again version.Two time can low = digits_value-decimal own time (omega (arith, low))

-- a time that is not below the one before
record Follows (v : ChainVersion) (before time : ℕ) : Type 0 where
  pub low : before ≤ time
  pub fits : time ≤ most_time
  pub can : CanSay v time

next_again : (v : ChainVersion) (before time : ℕ) → Follows v before time → next_time v before (time_field v (pos time)) ≡ Some time
next_again v before time follows =
    let same : said_time v (time_field v (pos time)) ≡ time = said_again v time follows.can follows.fits in
    let low : before ≤ said_time v (time_field v (pos time)) = omega (arith, same, follows.low) in
    let high : said_time v (time_field v (pos time)) ≤ most_time = omega (arith, same, follows.fits) in
    time_taken v before (time_field v (pos time)) low high ∙ ap (λ t. Some t) same

-- what a `block` line leaves, by the tests on it
abbrev tested : FileForm → ℕ → Bool → Bool → Bool → Option ℕ → Result Taken ChainKind
tested f count shape next same time = cond shape (cond next (cond same (timed f count time) (Err kind.WrongPrev)) (Err kind.WrongNumber)) (Err kind.BadLine)

fields_taken : (f : FileForm) (count before time : ℕ) (digits : List ℕ) → AreDigits digits → count < 1000000 → Follows f.version before time
    → fields_say f count before digits (decimal (count + 1)) (hash_field f.kind digits) (time_field f.version (pos time)) ≡ Ok (goes_on (place.Within f count time []))
fields_taken f count before time digits fine few follows =
    let n : List ℕ = decimal (count + 1) in
    let hash : List ℕ = hash_field f.kind digits in
    let text : List ℕ = time_field f.version (pos time) in
    ap (λ t. tested f count t (is_next count n) (has_digits f.kind digits hash) (next_time f.version before text))
    (and_from (is_number n && has_hash f.kind hash) (has_time f.version text) (and_from (is_number n) (has_hash f.kind hash) (decimal_number (count + 1) (omega (arith, few))) (has_hash_again f.kind digits fine)) (has_time_again f.version time follows.fits))
    ∙ ap (λ t. tested f count true t (has_digits f.kind digits hash) (next_time f.version before text)) (and_from (nat_lt count 1000000) (bytes_eq n n) (lt-ltb count 1000000 few) (bytes_same n))
    ∙ ap (λ t. tested f count true true t (next_time f.version before text)) (has_digits_again f.kind digits)
    ∙ ap (λ t. tested f count true true true t) (next_again f.version before time follows)

begin_step : (f : FileForm) (count before time : ℕ) (digits : List ℕ) → AreDigits digits → count < 1000000 → Follows f.version before time
    → numbered f count before digits (decimal (count + 1) ++ fields f.kind f.version digits time) ≡ Ok (goes_on (place.Within f count time []))
begin_step f count before time digits fine few follows =
    let n : List ℕ = decimal (count + 1) in
    let rest : List ℕ = fields f.kind f.version digits time in
    let no_space : list_all (λ b. not (is_space b)) n ≡ true = no_space_decimal (count + 1) (omega (arith, few)) in
    ap (λ w. fields_say f count before digits w (hash_part f.kind (past_word (n ++ rest))) (time_part f.kind (past_word (n ++ rest)))) (word_fields n f.kind f.version digits time no_space)
    ∙ ap (λ p. fields_say f count before digits n (hash_part f.kind p) (time_part f.kind p)) (past_fields n f.kind f.version digits time no_space)
    ∙ ap (λ h. fields_say f count before digits n h (time_part f.kind rest)) (hash_again f.kind f.version digits time fine)
    ∙ ap (λ t. fields_say f count before digits n (hash_field f.kind digits) t) (time_again f.kind f.version digits time fine)
    ∙ fields_taken f count before time digits fine few follows

-- ---- a whole block

first_step : (f : FileForm) (number count before time : ℕ) (z : ℤ) (digits : List ℕ) → number ≡ count + 1 → z ≡ pos time → AreDigits digits → count < 1000000 → Follows f.version before time
    → line_step (place.Between f count before) digits (first_line f digits number z) ≡ Ok (goes_on (place.Within f count time []))
first_step f number count before time z digits e is fine few follows =
    subst (λ (y : ℤ). line_step (place.Between f count before) digits (first_line f digits number y) ≡ Ok (goes_on (place.Within f count time []))) (sym is)
    (subst (λ (n : ℕ). line_step (place.Between f count before) digits (first_line f digits n (pos time)) ≡ Ok (goes_on (place.Within f count time []))) (sym e) (begin_step f count before time digits fine few follows))

hash_plain : (k : FileKind) (digits : List ℕ) → AreDigits digits → plain (hash_field k digits) ≡ true
hash_plain file.Draft digits fine = refl
hash_plain file.Chain digits fine = plain-from is_hex hex_plain digits fine.1

time_plain : (v : ChainVersion) (time : ℕ) → time ≤ most_time → plain (time_field v (pos time)) ≡ true
time_plain version.One time low = refl
time_plain version.Two time low = decimal_plain time (omega (arith, low))

first_plain : (f : FileForm) (number time : ℕ) (z : ℤ) (digits : List ℕ) → z ≡ pos time → number ≤ 1000000 → time ≤ most_time → AreDigits digits → plain (first_line f digits number z) ≡ true
first_plain f number time z digits is low fits fine =
    subst (λ (y : ℤ). plain (first_line f digits number y) ≡ true) (sym is)
    (plain-append (codes "block ") (decimal number ++ fields f.kind f.version digits time) refl
    (plain-append (decimal number) (fields f.kind f.version digits time) (decimal_plain number (omega (arith, low)))
    (plain-append (hash_field f.kind digits) (time_field f.version (pos time)) (hash_plain f.kind digits fine) (time_plain f.version time fits))))

hash_short : (k : FileKind) (digits : List ℕ) → AreDigits digits → length (hash_field k digits) ≤ 65
hash_short file.Draft digits fine = omega arith
hash_short file.Chain digits fine = omega (arith, fine.0)

time_short : (v : ChainVersion) (time : ℕ) → time ≤ most_time → length (time_field v (pos time)) ≤ 21
time_short version.One time low = omega arith
time_short version.Two time low = let short : length (decimal time) ≤ 20 = decimal_short time (omega (arith, low)) in omega (arith, short)

first_short : (f : FileForm) (number time : ℕ) (z : ℤ) (digits : List ℕ) → z ≡ pos time → number ≤ 1000000 → time ≤ most_time → AreDigits digits → length (first_line f digits number z) ≤ 4096
first_short f number time z digits is low fits fine =
    let hash : List ℕ = hash_field f.kind digits in
    let text : List ℕ = time_field f.version (pos time) in
    subst (λ (y : ℤ). length (first_line f digits number y) ≤ 4096) (sym is)
    (omega (arith, decimal_short number (omega (arith, low)), hash_short f.kind digits fine, time_short f.version time fits, length-append (codes "block ") (decimal number ++ (hash ++ text)), length-append (decimal number) (hash ++ text), length-append hash text))

end_step : (f : FileForm) (count time : ℕ) (digits : List ℕ) (block : Block) → block.number ≡ count + 1 → block.time ≡ pos time
    → line_step (place.Within f count time block.txs) digits (codes "end") ≡ Ok (record { place = place.Between f (count + 1) time; ended = Some block })
end_step f count time digits block number is = ap (ends f (count + 1) time) (made_block (count + 1) time block.txs block number is refl)

walk_block : (f : FileForm) (line count before time : ℕ) (digits : List ℕ) (block : Block) (rest : List ℕ) → block.number ≡ count + 1 → block.time ≡ pos time → Follows f.version before time → count < 1000000 → AreDigits digits
    → AllByRecursion HasLine block.txs
    → walk (behind_blocks f line count before digits) (parts_of (block_text f digits block ++ rest))
    ≡ with_blocks (block ∷ []) (walk (behind_blocks f (line + 1 + length block.txs + 1) (count + 1) time (hash_digits (block_text f digits block))) (parts_of rest))
walk_block f line count before time digits block rest number is follows few fine lines =
    let first : List ℕ = block_line f digits block in
    let txs : List ℕ = flat_map tx_line block.txs in
    let tail : List ℕ = line_text (codes "end") in
    let low : block.number ≤ 1000000 = omega (arith, number, few) in
    ap (λ text. walk (behind_blocks f line count before digits) (parts_of text)) (append_assoc (line_text first) (txs ++ tail) rest ∙ ap (λ text. line_text first ++ text) (append_assoc txs tail rest))
    ∙ walk_back (behind_blocks f line count before digits) first (txs ++ (tail ++ rest)) (goes_on (place.Within f count time [])) (first_plain f block.number time block.time digits is low follows.fits fine)
    (first_short f block.number time block.time digits is low follows.fits fine) (first_step f block.number count before time block.time digits number is fine few follows)
    ∙ walk_txs f (line + 1) count time digits [] block.txs (line_text first) (tail ++ rest) lines block.few
    ∙ walk_back (in_block f (line + 1 + length block.txs) count time digits block.txs (line_text first ++ txs)) (codes "end") rest (record { place = place.Between f (count + 1) time; ended = Some block }) refl (omega arith) (end_step f count time digits block number is)
    ∙ ap (λ text. with_blocks (block ∷ []) (walk (behind_blocks f (line + 1 + length block.txs + 1) (count + 1) time (hash_digits text)) (parts_of rest))) (append_assoc (line_text first) txs tail)

-- ---- the blocks of a file

-- their times, one after another
abbrev AreTimed : ChainVersion → ℕ → List Block → Type 0
AreTimed v before [] = Unit {0}
AreTimed v before (block ∷ blocks) = (time : ℕ) × (block.time ≡ pos time) × Follows v before time × AreTimed v time blocks

one_timed : (blocks : List Block) → HaveNoTimes blocks → AreTimed version.One 0 blocks
one_timed [] none = tt
one_timed (block ∷ blocks) none = (0, none.0, record { low = omega arith; fits = omega arith; can = refl }, one_timed blocks none.1)

-- an int that is not below a natural number is one, and no i64 is above the greatest one
natural : (t : ℕ) (z : ℤ) → int_le (pos t) z ≡ true → int_le z (pos most_time) ≡ true → (n : ℕ) × (z ≡ pos n) × (t ≤ n) × (n ≤ most_time)
natural t (pos n) low high = (n, refl, leb-true t n low, leb-true n most_time high)
natural t (negsuc n) low high = absurd (cc)

two_timed : (before : ℕ) (blocks : List Block) → TimesFrom (pos before) blocks → AllByRecursion (λ block. int_le block.time (pos most_time) ≡ true) blocks → AreTimed version.Two before blocks
two_timed before [] rise fit = tt
two_timed before (block ∷ blocks) rise fit =
    let found = natural before block.time rise.0 fit.0 in
    (found.0, found.1, record { low = found.2; fits = found.3; can = tt }, two_timed found.0 blocks (subst (λ (z : ℤ). TimesFrom z blocks) found.1 rise.1) fit.1)

are_timed : (v : ChainVersion) (blocks : List Block) → TimesFit v blocks → AreTimed v 0 blocks
are_timed version.One blocks fit = one_timed blocks fit
are_timed version.Two blocks fit = two_timed 0 blocks fit.0 fit.1

-- what a file says that ends there
abbrev pub judged : Walked → List Block × Option ChainFault
judged w = (w.0, fault_at_end w.1)

walk_blocks : (f : FileForm) (line count before : ℕ) (digits : List ℕ) (blocks : List Block) → NumberedFrom (count + 1) blocks → AreTimed f.version before blocks → count + length blocks ≤ 1000000 → AreDigits digits
    → AllByRecursion (λ block. AllByRecursion HasLine block.txs) blocks → judged (walk (behind_blocks f line count before digits) (parts_of (blocks_text f digits blocks))) ≡ (blocks, None)
walk_blocks f line count before digits [] numbered times few fine lines = refl
walk_blocks f line count before digits (block ∷ blocks) numbered times few fine lines =
    let text : List ℕ = block_text f digits block in
    ap judged (walk_block f line count before times.0 digits block (blocks_text f (hash_digits text) blocks) numbered.0 times.1 times.2 (omega (arith, few)) fine lines.0)
    ∙ ap (λ rest. (block ∷ rest.0, rest.1)) (walk_blocks f (line + 1 + length block.txs + 1) (count + 1) times.0 (hash_digits text) blocks numbered.1 times.3 (omega (arith, few)) (hash_are_digits text) lines.1)

header_plain : (f : FileForm) → plain (header_text f) ≡ true
header_plain f = by f.kind f.version
  where
    by : (k : FileKind) (v : ChainVersion) → plain (header_text (record { kind = k; version = v })) ≡ true
    by file.Draft version.One = refl
    by file.Draft version.Two = refl
    by file.Chain version.One = refl
    by file.Chain version.Two = refl

-- the lines after a header
pub walk_header : (f : FileForm) (rest : List ℕ) → chain (line_text (header_text f) ++ rest) ≡ judged (walk (position_after 2 front.digits ([] ++ line_text (header_text f)) (place.Between f 0 0) None) (parts_of rest))
walk_header f rest = ap judged (walk_back front (header_text f) rest (goes_on (place.Between f 0 0)) (header_plain f) (omega (arith, header_short f)) (ap begins (header_said f)))

pub file_again : (f : FileForm) (blocks : List Block) → CanStand f.version blocks → chain (file_text f blocks) ≡ (blocks, None)
file_again f blocks fine = walk_header f (blocks_text f no_digits blocks) ∙ walk_blocks f 2 0 0 no_digits blocks fine.numbered (are_timed f.version blocks fine.times) (omega (arith, fine.few)) (refl, refl) fine.lines
