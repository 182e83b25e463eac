-- A proof file that is read is the text of what it says, and what a file can say is read back from it.
use Rattle.std.proofs.Common.{◌≡◌, ◌≤◌, ◌<◌, ◌+◌, ◌^◌, ℕ, suc, List, [], ◌∷◌, ◌++◌, Bool, true, false, cond, Option, Some, None, drop, length, refl, sym, ◌∙◌, ap, subst, append_assoc, arith}
use Rattle.std.specs.Prelude.{Err, Ok, Result, codes, decimal, eqb, nat_le, ◌&&◌, ◌==◌}
use Rattle.std.specs.List.{AllByRecursion, flat_map, join_with_byte}
use Rattle.std.specs.Option.{option_and_then}
use Rattle.std.specs.Cmp.Lexicographic.{pointwise}
use Rattle.std.specs.Str.{bytes_eq}
use Rattle.std.proofs.Math.Seq.{drop-append_seam, take-append_seam}
use Rattle.std.proofs.lemmas.Bool.{and_from, and_parts, eqb-true, le-leb, leb-true, ne_eqb}
use Rattle.std.proofs.lemmas.List.{append-nil}
use Rattle.std.proofs.lemmas.List.Splits.{join_with_byte-slice_split}
use Rattle.std.proofs.lemmas.Bool.Decides.{Decides-eqb, same_from_decides}
use Rattle.std.proofs.lemmas.Option.{same_Some}
use Rattle.std.proofs.lemmas.Slice.Eq.{bytes_eq-Decides, slice_eq-Decides}
use Rattle.canon_code.specs.Writes.{HasWriteCode, write_at, write_code}
use Rattle.canon_code.proofs.Things.{write_exact}
use Rattle.hex.specs.Hex.{encode_lower}
use Rattle.hex_digits.specs.Digits.{bytes_of, hash_of}
use Rattle.hex_digits.specs.Laws.{IsHash}
use Rattle.hex_digits.proofs.Spelled.{bytes_back, bytes_fine, bytes_spelled, digits_plain, hash_back, hash_fine, hash_spelled}
use Rattle.literals.specs.Number.{u64_at}
use Rattle.literals.proofs.Again.{number_again}
use Rattle.literals.proofs.Takes.{IsLiteral, IsU64, u64_takes}
use Rattle.rel_base.proofs.Bytes.{bytes_same, equal_bytes}
use Rattle.rel_base.specs.declared.access.Placed.{Placed}
use Rattle.tx_text.specs.Fields.{after}
use Rattle.tx_text.specs.Parts.{line_text, parts_of}
use Rattle.tx_text.specs.Values.{alone}
use Rattle.tx_text.proofs.Glued.{parts_some}
use Rattle.tx_text.proofs.Plain.{decimal_plain, parts_line, plain, plain-append}
use Rattle.tx_text.proofs.Takes.{IsInFront, after_takes}
use Rattle.merkle_proof.specs.FileLaws.{HasFile, ProofsComeBack, ProofsHaveOneFile}
use Rattle.merkle_proof.specs.ProofFiles.{before, between, ended, header_in, last_step, line_at, most_counted, number_in, onward, proof_file, proof_in, proof_of_lines, said, step_at, step_in, step_text, steps_from, whole_write, write_in, ◌>>=◌}
use Rattle.merkle_proof.specs.declared.proof.Proof.{Proof}
use Rattle.merkle_proof.proofs.CodeBytes.{write_bytes}

-- ---- one line more

pub line_some : {A : Type 0} (number : ℕ) (reading : List ℕ → Option A) (line : List ℕ) (parts : List (List ℕ)) → 0 < length parts → line_at number reading (line ∷ parts) ≡ said number (reading line) parts
line_some number reading line [] some = absurd (omega (arith, some))
line_some number reading line (part ∷ parts) some = refl

-- a line that a newline ends, and what it says
pub line_is : {A : Type 0} (number : ℕ) (reading : List ℕ → Option A) (bytes line rest : List ℕ) (found : Option A) → parts_of bytes ≡ line ∷ parts_of rest → found ≡ reading line
    → line_at number reading (parts_of bytes) ≡ said number found (parts_of rest)
line_is number reading bytes line rest found split is =
    ap (line_at number reading) split ∙ line_some number reading line (parts_of rest) (parts_some rest) ∙ ap (λ told. said number told (parts_of rest)) (sym is)

pub line_open : {A : Type 0} (number : ℕ) (reading : List ℕ → Option A) (bytes : List ℕ) → parts_of bytes ≡ bytes ∷ [] → line_at number reading (parts_of bytes) ≡ Err number
line_open number reading bytes split = ap (line_at number reading) split

step_line : (number : ℕ) (line : List ℕ) (parts : List (List ℕ)) → 0 < length parts
    → steps_from number (line ∷ parts) ≡ cond (bytes_eq line (codes "end")) (ended (number + 1) parts) (onward number (step_at number line) (steps_from (number + 1) parts))
step_line number line [] some = absurd (omega (arith, some))
step_line number line (part ∷ parts) some = refl

pub before_both : (some more : List (List ℕ)) (others : Result (List (List ℕ)) ℕ) → before some (before more others) ≡ before (some ++ more) others
before_both some more (Err line) = refl
before_both some more (Ok others) = ap Ok (sym (append_assoc some more others))

line_of : (number : ℕ) (bytes line rest : List ℕ) (last : Bool) → parts_of bytes ≡ line ∷ parts_of rest → bytes_eq line (codes "end") ≡ last
    → steps_from number (parts_of bytes) ≡ cond last (ended (number + 1) (parts_of rest)) (onward number (step_at number line) (steps_from (number + 1) (parts_of rest)))
line_of number bytes line rest last split is =
    ap (steps_from number) split ∙ step_line number line (parts_of rest) (parts_some rest)
    ∙ ap (λ (test : Bool). cond test (ended (number + 1) (parts_of rest)) (onward number (step_at number line) (steps_from (number + 1) (parts_of rest)))) is

-- what is read with a step more, with a bad line, and at the end
pub read_step : (number : ℕ) (bytes line rest : List ℕ) (some : List (List ℕ)) (step : List ℕ) → parts_of bytes ≡ line ∷ parts_of rest → bytes_eq line (codes "end") ≡ false → Some step ≡ step_at number line
    → before some (steps_from number (parts_of bytes)) ≡ before (some ++ (step ∷ [])) (steps_from (number + 1) (parts_of rest))
read_step number bytes line rest some step split other is =
    ap (before some) (line_of number bytes line rest false split other ∙ ap (λ one. onward number one (steps_from (number + 1) (parts_of rest))) (sym is))
    ∙ before_both some (step ∷ []) (steps_from (number + 1) (parts_of rest))

pub read_fault : (number : ℕ) (bytes line rest : List ℕ) (some : List (List ℕ)) → parts_of bytes ≡ line ∷ parts_of rest → bytes_eq line (codes "end") ≡ false → None ≡ step_at number line
    → before some (steps_from number (parts_of bytes)) ≡ Err number
read_fault number bytes line rest some split other is =
    ap (before some) (line_of number bytes line rest false split other ∙ ap (λ one. onward number one (steps_from (number + 1) (parts_of rest))) (sym is))

pub read_last : (number : ℕ) (bytes line rest : List ℕ) (some : List (List ℕ)) → parts_of bytes ≡ line ∷ parts_of rest → bytes_eq line (codes "end") ≡ true
    → before some (steps_from number (parts_of bytes)) ≡ before some (ended (number + 1) (parts_of rest))
read_last number bytes line rest some split last = ap (before some) (line_of number bytes line rest true split last)

pub read_open : (number : ℕ) (bytes : List ℕ) (some : List (List ℕ)) → parts_of bytes ≡ bytes ∷ [] → before some (steps_from number (parts_of bytes)) ≡ Err number
read_open number bytes some split = ap (λ parts. before some (steps_from number parts)) split

abbrev okay : List (List ℕ) → Result (List (List ℕ)) ℕ
okay path = Ok path

-- nothing follows, or something
pub ended_none : (number : ℕ) (rest : List ℕ) → length rest ≡ 0 → ended number (parts_of rest) ≡ Ok []
ended_none number [] none = refl
ended_none number (b ∷ bs) none = absurd (omega (arith, none))

ended_by : (number : ℕ) (parts : List (List ℕ)) (n : ℕ) → length (join_with_byte 10 parts) ≡ suc n → ended number parts ≡ Err number
ended_by number [] n e = absurd (omega (arith, e))
ended_by number ([] ∷ []) n e = absurd (omega (arith, e))
ended_by number ((b ∷ bs) ∷ []) n e = ap (λ (none : Bool). cond none (okay []) (Err number)) (ne_eqb (suc (length bs)) 0 (λ none. omega (arith, none)))
ended_by number (line ∷ part ∷ parts) n e = refl

pub ended_some : (number : ℕ) (rest : List ℕ) → 1 ≤ length rest → ended number (parts_of rest) ≡ Err number
ended_some number [] some = absurd (omega (arith, some))
ended_some number (b ∷ bs) some = ended_by number (parts_of (b ∷ bs)) (length bs) (ap length (join_with_byte-slice_split 10 (b ∷ bs)))

-- ---- what is read was written so

-- a value after a word
word_ok : {A : Type 0} (word line : List ℕ) (reading : List ℕ → Option A) (x : A) (found : Option (List ℕ)) → after word line ≡ found → IsInFront word line found → option_and_then reading found ≡ Some x
    → (rest : List ℕ) × (line ≡ word ++ rest) × (reading rest ≡ Some x)
word_ok word line reading x None is front e = absurd (cc)
word_ok word line reading x (Some rest) is front e = (rest, front, e)

behind : {A : Type 0} (word line : List ℕ) (reading : List ℕ → Option A) (x : A) → option_and_then reading (after word line) ≡ Some x → (rest : List ℕ) × (line ≡ word ++ rest) × (reading rest ≡ Some x)
behind word line reading x e = word_ok word line reading x (after word line) refl (after_takes word line) e

-- numbers
between_ok : (low high n m : ℕ) (test : Bool) → (nat_le low n && nat_le n high) ≡ test → cond test (Some n) None ≡ Some m → (n ≡ m) × (low ≤ m) × (m ≤ high)
between_ok low high n m true is e =
    let own = same_Some n m e in
    let parts = and_parts (nat_le low n) (nat_le n high) is in
    (own, subst (λ k. low ≤ k) own (leb-true low n parts.0), subst (λ k. k ≤ high) own (leb-true n high parts.1))
between_ok low high n m false is e = absurd (cc)

digits_ok : (low high m : ℕ) (digits : List ℕ) (found : Option (ℕ × List ℕ)) → IsLiteral decimal IsU64 digits found → option_and_then (between low high) (option_and_then alone found) ≡ Some m
    → (digits ≡ decimal m) × (low ≤ m) × (m ≤ high)
digits_ok low high m digits None told e = absurd (cc)
digits_ok low high m digits (Some (n, [])) told e =
    let own = between_ok low high n m (nat_le low n && nat_le n high) refl e in
    (told.0 ∙ append-nil (decimal n) ∙ ap decimal own.0, own.1, own.2)
digits_ok low high m digits (Some (n, b ∷ bs)) told e = absurd (cc)

number_ok : (word : List ℕ) (low high m : ℕ) (line : List ℕ) → number_in word low high line ≡ Some m → (line ≡ word ++ decimal m) × (low ≤ m) × (m ≤ high)
number_ok word low high m line e =
    let told = behind word line (λ digits. option_and_then (between low high) (option_and_then alone (u64_at digits))) m e in
    let own = digits_ok low high m told.0 (u64_at told.0) (u64_takes told.0) told.2 in
    (told.1 ∙ ap (λ xs. word ++ xs) own.0, own.1, own.2)

-- writes
alone_ok : {A : Type 0} (found : Option (A × List ℕ)) (x : A) → option_and_then alone found ≡ Some x → found ≡ Some (x, [])
alone_ok None x e = absurd (cc)
alone_ok (Some (y, [])) x e = ap (λ z. Some (z, [])) (same_Some y x e)
alone_ok (Some (y, b ∷ bs)) x e = absurd (cc)

digits_of_write : (digits : List ℕ) (write : Placed) (found : Option (List ℕ)) → bytes_of digits ≡ found → option_and_then whole_write found ≡ Some write
    → HasWriteCode write × (digits ≡ encode_lower (write_code write))
digits_of_write digits write None is e = absurd (cc)
digits_of_write digits write (Some code) is e =
    let told = write_exact.written code write [] (bytes_fine digits code is) (alone_ok (write_at code) write e) in
    (told.0, bytes_spelled digits code is ∙ ap encode_lower (told.1 ∙ append-nil (write_code write)))

pub write_ok : (line : List ℕ) (write : Placed) → write_in line ≡ Some write → HasWriteCode write × (line ≡ codes "write " ++ encode_lower (write_code write))
write_ok line write e =
    let told = behind (codes "write ") line (λ digits. option_and_then whole_write (bytes_of digits)) write e in
    let own = digits_of_write told.0 write (bytes_of told.0) refl told.2 in
    (own.0, told.1 ∙ ap (λ xs. codes "write " ++ xs) own.1)

-- steps
few_ok : {A : Type 0} (test : Bool) (found : Option A) (x : A) → cond test found None ≡ Some x → (test ≡ true) × (found ≡ Some x)
few_ok true found x e = (refl, e)
few_ok false found x e = absurd (cc)

step_ok : (number : ℕ) (line step : List ℕ) → step_at number line ≡ Some step → (number ≤ last_step) × IsHash step × (line ≡ codes "step " ++ encode_lower step)
step_ok number line step e =
    let few = few_ok (nat_le number last_step) (step_in line) step e in
    let told = behind (codes "step ") line hash_of step few.1 in
    (leb-true number last_step few.0, hash_fine told.0 step told.2, told.1 ∙ ap (λ xs. codes "step " ++ xs) (hash_spelled told.0 step told.2))

-- what the bytes of some parts are, where they are steps
record AreSteps (number : ℕ) (bytes : List ℕ) (path : List (List ℕ)) : Type 0 where
  few : number + length path ≤ 37
  hashes : AllByRecursion IsHash path
  text : bytes ≡ flat_map step_text path ++ line_text (codes "end")

glued : (line rest : List ℕ) → line ++ (10 ∷ rest) ≡ line_text line ++ rest
glued line rest = sym (append_assoc line (10 ∷ []) rest)

ok_same : (a b : List (List ℕ)) → okay a ≡ okay b → a ≡ b
ok_same a b e = cc

no_bytes : (rest : List ℕ) → length rest ≡ 0 → rest ≡ []
no_bytes [] e = refl
no_bytes (b ∷ bs) e = absurd (omega (arith, e))

ended_one : (number : ℕ) (rest : List ℕ) (path : List (List ℕ)) (none : Bool) → (length rest == 0) ≡ none → cond none (okay []) (Err number) ≡ Ok path → (path ≡ []) × (rest ≡ [])
ended_one number rest path true is e = (sym (ok_same [] path e), no_bytes rest (eqb-true (length rest) 0 is))
ended_one number rest path false is e = absurd (cc)

ended_ok : (number : ℕ) (parts path : List (List ℕ)) → ended number parts ≡ Ok path → (path ≡ []) × (join_with_byte 10 parts ≡ [])
ended_ok number [] path e = (sym (ok_same [] path e), refl)
ended_ok number (rest ∷ []) path e = ended_one number rest path (length rest == 0) refl e
ended_ok number (line ∷ part ∷ parts) path e = absurd (cc)

last_steps : (number : ℕ) (line bytes : List ℕ) (path : List (List ℕ)) → number ≤ 37 → bytes_eq line (codes "end") ≡ true → (path ≡ []) × (bytes ≡ []) → AreSteps number (line ++ (10 ∷ bytes)) path
last_steps number line bytes path low last none = subst (λ (steps : List (List ℕ)). AreSteps number (line ++ (10 ∷ bytes)) steps) (sym none.0) (record {
  few = omega (arith, low);
  hashes = tt;
  text = ap (λ rest. line ++ (10 ∷ rest)) none.1 ∙ ap line_text (equal_bytes line (codes "end") last);
})

more_steps : (number : ℕ) (line bytes step : List ℕ) (more : List (List ℕ)) → step_at number line ≡ Some step → AreSteps (number + 1) bytes more → AreSteps number (line ++ (10 ∷ bytes)) (step ∷ more)
more_steps number line bytes step more is rest =
    let own = step_ok number line step is in
    let few = rest.few in
    record {
      few = omega (arith, few);
      hashes = (own.1, rest.hashes);
      text =
          glued line bytes ∙ ap (λ front. line_text front ++ bytes) own.2 ∙ ap (λ back. step_text step ++ back) rest.text
          ∙ sym (append_assoc (step_text step) (flat_map step_text more) (line_text (codes "end")));
    }

before_steps : (number : ℕ) (line bytes step : List ℕ) (others : Result (List (List ℕ)) ℕ) (path : List (List ℕ)) → step_at number line ≡ Some step
    → ((more : List (List ℕ)) → others ≡ Ok more → AreSteps (number + 1) bytes more) → before (step ∷ []) others ≡ Ok path → AreSteps number (line ++ (10 ∷ bytes)) path
before_steps number line bytes step (Err wrong) path is later e = absurd (cc)
before_steps number line bytes step (Ok more) path is later e =
    subst (λ (steps : List (List ℕ)). AreSteps number (line ++ (10 ∷ bytes)) steps) (ok_same (step ∷ more) path e) (more_steps number line bytes step more is (later more refl))

onward_steps : (number : ℕ) (line bytes : List ℕ) (found : Option (List ℕ)) (others : Result (List (List ℕ)) ℕ) (path : List (List ℕ)) → step_at number line ≡ found
    → (number ≤ last_step → (more : List (List ℕ)) → others ≡ Ok more → AreSteps (number + 1) bytes more) → onward number found others ≡ Ok path → AreSteps number (line ++ (10 ∷ bytes)) path
onward_steps number line bytes None others path is later e = absurd (cc)
onward_steps number line bytes (Some step) others path is later e = before_steps number line bytes step others path is (later (step_ok number line step is).0) e

line_steps : (number : ℕ) (line bytes : List ℕ) (parts path : List (List ℕ)) (last : Bool) → number ≤ 37 → bytes_eq line (codes "end") ≡ last → (ended (number + 1) parts ≡ Ok path → (path ≡ []) × (bytes ≡ []))
    → (number ≤ last_step → (more : List (List ℕ)) → steps_from (number + 1) parts ≡ Ok more → AreSteps (number + 1) bytes more)
    → cond last (ended (number + 1) parts) (onward number (step_at number line) (steps_from (number + 1) parts)) ≡ Ok path → AreSteps number (line ++ (10 ∷ bytes)) path
line_steps number line bytes parts path true low is none later e = last_steps number line bytes path low is (none e)
line_steps number line bytes parts path false low is none later e = onward_steps number line bytes (step_at number line) (steps_from (number + 1) parts) path refl later e

up_to : (number : ℕ) → number ≤ last_step → number + 1 ≤ 37
up_to number low = omega (arith, low)

steps_ok : (number : ℕ) (parts path : List (List ℕ)) → number ≤ 37 → steps_from number parts ≡ Ok path → AreSteps number (join_with_byte 10 parts) path
steps_ok number [] path low e = absurd (cc)
steps_ok number (rest ∷ []) path low e = absurd (cc)
steps_ok number (line ∷ part ∷ parts) path low e =
    line_steps number line (join_with_byte 10 (part ∷ parts)) (part ∷ parts) path (bytes_eq line (codes "end")) low refl (ended_ok (number + 1) (part ∷ parts) path)
    (λ below more is. steps_ok (number + 1) (part ∷ parts) more (up_to number below) is) e

-- a line, and the parts after it
record IsLine {A : Type 0} (reading : List ℕ → Option A) (parts : List (List ℕ)) (x : A) (rest : List (List ℕ)) : Type 0 where
  line : List ℕ
  says : reading line ≡ Some x
  text : join_with_byte 10 parts ≡ line_text line ++ join_with_byte 10 rest

abbrev shown : {A : Type 0} → A × List (List ℕ) → Result (A × List (List ℕ)) ℕ
shown found = Ok found

shown_same : {A : Type 0} (a b : A × List (List ℕ)) → shown a ≡ shown b → a ≡ b
shown_same a b e = cc

said_ok : {A : Type 0} (number : ℕ) (reading : List ℕ → Option A) (line : List ℕ) (found : Option A) (rest : List (List ℕ)) (x : A) (more : List (List ℕ)) → reading line ≡ found → said number found rest ≡ Ok (x, more)
    → (reading line ≡ Some x) × (rest ≡ more)
said_ok number reading line None rest x more is e = absurd (cc)
said_ok {A} number reading line (Some y) rest x more is e =
    let own : (y, rest) ≡ (x, more) = shown_same (y, rest) (x, more) e in (is ∙ ap (λ (told : A × List (List ℕ)). Some told.0) own, ap (λ (told : A × List (List ℕ)). told.1) own)

line_ok : {A : Type 0} (number : ℕ) (reading : List ℕ → Option A) (parts : List (List ℕ)) (x : A) (rest : List (List ℕ)) → line_at number reading parts ≡ Ok (x, rest) → IsLine reading parts x rest
line_ok number reading [] x rest e = absurd (cc)
line_ok number reading (last ∷ []) x rest e = absurd (cc)
line_ok number reading (line ∷ part ∷ parts) x rest e =
    let told = said_ok number reading line (reading line) (part ∷ parts) x rest refl e in
    record { line = line; says = told.0; text = glued line (join_with_byte 10 (part ∷ parts)) ∙ ap (λ more. line_text line ++ join_with_byte 10 more) told.1 }

-- a test of bytes, as code makes it
pub bytes_test : (xs ys : List ℕ) (test : Bool) → test ≡ pointwise eqb xs ys → bytes_eq xs ys ≡ test
bytes_test xs ys test is = same_from_decides (bytes_eq xs ys) test (bytes_eq-Decides xs ys) (slice_eq-Decides Decides-eqb xs ys test is)

-- a chain that went well went well at each step
bind_ok : {A B : Type 0} (first : Result A ℕ) (f : A → Result B ℕ) (y : B) → first >>= f ≡ Ok y → (x : A) × (first ≡ Ok x) × (f x ≡ Ok y)
bind_ok (Ok x) f y e = (x, refl, e)
bind_ok (Err line) f y e = absurd (cc)

-- the chain in its steps
abbrev with_path : ℕ → ℕ → Placed → List (List ℕ) → Result (Placed × Proof) ℕ
with_path count index write path = Ok (write, record { count = count; index = index; path = path })

abbrev from_write : ℕ → ℕ → Placed × List (List ℕ) → Result (Placed × Proof) ℕ
from_write count index write = steps_from 5 write.1 >>= with_path count index write.0

abbrev from_index : ℕ → ℕ × List (List ℕ) → Result (Placed × Proof) ℕ
from_index count index = line_at 4 write_in index.1 >>= from_write count index.0

abbrev from_count : ℕ × List (List ℕ) → Result (Placed × Proof) ℕ
from_count count = line_at 3 (number_in (codes "index ") 1 count.0) count.1 >>= from_index count.0

abbrev from_header : Unit {0} × List (List ℕ) → Result (Placed × Proof) ℕ
from_header header = line_at 2 (number_in (codes "count ") 1 most_counted) header.1 >>= from_count

header_ok : (line : List ℕ) (x : Unit {0}) (test : Bool) → bytes_eq line (codes "proof 1") ≡ test → cond test (Some tt) None ≡ Some x → line ≡ codes "proof 1"
header_ok line x true is e = equal_bytes line (codes "proof 1") is
header_ok line x false is e = absurd (cc)

nested : (a b c d e f : List ℕ) → a ++ (b ++ (c ++ (d ++ (e ++ f)))) ≡ ((((a ++ b) ++ c) ++ d) ++ e) ++ f
nested a b c d e f = sym (simp append_assoc)

five : (n : ℕ) → 5 + n ≤ 37 → n ≤ 32
five n low = omega (arith, low)

small : (n : ℕ) → n ≤ most_counted → n < 2 ^ 32
small n low = omega (arith, low)

abbrev filed : Placed × Proof → Result (Placed × Proof) ℕ
filed said = Ok said

filed_same : (a b : Placed × Proof) → filed a ≡ filed b → a ≡ b
filed_same a b e = cc

-- what a whole file says, and its text
abbrev IsFiled : List ℕ → Placed → Proof → Type 0
IsFiled bytes write proof = HasFile write proof × (bytes ≡ proof_file write proof)

lines_ok : (lines : List (List ℕ)) (write : Placed) (proof : Proof) → proof_of_lines lines ≡ Ok (write, proof) → IsFiled (join_with_byte 10 lines) write proof
lines_ok lines write proof e =
    let header = bind_ok (line_at 1 header_in lines) from_header (write, proof) e in
    let first = line_ok 1 header_in lines header.0.0 header.0.1 header.1 in
    let count = bind_ok (line_at 2 (number_in (codes "count ") 1 most_counted) header.0.1) from_count (write, proof) header.2 in
    let second = line_ok 2 (number_in (codes "count ") 1 most_counted) header.0.1 count.0.0 count.0.1 count.1 in
    let index = bind_ok (line_at 3 (number_in (codes "index ") 1 count.0.0) count.0.1) (from_index count.0.0) (write, proof) count.2 in
    let third = line_ok 3 (number_in (codes "index ") 1 count.0.0) count.0.1 index.0.0 index.0.1 index.1 in
    let placed = bind_ok (line_at 4 write_in index.0.1) (from_write count.0.0 index.0.0) (write, proof) index.2 in
    let fourth = line_ok 4 write_in index.0.1 placed.0.0 placed.0.1 placed.1 in
    let path = bind_ok (steps_from 5 placed.0.1) (with_path count.0.0 index.0.0 placed.0.0) (write, proof) placed.2 in
    let steps = steps_ok 5 placed.0.1 path.0 (omega arith) path.1 in
    let counted = number_ok (codes "count ") 1 most_counted count.0.0 second.line second.says in
    let indexed = number_ok (codes "index ") 1 count.0.0 index.0.0 third.line third.says in
    let coded = write_ok fourth.line placed.0.0 fourth.says in
    let own : Proof = record { count = count.0.0; index = index.0.0; path = path.0 } in
    subst (λ (said : Placed × Proof). IsFiled (join_with_byte 10 lines) said.0 said.1) (filed_same (placed.0.0, own) (write, proof) path.2) (
      record { code = coded.0; from_one = indexed.1; within = indexed.2; few = small count.0.0 counted.2; short = five (length path.0) steps.few; hashes = steps.hashes },
      first.text ∙ ap (λ line. line_text line ++ join_with_byte 10 header.0.1) (header_ok first.line header.0.0 (bytes_eq first.line (codes "proof 1")) refl first.says)
          ∙ ap (λ more. line_text (codes "proof 1") ++ more) (second.text ∙ ap (λ line. line_text line ++ join_with_byte 10 count.0.1) counted.0
          ∙ ap (λ more. line_text (codes "count " ++ decimal count.0.0) ++ more) (third.text ∙ ap (λ line. line_text line ++ join_with_byte 10 index.0.1) indexed.0
          ∙ ap (λ more. line_text (codes "index " ++ decimal index.0.0) ++ more) (fourth.text ∙ ap (λ line. line_text line ++ join_with_byte 10 placed.0.1) coded.1
          ∙ ap (λ more. line_text (codes "write " ++ encode_lower (write_code placed.0.0)) ++ more) steps.text)))
          ∙ nested (line_text (codes "proof 1")) (line_text (codes "count " ++ decimal count.0.0)) (line_text (codes "index " ++ decimal index.0.0))
          (line_text (codes "write " ++ encode_lower (write_code placed.0.0))) (flat_map step_text path.0) (line_text (codes "end")),
    )

pub file_spelled : ProofsHaveOneFile
file_spelled bytes write proof e = subst (λ (all : List ℕ). IsFiled all write proof) (join_with_byte-slice_split 10 bytes) (lines_ok (parts_of bytes) write proof e)

-- ---- what is written is read back

after_again : (front rest : List ℕ) → after front (front ++ rest) ≡ Some rest
after_again front rest =
    ap (λ taken. cond (bytes_eq taken front) (Some (drop (length front) (front ++ rest))) None) (take-append_seam front rest)
    ∙ ap (λ (same : Bool). cond same (Some (drop (length front) (front ++ rest))) None) (bytes_same front) ∙ ap Some (drop-append_seam front rest)

-- the first line of a text
line_again : {A : Type 0} (number : ℕ) (reading : List ℕ → Option A) (line rest : List ℕ) (x : A) → plain line ≡ true → reading line ≡ Some x → line_at number reading (parts_of (line_text line ++ rest)) ≡ Ok (x, parts_of rest)
line_again number reading line rest x fine says =
    line_is number reading (line_text line ++ rest) line rest (Some x) (ap parts_of (append_assoc line (10 ∷ []) rest) ∙ parts_line line rest fine) (sym says)

number_again_in : (word : List ℕ) (low high n : ℕ) → low ≤ n → n ≤ high → n < 2 ^ 32 → number_in word low high (word ++ decimal n) ≡ Some n
number_again_in word low high n at_least at_most few =
    ap (option_and_then (λ digits. option_and_then (between low high) (option_and_then alone (u64_at digits)))) (after_again word (decimal n))
    ∙ ap (λ found. option_and_then (between low high) (option_and_then alone found)) (ap u64_at (sym (append-nil (decimal n))) ∙ number_again n [] (wide n few) refl)
    ∙ ap (λ (test : Bool). cond test (Some n) None) (and_from (nat_le low n) (nat_le n high) (le-leb low n at_least) (le-leb n high at_most))
  where
    wide : (n : ℕ) → n < 2 ^ 32 → n < 2 ^ 64
    wide n few = omega (arith, few)

numbered_plain : (word : List ℕ) (n : ℕ) → plain word ≡ true → n < 2 ^ 32 → plain (word ++ decimal n) ≡ true
numbered_plain word n fine few = plain-append word (decimal n) fine (decimal_plain n (omega (arith, few)))

write_again : (write : Placed) → HasWriteCode write → write_in (codes "write " ++ encode_lower (write_code write)) ≡ Some write
write_again write has =
    ap (option_and_then (λ digits. option_and_then whole_write (bytes_of digits))) (after_again (codes "write ") (encode_lower (write_code write)))
    ∙ ap (option_and_then whole_write) (bytes_back (write_code write) (write_bytes write has))
    ∙ ap (λ code. option_and_then alone (write_at code)) (sym (append-nil (write_code write))) ∙ ap (option_and_then alone) (write_exact.back write [] has)

write_plain : (write : Placed) → plain (codes "write " ++ encode_lower (write_code write)) ≡ true
write_plain write = plain-append (codes "write ") (encode_lower (write_code write)) refl (digits_plain (write_code write))

-- steps
step_again : (number : ℕ) (step : List ℕ) → number ≤ last_step → IsHash step → step_at number (codes "step " ++ encode_lower step) ≡ Some step
step_again number step low fine =
    ap (λ (few : Bool). cond few (step_in (codes "step " ++ encode_lower step)) None) (le-leb number last_step low)
    ∙ ap (option_and_then hash_of) (after_again (codes "step ") (encode_lower step)) ∙ hash_back step fine

first_parts : (line rest : List ℕ) → plain line ≡ true → parts_of (line_text line ++ rest) ≡ line ∷ parts_of rest
first_parts line rest fine = ap parts_of (append_assoc line (10 ∷ []) rest) ∙ parts_line line rest fine

step_low : (number n : ℕ) → number + suc n ≤ 37 → number ≤ last_step
step_low number n low = omega (arith, low)

step_next : (number n : ℕ) → number + suc n ≤ 37 → (number + 1) + n ≤ 37
step_next number n low = omega (arith, low)

steps_again : (number : ℕ) (path : List (List ℕ)) → number + length path ≤ 37 → AllByRecursion IsHash path → steps_from number (parts_of (flat_map step_text path ++ line_text (codes "end"))) ≡ Ok path
steps_again number [] low fine = refl
steps_again number (step ∷ path) low fine =
    ap (λ bytes. steps_from number (parts_of bytes)) (append_assoc (step_text step) (flat_map step_text path) (line_text (codes "end")))
    ∙ line_of number (step_text step ++ (flat_map step_text path ++ line_text (codes "end"))) (codes "step " ++ encode_lower step) (flat_map step_text path ++ line_text (codes "end")) false
    (first_parts (codes "step " ++ encode_lower step) (flat_map step_text path ++ line_text (codes "end")) (plain-append (codes "step ") (encode_lower step) refl (digits_plain step))) refl
    ∙ ap (λ found. onward number found (steps_from (number + 1) (parts_of (flat_map step_text path ++ line_text (codes "end"))))) (step_again number step (step_low number (length path) low) fine.0)
    ∙ ap (before (step ∷ [])) (steps_again (number + 1) path (step_next number (length path) low) fine.1)

most : (n : ℕ) → n < 2 ^ 32 → n ≤ most_counted
most n few = omega (arith, few)

index_few : (m n : ℕ) → m ≤ n → n < 2 ^ 32 → m < 2 ^ 32
index_few m n within few = omega (arith, within, few)

some_count : (m n : ℕ) → 1 ≤ m → m ≤ n → 1 ≤ n
some_count m n from_one within = omega (arith, from_one, within)

path_room : (n : ℕ) → n ≤ 32 → 5 + n ≤ 37
path_room n short = omega (arith, short)

pub file_again : ProofsComeBack
file_again write proof has =
    ap proof_in (sym (nested (line_text (codes "proof 1")) (line_text (codes "count " ++ decimal proof.count)) (line_text (codes "index " ++ decimal proof.index))
    (line_text (codes "write " ++ encode_lower (write_code write))) (flat_map step_text proof.path) (line_text (codes "end"))))
    ∙ ap (λ found. found >>= from_header) (line_again 1 header_in (codes "proof 1")
    (line_text (codes "count " ++ decimal proof.count) ++ (line_text (codes "index " ++ decimal proof.index) ++ (line_text (codes "write " ++ encode_lower (write_code write)) ++ (flat_map step_text proof.path ++ line_text (codes "end"))))) tt refl refl)
    ∙ ap (λ found. found >>= from_count) (line_again 2 (number_in (codes "count ") 1 most_counted) (codes "count " ++ decimal proof.count)
    (line_text (codes "index " ++ decimal proof.index) ++ (line_text (codes "write " ++ encode_lower (write_code write)) ++ (flat_map step_text proof.path ++ line_text (codes "end")))) proof.count
    (numbered_plain (codes "count ") proof.count refl has.few)
    (number_again_in (codes "count ") 1 most_counted proof.count (some_count proof.index proof.count has.from_one has.within) (most proof.count has.few) has.few))
    ∙ ap (λ found. found >>= from_index proof.count) (line_again 3 (number_in (codes "index ") 1 proof.count) (codes "index " ++ decimal proof.index)
    (line_text (codes "write " ++ encode_lower (write_code write)) ++ (flat_map step_text proof.path ++ line_text (codes "end"))) proof.index
    (numbered_plain (codes "index ") proof.index refl (index_few proof.index proof.count has.within has.few))
    (number_again_in (codes "index ") 1 proof.count proof.index has.from_one has.within (index_few proof.index proof.count has.within has.few)))
    ∙ ap (λ found. found >>= from_write proof.count proof.index) (line_again 4 write_in (codes "write " ++ encode_lower (write_code write)) (flat_map step_text proof.path ++ line_text (codes "end")) write
    (write_plain write) (write_again write has.code))
    ∙ ap (λ found. found >>= with_path proof.count proof.index write) (steps_again 5 proof.path (path_room (length proof.path) has.short) has.hashes)
