-- A digest file that is read is the text of its digests, and digests are read back from it.
use Rattle.std.proofs.Common.{◌≡◌, ◌≤◌, ◌<◌, ◌+◌, ℕ, List, [], ◌∷◌, ◌++◌, Bool, true, false, cond, Option, Some, None, length, drop, refl, sym, ◌∙◌, ap, subst, append_assoc, arith}
use Rattle.std.specs.Prelude.{Err, Ok, Result, codes, decimal, nat_le, ◌==◌}
use Rattle.std.specs.List.{AllByRecursion, join_with_byte}
use Rattle.std.specs.Option.{option_and_then}
use Rattle.std.specs.Str.{bytes_eq}
use Rattle.std.proofs.Math.Seq.{drop-append_seam, take-append_seam}
use Rattle.std.proofs.lemmas.Bool.{eqb-true, le-leb}
use Rattle.std.proofs.lemmas.List.Splits.{join_with_byte-slice_split}
use Rattle.hex.specs.Hex.{encode_lower}
use Rattle.hex_digits.specs.Digits.{hash_of}
use Rattle.hex_digits.specs.Laws.{IsHash}
use Rattle.hex_digits.proofs.Spelled.{digits_plain, hash_back, hash_spelled}
use Rattle.rel_base.proofs.Bytes.{bytes_same, equal_bytes}
use Rattle.tx_text.specs.Fields.{after}
use Rattle.tx_text.specs.Parts.{line_text, parts_of}
use Rattle.tx_text.proofs.Glued.{parts_some}
use Rattle.tx_text.proofs.Plain.{decimal_plain, parts_line, plain, plain-append}
use Rattle.tx_text.proofs.Takes.{IsInFront, after_takes}
use Rattle.checkpoint.specs.Files.{before, digest_at, digest_file, digest_text, digests_from, digests_in, digests_of, ended, lines_from, most_digests, numbered_digest, onward}
use Rattle.checkpoint.specs.Laws.{FilesComeBack, FilesHaveOneText}

-- ---- a line and the lines that follow

pub from_line : (height : ℕ) (line : List ℕ) (parts : List (List ℕ)) → 0 < length parts → digests_from height (line ∷ parts) ≡ onward height (digest_at height line) (digests_from (height + 1) parts)
from_line height line [] some = absurd (omega (arith, some))
from_line height line (part ∷ parts) some = refl

pub before_both : (some more : List (List ℕ)) (others : Result (List (List ℕ)) ℕ) → before some (before more others) ≡ before (some ++ more) others
before_both some more (Err line) = refl
before_both some more (Ok others) = ap Ok (sym (append_assoc some more others))

pub before_none : (others : Result (List (List ℕ)) ℕ) → before [] others ≡ others
before_none (Err line) = refl
before_none (Ok others) = refl

-- what is read, with one line more
pub read_step : (height : ℕ) (rest line after : List ℕ) (some : List (List ℕ)) (digest : List ℕ) → parts_of rest ≡ line ∷ parts_of after → digest_at height line ≡ Some digest
    → before some (digests_from height (parts_of rest)) ≡ before (some ++ (digest ∷ [])) (digests_from (height + 1) (parts_of after))
read_step height rest line after some digest split found =
    ap (λ parts. before some (digests_from height parts)) split
    ∙ ap (before some) (from_line height line (parts_of after) (parts_some after) ∙ ap (λ one. onward height one (digests_from (height + 1) (parts_of after))) found)
    ∙ before_both some (digest ∷ []) (digests_from (height + 1) (parts_of after))

-- or with a bad line
pub read_fault : (height : ℕ) (rest line after : List ℕ) (some : List (List ℕ)) → parts_of rest ≡ line ∷ parts_of after → digest_at height line ≡ None
    → before some (digests_from height (parts_of rest)) ≡ Err (height + 1)
read_fault height rest line after some split found =
    ap (λ parts. before some (digests_from height parts)) split
    ∙ ap (before some) (from_line height line (parts_of after) (parts_some after) ∙ ap (λ one. onward height one (digests_from (height + 1) (parts_of after))) found)

pub read_end : (height : ℕ) (rest : List ℕ) (some : List (List ℕ)) → parts_of rest ≡ rest ∷ [] → before some (digests_from height (parts_of rest)) ≡ before some (ended height rest)
read_end height rest some split = ap (λ parts. before some (digests_from height parts)) split

pub in_line : (line : List ℕ) (parts : List (List ℕ)) → 0 < length parts → digests_in (line ∷ parts) ≡ cond (bytes_eq line (codes "digests 1")) (digests_from 1 parts) (Err 1)
in_line line [] some = absurd (omega (arith, some))
in_line line (part ∷ parts) some = refl

-- ---- what is read was written so

-- a line by its parts
text_is : (height : ℕ) (digest : List ℕ) → digest_text height digest ≡ decimal height ++ (codes " " ++ encode_lower digest)
text_is height digest = append_assoc (decimal height) (codes " ") (encode_lower digest)

-- a line is that of what it spells
abbrev LineIs : ℕ → List ℕ → Option (List ℕ) → Type 0
LineIs height line None = Unit {0}
LineIs height line (Some digest) = line ≡ digest_text height digest

digits_is : (height : ℕ) (line rest digits : List ℕ) (found : Option (List ℕ)) → hash_of digits ≡ found → line ≡ decimal height ++ rest → rest ≡ codes " " ++ digits → LineIs height line found
digits_is height line rest digits None e behind space = tt
digits_is height line rest digits (Some hash) e behind space =
    behind ∙ ap (λ xs. decimal height ++ xs) (space ∙ ap (λ ds. codes " " ++ ds) (hash_spelled digits hash e)) ∙ sym (text_is height hash)

space_is : (height : ℕ) (line rest : List ℕ) (found : Option (List ℕ)) → IsInFront (codes " ") rest found → line ≡ decimal height ++ rest → LineIs height line (option_and_then hash_of found)
space_is height line rest None space behind = tt
space_is height line rest (Some digits) space behind = digits_is height line rest digits (hash_of digits) refl behind space

number_is : (height : ℕ) (line : List ℕ) (found : Option (List ℕ)) → IsInFront (decimal height) line found
    → LineIs height line (option_and_then (λ rest. option_and_then hash_of (after (codes " ") rest)) found)
number_is height line None behind = tt
number_is height line (Some rest) behind = space_is height line rest (after (codes " ") rest) (after_takes (codes " ") rest) behind

line_is : (height : ℕ) (line : List ℕ) (few : Bool) → LineIs height line (cond few (numbered_digest height line) None)
line_is height line true = number_is height line (after (decimal height) line) (after_takes (decimal height) line)
line_is height line false = tt

-- bytes are the lines of what is read of them
abbrev AreLines : ℕ → List ℕ → Result (List (List ℕ)) ℕ → Type 0
AreLines height bytes (Err line) = Unit {0}
AreLines height bytes (Ok digests) = bytes ≡ lines_from height digests

no_bytes : (rest : List ℕ) → length rest ≡ 0 → rest ≡ []
no_bytes [] e = refl
no_bytes (b ∷ bs) e = absurd (omega (arith, e))

ended_is : (height : ℕ) (rest : List ℕ) (none : Bool) → (length rest == 0) ≡ none → AreLines height rest (cond none (Ok []) (Err (height + 1)))
ended_is height rest true e = no_bytes rest (eqb-true (length rest) 0 e)
ended_is height rest false e = tt

before_is : (height : ℕ) (line bytes : List ℕ) (digest : List ℕ) (others : Result (List (List ℕ)) ℕ) → line ≡ digest_text height digest → AreLines (height + 1) bytes others
    → AreLines height (line ++ (10 ∷ bytes)) (before (digest ∷ []) others)
before_is height line bytes digest (Err wrong) is told = tt
before_is height line bytes digest (Ok others) is told =
    sym (append_assoc line (10 ∷ []) bytes) ∙ ap (λ front. line_text front ++ bytes) is ∙ ap (λ back. line_text (digest_text height digest) ++ back) told

onward_is : (height : ℕ) (line bytes : List ℕ) (found : Option (List ℕ)) (others : Result (List (List ℕ)) ℕ) → LineIs height line found → AreLines (height + 1) bytes others
    → AreLines height (line ++ (10 ∷ bytes)) (onward height found others)
onward_is height line bytes None others is told = tt
onward_is height line bytes (Some digest) others is told = before_is height line bytes digest others is told

parts_are : (height : ℕ) (parts : List (List ℕ)) → AreLines height (join_with_byte 10 parts) (digests_from height parts)
parts_are height [] = refl
parts_are height (rest ∷ []) = ended_is height rest (length rest == 0) refl
parts_are height (line ∷ part ∷ parts) =
    onward_is height line (join_with_byte 10 (part ∷ parts)) (digest_at height line) (digests_from (height + 1) (part ∷ parts)) (line_is height line (nat_le height most_digests))
    (parts_are (height + 1) (part ∷ parts))

abbrev IsFile : List ℕ → Result (List (List ℕ)) ℕ → Type 0
IsFile bytes (Err line) = Unit {0}
IsFile bytes (Ok digests) = bytes ≡ digest_file false digests

lines_file : (line bytes : List ℕ) (found : Result (List (List ℕ)) ℕ) → line ≡ codes "digests 1" → AreLines 1 bytes found → IsFile (line ++ (10 ∷ bytes)) found
lines_file line bytes (Err wrong) is told = tt
lines_file line bytes (Ok digests) is told = sym (append_assoc line (10 ∷ []) bytes) ∙ ap (λ front. line_text front ++ bytes) is ∙ ap (λ back. line_text (codes "digests 1") ++ back) told

header_file : (line bytes : List ℕ) (found : Result (List (List ℕ)) ℕ) (right : Bool) → bytes_eq line (codes "digests 1") ≡ right → AreLines 1 bytes found → IsFile (line ++ (10 ∷ bytes)) (cond right found (Err 1))
header_file line bytes found true e told = lines_file line bytes found (equal_bytes line (codes "digests 1") e) told
header_file line bytes found false e told = tt

parts_file : (parts : List (List ℕ)) → IsFile (join_with_byte 10 parts) (digests_in parts)
parts_file [] = tt
parts_file (rest ∷ []) = tt
parts_file (line ∷ part ∷ parts) =
    header_file line (join_with_byte 10 (part ∷ parts)) (digests_from 1 (part ∷ parts)) (bytes_eq line (codes "digests 1")) refl (parts_are 1 (part ∷ parts))

pub file_spelled : FilesHaveOneText
file_spelled bytes digests e =
    subst (IsFile bytes) e (subst (λ (all : List ℕ). IsFile all (digests_of bytes)) (join_with_byte-slice_split 10 bytes) (parts_file (parts_of bytes)))

-- ---- what is written is read back

pub after_again : (front rest : List ℕ) → after front (front ++ rest) ≡ Some rest
after_again front rest =
    ap (λ taken. cond (bytes_eq taken front) (Some (drop (length front) (front ++ rest))) None) (take-append_seam front rest)
    ∙ ap (λ (same : Bool). cond same (Some (drop (length front) (front ++ rest))) None) (bytes_same front) ∙ ap Some (drop-append_seam front rest)

digest_again : (height : ℕ) (digest : List ℕ) → height ≤ most_digests → IsHash digest → digest_at height (digest_text height digest) ≡ Some digest
digest_again height digest few fine =
    ap (λ (low : Bool). cond low (numbered_digest height (digest_text height digest)) None) (le-leb height most_digests few)
    ∙ ap (numbered_digest height) (text_is height digest)
    ∙ ap (option_and_then (λ rest. option_and_then hash_of (after (codes " ") rest))) (after_again (decimal height) (codes " " ++ encode_lower digest))
    ∙ ap (option_and_then hash_of) (after_again (codes " ") (encode_lower digest)) ∙ hash_back digest fine

digest_plain : (height : ℕ) (digest : List ℕ) → height ≤ most_digests → plain (digest_text height digest) ≡ true
digest_plain height digest few =
    plain-append (decimal height ++ codes " ") (encode_lower digest) (plain-append (decimal height) (codes " ") (decimal_plain height (omega (arith, few))) refl) (digits_plain digest)

lines_again : (height : ℕ) (digests : List (List ℕ)) → height + length digests ≤ 1000001 → AllByRecursion IsHash digests → digests_from height (parts_of (lines_from height digests)) ≡ Ok digests
lines_again height [] few fine = refl
lines_again height (digest ∷ digests) few fine =
    let low : height ≤ most_digests = omega (arith, few) in
    ap (λ bytes. digests_from height (parts_of bytes)) (append_assoc (digest_text height digest) (10 ∷ []) (lines_from (height + 1) digests))
    ∙ ap (digests_from height) (parts_line (digest_text height digest) (lines_from (height + 1) digests) (digest_plain height digest low))
    ∙ from_line height (digest_text height digest) (parts_of (lines_from (height + 1) digests)) (parts_some (lines_from (height + 1) digests))
    ∙ ap (λ found. onward height found (digests_from (height + 1) (parts_of (lines_from (height + 1) digests)))) (digest_again height digest low fine.0)
    ∙ ap (before (digest ∷ [])) (lines_again (height + 1) digests (omega (arith, few)) fine.1)

pub file_again : FilesComeBack
file_again digests few fine =
    ap digests_in (parts_line (codes "digests 1") (lines_from 1 digests) refl)
    ∙ in_line (codes "digests 1") (parts_of (lines_from 1 digests)) (parts_some (lines_from 1 digests))
    ∙ lines_again 1 digests (omega (arith, few)) fine
