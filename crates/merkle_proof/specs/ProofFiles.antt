-- Proof files: `proof 1`, `count N`, `index I`, `write HEX`, a line `step HEX` for each hash of the path from the leaf upward, and `end`.
use Rattle.canon_code.specs.Writes.{write_at, write_code}
use Rattle.hex.specs.Hex.{encode_lower}
use Rattle.hex_digits.specs.Digits.{bytes_of, hash_of}
use Rattle.literals.specs.Number.{u64_at}
use Rattle.merkle_proof.specs.declared.proof.Proof.{Proof}
use Rattle.merkle_proof.specs.declared.proof_files.ProofFault.{ProofFault}
use Rattle.merkle_proof.specs.declared.proof_files.ProofFault.TheVariants as fault
use Rattle.rel_base.specs.declared.access.Placed.{Placed}
use Rattle.std.specs.List.{flat_map}
use Rattle.std.specs.Option.{option_and_then}
use Rattle.std.specs.Prelude.{Err, List, None, Ok, Option, Result, Some, [], codes, cond, decimal, length, nat_le, ◌&&◌, ◌+◌, ◌++◌, ◌==◌, ◌∷◌, ◌≡◌, ℕ}
use Rattle.std.specs.Str.{bytes_eq}
use Rattle.tx_text.specs.Fields.{after}
use Rattle.tx_text.specs.Parts.{line_text, parts_of}
use Rattle.tx_text.specs.Values.{alone}
use denote.Bor.{Bor}

-- ---- as they are written

abbrev pub step_text : List ℕ → List ℕ
step_text step = line_text (codes "step " ++ encode_lower step)

abbrev pub proof_file : Placed → Proof → List ℕ
proof_file write proof =
    line_text (codes "proof 1") ++ line_text (codes "count " ++ decimal proof.count) ++ line_text (codes "index " ++ decimal proof.index)
    ++ line_text (codes "write " ++ encode_lower (write_code write)) ++ flat_map step_text proof.path ++ line_text (codes "end")

-- ---- what a line says

-- the first line says nothing else
abbrev pub header_in : List ℕ → Option (Unit {0})
header_in line = cond (bytes_eq line (codes "proof 1")) (Some tt) None

-- a number that lies between two others
abbrev pub between : ℕ → ℕ → ℕ → Option ℕ
between low high number = cond (nat_le low number && nat_le number high) (Some number) None

-- behind a word, a number between two others, in canonical decimal
abbrev pub number_in : List ℕ → ℕ → ℕ → List ℕ → Option ℕ
number_in word low high line = option_and_then (λ digits. option_and_then (between low high) (option_and_then alone (u64_at digits))) (after word line)

-- the write whose code the bytes are
abbrev pub whole_write : List ℕ → Option Placed
whole_write bytes = option_and_then alone (write_at bytes)

abbrev pub write_in : List ℕ → Option Placed
write_in line = option_and_then (λ digits. option_and_then whole_write (bytes_of digits)) (after (codes "write ") line)

abbrev pub step_in : List ℕ → Option (List ℕ)
step_in line = option_and_then hash_of (after (codes "step ") line)

-- ---- how lines follow each other

-- the greatest number of four bytes
abbrev pub most_counted : ℕ
most_counted = 4294967295

-- the number of the last line that may be a step, the 32nd
abbrev pub last_step : ℕ
last_step = 36

infixl 10 ◌>>=◌
abbrev pub ◌>>=◌ : {A B : Type 0} → Result A ℕ → (A → Result B ℕ) → Result B ℕ
Ok x >>= f = f x
Err line >>= f = Err line

-- what a line of this number says, and the parts behind it; or that number, where it says nothing
abbrev pub said : {A : Type 0} → ℕ → Option A → List (List ℕ) → Result (A × List (List ℕ)) ℕ
said number None parts = Err number
said number (Some found) parts = Ok (found, parts)

-- the first of some parts, as a line of this number, which a newline ends
abbrev pub line_at : {A : Type 0} → ℕ → (List ℕ → Option A) → List (List ℕ) → Result (A × List (List ℕ)) ℕ
line_at number reading [] = Err number
line_at number reading (rest ∷ []) = Err number
line_at number reading (line ∷ part ∷ parts) = said number (reading line) (part ∷ parts)

-- nothing stands behind the last newline; else the number of the line there
abbrev pub ended : ℕ → List (List ℕ) → Result (List (List ℕ)) ℕ
ended number [] = Ok []
ended number (rest ∷ []) = cond (length rest == 0) (Ok []) (Err number)
ended number (line ∷ part ∷ parts) = Err number

-- steps before others
abbrev pub before : List (List ℕ) → Result (List (List ℕ)) ℕ → Result (List (List ℕ)) ℕ
before steps (Err line) = Err line
before steps (Ok others) = Ok (steps ++ others)

-- a step, and those that follow it
abbrev pub onward : ℕ → Option (List ℕ) → Result (List (List ℕ)) ℕ → Result (List (List ℕ)) ℕ
onward number None others = Err number
onward number (Some step) others = before (step ∷ []) others

-- a step may stand in a line of this number
abbrev pub step_at : ℕ → List ℕ → Option (List ℕ)
step_at number line = cond (nat_le number last_step) (step_in line) None

-- the steps from a line of this number on, up to `end`, which is the last line; or the number of the first bad one
abbrev pub steps_from : ℕ → List (List ℕ) → Result (List (List ℕ)) ℕ
steps_from number [] = Err number
steps_from number (rest ∷ []) = Err number
steps_from number (line ∷ part ∷ parts) =
    cond (bytes_eq line (codes "end")) (ended (number + 1) (part ∷ parts)) (onward number (step_at number line) (steps_from (number + 1) (part ∷ parts)))

-- the write and the proof of a whole file, or the number of its first bad line
abbrev pub proof_of_lines : List (List ℕ) → Result (Placed × Proof) ℕ
proof_of_lines lines = do
  header ← line_at 1 header_in lines
  count ← line_at 2 (number_in (codes "count ") 1 most_counted) header.1
  index ← line_at 3 (number_in (codes "index ") 1 count.0) count.1
  write ← line_at 4 write_in index.1
  path ← steps_from 5 write.1
  Ok (write.0, record { count = count.0; index = index.0; path = path })

abbrev pub proof_in : List ℕ → Result (Placed × Proof) ℕ
proof_in bytes = proof_of_lines (parts_of bytes)

-- ---- what a reader answers

-- a value, or the first bad line, exactly where that is meant, unless memory ran out
abbrev pub Gives : {A : Type 0} → Result A ProofFault → Result A ℕ → Type 0
Gives (Ok found) meant = meant ≡ Ok found
Gives (Err fault.NoMemory) meant = Unit {0}
Gives (Err (fault.Bad line)) meant = meant ≡ Err line

-- and the lines of what follows
abbrev pub Reads : {A : Type 0} → Result (A × Bor (List ℕ)) ProofFault → Result (A × List (List ℕ)) ℕ → Type 0
Reads (Ok found) meant = meant ≡ Ok (found.0, parts_of found.1.now)
Reads (Err fault.NoMemory) meant = Unit {0}
Reads (Err (fault.Bad line)) meant = meant ≡ Err line

-- the same of the first line
abbrev pub ReadsHeader : Result (Bor (List ℕ)) ProofFault → Result (Unit {0} × List (List ℕ)) ℕ → Type 0
ReadsHeader (Ok rest) meant = meant ≡ Ok (tt, parts_of rest.now)
ReadsHeader (Err fault.NoMemory) meant = Unit {0}
ReadsHeader (Err (fault.Bad line)) meant = meant ≡ Err line
