-- Block files: their blocks up to the first fault, and that fault.
use Rattle.std.specs.Prelude.{ℕ, List, [], ◌∷◌, ◌++◌, ◌+◌, ◌==◌, length, Bool, true, false, cond, ◌&&◌, Option, Some, None, Result, Ok, Err, codes}
use Rattle.sha2.specs.Sha256.{sha256}
use Rattle.hex.specs.Hex.{encode_lower}
use Rattle.proc_syntax.specs.declared.call.Block.{Block}
use Rattle.proc_syntax.specs.declared.chain_fault.ChainFault.{ChainFault}
use Rattle.proc_syntax.specs.declared.chain_fault.ChainKind.{ChainKind}
use Rattle.proc_syntax.specs.declared.chain_fault.ChainKind.TheVariants as kind
use Rattle.chain_file.specs.declared.section.Section.{Section}
use Rattle.chain_file.specs.declared.section.Section.TheVariants as place
use Rattle.chain_file.specs.declared.section.Taken.{Taken}
use Rattle.tx_text.specs.Parts.{parts_of, line_text, is_long}
use Rattle.chain_file.specs.Steps.{step}

-- what is known before a line: its number, where it stands, the digits of the hash of the block before, and the bytes of the
-- block that has begun, from its `block` line on
pub record Position : Type 0 where
  pub line : ℕ
  pub place : Section
  pub digits : List ℕ
  pub bytes : List ℕ

-- the hash that the first block of a chain names
abbrev pub no_digits : List ℕ
no_digits = codes "0000000000000000000000000000000000000000000000000000000000000000"

-- before the first line
abbrev pub front : Position
front = record { line = 1; place = place.Start; digits = no_digits; bytes = [] }

-- the hash of a block's bytes, as 64 hexadecimal digits
abbrev pub hash_digits : List ℕ → List ℕ
hash_digits bytes = encode_lower (sha256 bytes)

-- only a block that has begun has bytes
abbrev pub bytes_in : Section → List ℕ → List ℕ
bytes_in place.Start bytes = []
bytes_in (place.Between f count time) bytes = []
bytes_in (place.Within f count time txs) bytes = bytes

-- what is known before a line of this number, by whether the line before ended a block, of which these are the bytes so far
abbrev pub position_after : ℕ → List ℕ → List ℕ → Section → Option Block → Position
position_after line digits bytes next None = record { line = line; place = next; digits = digits; bytes = bytes_in next bytes }
position_after line digits bytes next (Some block) = record { line = line; place = next; digits = hash_digits bytes; bytes = [] }

-- a fault of this line
abbrev pub fault : Position → ChainKind → ChainFault
fault at k = record { line = at.line; kind = k }

-- a line: what is known before the next one and the block that it ended, or its fault
abbrev pub told : Position → List ℕ → Result Taken ChainKind → Result (Position × Option Block) ChainFault
told at line (Err k) = Err (fault at k)
told at line (Ok taken) = Ok (position_after (at.line + 1) at.digits (at.bytes ++ line_text line) taken.place taken.ended, taken.ended)

abbrev pub take_line : Position → List ℕ → Result (Position × Option Block) ChainFault
take_line at line = told at line (step at.place at.digits line)

-- blocks that ended, and then the first fault, or what is known before the last line and the bytes that it has so far
abbrev pub Walked : Type 0
Walked = List Block × Result (Position × List ℕ) ChainFault

-- the block that ended, if one did
abbrev pub ended_blocks : Option Block → List Block
ended_blocks None = []
ended_blocks (Some block) = block ∷ []

-- blocks before others
abbrev pub with_blocks : List Block → Walked → Walked
with_blocks blocks more = (blocks ++ more.0, more.1)

-- a line, and what the lines give that follow it
abbrev pub onward : Result (Position × Option Block) ChainFault → (Position → Walked) → Walked
onward (Err found) more = ([], Err found)
onward (Ok next) more = with_blocks (ended_blocks next.1) (more next.0)

-- the lines one after another, and the bytes after the last newline
abbrev pub walk : Position → List (List ℕ) → Walked
walk at [] = ([], Ok (at, []))
walk at (rest ∷ []) = ([], cond (is_long rest) (Err (fault at kind.LineTooLong)) (Ok (at, rest)))
walk at (line ∷ part ∷ parts) = onward (take_line at line) (λ next. walk next (part ∷ parts))

-- the file may end between blocks
abbrev pub is_between : Section → Bool
is_between place.Start = false
is_between (place.Between f count time) = true
is_between (place.Within f count time txs) = false

-- the first fault, where the bytes are the whole file
abbrev pub fault_at_end : Result (Position × List ℕ) ChainFault → Option ChainFault
fault_at_end (Err found) = Some found
fault_at_end (Ok (at, rest)) = cond (is_between at.place && (length rest == 0)) None (Some (fault at kind.Truncated))

-- the bytes end too early, which more bytes may heal
abbrev pub is_cut : ChainKind → Bool
is_cut kind.Truncated = true
is_cut _ = false

-- a fault that stays one, whatever bytes follow
abbrev pub lasting : Option ChainFault → Option ChainFault
lasting None = None
lasting (Some found) = cond (is_cut found.kind) None (Some found)

-- the blocks of a file and how far they go
abbrev pub walked : List ℕ → Walked
walked bytes = walk front (parts_of bytes)

-- how many bytes stand after the last newline, where no fault was met before
abbrev pub open_length : Result (Position × List ℕ) ChainFault → ℕ
open_length (Err found) = 0
open_length (Ok (at, rest)) = length rest

-- the blocks that ended before the first fault, and that fault
abbrev pub chain : List ℕ → List Block × Option ChainFault
chain bytes = ((walked bytes).0, fault_at_end (walked bytes).1)
