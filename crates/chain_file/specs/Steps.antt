-- The lines of a block file, one at a time, and the first fault of each.
use Rattle.std.specs.Prelude.{◌≡◌, ◌<◌, ◌≤◌, ℕ, List, [], ◌∷◌, ◌++◌, ◌+◌, ◌==◌, length, take, drop, Bool, true, false, cond, ◌&&◌, ◌||◌, nat_le, nat_lt, Option, Some, None, Result, Ok, Err, codes, decimal}
use Rattle.std.specs.Char.{is_ascii_digit}
use Rattle.std.specs.List.{list_all}
use Rattle.std.specs.Str.{bytes_eq}
use Rattle.literals.specs.Number.{is_canonical, number_after}
use Rattle.proc_syntax.specs.declared.call.Tx.{Tx}
use Rattle.proc_syntax.specs.declared.call.Block.{Block}
use Rattle.tx_text.specs.Fields.{is_space, after, word, past_word}
use Rattle.tx_text.specs.Lines.{tx_of}
use Rattle.tx_text.specs.Parts.{is_long}
use Rattle.proc_syntax.specs.declared.chain_fault.ChainKind.{ChainKind}
use Rattle.proc_syntax.specs.declared.chain_fault.ChainKind.TheVariants as kind
use Rattle.chain_file.specs.declared.form.ChainVersion.{ChainVersion}
use Rattle.chain_file.specs.declared.form.ChainVersion.TheVariants as version
use Rattle.chain_file.specs.declared.form.FileKind.{FileKind}
use Rattle.chain_file.specs.declared.form.FileKind.TheVariants as file
use Rattle.chain_file.specs.declared.form.FileForm.{FileForm}
use Rattle.chain_file.specs.declared.section.Section.{Section}
use Rattle.chain_file.specs.declared.section.Section.TheVariants as place
use Rattle.chain_file.specs.declared.section.Taken.{Taken}
use Rattle.chain_file.specs.declared.step.StepFault.{StepFault}
use Rattle.chain_file.specs.declared.step.StepFault.TheVariants as stop
use Rattle.chain_file.specs.Blocks.{block_of}
use Rattle.chain_file.specs.Headers.{form_said}
use Rattle.proc_syntax.specs.Limits.{most_blocks, most_transactions}

-- a line that ends no block
abbrev pub goes_on : Section → Taken
goes_on p = record { place = p; ended = None }

-- after the header, whose form is this
abbrev pub begins : Option FileForm → Result Taken ChainKind
begins None = Err kind.BadHeader
begins (Some f) = Ok (goes_on (place.Between f 0 0))

-- the first line is one of four
abbrev pub header : List ℕ → Result Taken ChainKind
header line = begins (form_said line)

-- a number in canonical decimal, of at most 20 digits
abbrev pub is_number : List ℕ → Bool
is_number text = nat_le (length text) 20 && list_all is_ascii_digit text && is_canonical text

-- a hexadecimal digit in lower case
abbrev pub is_hex : ℕ → Bool
is_hex b = is_ascii_digit b || (nat_le 97 b && nat_le b 102)

-- a space, and the 64 digits of a hash
abbrev pub is_hash_field : List ℕ → Bool
is_hash_field [] = false
is_hash_field (b ∷ bs) = is_space b && (length bs == 64) && list_all is_hex bs

-- a space, and a number
abbrev pub is_number_field : List ℕ → Bool
is_number_field [] = false
is_number_field (b ∷ bs) = is_space b && is_number bs

-- of what stands after the number of a block, in a chain the hash with its space
abbrev pub hash_part : FileKind → List ℕ → List ℕ
hash_part file.Draft rest = []
hash_part file.Chain rest = take 65 rest

-- and what follows it
abbrev pub time_part : FileKind → List ℕ → List ℕ
time_part file.Draft rest = rest
time_part file.Chain rest = drop 65 rest

-- a chain has a hash
abbrev pub has_hash : FileKind → List ℕ → Bool
has_hash file.Draft hash = true
has_hash file.Chain hash = is_hash_field hash

-- version 2 has a time, and version 1 has nothing there
abbrev pub has_time : ChainVersion → List ℕ → Bool
has_time version.One time = length time == 0
has_time version.Two time = is_number_field time

-- the fields of a `block` line have their forms
abbrev pub has_form : FileForm → List ℕ → List ℕ → List ℕ → Bool
has_form f number hash time = is_number number && has_hash f.kind hash && has_time f.version time

-- the number of the block that follows so many, of which there are at most 1,000,000
abbrev pub is_next : ℕ → List ℕ → Bool
is_next count text = nat_lt count most_blocks && bytes_eq text (decimal (count + 1))

-- the hash of a chain has these digits
abbrev pub has_digits : FileKind → List ℕ → List ℕ → Bool
has_digits file.Draft digits hash = true
has_digits file.Chain digits hash = bytes_eq hash (32 ∷ digits)

-- the greatest i64
abbrev pub most_time : ℕ
most_time = 9223372036854775807

-- the time of a block: what its line says after a space, and in version 1 it is 0
abbrev pub said_time : ChainVersion → List ℕ → ℕ
said_time version.One text = 0
said_time version.Two text = number_after 0 (drop 1 text)

-- it is not below that of the block before, nor above the greatest i64
abbrev pub next_time : ChainVersion → ℕ → List ℕ → Option ℕ
next_time v before text = cond (nat_le before (said_time v text) && nat_le (said_time v text) most_time) (Some (said_time v text)) None

-- a block begins, which has this time
abbrev pub timed : FileForm → ℕ → Option ℕ → Result Taken ChainKind
timed f count None = Err kind.WrongTime
timed f count (Some time) = Ok (goes_on (place.Within f count time []))

-- the fields of a `block` line, after so many blocks of which the last has this time: first their forms, then the number, the hash
-- and the time
abbrev pub fields_say : FileForm → ℕ → ℕ → List ℕ → List ℕ → List ℕ → List ℕ → Result Taken ChainKind
fields_say f count before digits number hash time =
    cond (has_form f number hash time)
    (cond (is_next count number)
    (cond (has_digits f.kind digits hash) (timed f count (next_time f.version before time)) (Err kind.WrongPrev))
    (Err kind.WrongNumber)) (Err kind.BadLine)

-- a `block` line, from the number on
abbrev pub numbered : FileForm → ℕ → ℕ → List ℕ → List ℕ → Result Taken ChainKind
numbered f count before digits rest = fields_say f count before digits (word rest) (hash_part f.kind (past_word rest)) (time_part f.kind (past_word rest))

-- a line that has to begin so
abbrev pub begun_by : Option (List ℕ) → (List ℕ → Result Taken ChainKind) → Result Taken ChainKind
begun_by None more = Err kind.BadLine
begun_by (Some rest) more = more rest

-- between blocks a line begins the next one
abbrev pub begin : FileForm → ℕ → ℕ → List ℕ → List ℕ → Result Taken ChainKind
begin f count before digits line = begun_by (after (codes "block ") line) (numbered f count before digits)

-- the block ends, which has at most 1,024 transactions, as the lines before saw to
abbrev pub ends : FileForm → ℕ → ℕ → Option Block → Result Taken ChainKind
ends f count time None = Err kind.TooManyTx
ends f count time (Some block) = Ok (record { place = place.Between f count time; ended = Some block })

-- in a block: `end` ends it
abbrev pub end_block : FileForm → ℕ → ℕ → List Tx → Result Taken ChainKind
end_block f count time txs = ends f (count + 1) time (block_of (count + 1) time txs)

-- and another line is a transaction, at most the 1,024th
abbrev pub add_tx : FileForm → ℕ → ℕ → List Tx → Option Tx → Result Taken ChainKind
add_tx f count time txs None = Err kind.BadLine
add_tx f count time txs (Some tx) = cond (nat_lt (length txs) most_transactions) (Ok (goes_on (place.Within f count time (txs ++ (tx ∷ []))))) (Err kind.TooManyTx)

-- a line in a block
abbrev pub within : FileForm → ℕ → ℕ → List Tx → List ℕ → Result Taken ChainKind
within f count time txs line = cond (bytes_eq line (codes "end")) (end_block f count time txs) (add_tx f count time txs (tx_of line))

-- a line of any length, by where it stands; the digits are those that a hash has there
abbrev pub line_step : Section → List ℕ → List ℕ → Result Taken ChainKind
line_step place.Start digits line = header line
line_step (place.Between f count time) digits line = begin f count time digits line
line_step (place.Within f count time txs) digits line = within f count time txs line

-- a line
abbrev pub step : Section → List ℕ → List ℕ → Result Taken ChainKind
step at digits line = cond (is_long line) (Err kind.LineTooLong) (line_step at digits line)

-- a block that has begun is at most the 1,000,000th, and its time is an i64
abbrev pub HasRoomInChain : Section → Type 0
HasRoomInChain place.Start = Unit {0}
HasRoomInChain (place.Between f count time) = Unit {0}
HasRoomInChain (place.Within f count time txs) = (count < most_blocks) × (time ≤ most_time)

-- what the code answers, against what is meant: the same, unless memory ran out
abbrev pub GivesStep : Result Taken StepFault → Result Taken ChainKind → Type 0
GivesStep (Ok taken) meant = meant ≡ Ok taken
GivesStep (Err stop.NoMemory) meant = Unit {0}
GivesStep (Err (stop.Kind k)) meant = meant ≡ Err k
