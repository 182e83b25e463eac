-- No line has the fault that the bytes end too early.
use Rattle.std.proofs.Common.{◌≡◌, ◌+◌, ℕ, List, [], ◌∷◌, ◌++◌, Bool, true, false, cond, Option, Some, None, length, refl, sym, ap}
use Rattle.std.specs.Prelude.{nat_lt, ◌==◌, ◌&&◌, codes, Result, Ok, Err}
use Rattle.std.specs.Str.{bytes_eq}
use Rattle.proc_syntax.specs.declared.call.Tx.{Tx}
use Rattle.proc_syntax.specs.declared.call.Block.{Block}
use Rattle.tx_text.specs.Fields.{after, word, past_word}
use Rattle.tx_text.specs.Lines.{tx_of}
use Rattle.proc_syntax.specs.declared.chain_fault.ChainFault.{ChainFault}
use Rattle.proc_syntax.specs.declared.chain_fault.ChainKind.{ChainKind}
use Rattle.proc_syntax.specs.declared.chain_fault.ChainKind.TheVariants as kind
use Rattle.chain_file.specs.declared.form.FileForm.{FileForm}
use Rattle.chain_file.specs.declared.section.Section.{Section}
use Rattle.chain_file.specs.declared.section.Section.TheVariants as place
use Rattle.chain_file.specs.declared.section.Taken.{Taken}
use Rattle.tx_text.specs.Parts.{parts_of, is_long}
use Rattle.chain_file.specs.Blocks.{block_of}
use Rattle.chain_file.specs.Headers.{form_said}
use Rattle.chain_file.specs.Steps.{add_tx, begins, begun_by, end_block, ends, goes_on, has_digits, has_form, hash_part, is_next, line_step, next_time, numbered, step, time_part, timed}
use Rattle.chain_file.specs.Chain.{Position, fault, told, take_line, onward, walk, walked, front, is_between, fault_at_end, is_cut, lasting}

-- any other fault
abbrev Lasts : {A : Type 0} → Result A ChainKind → Type 0
Lasts (Ok found) = Unit {0}
Lasts (Err k) = is_cut k ≡ false

header_lasts : (form : Option FileForm) → Lasts (begins form)
header_lasts None = refl
header_lasts (Some f) = tt

timed_lasts : (f : FileForm) (count : ℕ) (time : Option ℕ) → Lasts (timed f count time)
timed_lasts f count None = refl
timed_lasts f count (Some time) = tt

fields_last : (f : FileForm) (count : ℕ) (time : Option ℕ) (has_form next same : Bool)
    → Lasts (cond has_form (cond next (cond same (timed f count time) (Err kind.WrongPrev)) (Err kind.WrongNumber)) (Err kind.BadLine))
fields_last f count time true true true = timed_lasts f count time
fields_last f count time true true false = refl
fields_last f count time true false same = refl
fields_last f count time false next same = refl

begin_lasts : (f : FileForm) (count before : ℕ) (digits : List ℕ) (rest : Option (List ℕ)) → Lasts (begun_by rest (numbered f count before digits))
begin_lasts f count before digits None = refl
begin_lasts f count before digits (Some rest) =
    let hash : List ℕ = hash_part f.kind (past_word rest) in
    let time : List ℕ = time_part f.kind (past_word rest) in
    fields_last f count (next_time f.version before time) (has_form f (word rest) hash time) (is_next count (word rest)) (has_digits f.kind digits hash)

ends_lasts : (f : FileForm) (count time : ℕ) (block : Option Block) → Lasts (ends f count time block)
ends_lasts f count time None = refl
ends_lasts f count time (Some block) = tt

more_lasts : (f : FileForm) (count time : ℕ) (txs : List Tx) (test : Bool) → Lasts (cond test (Ok (goes_on (place.Within f count time txs))) (Err kind.TooManyTx))
more_lasts f count time txs true = tt
more_lasts f count time txs false = refl

tx_lasts : (f : FileForm) (count time : ℕ) (txs : List Tx) (found : Option Tx) → Lasts (add_tx f count time txs found)
tx_lasts f count time txs None = refl
tx_lasts f count time txs (Some tx) = more_lasts f count time (txs ++ (tx ∷ [])) (nat_lt (length txs) 1024)

inside_lasts : (f : FileForm) (count time : ℕ) (txs : List Tx) (line : List ℕ) (test : Bool) → Lasts (cond test (end_block f count time txs) (add_tx f count time txs (tx_of line)))
inside_lasts f count time txs line true = ends_lasts f (count + 1) time (block_of (count + 1) time txs)
inside_lasts f count time txs line false = tx_lasts f count time txs (tx_of line)

line_lasts : (at : Section) (digits line : List ℕ) → Lasts (line_step at digits line)
line_lasts place.Start digits line = header_lasts (form_said line)
line_lasts (place.Between f count time) digits line = begin_lasts f count time digits (after (codes "block ") line)
line_lasts (place.Within f count time txs) digits line = inside_lasts f count time txs line (bytes_eq line (codes "end"))

step_lasts : (at : Section) (digits line : List ℕ) (long : Bool) → Lasts (cond long (Err kind.LineTooLong) (line_step at digits line))
step_lasts at digits line true = refl
step_lasts at digits line false = line_lasts at digits line

-- a fault that was met before the bytes end
abbrev Stays : {A : Type 0} → Result A ChainFault → Type 0
Stays (Ok found) = Unit {0}
Stays (Err found) = is_cut found.kind ≡ false

told_stays : (at : Position) (line : List ℕ) (taken : Result Taken ChainKind) → Lasts taken → Stays (told at line taken)
told_stays at line (Ok taken) h = tt
told_stays at line (Err k) h = h

last_stays : (at : Position) (rest : List ℕ) (long : Bool) → Stays {A = Position × List ℕ} (cond long (Err (fault at kind.LineTooLong)) (Ok (at, rest)))
last_stays at rest true = refl
last_stays at rest false = tt

onward_stays : (taken : Result (Position × Option Block) ChainFault) (parts : List (List ℕ)) → Stays taken → ((at : Position) → Stays (walk at parts).1) → Stays (onward taken (λ at. walk at parts)).1
onward_stays (Err found) parts h more = h
onward_stays (Ok next) parts h more = more next.0

walk_stays : (parts : List (List ℕ)) (at : Position) → Stays (walk at parts).1
walk_stays [] at = tt
walk_stays (rest ∷ []) at = last_stays at rest (is_long rest)
walk_stays (line ∷ part ∷ parts) at =
    onward_stays (take_line at line) (part ∷ parts) (told_stays at line (step at.place at.digits line) (step_lasts at.place at.digits line (is_long line))) (walk_stays (part ∷ parts))

-- the fault that a line has
abbrev pub fault_so_far : Result (Position × List ℕ) ChainFault → Option ChainFault
fault_so_far (Err found) = Some found
fault_so_far (Ok known) = None

cut_lasts : (at : Position) (test : Bool) → None ≡ lasting (cond test None (Some (fault at kind.Truncated)))
cut_lasts at true = refl
cut_lasts at false = refl

met_lasts : (read : Result (Position × List ℕ) ChainFault) → Stays read → fault_so_far read ≡ lasting (fault_at_end read)
met_lasts (Err found) h = ap (λ cut. cond cut None (Some found)) (sym h)
met_lasts (Ok known) h = cut_lasts known.0 (is_between known.0.place && (length known.1 == 0))

-- the fault that was met is the one that no more bytes heal
pub so_far_lasts : (bytes : List ℕ) → fault_so_far (walked bytes).1 ≡ lasting (fault_at_end (walked bytes).1)
so_far_lasts bytes = met_lasts (walked bytes).1 (walk_stays (parts_of bytes) front)
