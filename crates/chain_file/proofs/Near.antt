-- No line stands too far from the start of its file.
use Rattle.std.proofs.Common.{◌≡◌, ◌≤◌, ◌<◌, ◌+◌, ◌*◌, ◌^◌, ℕ, List, [], ◌∷◌, ◌++◌, Bool, true, false, cond, Option, Some, None, length, refl, ◌∙◌, ap, subst, length-append, arith}
use Rattle.std.specs.Prelude.{◌&&◌, nat_le, nat_lt, Result, Ok, Err, codes, decimal}
use Rattle.std.specs.Str.{bytes_eq}
use Rattle.std.proofs.lemmas.Bool.{and_parts, and_from, le-leb, leb-true, lt-ltb, ltb-true}
use Rattle.proc_syntax.specs.declared.call.Tx.{Tx}
use Rattle.proc_syntax.specs.declared.call.Block.{Block}
use Rattle.tx_text.specs.Fields.{after, word, past_word}
use Rattle.tx_text.specs.Lines.{tx_of}
use Rattle.proc_syntax.specs.declared.chain_fault.ChainKind.{ChainKind}
use Rattle.proc_syntax.specs.declared.chain_fault.ChainKind.TheVariants as kind
use Rattle.chain_file.specs.declared.form.FileForm.{FileForm}
use Rattle.chain_file.specs.declared.section.Section.{Section}
use Rattle.chain_file.specs.declared.section.Section.TheVariants as place
use Rattle.chain_file.specs.declared.section.Taken.{Taken}
use Rattle.chain_file.specs.Blocks.{block_of}
use Rattle.chain_file.specs.Headers.{form_said}
use Rattle.chain_file.specs.Near.{is_near, is_within_near}
use Rattle.chain_file.specs.Steps.{add_tx, begins, begun_by, end_block, ends, goes_on, has_digits, has_form, hash_part, is_next, line_step, most_time, next_time, numbered, step, time_part, timed, HasRoomInChain}
use Rattle.tx_text.specs.Parts.{is_long}
use Rattle.chain_file.proofs.Times.{IsNext, next_is}

between_near : (f : FileForm) (line count time : ℕ) → count ≤ 1000000 → line ≤ count * 1026 + 2 → is_near line (place.Between f count time) ≡ true
between_near f line count time few low = and_from (nat_le count 1000000) (nat_le line (count * 1026 + 2)) (le-leb count 1000000 few) (le-leb line (count * 1026 + 2) low)

going_from : (line count time txs : ℕ) → count < 1000000 → txs ≤ 1024 → line ≤ count * 1026 + txs + 3 → time ≤ most_time → is_within_near line count time txs ≡ true
going_from line count time txs room few low fits =
    and_from (nat_lt count 1000000 && nat_le txs 1024 && nat_le line (count * 1026 + txs + 3)) (nat_le time most_time)
    (and_from (nat_lt count 1000000 && nat_le txs 1024) (nat_le line (count * 1026 + txs + 3))
    (and_from (nat_lt count 1000000) (nat_le txs 1024) (lt-ltb count 1000000 room) (le-leb txs 1024 few)) (le-leb line (count * 1026 + txs + 3) low))
    (le-leb time most_time fits)

pub going_parts : (line count time txs : ℕ) → is_within_near line count time txs ≡ true → (count < 1000000) × (txs ≤ 1024) × (line ≤ count * 1026 + txs + 3) × (time ≤ most_time)
going_parts line count time txs e =
    let all = and_parts (nat_lt count 1000000 && nat_le txs 1024 && nat_le line (count * 1026 + txs + 3)) (nat_le time most_time) e in
    let parts = and_parts (nat_lt count 1000000 && nat_le txs 1024) (nat_le line (count * 1026 + txs + 3)) all.0 in
    let more = and_parts (nat_lt count 1000000) (nat_le txs 1024) parts.0 in
    (ltb-true count 1000000 more.0, leb-true txs 1024 more.1, leb-true line (count * 1026 + txs + 3) parts.1, leb-true time most_time all.1)

between_facts : (f : FileForm) (line count time : ℕ) → is_near line (place.Between f count time) ≡ true → (count ≤ 1000000) × (line ≤ count * 1026 + 2)
between_facts f line count time e =
    let parts = and_parts (nat_le count 1000000) (nat_le line (count * 1026 + 2)) e in
    (leb-true count 1000000 parts.0, leb-true line (count * 1026 + 2) parts.1)

-- what a line leaves is near
abbrev IsNear : ℕ → Result Taken ChainKind → Type 0
IsNear line (Err k) = Unit {0}
IsNear line (Ok taken) = is_near line taken.place ≡ true

header_near : (line : ℕ) (form : Option FileForm) → line ≤ 1 → IsNear (line + 1) (begins form)
header_near line None low = tt
header_near line (Some f) low = between_near f (line + 1) 0 0 (omega arith) (omega (arith, low))

timed_near : (f : FileForm) (line count before : ℕ) (text : List ℕ) (time : Option ℕ) → count < 1000000 → line ≤ count * 1026 + 2 → IsNext f.version before text time → IsNear (line + 1) (timed f count time)
timed_near f line count before text None room low is = tt
timed_near f line count before text (Some time) room low is = going_from (line + 1) count time 0 room (omega arith) (omega (arith, low)) is.1

fields_near : (f : FileForm) (line count before : ℕ) (number text : List ℕ) (time : Option ℕ) (has_form next same : Bool) → line ≤ count * 1026 + 2 → is_next count number ≡ next
    → IsNext f.version before text time
    → IsNear (line + 1) (cond has_form (cond next (cond same (timed f count time) (Err kind.WrongPrev)) (Err kind.WrongNumber)) (Err kind.BadLine))
fields_near f line count before number text time true true true low e is =
    timed_near f line count before text time (ltb-true count 1000000 (and_parts (nat_lt count 1000000) (bytes_eq number (decimal (count + 1))) e).0) low is
fields_near f line count before number text time true true false low e is = tt
fields_near f line count before number text time true false same low e is = tt
fields_near f line count before number text time false next same low e is = tt

begin_near : (f : FileForm) (line count before : ℕ) (digits : List ℕ) (rest : Option (List ℕ)) → line ≤ count * 1026 + 2 → IsNear (line + 1) (begun_by rest (numbered f count before digits))
begin_near f line count before digits None low = tt
begin_near f line count before digits (Some rest) low =
    let hash : List ℕ = hash_part f.kind (past_word rest) in
    let time : List ℕ = time_part f.kind (past_word rest) in
    fields_near f line count before (word rest) time (next_time f.version before time) (has_form f (word rest) hash time) (is_next count (word rest)) (has_digits f.kind digits hash) low refl (next_is f.version before time)

ends_near : (f : FileForm) (line count time : ℕ) (block : Option Block) → count < 1000000 → line ≤ count * 1026 + 1027 → IsNear (line + 1) (ends f (count + 1) time block)
ends_near f line count time None room low = tt
ends_near f line count time (Some block) room low = between_near f (line + 1) (count + 1) time (omega (arith, room)) (omega (arith, low))

more_near : (f : FileForm) (line count time : ℕ) (txs : List Tx) (tx : Tx) (test : Bool) → count < 1000000 → line ≤ count * 1026 + length txs + 3 → time ≤ most_time → nat_lt (length txs) 1024 ≡ test
    → IsNear (line + 1) (cond test (Ok (goes_on (place.Within f count time (txs ++ (tx ∷ []))))) (Err kind.TooManyTx))
more_near f line count time txs tx true room low fits e =
    let less : length txs < 1024 = ltb-true (length txs) 1024 e in
    let longer : length (txs ++ (tx ∷ [])) ≡ length txs + 1 = length-append txs (tx ∷ []) in
    going_from (line + 1) count time (length (txs ++ (tx ∷ []))) room (omega (arith, less, longer)) (omega (arith, low, longer)) fits
more_near f line count time txs tx false room low fits e = tt

tx_near : (f : FileForm) (line count time : ℕ) (txs : List Tx) (found : Option Tx) → count < 1000000 → line ≤ count * 1026 + length txs + 3 → time ≤ most_time → IsNear (line + 1) (add_tx f count time txs found)
tx_near f line count time txs None room low fits = tt
tx_near f line count time txs (Some tx) room low fits = more_near f line count time txs tx (nat_lt (length txs) 1024) room low fits refl

inside_near : (f : FileForm) (line count time : ℕ) (txs : List Tx) (text : List ℕ) (test : Bool) → (count < 1000000) × (length txs ≤ 1024) × (line ≤ count * 1026 + length txs + 3) × (time ≤ most_time)
    → IsNear (line + 1) (cond test (end_block f count time txs) (add_tx f count time txs (tx_of text)))
inside_near f line count time txs text true h = ends_near f line count time (block_of (count + 1) time txs) h.0 (omega (arith, h.1, h.2))
inside_near f line count time txs text false h = tx_near f line count time txs (tx_of text) h.0 h.2 h.3

line_near : (line : ℕ) (at : Section) (digits text : List ℕ) → is_near line at ≡ true → IsNear (line + 1) (line_step at digits text)
line_near line place.Start digits text e = header_near line (form_said text) (leb-true line 1 e)
line_near line (place.Between f count time) digits text e = begin_near f line count time digits (after (codes "block ") text) (between_facts f line count time e).1
line_near line (place.Within f count time txs) digits text e = inside_near f line count time txs text (bytes_eq text (codes "end")) (going_parts line count time (length txs) e)

long_near : (line : ℕ) (at : Section) (digits text : List ℕ) (test : Bool) → is_near line at ≡ true → IsNear (line + 1) (cond test (Err kind.LineTooLong) (line_step at digits text))
long_near line at digits text true e = tt
long_near line at digits text false e = line_near line at digits text e

-- a line more is near
pub near_step : (line : ℕ) (at : Section) (digits text : List ℕ) (taken : Taken) → is_near line at ≡ true → step at digits text ≡ Ok taken → is_near (line + 1) taken.place ≡ true
near_step line at digits text taken e told = subst (IsNear (line + 1)) told (long_near line at digits text (is_long text) e)

-- its number has 64 bits, and a block that has begun is one of the 1,000,000, with a time that is an i64
pub near_low : (line : ℕ) (at : Section) → is_near line at ≡ true → line + 1 < 2 ^ 64
near_low line place.Start e = omega (arith, leb-true line 1 e)
near_low line (place.Between f count time) e = let facts = between_facts f line count time e in omega (arith, facts.0, facts.1)
near_low line (place.Within f count time txs) e = let facts = going_parts line count time (length txs) e in omega (arith, facts.0, facts.1, facts.2)

pub near_room : (line : ℕ) (at : Section) → is_near line at ≡ true → HasRoomInChain at
near_room line place.Start e = tt
near_room line (place.Between f count time) e = tt
near_room line (place.Within f count time txs) e = let facts = going_parts line count time (length txs) e in (facts.0, facts.3)

-- no line stands after the last one that a file can have
pub near_few : (line : ℕ) (at : Section) → is_near line at ≡ true → line ≤ 1026000002
near_few line place.Start e = omega (arith, leb-true line 1 e)
near_few line (place.Between f count time) e = let facts = between_facts f line count time e in omega (arith, facts.0, facts.1)
near_few line (place.Within f count time txs) e = let facts = going_parts line count time (length txs) e in omega (arith, facts.0, facts.1, facts.2)

-- ---- a block that goes on in a piece

-- its numbers have 64 bits
pub going_low : (line count time txs : ℕ) → is_within_near line count time txs ≡ true → line + 1 < 2 ^ 64
going_low line count time txs e = let facts = going_parts line count time txs e in omega (arith, facts.0, facts.1, facts.2)

pub going_count : (line count time txs : ℕ) → is_within_near line count time txs ≡ true → count + 1 < 2 ^ 64
going_count line count time txs e = let facts = going_parts line count time txs e in omega (arith, facts.0)

pub going_len : (line count time before txs : ℕ) → is_within_near line count time (before + txs) ≡ true → before + txs < 2 ^ 64
going_len line count time before txs e = let facts = going_parts line count time (before + txs) e in omega (arith, facts.1)

-- with a line more that is a transaction
pub going_more : (line count time before : ℕ) (txs more : List Tx) (tx : Tx) → is_within_near line count time (before + length txs) ≡ true → before + length txs < 1024 → more ≡ txs ++ (tx ∷ [])
    → is_within_near (line + 1) count time (before + length more) ≡ true
going_more line count time before txs more tx e few same =
    let facts = going_parts line count time (before + length txs) e in
    let longer : length more ≡ length txs + 1 = ap length same ∙ length-append txs (tx ∷ []) in
    going_from (line + 1) count time (before + length more) facts.0 (omega (arith, few, longer)) (omega (arith, facts.2, longer)) facts.3

-- after the line that ends it
pub going_ended : (f : FileForm) (line count time txs : ℕ) → is_within_near line count time txs ≡ true → is_near (line + 1) (place.Between f (count + 1) time) ≡ true
going_ended f line count time txs e =
    let facts = going_parts line count time txs e in
    between_near f (line + 1) (count + 1) time (omega (arith, facts.0)) (omega (arith, facts.1, facts.2))

-- with its transactions before the piece
pub going_few : (line count time before : ℕ) (kept txs : List Tx) → is_within_near line count time (before + length txs) ≡ true → before ≡ length kept → length (kept ++ txs) ≤ 1024
going_few line count time before kept txs e same =
    let facts = going_parts line count time (before + length txs) e in
    let both : length (kept ++ txs) ≡ length kept + length txs = length-append kept txs in
    omega (arith, facts.1, same, both)

-- its time is an i64
pub going_timed : (line count time txs : ℕ) → is_within_near line count time txs ≡ true → time ≤ most_time
going_timed line count time txs e = (going_parts line count time txs e).3

pub going_near : (line count time before : ℕ) (kept txs all : List Tx) → is_within_near line count time (before + length txs) ≡ true → before ≡ length kept → all ≡ kept ++ txs
    → is_within_near line count time (length all) ≡ true
going_near line count time before kept txs all e same is =
    let both : before + length txs ≡ length all = omega (arith, same, ap length is ∙ length-append kept txs) in
    subst (λ n. is_within_near line count time n ≡ true) both e

-- where a piece begins within it
pub going_begun : (f : FileForm) (line count time : ℕ) (p : Section) (txs more : List Tx) → is_near line p ≡ true → p ≡ place.Within f count time txs → more ≡ []
    → is_within_near line count time (length txs + length more) ≡ true
going_begun f line count time p txs more near is none =
    let at : is_within_near line count time (length txs) ≡ true = subst (λ (q : Section). is_near line q ≡ true) is near in
    let same : length txs ≡ length txs + length more = omega (arith, ap length none) in
    subst (λ n. is_within_near line count time n ≡ true) same at
