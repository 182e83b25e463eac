-- The blocks before the first fault are numbered from 1, and their times never fall; in version 1 each is 0.
use Rattle.std.proofs.Common.{◌≡◌, ◌≤◌, ◌+◌, ℕ, pos, List, [], ◌∷◌, ◌++◌, Bool, true, false, cond, Option, Some, None, length, refl, sym, ◌∙◌, ap, subst, arith}
use Rattle.std.specs.Prelude.{ℤ, int_le, nat_lt, codes, Result, Ok, Err}
use Rattle.std.specs.Option.{option_map}
use Rattle.std.specs.Str.{bytes_eq}
use Rattle.std.proofs.lemmas.Bool.{le-leb}
use Rattle.proc_syntax.specs.declared.call.Tx.{Tx}
use Rattle.proc_syntax.specs.declared.call.Block.{Block}
use Rattle.proc_syntax.specs.declared.chain_fault.ChainKind.{ChainKind}
use Rattle.proc_syntax.specs.declared.chain_fault.ChainKind.TheVariants as kind
use Rattle.chain_file.specs.declared.form.ChainVersion.{ChainVersion}
use Rattle.chain_file.specs.declared.form.ChainVersion.TheVariants as version
use Rattle.chain_file.specs.declared.form.FileForm.{FileForm}
use Rattle.chain_file.specs.declared.section.Section.{Section}
use Rattle.chain_file.specs.declared.section.Section.TheVariants as place
use Rattle.chain_file.specs.declared.section.Taken.{Taken}
use Rattle.tx_text.specs.Fields.{after, word, past_word}
use Rattle.tx_text.specs.Lines.{tx_of}
use Rattle.tx_text.specs.Parts.{parts_of, line_text, is_long}
use Rattle.chain_file.specs.Numbered.{HaveNoTimes, NumberedFrom, TimesFrom}
use Rattle.chain_file.specs.Blocks.{block_of}
use Rattle.chain_file.specs.Headers.{form_first, form_said, version_of}
use Rattle.chain_file.specs.Steps.{add_tx, begins, begun_by, end_block, ends, goes_on, has_digits, has_form, hash_part, is_next, line_step, next_time, numbered, said_time, step, time_part, timed}
use Rattle.chain_file.specs.Chain.{Position, chain, front, onward, position_after, told, walk}
use Rattle.chain_file.proofs.Blocks.{Holds, IsOf, block_is}
use Rattle.chain_file.proofs.Times.{IsNext, next_is}

-- how many blocks ended, and the time of the last one or of the block that has begun
abbrev count_at : Section → ℕ
count_at place.Start = 0
count_at (place.Between f count time) = count
count_at (place.Within f count time txs) = count

abbrev time_at : Section → ℕ
time_at place.Start = 0
time_at (place.Between f count time) = time
time_at (place.Within f count time txs) = time

-- in a file of version 1 the time is 0
abbrev IsUntimed : Section → Type 0
IsUntimed place.Start = ⊥
IsUntimed (place.Between f count time) = (f.version ≡ version.One) × (time ≡ 0)
IsUntimed (place.Within f count time txs) = (f.version ≡ version.One) × (time ≡ 0)

-- a line ends no block, or the next one, and the time does not fall
abbrev EndsNext : Section → Section → Option Block → Type 0
EndsNext p next None = (count_at next ≡ count_at p) × (time_at p ≤ time_at next) × (IsUntimed p → IsUntimed next)
EndsNext p next (Some block) =
    (block.number ≡ count_at p + 1) × (count_at next ≡ count_at p + 1) × (block.time ≡ pos (time_at next)) × (time_at p ≤ time_at next) × (IsUntimed p → IsUntimed next)

abbrev Counts : Section → Result Taken ChainKind → Type 0
Counts p (Err k) = Unit {0}
Counts p (Ok taken) = EndsNext p taken.place taken.ended

header_counts : (form : Option FileForm) → Counts place.Start (begins form)
header_counts None = tt
header_counts (Some f) = (refl, omega arith, λ no. absurd no)

timed_counts : (f : FileForm) (count before : ℕ) (text : List ℕ) (time : Option ℕ) → IsNext f.version before text time → Counts (place.Between f count before) (timed f count time)
timed_counts f count before text None is = tt
timed_counts f count before text (Some time) is = (refl, is.0, λ none. (none.0, is.2 ∙ ap (λ v. said_time v text) none.0))

fields_count : (f : FileForm) (count before : ℕ) (text : List ℕ) (time : Option ℕ) (has_form next same : Bool) → IsNext f.version before text time
    → Counts (place.Between f count before) (cond has_form (cond next (cond same (timed f count time) (Err kind.WrongPrev)) (Err kind.WrongNumber)) (Err kind.BadLine))
fields_count f count before text time true true true is = timed_counts f count before text time is
fields_count f count before text time true true false is = tt
fields_count f count before text time true false same is = tt
fields_count f count before text time false next same is = tt

begin_counts : (f : FileForm) (count before : ℕ) (digits : List ℕ) (rest : Option (List ℕ)) → Counts (place.Between f count before) (begun_by rest (numbered f count before digits))
begin_counts f count before digits None = tt
begin_counts f count before digits (Some rest) =
    let hash : List ℕ = hash_part f.kind (past_word rest) in
    let time : List ℕ = time_part f.kind (past_word rest) in
    fields_count f count before time (next_time f.version before time) (has_form f (word rest) hash time) (is_next count (word rest)) (has_digits f.kind digits hash) (next_is f.version before time)

ends_counts : (f : FileForm) (count time : ℕ) (txs : List Tx) (block : Option Block) → Holds (IsOf (count + 1) time txs) block → Counts (place.Within f count time txs) (ends f (count + 1) time block)
ends_counts f count time txs None is = tt
ends_counts f count time txs (Some block) is = (is.0, refl, is.1, omega arith, λ none. none)

more_counts : (f : FileForm) (count time : ℕ) (txs more : List Tx) (test : Bool) → Counts (place.Within f count time txs) (cond test (Ok (goes_on (place.Within f count time more))) (Err kind.TooManyTx))
more_counts f count time txs more true = (refl, omega arith, λ none. none)
more_counts f count time txs more false = tt

tx_counts : (f : FileForm) (count time : ℕ) (txs : List Tx) (found : Option Tx) → Counts (place.Within f count time txs) (add_tx f count time txs found)
tx_counts f count time txs None = tt
tx_counts f count time txs (Some tx) = more_counts f count time txs (txs ++ (tx ∷ [])) (nat_lt (length txs) 1024)

inside_counts : (f : FileForm) (count time : ℕ) (txs : List Tx) (line : List ℕ) (test : Bool)
    → Counts (place.Within f count time txs) (cond test (end_block f count time txs) (add_tx f count time txs (tx_of line)))
inside_counts f count time txs line true = ends_counts f count time txs (block_of (count + 1) time txs) (block_is (count + 1) time txs)
inside_counts f count time txs line false = tx_counts f count time txs (tx_of line)

line_counts : (at : Section) (digits line : List ℕ) → Counts at (line_step at digits line)
line_counts place.Start digits line = header_counts (form_said line)
line_counts (place.Between f count time) digits line = begin_counts f count time digits (after (codes "block ") line)
line_counts (place.Within f count time txs) digits line = inside_counts f count time txs line (bytes_eq line (codes "end"))

step_counts : (at : Section) (digits line : List ℕ) (long : Bool) → Counts at (cond long (Err kind.LineTooLong) (line_step at digits line))
step_counts at digits line true = tt
step_counts at digits line false = line_counts at digits line

-- ---- what follows a line

abbrev IsCounted : ℕ → ℕ → List Block → Type 0
IsCounted n t blocks = NumberedFrom (n + 1) blocks × TimesFrom (pos t) blocks

-- the lines that are left, from a position on
abbrev AllCount : List (List ℕ) → Type 0
AllCount parts = (n t : ℕ) (at : Position) → count_at at.place ≡ n → t ≤ time_at at.place → IsCounted n t (walk at parts).0

no_lower : (t now : ℕ) (z : ℤ) → z ≡ pos now → t ≤ now → int_le (pos t) z ≡ true
no_lower t now z is low = subst (λ (y : ℤ). int_le (pos t) y ≡ true) (sym is) (le-leb t now low)

one_more : (n t now : ℕ) (block : Block) (blocks : List Block) → block.number ≡ n + 1 → block.time ≡ pos now → t ≤ now → IsCounted (n + 1) now blocks → IsCounted n t (block ∷ blocks)
one_more n t now block blocks number time low rest =
    ((number, rest.0), (no_lower t now block.time time low, subst (λ (z : ℤ). TimesFrom z blocks) (sym time) rest.1))

after_counts : (n t : ℕ) (p : Section) (line : ℕ) (digits bytes : List ℕ) (next : Section) (ended : Option Block) (parts : List (List ℕ)) → count_at p ≡ n → t ≤ time_at p
    → EndsNext p next ended → AllCount parts → IsCounted n t (onward (Ok (position_after line digits bytes next ended, ended)) (λ at. walk at parts)).0
after_counts n t p line digits bytes next None parts e low is more = more n t (position_after line digits bytes next None) (is.0 ∙ e) (omega (arith, low, is.1))
after_counts n t p line digits bytes next (Some block) parts e low is more =
    let at : Position = position_after line digits bytes next (Some block) in
    one_more n t (time_at next) block (walk at parts).0 (is.0 ∙ ap (λ m. m + 1) e) is.2 (omega (arith, low, is.3)) (more (n + 1) (time_at next) at (is.1 ∙ ap (λ m. m + 1) e) (omega arith))

told_counts : (n t : ℕ) (at : Position) (line : List ℕ) (parts : List (List ℕ)) (taken : Result Taken ChainKind) → count_at at.place ≡ n → t ≤ time_at at.place → Counts at.place taken
    → AllCount parts → IsCounted n t (onward (told at line taken) (λ next. walk next parts)).0
told_counts n t at line parts (Err k) e low counts more = (tt, tt)
told_counts n t at line parts (Ok taken) e low counts more =
    after_counts n t at.place (at.line + 1) at.digits (at.bytes ++ line_text line) taken.place taken.ended parts e low counts more

walk_counts : (parts : List (List ℕ)) → AllCount parts
walk_counts [] n t at e low = (tt, tt)
walk_counts (rest ∷ []) n t at e low = (tt, tt)
walk_counts (line ∷ part ∷ parts) n t at e low =
    told_counts n t at line (part ∷ parts) (step at.place at.digits line) e low (step_counts at.place at.digits line (is_long line)) (walk_counts (part ∷ parts))

pub file_numbered : (bytes : List ℕ) → NumberedFrom 1 (chain bytes).0
file_numbered bytes = (walk_counts (parts_of bytes) 0 0 front refl (omega arith)).0

pub file_timed : (bytes : List ℕ) → TimesFrom (pos 0) (chain bytes).0
file_timed bytes = (walk_counts (parts_of bytes) 0 0 front refl (omega arith)).1

-- ---- version 1

abbrev AllUntimed : List (List ℕ) → Type 0
AllUntimed parts = (at : Position) → IsUntimed at.place → HaveNoTimes (walk at parts).0

zero_time : (p : Section) → IsUntimed p → time_at p ≡ 0
zero_time place.Start none = absurd none
zero_time (place.Between f count time) none = none.1
zero_time (place.Within f count time txs) none = none.1

after_untimed : (p : Section) (line : ℕ) (digits bytes : List ℕ) (next : Section) (ended : Option Block) (parts : List (List ℕ)) → IsUntimed p → EndsNext p next ended → AllUntimed parts
    → HaveNoTimes (onward (Ok (position_after line digits bytes next ended, ended)) (λ at. walk at parts)).0
after_untimed p line digits bytes next None parts none is more = more (position_after line digits bytes next None) (is.2 none)
after_untimed p line digits bytes next (Some block) parts none is more =
    (is.2 ∙ ap (λ n. pos n) (zero_time next (is.4 none)), more (position_after line digits bytes next (Some block)) (is.4 none))

told_untimed : (at : Position) (line : List ℕ) (parts : List (List ℕ)) (taken : Result Taken ChainKind) → IsUntimed at.place → Counts at.place taken → AllUntimed parts
    → HaveNoTimes (onward (told at line taken) (λ next. walk next parts)).0
told_untimed at line parts (Err k) none counts more = tt
told_untimed at line parts (Ok taken) none counts more =
    after_untimed at.place (at.line + 1) at.digits (at.bytes ++ line_text line) taken.place taken.ended parts none counts more

walk_untimed : (parts : List (List ℕ)) → AllUntimed parts
walk_untimed [] at none = tt
walk_untimed (rest ∷ []) at none = tt
walk_untimed (line ∷ part ∷ parts) at none =
    told_untimed at line (part ∷ parts) (step at.place at.digits line) none (step_counts at.place at.digits line (is_long line)) (walk_untimed (part ∷ parts))

-- after the header
abbrev version_in : Option FileForm → Option ChainVersion
version_in form = option_map (λ f. f.version) form

header_untimed : (line : List ℕ) (parts : List (List ℕ)) (long : Bool) (form : Option FileForm) → version_in form ≡ Some version.One
    → HaveNoTimes (onward (told front line (cond long (Err kind.LineTooLong) (begins form))) (λ next. walk next parts)).0
header_untimed line parts true form is = tt
header_untimed line parts false None is = tt
header_untimed line parts false (Some f) is =
    let one : f.version ≡ version.One = cc in
    walk_untimed parts (position_after 2 front.digits ([] ++ line_text line) (place.Between f 0 0) None) (one, refl)

first_untimed : (parts : List (List ℕ)) → version_in (form_first parts) ≡ Some version.One → HaveNoTimes (walk front parts).0
first_untimed [] is = tt
first_untimed (rest ∷ []) is = tt
first_untimed (line ∷ part ∷ parts) is = header_untimed line (part ∷ parts) (is_long line) (form_said line) is

pub file_untimed : (bytes : List ℕ) → version_of bytes ≡ Some version.One → HaveNoTimes (chain bytes).0
file_untimed bytes is = first_untimed (parts_of bytes) is
