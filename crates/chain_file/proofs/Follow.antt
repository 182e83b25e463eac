-- What is known of the hashes after a line.
use Rattle.std.proofs.Common.{◌≡◌, ◌+◌, ℕ, List, [], ◌∷◌, ◌++◌, Bool, true, false, cond, Option, Some, None, length, refl, sym, ◌∙◌, ap, subst}
use Rattle.std.specs.Prelude.{nat_lt, Result, Ok, Err, codes}
use Rattle.std.specs.Str.{bytes_eq}
use Rattle.proc_syntax.specs.declared.call.Tx.{Tx}
use Rattle.proc_syntax.specs.declared.call.Block.{Block}
use Rattle.proc_syntax.specs.declared.chain_fault.ChainKind.{ChainKind}
use Rattle.proc_syntax.specs.declared.chain_fault.ChainKind.TheVariants as kind
use Rattle.tx_text.specs.Fields.{after, word, past_word}
use Rattle.tx_text.specs.Lines.{tx_of}
use Rattle.tx_text.specs.Parts.{line_text, is_long}
use Rattle.chain_file.specs.declared.hash.Hashes.{Hashes}
use Rattle.chain_file.specs.declared.form.FileForm.{FileForm}
use Rattle.chain_file.specs.declared.form.FileKind.{FileKind}
use Rattle.chain_file.specs.declared.form.FileKind.TheVariants as file
use Rattle.chain_file.specs.declared.form.ChainVersion.{ChainVersion}
use Rattle.chain_file.specs.declared.section.Section.{Section}
use Rattle.chain_file.specs.declared.section.Section.TheVariants as place
use Rattle.chain_file.specs.declared.section.Taken.{Taken}
use Rattle.chain_file.specs.declared.standing.LinePoint.{LinePoint}
use Rattle.chain_file.specs.Blocks.{block_of}
use Rattle.chain_file.specs.Headers.{form_said}
use Rattle.chain_file.specs.Steps.{add_tx, begins, begun_by, end_block, ends, goes_on as leaves_it, has_digits, has_form, hash_part, is_next, line_step, next_time, numbered, step, time_part, timed}
use Rattle.chain_file.specs.Chain.{Position, bytes_in, position_after, take_line, told}
use Rattle.chain_file.specs.Following.{IsHashed, Knows, Stands, kind_of}

-- a draft's lines ask for no hash
begin_known : (k : FileKind) (v : ChainVersion) (count before : ℕ) (h : Hashes) (digits known line : List ℕ) (long : Bool) → Knows k h digits known
    → cond long (Err kind.LineTooLong) (line_step (place.Between (record { kind = k; version = v }) count before) h.digits line)
    ≡ cond long (Err kind.LineTooLong) (line_step (place.Between (record { kind = k; version = v }) count before) digits line)
begin_known file.Draft v count before h digits known line long knows = refl
begin_known file.Chain v count before h digits known line long knows =
    ap (λ d. cond long (Err kind.LineTooLong) (line_step (place.Between (record { kind = file.Chain; version = v }) count before) d line)) knows.0

long_known : (p : Section) (h : Hashes) (digits known line : List ℕ) (long : Bool) → Knows (kind_of p) h digits known
    → cond long (Err kind.LineTooLong) (line_step p h.digits line) ≡ cond long (Err kind.LineTooLong) (line_step p digits line)
long_known place.Start h digits known line long knows = refl
long_known (place.Between f count time) h digits known line long knows = begin_known f.kind f.version count time h digits known line long knows
long_known (place.Within f count time txs) h digits known line long knows = refl

step_known : (p : Section) (h : Hashes) (digits known line : List ℕ) → Knows (kind_of p) h digits known → step p h.digits line ≡ step p digits line
step_known p h digits known line knows = long_known p h digits known line (is_long line) knows

-- what a line that stands here may leave: another place, and a block that it ended
abbrev pub Leaves : Section → Section → Option Block → Type 0
Leaves p place.Start ended = ⊥
Leaves p (place.Between f count time) None = p ≡ place.Start
Leaves p (place.Between f count time) (Some block) = kind_of p ≡ f.kind
Leaves p (place.Within f count time txs) None = kind_of p ≡ f.kind
Leaves p (place.Within f count time txs) (Some block) = ⊥

abbrev LeavesTaken : Section → Result Taken ChainKind → Type 0
LeavesTaken p (Err k) = Unit {0}
LeavesTaken p (Ok taken) = Leaves p taken.place taken.ended

header_leaves : (form : Option FileForm) → LeavesTaken place.Start (begins form)
header_leaves None = tt
header_leaves (Some f) = refl

timed_leaves : (f : FileForm) (count before : ℕ) (time : Option ℕ) → LeavesTaken (place.Between f count before) (timed f count time)
timed_leaves f count before None = tt
timed_leaves f count before (Some time) = refl

fields_leave : (f : FileForm) (count before : ℕ) (time : Option ℕ) (has_form next same : Bool)
    → LeavesTaken (place.Between f count before) (cond has_form (cond next (cond same (timed f count time) (Err kind.WrongPrev)) (Err kind.WrongNumber)) (Err kind.BadLine))
fields_leave f count before time true true true = timed_leaves f count before time
fields_leave f count before time true true false = tt
fields_leave f count before time true false same = tt
fields_leave f count before time false next same = tt

begin_leaves : (f : FileForm) (count before : ℕ) (digits : List ℕ) (rest : Option (List ℕ)) → LeavesTaken (place.Between f count before) (begun_by rest (numbered f count before digits))
begin_leaves f count before digits None = tt
begin_leaves f count before digits (Some rest) =
    let hash : List ℕ = hash_part f.kind (past_word rest) in
    let time : List ℕ = time_part f.kind (past_word rest) in
    fields_leave f count before (next_time f.version before time) (has_form f (word rest) hash time) (is_next count (word rest)) (has_digits f.kind digits hash)

ends_leaves : (f : FileForm) (count time : ℕ) (txs : List Tx) (next : ℕ) (block : Option Block) → LeavesTaken (place.Within f count time txs) (ends f next time block)
ends_leaves f count time txs next None = tt
ends_leaves f count time txs next (Some block) = refl

more_leaves : (f : FileForm) (count time : ℕ) (txs : List Tx) (tx : Tx) (test : Bool)
    → LeavesTaken (place.Within f count time txs) (cond test (Ok (leaves_it (place.Within f count time (txs ++ (tx ∷ []))))) (Err kind.TooManyTx))
more_leaves f count time txs tx true = refl
more_leaves f count time txs tx false = tt

tx_leaves : (f : FileForm) (count time : ℕ) (txs : List Tx) (found : Option Tx) → LeavesTaken (place.Within f count time txs) (add_tx f count time txs found)
tx_leaves f count time txs None = tt
tx_leaves f count time txs (Some tx) = more_leaves f count time txs tx (nat_lt (length txs) 1024)

inside_leaves : (f : FileForm) (count time : ℕ) (txs : List Tx) (line : List ℕ) (test : Bool)
    → LeavesTaken (place.Within f count time txs) (cond test (end_block f count time txs) (add_tx f count time txs (tx_of line)))
inside_leaves f count time txs line true = ends_leaves f count time txs (count + 1) (block_of (count + 1) time txs)
inside_leaves f count time txs line false = tx_leaves f count time txs (tx_of line)

line_leaves : (p : Section) (digits line : List ℕ) → LeavesTaken p (line_step p digits line)
line_leaves place.Start digits line = header_leaves (form_said line)
line_leaves (place.Between f count time) digits line = begin_leaves f count time digits (after (codes "block ") line)
line_leaves (place.Within f count time txs) digits line = inside_leaves f count time txs line (bytes_eq line (codes "end"))

long_leaves : (p : Section) (digits line : List ℕ) (long : Bool) → LeavesTaken p (cond long (Err kind.LineTooLong) (line_step p digits line))
long_leaves p digits line true = tt
long_leaves p digits line false = line_leaves p digits line

step_leaves : (p : Section) (digits line : List ℕ) (taken : Taken) → step p digits line ≡ Ok taken → Leaves p taken.place taken.ended
step_leaves p digits line taken told = subst (LeavesTaken p) told (long_leaves p digits line (is_long line))

-- ---- a line that is taken

-- what a chain knows of no bytes, a draft knows too
known_start : (k : FileKind) (h : Hashes) (digits bytes : List ℕ) → Knows file.Chain h digits bytes → Knows k h digits bytes
known_start file.Draft h digits bytes knows = tt
known_start file.Chain h digits bytes knows = knows

abbrev pub StandsBehind : ℕ → Section → Hashes → Position → Type 0
StandsBehind line next h at = (line ≡ at.line) × (next ≡ at.place) × (bytes_in at.place at.bytes ≡ at.bytes) × Knows (kind_of at.place) h at.digits at.bytes

goes_behind : (p next : Section) (ended : Option Block) (old new : Hashes) (line : ℕ) (digits bytes text : List ℕ) → Leaves p next ended → IsHashed old new next ended text
    → bytes_in p bytes ≡ bytes → Knows (kind_of p) old digits bytes → StandsBehind line next new (position_after line digits (bytes ++ line_text text) next ended)
goes_behind p place.Start ended old new line digits bytes text leaves is inside knows = absurd leaves
goes_behind p (place.Between f count time) None old new line digits bytes text leaves is inside knows =
    let start : Knows file.Chain old digits bytes = subst (λ (q : Section). Knows (kind_of q) old digits bytes) leaves knows in
    let none : bytes ≡ [] = sym (sym (ap (λ (q : Section). bytes_in q bytes) leaves) ∙ inside) in
    (refl, refl, refl, subst (λ (all : List ℕ). Knows f.kind new digits all) none (is digits bytes (known_start f.kind old digits bytes start)))
goes_behind p (place.Between f count time) (Some block) old new line digits bytes text leaves is inside knows =
    (refl, refl, refl, is digits bytes (subst (λ (k : FileKind). Knows k old digits bytes) leaves knows))
goes_behind p (place.Within f count time txs) None old new line digits bytes text leaves is inside knows =
    (refl, refl, refl, is digits bytes (subst (λ (k : FileKind). Knows k old digits bytes) leaves knows))
goes_behind p (place.Within f count time txs) (Some block) old new line digits bytes text leaves is inside knows = absurd leaves

-- the step of the code and the one that is meant
meant_step : (at : Position) (s : LinePoint) (h : Hashes) (text : List ℕ) → Stands s h at → step s.place h.digits text ≡ step at.place at.digits text
meant_step at s h text stands = ap (λ (p : Section). step p h.digits text) stands.1 ∙ step_known at.place h at.digits at.bytes text stands.3

pub goes_wrong : (at : Position) (s : LinePoint) (h : Hashes) (text : List ℕ) (k : ChainKind) → Stands s h at → step s.place h.digits text ≡ Err k → take_line at text ≡ Err (record { line = s.line; kind = k })
goes_wrong at s h text k stands is =
    ap (told at text) (sym (meant_step at s h text stands) ∙ is) ∙ ap (λ (n : ℕ). Err (record { line = n; kind = k })) (sym stands.0)

pub goes_on : (at : Position) (s : LinePoint) (old new : Hashes) (text : List ℕ) (taken : Taken) → Stands s old at → step s.place old.digits text ≡ Ok taken → IsHashed old new taken.place taken.ended text
    → (then : Position) × StandsBehind (s.line + 1) taken.place new then × (take_line at text ≡ Ok (then, taken.ended))
goes_on at s old new text taken stands is hashes =
    let meant : step at.place at.digits text ≡ Ok taken = sym (meant_step at s old text stands) ∙ is in
    let on = goes_behind at.place taken.place taken.ended old new (at.line + 1) at.digits at.bytes text (step_leaves at.place at.digits text taken meant) hashes stands.2 stands.3 in
    (position_after (at.line + 1) at.digits (at.bytes ++ line_text text) taken.place taken.ended, (ap (λ n. n + 1) stands.0 ∙ on.0, on.1, on.2, on.3), ap (told at text) meant)
