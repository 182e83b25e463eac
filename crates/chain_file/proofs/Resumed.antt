-- A piece that goes on with a block that began before it.
use Rattle.std.proofs.Common.{◌≡◌, ◌+◌, ℕ, List, [], ◌∷◌, ◌++◌, Bool, true, false, cond, Option, Some, None, length, refl, sym, ◌∙◌, ap, subst, append_assoc, length-append}
use Rattle.std.specs.Prelude.{nat_lt, Result, Ok, Err, codes}
use Rattle.std.specs.Str.{bytes_eq}
use Rattle.std.proofs.Math.Bool.{Bool-set}
use Rattle.std.proofs.lemmas.List.{append-nil}
use Rattle.proc_syntax.specs.declared.call.Tx.{Tx}
use Rattle.proc_syntax.specs.declared.call.Block.{Block}
use Rattle.proc_syntax.specs.declared.chain_fault.ChainKind.{ChainKind}
use Rattle.proc_syntax.specs.declared.chain_fault.ChainKind.TheVariants as kind
use Rattle.tx_text.specs.Lines.{tx_of}
use Rattle.tx_text.specs.Parts.{parts_of, line_text, is_long}
use Rattle.chain_file.specs.declared.form.FileForm.{FileForm}
use Rattle.chain_file.specs.declared.section.Section.{Section}
use Rattle.chain_file.specs.declared.section.Section.TheVariants as place
use Rattle.chain_file.specs.declared.section.Taken.{Taken}
use Rattle.chain_file.specs.declared.going.Going.{Going}
use Rattle.chain_file.specs.declared.hash.Hashes.{Hashes}
use Rattle.chain_file.specs.declared.standing.LinePoint.{LinePoint}
use Rattle.chain_file.specs.declared.reader.ReadBlocks.{ReadBlocks}
use Rattle.chain_file.specs.declared.resume.More.TheVariants as more
use Rattle.chain_file.specs.Blocks.{block_of}
use Rattle.chain_file.specs.Near.{is_near}
use Rattle.chain_file.specs.Onward.{next_tx, told_within}
use Rattle.chain_file.specs.Steps.{goes_on, add_tx, end_block, ends, step, within}
use Rattle.chain_file.specs.Chain.{Position, told, take_line, ended_blocks, with_blocks, walk}
use Rattle.chain_file.specs.Following.{Knows, Reads, kind_of}
use Rattle.chain_file.specs.Resumed.{Resumes, behind_end, going_at, txs_in}
use Rattle.chain_file.proofs.Blocks.{some_block}
use Rattle.chain_file.proofs.Near.{going_few}
use Rattle.chain_file.proofs.Walking.{walk_fault, walk_on}

-- what a line in a block leaves, by what it says
abbrev said : FileForm → ℕ → ℕ → List Tx → Result (Option Tx) ChainKind → Result Taken ChainKind
said f count time txs (Err k) = Err k
said f count time txs (Ok None) = end_block f count time txs
said f count time txs (Ok (Some tx)) = Ok (goes_on (place.Within f count time (txs ++ (tx ∷ []))))

said_few : (f : FileForm) (count time : ℕ) (txs : List Tx) (tx : Tx) (test : Bool)
    → cond test (Ok (goes_on (place.Within f count time (txs ++ (tx ∷ []))))) (Err kind.TooManyTx) ≡ said f count time txs (cond test (Ok (Some tx)) (Err kind.TooManyTx))
said_few f count time txs tx true = refl
said_few f count time txs tx false = refl

said_tx : (f : FileForm) (count time : ℕ) (txs : List Tx) (found : Option Tx) → add_tx f count time txs found ≡ said f count time txs (next_tx (length txs) found)
said_tx f count time txs None = refl
said_tx f count time txs (Some tx) = said_few f count time txs tx (nat_lt (length txs) 1024)

said_inside : (f : FileForm) (count time : ℕ) (txs : List Tx) (line : List ℕ) (test : Bool)
    → cond test (end_block f count time txs) (add_tx f count time txs (tx_of line)) ≡ said f count time txs (cond test (Ok None) (next_tx (length txs) (tx_of line)))
said_inside f count time txs line true = refl
said_inside f count time txs line false = said_tx f count time txs (tx_of line)

said_line : (f : FileForm) (count time : ℕ) (txs : List Tx) (line : List ℕ) (long : Bool)
    → cond long (Err kind.LineTooLong) (within f count time txs line)
    ≡ said f count time txs (cond long (Err kind.LineTooLong) (cond (bytes_eq line (codes "end")) (Ok None) (next_tx (length txs) (tx_of line))))
said_line f count time txs line true = refl
said_line f count time txs line false = said_inside f count time txs line (bytes_eq line (codes "end"))

step_said : (f : FileForm) (count time : ℕ) (txs : List Tx) (digits line : List ℕ) → step (place.Within f count time txs) digits line ≡ said f count time txs (told_within (length txs) line)
step_said f count time txs digits line = said_line f count time txs line (is_long line)

told_going : (kept : List Tx) (g : Going) (digits bytes line : List ℕ) (saying : Result (Option Tx) ChainKind) → g.before ≡ length kept → told_within (g.before + length g.txs) line ≡ saying
    → take_line (going_at kept g digits bytes) line ≡ told (going_at kept g digits bytes) line (said g.form g.count g.time (kept ++ g.txs) saying)
told_going kept g digits bytes line saying before e =
    let many : length (kept ++ g.txs) ≡ g.before + length g.txs = length-append kept g.txs ∙ ap (λ n. n + length g.txs) (sym before) in
    ap (told (going_at kept g digits bytes) line)
    (step_said g.form g.count g.time (kept ++ g.txs) digits line ∙ ap (λ n. said g.form g.count g.time (kept ++ g.txs) (told_within n line)) many ∙ ap (said g.form g.count g.time (kept ++ g.txs)) e)

-- ---- the three kinds of lines

abbrev pub at_line : ℕ → Section → List ℕ → List ℕ → Position
at_line line p digits bytes = record { line = line; place = p; digits = digits; bytes = bytes }

same_at : (l m : ℕ) (p q : Section) (d e bytes : List ℕ) → l ≡ m → p ≡ q → d ≡ e → at_line l p d bytes ≡ at_line m q e bytes
same_at l m p q d e bytes lines places digits =
    ap (λ n. at_line n p d bytes) lines ∙ ap (λ r. at_line m r d bytes) places ∙ ap (λ f. at_line m q f bytes) digits

-- the block after a line more
pub record GoesOn (g next : Going) (tx : Tx) : Type 0 where
  pub form : next.form ≡ g.form
  pub count : next.count ≡ g.count
  pub time : next.time ≡ g.time
  pub line : next.line ≡ g.line + 1
  pub txs : next.txs ≡ g.txs ++ (tx ∷ [])

within_on : (kept : List Tx) (g next : Going) (tx : Tx) → GoesOn g next tx → place.Within g.form g.count g.time ((kept ++ g.txs) ++ (tx ∷ [])) ≡ place.Within next.form next.count next.time (kept ++ next.txs)
within_on kept g next tx on =
    ap (λ all. place.Within g.form g.count g.time all) (append_assoc kept g.txs (tx ∷ []) ∙ ap (λ some. kept ++ some) (sym on.txs))
    ∙ ap (λ f. place.Within f g.count g.time (kept ++ next.txs)) (sym on.form) ∙ ap (λ n. place.Within next.form n g.time (kept ++ next.txs)) (sym on.count)
    ∙ ap (λ t. place.Within next.form next.count t (kept ++ next.txs)) (sym on.time)

going_on : (kept : List Tx) (g next : Going) (tx : Tx) (digits bytes line : List ℕ) → g.before ≡ length kept → told_within (g.before + length g.txs) line ≡ Ok (Some tx) → GoesOn g next tx
    → take_line (going_at kept g digits bytes) line ≡ Ok (going_at kept next digits (bytes ++ line_text line), None)
going_on kept g next tx digits bytes line before e on =
    told_going kept g digits bytes line (Ok (Some tx)) before e
    ∙ ap (λ (at : Position). Ok (at, None))
    (same_at (g.line + 1) next.line (place.Within g.form g.count g.time ((kept ++ g.txs) ++ (tx ∷ []))) (place.Within next.form next.count next.time (kept ++ next.txs)) digits digits (bytes ++ line_text line)
    (sym on.line) (within_on kept g next tx on) refl)

going_ends : (kept : List Tx) (g : Going) (block : Block) (digits bytes line : List ℕ) → g.before ≡ length kept → told_within (g.before + length g.txs) line ≡ Ok None
    → block_of (g.count + 1) g.time (kept ++ g.txs) ≡ Some block → take_line (going_at kept g digits bytes) line ≡ Ok (behind_end g (bytes ++ line_text line), Some block)
going_ends kept g block digits bytes line before e is =
    told_going kept g digits bytes line (Ok None) before e ∙ ap (λ made. told (going_at kept g digits bytes) line (ends g.form (g.count + 1) g.time made)) is

-- ---- the walk over them

pub walk_tx : (at : Position) (kept : List Tx) (g next : Going) (tx : Tx) (bytes rest line after digits known : List ℕ) → g.before ≡ length kept
    → walk at (parts_of bytes) ≡ with_blocks [] (walk (going_at kept g digits known) (parts_of rest)) → parts_of rest ≡ line ∷ parts_of after
    → told_within (g.before + length g.txs) line ≡ Ok (Some tx) → GoesOn g next tx
    → walk at (parts_of bytes) ≡ with_blocks [] (walk (going_at kept next digits (known ++ line_text line)) (parts_of after))
walk_tx at kept g next tx bytes rest line after digits known before so_far split e on =
    walk_on at (going_at kept g digits known) (going_at kept next digits (known ++ line_text line)) bytes rest line after [] [] None so_far split (going_on kept g next tx digits known line before e on) refl

pub walk_ends : (at : Position) (kept : List Tx) (g : Going) (bytes rest line after digits known : List ℕ) → g.before ≡ length kept
    → walk at (parts_of bytes) ≡ with_blocks [] (walk (going_at kept g digits known) (parts_of rest)) → parts_of rest ≡ line ∷ parts_of after
    → told_within (g.before + length g.txs) line ≡ Ok None
    → walk at (parts_of bytes) ≡ with_blocks (ended_blocks (block_of (g.count + 1) g.time (kept ++ g.txs))) (walk (behind_end g (known ++ line_text line)) (parts_of after))
walk_ends at kept g bytes rest line after digits known before so_far split e =
    let made = some_block (g.count + 1) g.time (kept ++ g.txs) (going_few g.line g.count g.time g.before kept g.txs g.near before) in
    walk_on at (going_at kept g digits known) (behind_end g (known ++ line_text line)) bytes rest line after [] (ended_blocks (Some made.0)) (Some made.0) so_far split
    (going_ends kept g made.0 digits known line before e made.1) refl
    ∙ ap (λ block. with_blocks (ended_blocks block) (walk (behind_end g (known ++ line_text line)) (parts_of after))) (sym made.1)

pub walk_stops : (at : Position) (kept : List Tx) (g : Going) (k : ChainKind) (bytes rest line after digits known : List ℕ) → g.before ≡ length kept
    → walk at (parts_of bytes) ≡ with_blocks [] (walk (going_at kept g digits known) (parts_of rest)) → parts_of rest ≡ line ∷ parts_of after
    → told_within (g.before + length g.txs) line ≡ Err k
    → walk at (parts_of bytes) ≡ ([], Err (record { line = g.line; kind = k }))
walk_stops at kept g k bytes rest line after digits known before so_far split e =
    walk_fault at (going_at kept g digits known) bytes rest line after [] (record { line = g.line; kind = k }) so_far split (told_going kept g digits known line (Err k) before e)

-- ---- where a piece begins within a block

-- the block without its transactions, at the place where the code stands
pub at_begun : (at : Position) (l : ℕ) (p : Section) (f : FileForm) (count time : ℕ) (txs rest : List Tx) → l ≡ at.line → p ≡ at.place
    → p ≡ place.Within f count time txs → rest ≡ [] → at ≡ at_line l (place.Within f count time (txs_in p ++ rest)) at.digits at.bytes
at_begun at l p f count time txs rest line where_at is none =
    let all : txs ≡ txs_in p ++ rest = sym (ap (λ some. txs_in p ++ some) none ∙ append-nil (txs_in p) ∙ ap txs_in is) in
    same_at at.line l at.place (place.Within f count time (txs_in p ++ rest)) at.digits at.digits at.bytes (sym line) (sym where_at ∙ is ∙ ap (λ some. place.Within f count time some) all) refl

-- and what the code knows of its hashes
pub known_begun : (at : Position) (p : Section) (f : FileForm) (count time : ℕ) (txs : List Tx) (h : Hashes) → p ≡ at.place → p ≡ place.Within f count time txs → Knows (kind_of at.place) h at.digits at.bytes
    → Knows f.kind h at.digits at.bytes
known_begun at p f count time txs h where_at is knows = subst (λ (q : Section). Knows (kind_of q) h at.digits at.bytes) (sym where_at ∙ is) knows

pub count_begun : (p : Section) (f : FileForm) (count time : ℕ) (txs : List Tx) → p ≡ place.Within f count time txs → length txs ≡ length (txs_in p)
count_begun p f count time txs is = sym (ap (λ (q : Section). length (txs_in q)) is)

-- what follows the line that ends the block
pub ends_resume : (kept : List Tx) (g : Going) (bytes after : List ℕ) (read : ReadBlocks) (blank : Block) (blocks : List Block) → Reads read (walk (behind_end g bytes) (parts_of after)) → blocks ≡ blank ∷ read.blocks
    → Resumes kept (more.Ends (g.count + 1) g.time g.txs blocks read.state) (with_blocks (ended_blocks (block_of (g.count + 1) g.time (kept ++ g.txs))) (walk (behind_end g bytes) (parts_of after)))
ends_resume kept g bytes after read blank blocks reads is =
    (blank, walk (behind_end g bytes) (parts_of after), is ∙ ap (λ following. blank ∷ following) reads.0, reads.1, refl)

-- ---- the spot is as before

abbrev again : (s : LinePoint) (p : Section) → is_near s.line p ≡ true → LinePoint
again s p near = record { line = s.line; place = p; near = near }

same_near : (s : LinePoint) (near : is_near s.line s.place ≡ true) → again s s.place near ≡ s
same_near s near =
    let one : IsProp (is_near s.line s.place ≡ true) = hlevel (Bool-set) in
    ap (again s s.place) (one near s.near)

pub same_spot : (s : LinePoint) (p : Section) (near : is_near s.line p ≡ true) → p ≡ s.place → record { line = s.line; place = p; near = near } ≡ s
same_spot s p near is = subst (λ (q : Section). (n : is_near s.line q ≡ true) → again s q n ≡ s) (sym is) (same_near s) near
