-- Bytes without a fault are not more than the lines that a file may have.
use Rattle.std.proofs.Common.{◌≡◌, ◌≤◌, ◌+◌, ◌*◌, ℕ, List, [], ◌∷◌, ◌++◌, Bool, true, false, cond, Option, Some, None, length, refl, sym, ap, subst, length-append, arith}
use Rattle.std.specs.Prelude.{Result, Ok, Err}
use Rattle.std.specs.List.{join_with_byte}
use Rattle.std.proofs.lemmas.Bool.{ltb-false}
use Rattle.std.proofs.lemmas.List.Splits.{join_with_byte-slice_split}
use Rattle.proc_syntax.specs.declared.call.Block.{Block}
use Rattle.proc_syntax.specs.declared.chain_fault.ChainFault.{ChainFault}
use Rattle.proc_syntax.specs.declared.chain_fault.ChainKind.{ChainKind}
use Rattle.proc_syntax.specs.declared.chain_fault.ChainKind.TheVariants as kind
use Rattle.chain_file.specs.declared.section.Section.{Section}
use Rattle.chain_file.specs.declared.section.Taken.{Taken}
use Rattle.tx_text.specs.Parts.{parts_of, line_text, is_long}
use Rattle.chain_file.specs.Text.{longest_file}
use Rattle.chain_file.specs.Near.{is_near}
use Rattle.chain_file.specs.Steps.{line_step, step}
use Rattle.chain_file.specs.Chain.{Position, chain, fault, front, lasting, onward, position_after, told, walk, walked}
use Rattle.chain_file.proofs.Lasting.{fault_so_far, so_far_lasts}
use Rattle.chain_file.proofs.Near.{near_few, near_step}

-- a line that is taken is short
taken_short : (at : Section) (digits line : List ℕ) (taken : Taken) (long : Bool) → is_long line ≡ long → cond long (Err kind.LineTooLong) (line_step at digits line) ≡ Ok taken → length line ≤ 4096
taken_short at digits line taken true e told = absurd (cc)
taken_short at digits line taken false e told = ltb-false 4096 (length line) e

-- so many bytes, but where a fault was met
abbrev IsFew : ℕ → Result (Position × List ℕ) ChainFault → Type 0
IsFew n (Err found) = Unit {0}
IsFew n (Ok known) = n ≤ longest_file

-- before this line stand n bytes
record Stands (n : ℕ) (at : Position) : Type 0 where
  pub near : is_near at.line at.place ≡ true
  pub low : n + 4097 ≤ at.line * 4097

last_few : (n : ℕ) (at : Position) (rest : List ℕ) (long : Bool) → Stands n at → is_long rest ≡ long → IsFew (n + length rest) (cond long (Err (fault at kind.LineTooLong)) (Ok (at, rest)))
last_few n at rest true stands e = tt
last_few n at rest false stands e = omega (arith, stands.low, near_few at.line at.place stands.near, ltb-false 4096 (length rest) e)

-- what is known before a line of this number
after_stands : (n line : ℕ) (digits bytes : List ℕ) (next : Section) (ended : Option Block) → is_near line next ≡ true → n + 4097 ≤ line * 4097 → Stands n (position_after line digits bytes next ended)
after_stands n line digits bytes next None near low = record { near = near; low = low }
after_stands n line digits bytes next (Some block) near low = record { near = near; low = low }

next_few : (n : ℕ) (at : Position) (line : List ℕ) (parts : List (List ℕ)) (taken : Result Taken ChainKind) → Stands n at → step at.place at.digits line ≡ taken
    → ((m : ℕ) (next : Position) → Stands m next → IsFew (m + length (join_with_byte 10 parts)) (walk next parts).1)
    → IsFew (n + length (line ++ (10 ∷ join_with_byte 10 parts))) (onward (told at line taken) (λ next. walk next parts)).1
next_few n at line parts (Err k) stands e more = tt
next_few n at line parts (Ok taken) stands e more =
    let rest : List ℕ = join_with_byte 10 parts in
    let short : length line ≤ 4096 = taken_short at.place at.digits line taken (is_long line) refl e in
    let next : Position = position_after (at.line + 1) at.digits (at.bytes ++ line_text line) taken.place taken.ended in
    let near : is_near (at.line + 1) taken.place ≡ true = near_step at.line at.place at.digits line taken stands.near e in
    let all : n + length line + 1 + length rest ≡ n + length (line ++ (10 ∷ rest)) = omega (arith, length-append line (10 ∷ rest)) in
    subst (λ (m : ℕ). IsFew m (walk next parts).1) all
    (more (n + length line + 1) next (after_stands (n + length line + 1) (at.line + 1) at.digits (at.bytes ++ line_text line) taken.place taken.ended near (omega (arith, stands.low, short))))

walk_few : (parts : List (List ℕ)) (n : ℕ) (at : Position) → Stands n at → IsFew (n + length (join_with_byte 10 parts)) (walk at parts).1
walk_few [] n at stands = omega (arith, stands.low, near_few at.line at.place stands.near)
walk_few (rest ∷ []) n at stands = last_few n at rest (is_long rest) stands refl
walk_few (line ∷ part ∷ parts) n at stands = next_few n at line (part ∷ parts) (step at.place at.digits line) stands refl (walk_few (part ∷ parts))

none_few : (n : ℕ) (read : Result (Position × List ℕ) ChainFault) → IsFew n read → fault_so_far read ≡ None → n ≤ longest_file
none_few n (Err found) few none = absurd (cc)
none_few n (Ok known) few none = few

pub file_bounded : (bytes : List ℕ) → lasting (chain bytes).1 ≡ None → length bytes ≤ longest_file
file_bounded bytes none =
    let few : IsFew (0 + length (join_with_byte 10 (parts_of bytes))) (walked bytes).1 = walk_few (parts_of bytes) 0 front (record { near = refl; low = omega arith }) in
    let same : 0 + length (join_with_byte 10 (parts_of bytes)) ≡ length bytes = omega (arith, ap length (join_with_byte-slice_split 10 bytes)) in
    none_few (length bytes) (walked bytes).1 (subst (λ (m : ℕ). IsFew m (walked bytes).1) same few) (subst (λ found. found ≡ None) (sym (so_far_lasts bytes)) none)
