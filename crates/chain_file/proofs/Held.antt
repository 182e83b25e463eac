-- How many bytes a reader keeps of a line that has not ended.
use Rattle.std.proofs.Common.{Bool, List, [], ap, arith, cond, false, length, refl, sym, true, ◌≡◌, ◌≤◌, ◌∷◌, ℕ}
use Rattle.std.specs.Prelude.{Err, Ok, Option, Result, nat_lt}
use Rattle.chain_file.specs.Chain.{Position, Walked, fault, front, onward, open_length, take_line, walk, walked}
use Rattle.chain_file.specs.Following.{KeepsChain}
use Rattle.tx_text.specs.Parts.{parts_of, is_long}
use Rattle.chain_file.specs.declared.reader.State.TheVariants as state
use Rattle.chain_file.specs.declared.standing.Standing.{Standing}
use Rattle.proc_syntax.specs.declared.call.Block.{Block}
use Rattle.proc_syntax.specs.declared.chain_fault.ChainFault.{ChainFault}
use Rattle.proc_syntax.specs.declared.chain_fault.ChainKind.TheVariants as kind

pub open_held : (standing : Standing) (held : List ℕ) (meant : Result (Position × List ℕ) ChainFault) → KeepsChain (state.Open standing held) meant → length held ≡ open_length meant
open_held standing held meant keeps = sym (ap open_length keeps.3)

pub stopped_held : (found : ChainFault) (meant : Result (Position × List ℕ) ChainFault) → KeepsChain (state.Stopped found) meant → 0 ≡ open_length meant
stopped_held found meant keeps = sym (ap open_length keeps)

-- ---- a line that has not ended is a fault as soon as it is too long

short_unless : (b : Bool) (at : Position) (rest : List ℕ) → nat_lt 4096 (length rest) ≡ b → open_length (cond b (Err (fault at kind.LineTooLong)) (Ok (at, rest))) ≤ 4096
short_unless true at rest is = omega arith
short_unless false at rest is = not_longer (length rest) is
  where
    not_longer : (count : ℕ) → nat_lt 4096 count ≡ false → count ≤ 4096
    not_longer count is = grind (arith, is)

onward_short : (next : Result (Position × Option Block) ChainFault) (more : Position → Walked) → ((at : Position) → open_length (more at).1 ≤ 4096) → open_length (onward next more).1 ≤ 4096
onward_short (Err found) more short = omega arith
onward_short (Ok next) more short = short next.0

walk_short : (at : Position) (parts : List (List ℕ)) → open_length (walk at parts).1 ≤ 4096
walk_short at [] = omega arith
walk_short at (rest ∷ []) = short_unless (is_long rest) at rest refl
walk_short at (line ∷ part ∷ parts) = onward_short (take_line at line) (λ next. walk next (part ∷ parts)) (λ next. walk_short next (part ∷ parts))

pub few_held : (standing : Standing) (held bytes : List ℕ) → KeepsChain (state.Open standing held) (walked bytes).1 → length held ≤ 4096
few_held standing held bytes keeps =
    let short = walk_short front (parts_of bytes) in
    let same = open_held standing held (walked bytes).1 keeps in
    omega (arith, short, same)
