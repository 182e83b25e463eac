-- A file in pieces gives what the whole file gives.
use Rattle.std.proofs.Common.{◌≡◌, ◌<◌, ℕ, List, [], ◌∷◌, ◌++◌, Bool, true, false, cond, Option, length, refl, sym, ◌∙◌, ap, append_assoc, arith}
use Rattle.std.specs.Prelude.{Result, Ok, Err}
use Rattle.proc_syntax.specs.declared.call.Block.{Block}
use Rattle.proc_syntax.specs.declared.chain_fault.ChainFault.{ChainFault}
use Rattle.proc_syntax.specs.declared.chain_fault.ChainKind.TheVariants as kind
use Rattle.tx_text.specs.Parts.{parts_of, is_long, onto}
use Rattle.tx_text.proofs.Glued.{glue, glue_some, longer, parts_glue, parts_some}
use Rattle.chain_file.specs.Steps.{line_step}
use Rattle.chain_file.specs.Chain.{Position, Walked, fault, told, take_line, ended_blocks, with_blocks, onward, walk, walked, front}

-- a line that is too long has a fault, whatever it says
long_step : (at : Position) (line : List ℕ) → is_long line ≡ true → take_line at line ≡ Err (fault at kind.LineTooLong)
long_step at line long = ap (λ test. told at line (cond test (Err kind.LineTooLong) (line_step at.place at.digits line))) long

-- what is meant goes on after what was walked
abbrev pub goes_on : Walked → List (List ℕ) → Walked
goes_on (blocks, Err found) more = (blocks, Err found)
goes_on (blocks, Ok known) more = with_blocks blocks (walk known.0 (onto known.1 more))

long_last : (at : Position) (rest : List ℕ) (more : List (List ℕ)) → 0 < length more → is_long rest ≡ true → walk at (onto rest more) ≡ ([], Err (fault at kind.LineTooLong))
long_last at rest [] some long = absurd (omega (arith, some))
long_last at rest (part ∷ []) some long = ap (λ test. ([], cond test (Err (fault at kind.LineTooLong)) (Ok (at, rest ++ part)))) (longer rest part long)
long_last at rest (line ∷ part ∷ parts) some long = ap (λ taken. onward taken (λ next. walk next (part ∷ parts))) (long_step at (rest ++ line) (longer rest line long))

last_on : (at : Position) (rest : List ℕ) (more : List (List ℕ)) (test : Bool) → 0 < length more → is_long rest ≡ test
    → walk at (onto rest more) ≡ goes_on ([], cond test (Err (fault at kind.LineTooLong)) (Ok (at, rest))) more
last_on at rest more true some long = long_last at rest more some long
last_on at rest more false some long = refl

with_on : (blocks : List Block) (w : Walked) (more : List (List ℕ)) → with_blocks blocks (goes_on w more) ≡ goes_on (with_blocks blocks w) more
with_on blocks (given, Err found) more = refl
with_on blocks (given, Ok known) more = ap (λ all. (all, (walk known.0 (onto known.1 more)).1)) (sym (append_assoc blocks given (walk known.0 (onto known.1 more)).0))

onward_on : (taken : Result (Position × Option Block) ChainFault) (parts more : List (List ℕ)) → ((at : Position) → walk at (glue parts more) ≡ goes_on (walk at parts) more)
    → onward taken (λ next. walk next (glue parts more)) ≡ goes_on (onward taken (λ next. walk next parts)) more
onward_on (Err found) parts more ih = refl
onward_on (Ok next) parts more ih = ap (with_blocks (ended_blocks next.1)) (ih next.0) ∙ with_on (ended_blocks next.1) (walk next.0 parts) more

pub walk_line : (at : Position) (line : List ℕ) (parts : List (List ℕ)) → 0 < length parts → walk at (line ∷ parts) ≡ onward (take_line at line) (λ next. walk next parts)
walk_line at line [] some = absurd (omega (arith, some))
walk_line at line (part ∷ parts) some = refl

walk_glue : (parts more : List (List ℕ)) → 0 < length parts → 0 < length more → (at : Position) → walk at (glue parts more) ≡ goes_on (walk at parts) more
walk_glue [] more one some at = absurd (omega (arith, one))
walk_glue (rest ∷ []) more one some at = last_on at rest more (is_long rest) some refl
walk_glue (line ∷ part ∷ parts) more one some at =
    walk_line at line (glue (part ∷ parts) more) (glue_some (part ∷ parts) more some)
    ∙ onward_on (take_line at line) (part ∷ parts) more (walk_glue (part ∷ parts) more (omega arith) some)

pub walked_on : (bytes more : List ℕ) → walked (bytes ++ more) ≡ goes_on (walked bytes) (parts_of more)
walked_on bytes more = ap (walk front) (parts_glue bytes more) ∙ walk_glue (parts_of bytes) (parts_of more) (parts_some bytes) (parts_some more) front
