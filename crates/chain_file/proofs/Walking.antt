-- The lines of a file, one after another, and the pieces of a file.
use Rattle.std.proofs.Common.{◌≡◌, ℕ, List, [], ◌∷◌, ◌++◌, Option, Some, refl, sym, ◌∙◌, ap, subst, append_assoc}
use Rattle.std.specs.Prelude.{Result, Ok, Err}
use Rattle.std.proofs.lemmas.List.{append-nil}
use Rattle.proc_syntax.specs.declared.call.Block.{Block}
use Rattle.proc_syntax.specs.declared.chain_fault.ChainFault.{ChainFault}
use Rattle.chain_file.specs.declared.standing.Standing.{Standing}
use Rattle.chain_file.specs.declared.reader.State.{State}
use Rattle.chain_file.specs.declared.reader.State.TheVariants as state
use Rattle.chain_file.specs.declared.reader.ReadBlocks.{ReadBlocks}
use Rattle.tx_text.specs.Parts.{parts_of, onto}
use Rattle.chain_file.specs.Chain.{Position, Walked, take_line, ended_blocks, with_blocks, onward, walk, walked, chain, lasting}
use Rattle.chain_file.specs.Following.{Answers, StandsAt, KeepsChain, Reads, fault_met}
use Rattle.chain_file.specs.declared.reader.Fed.{Fed}
use Rattle.chain_file.proofs.Lasting.{fault_so_far, so_far_lasts}
use Rattle.chain_file.specs.declared.form.FileForm.{FileForm}
use Rattle.chain_file.specs.Headers.{file_form, form_after}
use Rattle.chain_file.proofs.Forms.{form_open}
use Rattle.chain_file.proofs.Pieces.{goes_on, walk_line, walked_on}
use Rattle.tx_text.proofs.Glued.{onto_parts, parts_some}

-- a line and the lines after it
pub walk_split : (now : Position) (rest line after : List ℕ) (taken : Result (Position × Option Block) ChainFault) → parts_of rest ≡ line ∷ parts_of after → take_line now line ≡ taken
    → walk now (parts_of rest) ≡ onward taken (λ next. walk next (parts_of after))
walk_split now rest line after taken split told =
    ap (walk now) split ∙ walk_line now line (parts_of after) (parts_some after) ∙ ap (λ found. onward found (λ next. walk next (parts_of after))) told

pub walk_fault : (at now : Position) (bytes rest line after : List ℕ) (blocks : List Block) (found : ChainFault)
    → walk at (parts_of bytes) ≡ with_blocks blocks (walk now (parts_of rest)) → parts_of rest ≡ line ∷ parts_of after → take_line now line ≡ Err found
    → walk at (parts_of bytes) ≡ (blocks, Err found)
walk_fault at now bytes rest line after blocks found so_far split told =
    so_far ∙ ap (with_blocks blocks) (walk_split now rest line after (Err found) split told) ∙ ap (λ all. (all, Err found)) (append-nil blocks)

pub walk_on : (at now next : Position) (bytes rest line after : List ℕ) (blocks more : List Block) (ended : Option Block)
    → walk at (parts_of bytes) ≡ with_blocks blocks (walk now (parts_of rest)) → parts_of rest ≡ line ∷ parts_of after → take_line now line ≡ Ok (next, ended) → more ≡ blocks ++ ended_blocks ended
    → walk at (parts_of bytes) ≡ with_blocks more (walk next (parts_of after))
walk_on at now next bytes rest line after blocks more ended so_far split told same =
    let w : Walked = walk next (parts_of after) in
    so_far ∙ ap (with_blocks blocks) (walk_split now rest line after (Ok (next, ended)) split told)
    ∙ ap (λ all. (all, w.1)) (sym (append_assoc blocks (ended_blocks ended) w.0)) ∙ ap (λ all. with_blocks all w) (sym same)

-- after a fault more bytes change nothing
stop_goes_on : (w : Walked) (found : ChainFault) (more : List (List ℕ)) → w.1 ≡ Err found → goes_on w more ≡ w
stop_goes_on (blocks, Err other) found more e = refl
stop_goes_on (blocks, Ok known) found more e = absurd (cc)

pub walked_stopped : (bytes piece : List ℕ) (found : ChainFault) → (walked bytes).1 ≡ Err found → walked (bytes ++ piece) ≡ walked bytes
walked_stopped bytes piece found e = walked_on bytes piece ∙ stop_goes_on (walked bytes) found (parts_of piece) e

-- and without one they are read on
open_goes_on : (w : Walked) (at : Position) (held : List ℕ) (more : List (List ℕ)) → w.1 ≡ Ok (at, held) → goes_on w more ≡ with_blocks w.0 (walk at (onto held more))
open_goes_on (blocks, Err other) at held more e = absurd (cc)
open_goes_on (blocks, Ok known) at held more e =
    let same : known ≡ (at, held) = cc in
    ap (λ k. with_blocks blocks (walk k.0 (onto k.1 more))) same

walked_more : (bytes piece held : List ℕ) (at : Position) → (walked bytes).1 ≡ Ok (at, held) → parts_of held ≡ held ∷ []
    → walked (bytes ++ piece) ≡ with_blocks (walked bytes).0 (walk at (parts_of (held ++ piece)))
walked_more bytes piece held at e one =
    walked_on bytes piece ∙ open_goes_on (walked bytes) at held (parts_of piece) e ∙ ap (λ parts. with_blocks (walked bytes).0 (walk at parts)) (onto_parts held piece one)

met_so_far : (s : State) (meant : Result (Position × List ℕ) ChainFault) → KeepsChain s meant → fault_met s ≡ fault_so_far meant
met_so_far (state.Open standing held) meant keeps = sym (ap fault_so_far keeps.3)
met_so_far (state.Stopped found) meant keeps = sym (ap fault_so_far keeps)

-- what a reader answers for a piece
pub record FedOn (bytes piece : List ℕ) (read : ReadBlocks) : Type 0 where
  pub keeps : KeepsChain read.state (walked (bytes ++ piece)).1
  pub given : (walked (bytes ++ piece)).0 ≡ (walked bytes).0 ++ read.blocks
  pub fault : fault_met read.state ≡ lasting (chain (bytes ++ piece)).1

fed_along : (bytes piece : List ℕ) (read : ReadBlocks) (w : Walked) → walked (bytes ++ piece) ≡ with_blocks (walked bytes).0 w → Reads read w → FedOn bytes piece read
fed_along bytes piece read w e reads =
    let keeps : KeepsChain read.state (walked (bytes ++ piece)).1 = subst (λ (all : Walked). KeepsChain read.state all.1) (sym e) reads.1 in
    record { keeps = keeps; given = ap (λ all. all.0) e ∙ ap (λ more. (walked bytes).0 ++ more) (sym reads.0); fault = met_so_far read.state (walked (bytes ++ piece)).1 keeps ∙ so_far_lasts (bytes ++ piece) }

pub fed_open : (bytes piece : List ℕ) (standing : Standing) (held : List ℕ) (read : ReadBlocks) → KeepsChain (state.Open standing held) (walked bytes).1
    → ((at : Position) → StandsAt standing at → Reads read (walk at (parts_of (held ++ piece)))) → FedOn bytes piece read
fed_open bytes piece standing held read keeps reads =
    fed_along bytes piece read (walk keeps.0 (parts_of (held ++ piece))) (walked_more bytes piece held keeps.0 keeps.3 keeps.2) (reads keeps.0 keeps.1)

pub fed_from : (s : State) (bytes piece : List ℕ) (standing : Standing) (held lent : List ℕ) (read : ReadBlocks) → s ≡ state.Open standing held → lent ≡ held → KeepsChain s (walked bytes).1
    → ((at : Position) → StandsAt standing at → Reads read (walk at (parts_of (lent ++ piece)))) → FedOn bytes piece read
fed_from s bytes piece standing held lent read is same keeps reads =
    fed_open bytes piece standing held read (subst (λ (x : State). KeepsChain x (walked bytes).1) is keeps)
    (subst (λ (all : List ℕ). (at : Position) → StandsAt standing at → Reads read (walk at (parts_of (all ++ piece)))) same reads)

-- and the form of the file then
pub form_from : (s : State) (bytes piece : List ℕ) (standing : Standing) (held lent : List ℕ) (old new : Option FileForm) → s ≡ state.Open standing held → lent ≡ held → KeepsChain s (walked bytes).1
    → old ≡ file_form bytes → new ≡ form_after old (lent ++ piece) → new ≡ file_form (bytes ++ piece)
form_from s bytes piece standing held lent old new is same keeps known after =
    let kept : KeepsChain (state.Open standing held) (walked bytes).1 = subst (λ (x : State). KeepsChain x (walked bytes).1) is keeps in
    after ∙ ap (λ all. form_after old (all ++ piece)) same ∙ ap (λ f. form_after f (held ++ piece)) known ∙ form_open bytes piece held kept.0 kept.3

pub keeps_stopped : (s : State) (found : ChainFault) (bytes : List ℕ) → s ≡ state.Stopped found → KeepsChain s (walked bytes).1 → (walked bytes).1 ≡ Err found
keeps_stopped s found bytes is keeps = subst (λ (x : State). KeepsChain x (walked bytes).1) is keeps

-- a reader that met a fault answers it again
pub stays_stopped : (s : State) (found : ChainFault) (bytes piece : List ℕ) → s ≡ state.Stopped found → KeepsChain s (walked bytes).1 → KeepsChain s (walked (bytes ++ piece)).1
stays_stopped s found bytes piece is keeps =
    subst (λ (w : Walked). KeepsChain s w.1) (sym (walked_stopped bytes piece found (keeps_stopped s found bytes is keeps))) keeps

pub gives_no_more : (s : State) (found : ChainFault) (bytes piece : List ℕ) (given : List Block) → s ≡ state.Stopped found → KeepsChain s (walked bytes).1 → given ≡ []
    → ((walked (bytes ++ piece)).0 ≡ (walked bytes).0 ++ given) × (Some found ≡ lasting (chain (bytes ++ piece)).1)
gives_no_more s found bytes piece given is keeps none =
    let told : (walked bytes).1 ≡ Err found = keeps_stopped s found bytes is keeps in
    let same : walked (bytes ++ piece) ≡ walked bytes = walked_stopped bytes piece found told in
    (ap (λ w. w.0) same ∙ sym (append-nil (walked bytes).0) ∙ ap (λ more. (walked bytes).0 ++ more) (sym none), sym (ap (λ w. fault_so_far w.1) same ∙ ap fault_so_far told) ∙ so_far_lasts (bytes ++ piece))

-- what was given before, and what a piece gives
pub given_more : (bytes piece : List ℕ) (fed : Fed) (given now : List Block) → Answers bytes piece fed → (chain bytes).0 ≡ given → now ≡ given ++ fed.blocks → (chain (bytes ++ piece)).0 ≡ now
given_more bytes piece fed given now answers same grown = answers.0 ∙ ap (λ blocks. blocks ++ fed.blocks) same ∙ sym grown
