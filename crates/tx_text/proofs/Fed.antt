-- A piece of an arrival file after others.
use Rattle.std.proofs.Common.{◌≡◌, ◌≤◌, ◌<◌, ◌+◌, ℕ, List, [], ◌∷◌, ◌++◌, Bool, true, false, cond, Option, Some, None, length, take, drop, get_or, append_assoc, refl, sym, ◌∙◌, ap, subst, arith}
use Rattle.std.specs.Prelude.{Result, Ok, Err, nat_lt}
use Rattle.std.specs.List.{flat_map}
use Rattle.std.proofs.lemmas.List.{drop_more, take-append-drop}
use Rattle.std.proofs.lemmas.Grind.{flat_map-append}
use Rattle.proc_syntax.specs.declared.call.Tx.{Tx}
use Rattle.tx_text.specs.declared.arrivals.ArrivalFault.{ArrivalFault}
use Rattle.tx_text.specs.declared.arrivals.ArrivalFault.TheVariants as fault
use Rattle.tx_text.specs.declared.arrival_reader.State.{State}
use Rattle.tx_text.specs.declared.arrival_reader.State.TheVariants as state
use Rattle.tx_text.specs.Parts.{is_long, onto, parts_of}
use Rattle.tx_text.specs.Listing.{Far, items_at, onward, walk, with_items}
use Rattle.tx_text.specs.Arrivals.{arrivals, arrivals_form, arrived}
use Rattle.tx_text.specs.Feeding.{Answers, Gives, KeepsArrivals, so_far, open_length}
use Rattle.tx_text.proofs.Listed.{far_on, fault_lasts, fault_stays}

-- a reader that met a fault answers it again
pub stays_stopped : (s : State) (line : ℕ) (bytes piece : List ℕ) → s ≡ state.Stopped line → KeepsArrivals s (arrived bytes) → arrived (bytes ++ piece) ≡ Err line
stays_stopped s line bytes piece is keeps = fault_stays arrivals_form bytes piece line (subst (λ (x : State). KeepsArrivals x (arrived bytes)) is keeps)

-- and one that did not goes on where it stopped
pub goes_on : (s : State) (line : ℕ) (held bytes piece : List ℕ) (far : Result (Far Tx) ℕ) → s ≡ state.Open line held → walk arrivals_form line (onto held (parts_of piece)) ≡ far → KeepsArrivals s (arrived bytes)
    → arrived (bytes ++ piece) ≡ with_items (so_far (arrived bytes)) far
goes_on s line held bytes piece far is told keeps =
    let opened : KeepsArrivals (state.Open line held) (arrived bytes) = subst (λ (x : State). KeepsArrivals x (arrived bytes)) is keeps in
    far_on arrivals_form bytes piece (record { line = line; items = opened.0; rest = held }) opened.1
    ∙ ap (with_items opened.0) told ∙ ap (λ txs. with_items txs far) (sym (ap so_far opened.1))

-- ---- a line that has not ended is a fault as soon as it is too long

short_unless : (b : Bool) (line : ℕ) (rest : List ℕ) → nat_lt 4096 (length rest) ≡ b → open_length (cond b (Err line) (Ok (record { line = line; items = []; rest = rest }))) ≤ 4096
short_unless true line rest is = omega arith
short_unless false line rest is = not_longer (length rest) is
  where
    not_longer : (count : ℕ) → nat_lt 4096 count ≡ false → count ≤ 4096
    not_longer count is = grind (arith, is)

with_short : (txs : List Tx) (far : Result (Far Tx) ℕ) → open_length far ≤ 4096 → open_length (with_items txs far) ≤ 4096
with_short txs (Err line) few = omega arith
with_short txs (Ok far) few = few

onward_short : (n : ℕ) (found : Option (List Tx)) (more : Result (Far Tx) ℕ) → open_length more ≤ 4096 → open_length (onward n found more) ≤ 4096
onward_short n None more few = omega arith
onward_short n (Some txs) more few = with_short txs more few

walk_short : (n : ℕ) (parts : List (List ℕ)) → open_length (walk arrivals_form n parts) ≤ 4096
walk_short n [] = omega arith
walk_short n (rest ∷ []) = short_unless (is_long rest) n rest refl
walk_short n (line ∷ part ∷ parts) = onward_short n (items_at arrivals_form n line) (walk arrivals_form (n + 1) (part ∷ parts)) (walk_short (n + 1) (part ∷ parts))

pub few_held : (s : State) (line : ℕ) (held bytes : List ℕ) → s ≡ state.Open line held → KeepsArrivals s (arrived bytes) → length held ≤ 4096
few_held s line held bytes is keeps =
    let opened : KeepsArrivals (state.Open line held) (arrived bytes) = subst (λ (x : State). KeepsArrivals x (arrived bytes)) is keeps in
    let few : open_length (arrived bytes) ≤ 4096 = walk_short 1 (parts_of bytes) in
    let same : open_length (arrived bytes) ≡ length held = ap open_length opened.1 in
    omega (arith, few, same)

-- ---- a whole file in pieces

-- the pieces before one, that piece, and those after it
pub seam : (pieces : List (List ℕ)) (i : ℕ) (piece : List ℕ) → i < length pieces → get_or pieces i piece ≡ piece
    → flat_map (λ piece. piece) pieces ≡ (flat_map (λ piece. piece) (take i pieces) ++ piece) ++ flat_map (λ piece. piece) (drop (i + 1) pieces)
seam pieces i piece within here =
    ap (flat_map (λ piece. piece)) (sym (take-append-drop i pieces) ∙ ap (λ back. take i pieces ++ back) (drop_more pieces i piece within ∙ ap (λ one. one ∷ drop (i + 1) pieces) here))
    ∙ flat_map-append (λ piece. piece) (take i pieces) (piece ∷ drop (i + 1) pieces)
    ∙ sym (append_assoc (flat_map (λ piece. piece) (take i pieces)) piece (flat_map (λ piece. piece) (drop (i + 1) pieces)))

-- a fault of a piece is that of the file
pub fault_of_file : (found : ArrivalFault) (front piece back all : List ℕ) → all ≡ (front ++ piece) ++ back → Answers front piece (Err found) → Gives {A = List Tx} (Err found) (arrivals all)
fault_of_file fault.NoMemory front piece back all same told = tt
fault_of_file (fault.Bad line) front piece back all same told = ap arrivals same ∙ fault_lasts arrivals_form (front ++ piece) back line told
