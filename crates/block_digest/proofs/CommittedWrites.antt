-- The writes of committed transactions, gone over one transaction after another.
use Rattle.std.proofs.Common.{All, List, [], ap, append_assoc, arith, length, map, subst, sym, ◌++◌, ◌+◌, ◌<◌, ◌^◌, ◌∙◌, ◌≡◌, ◌∷◌, ℕ}
use Rattle.std.proofs.lemmas.Grind.{flat_map-append}
use Rattle.std.proofs.lemmas.List.Elements.{All-cons, All-head, All-nil, All-tail}
use Rattle.std.proofs.lemmas.List.{length-append, length-map}
use Rattle.std.specs.List.{flat_map}
use Rattle.block_digest.specs.Codable.{IsFewWrite}
use Rattle.block_digest.specs.Lent.{placed_at}
use Rattle.canon_code.specs.Writes.{write_code}
use Rattle.node_model.specs.History.{placed_of}
use Rattle.node_model.specs.declared.result.Committed.{Committed}
use Rattle.rel_base.specs.declared.access.Placed.{Placed}
use Rattle.rel_base.specs.declared.access.Write.{Write}

-- a transaction's writes and those of the others are all
pub placed_length : (done : Committed) (rest : List Committed) → length (placed_of (done ∷ rest)) ≡ length done.writes + length (placed_of rest)
placed_length done rest =
    length-append (map (placed_at done.pos) done.writes) (placed_of rest) ∙ ap (λ n. n + length (placed_of rest)) (length-map done.writes (placed_at done.pos))

-- a count of writes does not overflow
pub count_fits : (committed left rest : List Committed) (done : Committed) (count : ℕ) → length (placed_of committed) < 2 ^ 32 → left ≡ done ∷ rest
    → count + length (placed_of left) ≡ length (placed_of committed) → count + length done.writes < 2 ^ 64
count_fits committed left rest done count few next is =
    let both : length (placed_of left) ≡ length done.writes + length (placed_of rest) = ap (λ xs. length (placed_of xs)) next ∙ placed_length done rest in
    omega (arith, few, both, is)

-- what holds of some writes at a position and of others
parted : (P : Placed → Type 0) (pos : ℕ) (writes : List Write) (others : List Placed) → All P (map (placed_at pos) writes ++ others)
    → All (λ write. P (placed_at pos write)) writes × All P others
parted P pos [] others all = (All-nil (λ write. P (placed_at pos write)), all)
parted P pos (write ∷ writes) others all =
    let rest = parted P pos writes others (All-tail P (placed_at pos write) (map (placed_at pos) writes ++ others) all) in (
      All-cons (λ write. P (placed_at pos write)) write writes (All-head P (placed_at pos write) (map (placed_at pos) writes ++ others) all) rest.0,
      rest.1,
    )

few_of : (left rest : List Committed) (done : Committed) → left ≡ done ∷ rest → All IsFewWrite (placed_of left)
    → All (λ write. IsFewWrite (placed_at done.pos write)) done.writes × All IsFewWrite (placed_of rest)
few_of left rest done next few = parted IsFewWrite done.pos done.writes (placed_of rest) (subst (λ xs. All IsFewWrite (placed_of xs)) next few)

-- the next transaction's writes have few values
pub own_few : (left rest : List Committed) (done : Committed) → left ≡ done ∷ rest → All IsFewWrite (placed_of left)
    → All (λ write. IsFewWrite (placed_at done.pos write)) done.writes
own_few left rest done next few = (few_of left rest done next few).0

-- and so have those of the others
pub others_few : (left rest : List Committed) (done : Committed) → left ≡ done ∷ rest → All IsFewWrite (placed_of left) → All IsFewWrite (placed_of rest)
others_few left rest done next few = (few_of left rest done next few).1

-- the next transaction's writes are written
pub next_written : (old new whole : List ℕ) (left rest : List Committed) (done : Committed) → left ≡ done ∷ rest
    → new ≡ old ++ flat_map write_code (map (placed_at done.pos) done.writes)
    → old ++ flat_map write_code (placed_of left) ≡ whole → new ++ flat_map write_code (placed_of rest) ≡ whole
next_written old new whole left rest done next wrote is =
    let own = map (placed_at done.pos) done.writes in
    ap (λ bytes. bytes ++ flat_map write_code (placed_of rest)) wrote
    ∙ append_assoc old (flat_map write_code own) (flat_map write_code (placed_of rest))
    ∙ ap (λ bytes. old ++ bytes) (sym (flat_map-append write_code own (placed_of rest)))
    ∙ ap (λ xs. old ++ flat_map write_code (placed_of xs)) (sym next)
    ∙ is
