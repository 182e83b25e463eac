-- Writes as leaves.
use Rattle.std.proofs.Common.{◌≡◌, ◌≤◌, ◌<◌, ◌^◌, ℕ, zero, suc, Bool, true, false, refl, List, [], None, Option, Some, arith, length, get_or, sym, ◌∙◌, ap, subst}
use Rattle.std.specs.Prelude.{All, eqb, not, reverse, ◌==◌, slice_get, ◌-◌}
use Rattle.std.proofs.lemmas.List.{get_or-map, length-map}
use Rattle.std.specs.Bool.{Decides}
use Rattle.std.specs.Cmp.Lexicographic.{pointwise}
use Rattle.std.proofs.lemmas.Bool.{false≢true}
use Rattle.std.proofs.lemmas.Bool.Decides.{Decides-eqb}
use Rattle.std.proofs.lemmas.Slice.Eq.{slice_eq-Decides}
use Rattle.std.proofs.lemmas.List.Elements.{All-weaker}
use Rattle.std.proofs.lemmas.Option.{get_or_from_slice_get, slice_get-get_or, slice_get_within}
use Rattle.sha2.specs.Sha256.{sha256}
use Rattle.block_digest.specs.Codable.{IsFewWrite}
use Rattle.canon_code.specs.Writes.{HasChangeCode, HasWriteCode, IsFewPart, write_at, write_code}
use Rattle.canon_code.proofs.Exact.{one_to_one}
use Rattle.canon_code.proofs.Things.{write_exact}
use Rattle.rel_base.specs.declared.value.Value.{Value}
use Rattle.merkle_proof.specs.declared.proof.Proof.{Proof}
use Rattle.rel_base.specs.declared.access.Placed.{Placed}
use Rattle.merkle_proof.specs.Head.{IsProof, audit_path, tree_of}
use Rattle.merkle_proof.specs.Shape.{levels, shape, turns}
use Rattle.merkle_proof.specs.Tree.{climb, tree}
use Rattle.merkle_proof.specs.Proofs.{IsCodeAt, IsMember, IsVerified, head_of, leaves_of, proof_of}
use Rattle.merkle_proof.proofs.Heads.{members_have_proofs, tree_of_some}

pub leaf_at_place : (writes : List Placed) (i : ℕ) (write : Placed) → slice_get writes i ≡ Some write → get_or (leaves_of writes) i [] ≡ write_code write
leaf_at_place writes i write found =
    get_or-map write_code writes i write [] (slice_get_within writes i write found) ∙ ap write_code (get_or_from_slice_get writes i write write found)

-- the proof of a write is verified against the head
pub member_verified : (writes : List Placed) (index : ℕ) → 1 ≤ index → index ≤ length writes → length writes < 2 ^ 32 → (write : Placed) → slice_get writes (index - 1) ≡ Some write
    → IsVerified (head_of writes) write (proof_of writes index)
member_verified writes index from_one within few write found =
    let long : length (leaves_of writes) ≡ length writes = length-map writes write_code in
    let proof : IsProof sha256 (head_of writes) (get_or (leaves_of writes) (index - 1) []) (length (leaves_of writes)) index (audit_path sha256 (leaves_of writes) (index - 1)) =
    members_have_proofs sha256 (leaves_of writes) index from_one (subst (λ n. index ≤ n) (sym long) within) (subst (λ n. n < 2 ^ 32) (sym long) few) in
    subst (λ n. IsProof sha256 (head_of writes) (write_code write) n index (audit_path sha256 (leaves_of writes) (index - 1))) long
    (subst (λ code. IsProof sha256 (head_of writes) code (length (leaves_of writes)) index (audit_path sha256 (leaves_of writes) (index - 1))) (leaf_at_place writes (index - 1) write found) proof)

-- writes that have codes are equal where their codes are
pub codes_apart : (left right : Placed) → HasWriteCode left → HasWriteCode right → write_code left ≡ write_code right → left ≡ right
codes_apart left right has_left has_right same = one_to_one write_code HasWriteCode write_at write_exact left right has_left has_right same

-- a member by its code
pub member_is : (writes : List Placed) (write : Placed) (proof : Proof) → All HasWriteCode writes → HasWriteCode write → 1 ≤ proof.index → proof.index ≤ proof.count
    → IsCodeAt (leaves_of writes) (write_code write) proof → IsMember writes write proof
member_is writes write proof have has from_one within here =
    let long : length (leaves_of writes) ≡ length writes = length-map writes write_code in
    let count : proof.count ≡ length writes = here.count ∙ long in
    let inside : proof.index - 1 < length writes = omega (arith, count, from_one, within) in
    let own : Placed = get_or writes (proof.index - 1) write in
    let code : write_code write ≡ write_code (get_or writes (proof.index - 1) write) = here.stands ∙ get_or-map write_code writes (proof.index - 1) write [] inside in
    let same : write ≡ get_or writes (proof.index - 1) write = codes_apart write (get_or writes (proof.index - 1) write) has (have (proof.index - 1) write inside) code in
    record { count = count; stands = slice_get-get_or writes (proof.index - 1) write inside ∙ ap Some (sym same) }

pub code_is : (writes : List Placed) (write : Placed) (proof : Proof) → IsMember writes write proof → IsCodeAt (leaves_of writes) (write_code write) proof
code_is writes write proof here =
    record { count = here.count ∙ sym (length-map writes write_code); stands = sym (leaf_at_place writes (proof.index - 1) write here.stands) }

-- the rows of a change that has a code are few
few_before : (before after : Option (List Value)) → HasChangeCode before after → IsFewPart before
few_before None None has = tt
few_before None (Some after) has = tt
few_before (Some before) None has = has.0
few_before (Some before) (Some after) has = has.0.0

few_after : (before after : Option (List Value)) → HasChangeCode before after → IsFewPart after
few_after None None has = tt
few_after None (Some after) has = has.0
few_after (Some before) None has = tt
few_after (Some before) (Some after) has = has.1.0

-- a write that has a code is one that can be written
pub few_row : (write : Placed) → HasWriteCode write → IsFewWrite write
few_row write has = record {
  key = has.head.key.0;
  before = few_before write.write.before write.write.after has.change;
  after = few_after write.write.before write.write.after has.change;
}

pub few_rows : (writes : List Placed) → All HasWriteCode writes → All IsFewWrite writes
few_rows writes have = All-weaker HasWriteCode IsFewWrite few_row writes have

-- the root over some writes, as it is made
pub tree_is : (writes : List Placed) (level : ℕ) → level ≡ levels → 1 ≤ length writes → tree sha256 (shape level (length writes)) (leaves_of writes) ≡ tree_of sha256 (leaves_of writes)
tree_is writes level same some =
    let long : length (leaves_of writes) ≡ length writes = length-map writes write_code in
    ap (λ k. tree sha256 (shape k (length writes)) (leaves_of writes)) same ∙ ap (λ n. tree sha256 (shape levels n) (leaves_of writes)) (sym long)
    ∙ sym (tree_of_some sha256 (leaves_of writes) (subst (λ n. 1 ≤ n) (sym long) some))

-- the code at a place
pub code_at : (writes : List Placed) (i : ℕ) (own : Placed) (bytes : List ℕ) → i < length writes → own ≡ get_or writes i own → bytes ≡ write_code own → bytes ≡ get_or (leaves_of writes) i []
code_at writes i own bytes inside is code = code ∙ ap write_code is ∙ sym (get_or-map write_code writes i own [] inside)

-- a path whose count and root are right leads to the root
pub leads_to_root : (writes : List Placed) (level count i : ℕ) (steps own : List (List ℕ)) (leaf claimed root : List ℕ) → level ≡ levels → count ≡ length writes → i < count → own ≡ steps
    → claimed ≡ climb sha256 (turns (shape levels count) i) (reverse steps) leaf → root ≡ tree_of sha256 (leaves_of writes) → claimed ≡ root
    → climb sha256 (turns (shape level (length writes)) i) (reverse own) leaf ≡ tree sha256 (shape level (length writes)) (leaves_of writes)
leads_to_root writes level count i steps own leaf claimed root is_level is_count inside is_own is_claimed is_root same =
    ap (λ k. climb sha256 (turns (shape k (length writes)) i) (reverse own) leaf) is_level
    ∙ ap (λ n. climb sha256 (turns (shape levels n) i) (reverse own) leaf) (sym is_count)
    ∙ ap (λ xs. climb sha256 (turns (shape levels count) i) (reverse xs) leaf) is_own
    ∙ sym is_claimed ∙ same ∙ is_root
    ∙ sym (tree_is writes level is_level (omega (arith, is_count, inside)))

pub some_by : (n : ℕ) (test : Bool) → test ≡ (n == 0) → test ≡ false → 1 ≤ n
some_by zero test e none = absurd (false≢true (sym none ∙ e))
some_by (suc n) test e none = omega arith

-- writes that are not none
pub some_writes : (writes : List Placed) (test : Bool) → test ≡ (length writes == 0) → test ≡ false → 1 ≤ length writes
some_writes writes test e none = some_by (length writes) test e none

-- hashes that are not told apart are equal
pub not_apart : (xs ys : List ℕ) (test : Bool) → test ≡ not (pointwise eqb xs ys) → test ≡ false → xs ≡ ys
not_apart xs ys test e none = by (pointwise eqb xs ys) (slice_eq-Decides Decides-eqb xs ys (pointwise eqb xs ys) refl) (sym e ∙ none)
  where
    by : (same : Bool) → Decides same (xs ≡ ys) → not same ≡ false → xs ≡ ys
    by true tells e = tells.0 refl
    by false tells e = absurd (false≢true (sym e))

-- a code at the place of a proof, as a call tells of it
pub told_member : (writes own : List Placed) (write : Placed) (proof : Proof) (code : List ℕ) → All HasWriteCode writes → HasWriteCode write → 1 ≤ proof.index → proof.index ≤ proof.count
    → own ≡ writes → code ≡ write_code write → IsCodeAt (leaves_of own) code proof → IsMember writes write proof
told_member writes own write proof code have has from_one within is_own is_code here =
    member_is writes write proof have has from_one within
    (subst (λ bytes. IsCodeAt (leaves_of writes) bytes proof) is_code (subst (λ ws. IsCodeAt (leaves_of ws) code proof) is_own here))

pub told_code : (writes own : List Placed) (write : Placed) (proof : Proof) (code : List ℕ) → own ≡ writes → code ≡ write_code write → IsMember writes write proof → IsCodeAt (leaves_of own) code proof
told_code writes own write proof code is_own is_code here =
    subst (λ ws. IsCodeAt (leaves_of ws) code proof) (sym is_own) (subst (λ bytes. IsCodeAt (leaves_of writes) bytes proof) (sym is_code) (code_is writes write proof here))
