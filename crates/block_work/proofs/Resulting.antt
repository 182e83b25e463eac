-- The result of a block in work.
use Rattle.std.proofs.Common.{All, List, None, Option, Some, [], ap, arith, length, map, refl, subst, suc, sym, zero, ◌*◌, ◌+◌, ◌-◌, ◌<◌, ◌^◌, ◌∙◌, ◌≡◌, ◌≤◌, ◌∷◌, ℕ}
use Rattle.std.proofs.lemmas.List.Elements.{All-append, All-cons, All-head, All-map, All-nil, All-tail, All-weaker}
use Rattle.std.proofs.lemmas.List.{length-append, length-map}
use Rattle.std.specs.Prelude.{Bool, slice_get, ℤ}
use Rattle.block_digest.specs.Codable.{AreCodable, IsFewWrite}
use Rattle.block_digest.specs.Lent.{placed_at}
use Rattle.node_model.specs.BlockCode.{digest_of}
use Rattle.node_model.specs.Fold.{block_result, digest_after, no_digest}
use Rattle.node_model.specs.History.{SealedBlock}
use Rattle.node_model.specs.History.{placed_of}
use Rattle.node_model.specs.Order.{is_free, order, order_from, place, serial_order, take_first}
use Rattle.node_model.specs.declared.result.BlockResult.{BlockResult}
use Rattle.node_model.specs.declared.result.Committed.{Committed}
use Rattle.node_model.specs.declared.result.Told.{Told}
use Rattle.node_model.specs.Edges.{StandByPosition}
use Rattle.block_work.proofs.Bounds.{fitting_few}
use Rattle.block_work.proofs.Consistent.{fewer, rising}
use Rattle.block_work.specs.Block.{IsConsistent, KeepsEdges, StandInOrder}
use Rattle.block_work.specs.Results.{HasFewWrites, IsWithinLimits}
use Rattle.block_work.specs.declared.block.BlockInWork.{BlockInWork}
use Rattle.proc_check.specs.Sizes.{IsSmall}
use Rattle.rel_base.specs.Among.{WriteFitsIn}
use Rattle.rel_base.specs.declared.access.Placed.{Placed}
use Rattle.rel_base.specs.declared.schema.TableDef.{TableDef}
use Rattle.rw_graph.specs.Graph.{has_edge, positions_of}
use Rattle.rw_graph.specs.declared.edge_set.EdgeSet.{EdgeSet}
use Rattle.serial_laws.proofs.Positions.{order_by_position}

-- ---- the digest of the last block

same_digest : (first block : BlockResult) → Some first ≡ Some block → first.digest ≡ block.digest
same_digest first block is = ap (λ (one : BlockResult). one.digest) (same first block is)
  where
    same : (x y : BlockResult) → Some x ≡ Some y → x ≡ y
    same x y is = cc

last_at : (previous : List ℕ) (blocks : List BlockResult) (place : ℕ) (block : BlockResult) → place + 1 ≡ length blocks → slice_get blocks place ≡ Some block → digest_after previous blocks ≡ block.digest
last_at previous [] place block last is = absurd (omega (arith, last))
last_at previous (first ∷ []) zero block last is = same_digest first block is
last_at previous (first ∷ []) (suc place) block last is = absurd (omega (arith, last))
last_at previous (first ∷ second ∷ rest) zero block last is = absurd (omega (arith, last))
last_at previous (first ∷ second ∷ rest) (suc place) block last is = last_at first.digest (second ∷ rest) place block (omega (arith, last)) is

some_at : (blocks : List BlockResult) (place : ℕ) → place < length blocks → slice_get blocks place ≡ None → ⊥
some_at [] place within is = omega (arith, within)
some_at (first ∷ rest) zero within is = cc
some_at (first ∷ rest) (suc place) within is = some_at rest place (omega (arith, within)) is

pub digest_of_last : (previous : List ℕ) (blocks : List BlockResult) (block : BlockResult) → Some block ≡ slice_get blocks (length blocks - 1) → block.digest ≡ digest_after previous blocks
digest_of_last previous [] block is = cc
digest_of_last previous (first ∷ rest) block is = sym (last_at previous (first ∷ rest) (length (first ∷ rest) - 1) block (omega arith) (sym is))

pub digest_of_none : (previous : List ℕ) (blocks : List BlockResult) → None ≡ slice_get blocks (length blocks - 1) → previous ≡ digest_after previous blocks
digest_of_none previous [] is = refl
digest_of_none previous (first ∷ rest) is = absurd (some_at (first ∷ rest) (length (first ∷ rest) - 1) (omega arith) (sym is))

-- ---- the serial order

order_short : (edge : ℕ → ℕ → Bool) (times : ℕ) (set : List ℕ) → length (order_from edge times set) ≤ times
order_short edge zero set = omega arith
order_short edge (suc times) set = after (take_first (is_free edge set) set) (order_short edge times)
  where
    after : (taken : Option (ℕ × List ℕ)) → ((rest : List ℕ) → length (order_from edge times rest) ≤ times) → length (place (order_from edge times) taken) ≤ suc times
    after None short = omega arith
    after (Some taken) short = let few = short taken.1 in omega (arith, few)

pub order_few : (edge : ℕ → ℕ → Bool) (set list : List ℕ) → list ≡ order edge set → length set ≤ 1024 → length list < 2 ^ 32
order_few edge set list is few =
    let short = order_short edge (length set) set in
    let same : length list ≡ length (order edge set) = ap length is in
    omega (arith, short, same, few)

-- ---- the writes

pub few_placed : (committed : List Committed) → All HasFewWrites committed → length (placed_of committed) ≤ 100000 * length committed
few_placed [] few = omega arith
few_placed (done ∷ rest) few =
    let own = (All-head HasFewWrites done rest few).0 in
    let others = few_placed rest (All-tail HasFewWrites done rest few) in
    let both = length-append (map (placed_at done.pos) done.writes) (placed_of rest) in
    let same = length-map done.writes (placed_at done.pos) in
    omega (arith, own, others, both, same)

pub rows_placed : (committed : List Committed) → All HasFewWrites committed → All IsFewWrite (placed_of committed)
rows_placed [] few = All-nil IsFewWrite
rows_placed (done ∷ rest) few =
    All-append IsFewWrite (map (placed_at done.pos) done.writes) (placed_of rest)
    (All-map IsFewWrite (placed_at done.pos) done.writes (All-head HasFewWrites done rest few).1) (rows_placed rest (All-tail HasFewWrites done rest few))

-- they are few enough to be counted in a code
pub few_written : (outcomes : List Told) (committed : List Committed) → IsWithinLimits outcomes committed → length (placed_of committed) < 2 ^ 32
few_written outcomes committed is =
    let few = few_placed committed is.writes in
    let most = is.few_committed in
    omega (arith, few, most)

pub codable : (outcomes : List Told) (committed : List Committed) (order : List ℕ) → IsWithinLimits outcomes committed → length order < 2 ^ 32 → AreCodable outcomes order (placed_of committed)
codable outcomes committed order is few_order =
    let all = is.few_outcomes in
    record {
      few_outcomes = omega (arith, all);
      few_positions = few_order;
      few_writes = few_written outcomes committed is;
      keys = is.keys;
      rows = rows_placed committed is.writes;
    }

-- parts that are lent have a code where those that they are lent of have one
pub lent_codable : (outcomes lent : List Told) (list lent_list : List ℕ) (committed lent_committed : List Committed) → lent ≡ outcomes → lent_list ≡ list → lent_committed ≡ committed
    → AreCodable outcomes list (placed_of committed) → AreCodable lent lent_list (placed_of lent_committed)
lent_codable outcomes lent list lent_list committed lent_committed o l d are =
    subst (λ all. AreCodable all lent_list (placed_of lent_committed)) (sym o)
    (subst (λ positions. AreCodable outcomes positions (placed_of lent_committed)) (sym l) (subst (λ done. AreCodable outcomes list (placed_of done)) (sym d) are))

-- a result by its parts
abbrev pub with_parts : ℕ → ℤ → List Told → List ℕ → List Placed → List ℕ → BlockResult
with_parts number time outcomes list writes digest = record { number = number; time = time; outcomes = outcomes; order = list; writes = writes; digest = digest }

-- the order of an edge set that keeps the edges of committed transactions is their serial order
pub order_kept : (tables : List TableDef) (committed : List Committed) (set : EdgeSet) (list : List ℕ) → StandByPosition committed → list ≡ order (has_edge set) (positions_of set)
    → KeepsEdges tables committed set → list ≡ serial_order tables committed
order_kept tables committed set list rise is keeps =
    is ∙ (λ i. order (λ from to. keeps.edges from to i) (keeps.positions i)) ∙ order_by_position tables committed rise

-- a result whose parts are lent is that of the parts
pub same_parts : (number : ℕ) (time lent_time : ℤ) (outcomes lent : List Told) (list lent_list : List ℕ) (committed lent_committed : List Committed)
    → lent_time ≡ time → lent ≡ outcomes → lent_list ≡ list → lent_committed ≡ committed
    → with_parts number lent_time lent lent_list (placed_of lent_committed) no_digest ≡ with_parts number time outcomes list (placed_of committed) no_digest
same_parts number time lent_time outcomes lent list lent_list committed lent_committed t o l d = λ i. with_parts number (t i) (o i) (l i) (placed_of (d i)) no_digest

-- the result that is made of a block is that of the definition
pub result_is : (tables : List TableDef) (previous : List ℕ) (block : SealedBlock) (time : ℤ) (outcomes : List Told) (edges : EdgeSet) (list digest : List ℕ)
    → time ≡ block.time → outcomes ≡ block.outcomes → StandByPosition block.committed → KeepsEdges tables block.committed edges → list ≡ order (has_edge edges) (positions_of edges)
    → digest ≡ digest_of previous (with_parts block.number block.time block.outcomes list (placed_of block.committed) no_digest)
    → with_parts block.number time outcomes list (placed_of block.committed) digest
    ≡ block_result tables previous block
result_is tables previous block time outcomes edges list digest same copied rise keeps listed told =
    let ordered = order_kept tables block.committed edges list rise listed keeps in
    let whole = told ∙ ap (λ positions. digest_of previous (with_parts block.number block.time block.outcomes positions (placed_of block.committed) no_digest)) ordered in
    λ i. with_parts block.number (same i) (copied i) (ordered i) (placed_of block.committed) (whole i)

-- ---- a block in work

each_few : (tables : List TableDef) → All IsSmall tables → (low high : ℕ) (committed : List Committed) → StandInOrder tables low committed high → All (λ done. length done.writes ≤ 100000) committed
    → All HasFewWrites committed
each_few tables small low high [] are few = All-nil HasFewWrites
each_few tables small low high (done ∷ rest) are few =
    All-cons HasFewWrites done rest
    ((All-head (λ (done : Committed). length done.writes ≤ 100000) done rest few), All-weaker (WriteFitsIn tables) (λ write. IsFewWrite (placed_at done.pos write)) (fitting_few tables small done.pos) done.writes are.1)
    (each_few tables small done.pos high rest are.3 (All-tail (λ (done : Committed). length done.writes ≤ 100000) done rest few))

pub within_limits : (tables : List TableDef) (work : BlockInWork) → All IsSmall tables → IsConsistent tables work → length work.outcomes.items ≤ 1024 → IsWithinLimits work.outcomes.items work.committed.items
within_limits tables work small is few =
    let count = fewer tables 0 (length work.outcomes.items) work.committed.items is.committed in
    record {
      few_outcomes = few;
      few_committed = omega (arith, count, few);
      rise = rising tables 0 (length work.outcomes.items) work.committed.items is.committed;
      keys = is.keys;
      writes = each_few tables small 0 (length work.outcomes.items) work.committed.items is.committed is.few;
    }

pub few_positions : (tables : List TableDef) (work : BlockInWork) → IsConsistent tables work → length work.outcomes.items ≤ 1024 → length (positions_of work.edges) ≤ 1024
few_positions tables work is few =
    let count = fewer tables 0 (length work.outcomes.items) work.committed.items is.committed in
    let same : length (positions_of work.edges) ≡ length work.committed.items = ap length is.edges.positions ∙ length-map work.committed.items (λ (done : Committed). done.pos) in
    omega (arith, count, few, same)
