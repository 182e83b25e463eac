-- The writes of each block of results stand together in their history, where the numbers of the blocks run from 1.
use Rattle.std.proofs.Common.{All, List, None, Some, [], ap, arith, cond, drop, false, get_or, length, map, refl, slice_get, subst, suc, sym, true, zero, ◌+◌, ◌++◌, ◌<◌, ◌≡◌, ◌≤◌, ◌∙◌, ◌∷◌, ℕ}
use Rattle.std.proofs.lemmas.Bool.{eq-eqb, le-ltb, lt-ltb, ltb-true, ne_eqb}
use Rattle.std.proofs.lemmas.List.Elements.{All-head, All-tail}
use Rattle.std.proofs.lemmas.List.{drop_all}
use Rattle.std.proofs.lemmas.Option.{same_Some}
use Rattle.std.specs.List.{range_with_len}
use Rattle.std.specs.Prelude.{nat_lt}
use Rattle.bcdb.specs.HistoryParts.{from_block}
use Rattle.merkle_proof.specs.Blocks.{numbered}
use Rattle.node_model.specs.declared.result.BlockResult.{BlockResult}
use Rattle.provenance.specs.Laws.{RunFromOne}
use Rattle.provenance.specs.Versions.{history_of}
use Rattle.rel_base.proofs.Lists.{drop_next}
use Rattle.rel_base.specs.Tables.{Stamped}
use Rattle.rel_base.specs.declared.access.Placed.{Placed}
use Rattle.row_sets.proofs.BlockWrites.{drop_none}
use Rattle.row_sets.specs.BlockWrites.{writes_from}

-- ---- one write

-- a write of a block before is passed over
pub from_low : (number at : ℕ) (history : List Stamped) (stamped : Stamped) → slice_get history at ≡ Some stamped → nat_lt stamped.0 number ≡ true
    → from_block number (drop (at + 1) history) ≡ from_block number (drop at history)
from_low number at history stamped there low =
    let after : at + 1 ≡ suc at = omega arith in
    let rest = drop (suc at) history in
    ap (λ n. from_block number (drop n history)) after
    ∙ ap (λ b. cond b (from_block number rest) (stamped ∷ rest)) (sym low)
    ∙ ap (from_block number) (sym (drop_next history at stamped there))

-- any other is not
pub from_high : (number at : ℕ) (history : List Stamped) (stamped : Stamped) → slice_get history at ≡ Some stamped → nat_lt stamped.0 number ≡ false
    → from_block number (drop at history) ≡ drop at history
from_high number at history stamped there high =
    let rest = drop (suc at) history in
    let next = drop_next history at stamped there in
    ap (from_block number) next ∙ ap (λ b. cond b (from_block number rest) (stamped ∷ rest)) high ∙ sym next

-- nor is there anything to pass over where there is none
pub from_none : (number at : ℕ) (history : List Stamped) → slice_get history at ≡ None → from_block number (drop at history) ≡ drop at history
from_none number at history none =
    let gone = drop_none at history none in
    ap (from_block number) gone ∙ sym gone

-- after the last write
pub from_end : (number at count : ℕ) (history : List Stamped) → length history ≤ at → length history ≤ count → drop count history ≡ from_block number (drop at history)
from_end number at count history past over = drop_all count history over ∙ sym (ap (from_block number) (drop_all at history past))

-- ---- from one number to a later one

pub further : (number later : ℕ) (history : List Stamped) → number ≤ later → from_block later (from_block number history) ≡ from_block later history
further number later [] less = refl
further number later (stamped ∷ rest) less =
    let passed = from_block later rest in
    elim (nat_lt stamped.0 number) as (λ b. nat_lt stamped.0 number ≡ b → from_block later (cond b (from_block number rest) (stamped ∷ rest)) ≡ cond (nat_lt stamped.0 later) passed (stamped ∷ rest)) [
      | true ↦ λ low.
          let under = ltb-true stamped.0 number low in
          further number later rest less ∙ ap (λ b. cond b passed (stamped ∷ rest)) (sym (lt-ltb stamped.0 later (omega (arith, under, less))))
      | false ↦ λ high. refl
    ] refl

-- ---- the writes of a block, with others after them

abbrev stamps : ℕ → List Placed → List Stamped
stamps number writes = map (λ placed. (number, placed)) writes

none_first : (number own : ℕ) (writes : List Placed) (rest : List Stamped) → number < own → writes_from number rest ≡ [] → writes_from number (stamps own writes ++ rest) ≡ []
none_first number own [] rest less none = none
none_first number own (write ∷ writes) rest less none =
    ap (λ b. cond b (write ∷ writes_from number (stamps own writes ++ rest)) []) (ne_eqb own number (λ same. omega (arith, same, less)))

own_first : (number : ℕ) (writes : List Placed) (rest : List Stamped) → writes_from number rest ≡ [] → writes_from number (stamps number writes ++ rest) ≡ writes
own_first number [] rest none = none
own_first number (write ∷ writes) rest none =
    ap (λ b. cond b (write ∷ writes_from number (stamps number writes ++ rest)) []) (eq-eqb number number refl) ∙ ap (λ ws. write ∷ ws) (own_first number writes rest none)

all_stay : (number own : ℕ) (writes : List Placed) (rest : List Stamped) → number ≤ own → from_block number rest ≡ rest → from_block number (stamps own writes ++ rest) ≡ stamps own writes ++ rest
all_stay number own [] rest less stay = stay
all_stay number own (write ∷ writes) rest less stay =
    let others = stamps own writes ++ rest in
    ap (λ b. cond b (from_block number others) ((own, write) ∷ others)) (le-ltb own number less)

none_stay : (number own : ℕ) (writes : List Placed) (rest : List Stamped) → own < number → from_block number (stamps own writes ++ rest) ≡ from_block number rest
none_stay number own [] rest less = refl
none_stay number own (write ∷ writes) rest less =
    let others = stamps own writes ++ rest in
    ap (λ b. cond b (from_block number others) ((own, write) ∷ others)) (lt-ltb own number less) ∙ none_stay number own writes rest less

-- ---- blocks whose numbers run from one on

abbrev RunFrom : ℕ → List BlockResult → Type 0
RunFrom number [] = Unit {0}
RunFrom number (block ∷ rest) = (block.number ≡ number) × RunFrom (number + 1) rest

run_from : (number : ℕ) (blocks : List BlockResult) → map (λ block. block.number) blocks ≡ range_with_len number (length (map (λ block. block.number) blocks)) → RunFrom number blocks
run_from number [] run = tt
run_from number (block ∷ rest) run = (ap (λ ns. head_or ns 0) run, run_from (number + 1) rest (ap tail_of run))
  where
    head_or : List ℕ → ℕ → ℕ
    head_or [] d = d
    head_or (n ∷ ns) d = n

    tail_of : List ℕ → List ℕ
    tail_of [] = []
    tail_of (n ∷ ns) = ns

none_of : (number first : ℕ) (blocks : List BlockResult) → RunFrom first blocks → number < first → writes_from number (history_of blocks) ≡ []
none_of number first [] run less = refl
none_of number first (block ∷ rest) run less =
    let own : block.number ≡ first = run.0 in
    none_first number block.number block.writes (history_of rest) (omega (arith, own, less)) (none_of number (first + 1) rest run.1 (omega (arith, less)))

all_of : (number first : ℕ) (blocks : List BlockResult) → RunFrom first blocks → number ≤ first → from_block number (history_of blocks) ≡ history_of blocks
all_of number first [] run less = refl
all_of number first (block ∷ rest) run less =
    let own : block.number ≡ first = run.0 in
    all_stay number block.number block.writes (history_of rest) (omega (arith, own, less)) (all_of number (first + 1) rest run.1 (omega (arith, less)))

number_of : (first place : ℕ) (blocks : List BlockResult) (block : BlockResult) → RunFrom first blocks → slice_get blocks place ≡ Some block → block.number ≡ first + place
number_of first place [] block run there = cc
number_of first zero (own ∷ rest) block run there = let none : first ≡ first + 0 = omega arith in ap (λ (b : BlockResult). b.number) (sym (same_Some own block there)) ∙ run.0 ∙ none
number_of first (suc place) (own ∷ rest) block run there = let on : first + 1 + place ≡ first + suc place = omega arith in number_of (first + 1) place rest block run.1 there ∙ on

-- those of a block stand where its number says
part_of : (first place : ℕ) (blocks : List BlockResult) (block : BlockResult) → RunFrom first blocks → slice_get blocks place ≡ Some block
    → writes_from (first + place) (from_block (first + place) (history_of blocks)) ≡ block.writes
part_of first place [] block run there = cc
part_of first zero (own ∷ rest) block run there =
    let none : first + 0 ≡ first = omega arith in
    ap (λ n. writes_from n (from_block n (history_of (own ∷ rest)))) none
    ∙ ap (writes_from first) (all_of first first (own ∷ rest) run (omega arith))
    ∙ ap (λ n. writes_from first (stamps n own.writes ++ history_of rest)) run.0
    ∙ own_first first own.writes (history_of rest) (none_of first (first + 1) rest run.1 (omega arith))
    ∙ ap (λ (b : BlockResult). b.writes) (same_Some own block there)
part_of first (suc place) (own ∷ rest) block run there =
    let on : first + suc place ≡ first + 1 + place = omega arith in
    let same : own.number ≡ first = run.0 in
    ap (λ n. writes_from n (from_block n (history_of (own ∷ rest)))) on
    ∙ ap (writes_from (first + 1 + place)) (none_stay (first + 1 + place) own.number own.writes (history_of rest) (omega (arith, same)))
    ∙ part_of (first + 1) place rest block run.1 there

-- ---- what the code walks

there : {X : Type 0} (xs : List X) (place : ℕ) (x : X) → place < length xs → x ≡ get_or xs place x → slice_get xs place ≡ Some x
there [] place x below is = absurd (omega (arith, below))
there (y ∷ ys) zero x below is = ap Some (sym is)
there (y ∷ ys) (suc place) x below is = there ys place x (omega (arith, below)) is

holds_at : {X : Type 0} (P : X → Type 0) (xs : List X) (place : ℕ) (x : X) → All P xs → slice_get xs place ≡ Some x → P x
holds_at P [] place x all is = absurd (cc)
holds_at P (y ∷ ys) zero x all is = subst P (same_Some y x is) (All-head P y ys all)
holds_at P (y ∷ ys) (suc place) x all is = holds_at P ys place x (All-tail P y ys all) is

-- what holds of all holds of that of a number
pub holds_numbered : {X : Type 0} (P : X → Type 0) (xs : List X) (number : ℕ) (x : X) → All P xs → numbered xs number ≡ Some x → P x
holds_numbered P xs zero x all is = absurd (cc)
holds_numbered P xs (suc before) x all is = holds_at P xs before x all is

-- of a block of a number
pub numbered_part : (blocks : List BlockResult) (number : ℕ) (block : BlockResult) → RunFromOne (map (λ b. b.number) blocks) → numbered blocks number ≡ Some block
    → writes_from number (from_block number (history_of blocks)) ≡ block.writes
numbered_part blocks zero block run is = cc
numbered_part blocks (suc before) block run is =
    let next : suc before ≡ 1 + before = omega arith in
    ap (λ n. writes_from n (from_block n (history_of blocks))) next ∙ part_of 1 before blocks block (run_from 1 blocks run) is

-- of the next block of a walk: its writes, and that those of the blocks after it stand after these
pub record IsNext (index number : ℕ) (part history : List Stamped) (block : BlockResult) : Type 0 where
  pub writes : writes_from number part ≡ block.writes
  pub later : from_block (index + 1 + 1) part ≡ from_block (index + 1 + 1) history

pub next_part : (blocks : List BlockResult) (index number : ℕ) (left part history : List Stamped) (block : BlockResult) → RunFromOne (map (λ b. b.number) blocks) → history ≡ history_of blocks
    → index < length blocks → block ≡ get_or blocks index block → number ≡ block.number → part ≡ from_block number left → from_block (index + 1) left ≡ from_block (index + 1) history
    → IsNext index number part history block
next_part blocks index number left part history block run same below is own found walked =
    let runs = run_from 1 blocks run in
    let at = there blocks index block below is in
    let count : 1 + index ≡ index + 1 = omega arith in
    let next : number ≡ index + 1 = own ∙ number_of 1 index blocks block runs at ∙ count in
    let begins : part ≡ from_block (index + 1) history = found ∙ ap (λ n. from_block n left) next ∙ walked in
    record {
      writes =
          ap (λ n. writes_from n part) next ∙ ap (writes_from (index + 1)) begins ∙ ap (λ h. writes_from (index + 1) (from_block (index + 1) h)) same
          ∙ ap (λ n. writes_from n (from_block n (history_of blocks))) (sym count) ∙ part_of 1 index blocks block runs at;
      later = ap (from_block (index + 1 + 1)) begins ∙ further (index + 1) (index + 1 + 1) history (omega arith);
    }
