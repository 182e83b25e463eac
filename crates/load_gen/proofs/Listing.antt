-- Transactions and blocks of a load, one after another.
use Rattle.std.proofs.Common.{Bool, List, [], ap, arith, cond, false, length, map, refl, suc, sym, true, zero, ◌+◌, ◌++◌, ◌∙◌, ◌≡◌, ◌∷◌, ℕ}
use Rattle.load_gen.specs.Blocks.{arrivals_among, first_block, goes_to, later_block, txs_from}
use Rattle.load_gen.specs.Transactions.{load_tx}
use Rattle.proc_syntax.specs.declared.call.Block.{Block}
use Rattle.proc_syntax.specs.declared.call.Tx.{Tx}
use Rattle.std.proofs.lemmas.List.FromFn.{length-map-range_with_len, map-range_with_len_more}
use Rattle.std.proofs.lemmas.List.Elements.{filter-append}
use Rattle.std.proofs.lemmas.List.{map-append}
use Rattle.std.specs.List.{filter, range_with_len}

-- ---- transactions

pub no_txs : (tx : ℕ → Tx) (first : ℕ) → [] ≡ txs_from tx first 0
unfolding txs_from
no_txs tx first = refl

-- one more after those so far
pub more_txs : (tx : ℕ → Tx) (first count place next : ℕ) (txs after : List Tx) (one : Tx) → after ≡ txs ++ one ∷ [] → txs ≡ txs_from tx first count → one ≡ tx place → first + count ≡ place → count + 1 ≡ next
    → after ≡ txs_from tx first next
unfolding txs_from
more_txs tx first count place next txs after one pushed are is stands counts =
    pushed ∙ ap (λ front. front ++ one ∷ []) are ∙ ap (λ back. map tx (range_with_len first count) ++ back ∷ []) is
    ∙ sym (map-range_with_len_more tx first count place stands) ∙ ap (λ n. map tx (range_with_len first n)) counts

pub length_txs : (tx : ℕ → Tx) (first count : ℕ) → length (txs_from tx first count) ≡ count
unfolding txs_from
length_txs tx first count = length-map-range_with_len tx first count

-- ---- blocks

-- one more after those so far
pub more_blocks : (load count number next : ℕ) (blocks after : List Block) (one : Block) → after ≡ blocks ++ one ∷ [] → blocks ≡ first_block ∷ map (later_block load) (range_with_len 2 count) → one ≡ later_block load number
    → 2 + count ≡ number → count + 1 ≡ next → after ≡ first_block ∷ map (later_block load) (range_with_len 2 next)
more_blocks load count number next blocks after one pushed are is stands counts =
    pushed ∙ ap (λ front. front ++ one ∷ []) are ∙ ap (λ back. first_block ∷ map (later_block load) (range_with_len 2 count) ++ back ∷ []) is
    ∙ ap (λ rest. first_block ∷ rest) (sym (map-range_with_len_more (later_block load) 2 count number stands) ∙ ap (λ n. map (later_block load) (range_with_len 2 n)) counts)

-- ---- arrivals

range_end : (first count : ℕ) → range_with_len first (suc count) ≡ range_with_len first count ++ (first + count) ∷ []
range_end first zero = let same : first ≡ first + 0 = omega arith in ap (λ n. n ∷ []) same
range_end first (suc count) =
    let same : (first + 1) + count ≡ first + suc count = omega arith in
    ap (λ rest. first ∷ rest) (range_end (first + 1) count ∙ ap (λ n. range_with_len (first + 1) count ++ n ∷ []) same)

map_if : {X Y : Type 0} (f : X → Y) (b : Bool) (x : X) → map f (cond b (x ∷ []) []) ≡ cond b (f x ∷ []) []
map_if f true x = refl
map_if f false x = refl

pub no_arrivals : (load node : ℕ) → [] ≡ arrivals_among load node 0
unfolding arrivals_among
no_arrivals load node = refl

-- one transaction more, which goes to the node or not
pub more_arrivals : (load node count place next : ℕ) (arrivals after : List Tx) (one : Tx) → after ≡ arrivals ++ cond (goes_to node place) (one ∷ []) [] → arrivals ≡ arrivals_among load node count
    → one ≡ load_tx load place → 65 + count ≡ place → count + 1 ≡ next → after ≡ arrivals_among load node next
unfolding arrivals_among
more_arrivals load node count place next arrivals after one arrived are is stands counts =
    let so_far : List Tx = map (load_tx load) (filter (goes_to node) (range_with_len 65 count)) in
    let grown : suc count ≡ next = omega (arith, counts) in
    arrived ∙ ap (λ front. front ++ cond (goes_to node place) (one ∷ []) []) are ∙ ap (λ tx. so_far ++ cond (goes_to node place) (tx ∷ []) []) is
    ∙ sym (ap (λ n. map (load_tx load) (filter (goes_to node) (range_with_len 65 n))) (sym grown)
    ∙ ap (λ numbers. map (load_tx load) (filter (goes_to node) numbers)) (range_end 65 count ∙ ap (λ n. range_with_len 65 count ++ n ∷ []) stands)
    ∙ ap (map (load_tx load)) (filter-append (goes_to node) (range_with_len 65 count) (place ∷ []))
    ∙ map-append (load_tx load) (filter (goes_to node) (range_with_len 65 count)) (filter (goes_to node) (place ∷ []))
    ∙ ap (λ back. so_far ++ back) (map_if (load_tx load) (goes_to node place) place))
