-- The ids of the transactions of a block, as a set gains them.
use Rattle.std.proofs.Common.{Bool, List, [], ap, cond, false, map, refl, sym, true, ◌++◌, ◌||◌, ◌∙◌, ◌≡◌, ◌∷◌, ℕ}
use Rattle.std.proofs.lemmas.List.Folds.{list_any-append}
use Rattle.std.proofs.lemmas.List.{map-append}
use Rattle.std.proofs.lemmas.Map.Text.{is_eq-slice_cmp}
use Rattle.std.specs.BTreeMap.{is_at}
use Rattle.std.specs.BTreeSet.{BTreeSet, contains}
use Rattle.std.specs.Cmp.Lexicographic.{slice_cmp}
use Rattle.std.specs.List.{list_any}
use Rattle.std.specs.Ordering.{nat_cmp}
use Rattle.std.specs.Str.{bytes_eq}
use Rattle.node_core.specs.Fresh.{HasIds}
use Rattle.proc_syntax.specs.declared.call.Tx.{Tx}
use Rattle.rel_base.proofs.Bytes.{bytes_sym}

-- a set that differs by having one id
abbrev pub Gains : BTreeSet (List ℕ) → BTreeSet (List ℕ) → List ℕ → Type 0
Gains old new id = (other : List ℕ) → contains (slice_cmp nat_cmp) new other ≡ cond (is_at (slice_cmp nat_cmp id) other) true (contains (slice_cmp nat_cmp) old other)

-- one more transaction, whose id the set gains
pub has_more : (old new : BTreeSet (List ℕ)) (txs : List Tx) (tx : Tx) → Gains old new tx.id → HasIds old txs → HasIds new (txs ++ tx ∷ [])
has_more old new txs tx gains has = λ id.
    gains id ∙ ap (λ b. cond b true (contains (slice_cmp nat_cmp) old id)) (is_eq-slice_cmp tx.id id ∙ bytes_sym tx.id id)
    ∙ ap (cond (bytes_eq id tx.id) true) (has id)
    ∙ by (bytes_eq id tx.id) (list_any (bytes_eq id) (map (λ (tx : Tx). tx.id) txs))
    ∙ sym (ap (list_any (bytes_eq id)) (map-append (λ (tx : Tx). tx.id) txs (tx ∷ [])) ∙ list_any-append (bytes_eq id) (map (λ (tx : Tx). tx.id) txs) (tx.id ∷ []))
  where
    by : (here before : Bool) → cond here true before ≡ (before || (here || false))
    by true true = refl
    by true false = refl
    by false true = refl
    by false false = refl
