-- Reading items one after another, as a loop does.
use Rattle.std.proofs.Common.{◌≡◌, ℕ, suc, ◌-◌, ◌+◌, ◌≤◌, ◌<◌, List, [], ◌∷◌, ◌++◌, Option, Some, None, refl, sym, ap, ◌∙◌, append_assoc, arith}
use Rattle.std.proofs.lemmas.List.{append-nil}
use Rattle.canon_code.specs.Parts.{◌>>=◌, items_at}

-- the items that were read, before those that are still read
abbrev pub with_items : {A : Type 0} → List A → Option (List A × List ℕ) → Option (List A × List ℕ)
with_items front None = None
with_items front (Some found) = Some (front ++ found.0, found.1)

regroup : {A : Type 0} (front : List A) (x : A) (found : Option (List A × List ℕ)) → with_items front (found >>= λ others. Some (x ∷ others.0, others.1)) ≡ with_items (front ++ (x ∷ [])) found
regroup front x None = refl
regroup front x (Some others) = ap (λ items. Some (items, others.1)) (sym (append_assoc front (x ∷ []) others.0))

-- where an item is left, it is read first
item_left : {A : Type 0} (reading : List ℕ → Option (A × List ℕ)) (front : List A) (count i : ℕ) (bytes : List ℕ) → i < count
    → with_items front (items_at reading (count - i) bytes)
    ≡ with_items front (reading bytes >>= λ first. (items_at reading (count - (i + 1)) first.1 >>= λ others. Some (first.0 ∷ others.0, others.1)))
item_left reading front count i bytes lt =
    let more : count - i ≡ suc (count - (i + 1)) = omega (arith, lt) in
    ap (λ n. with_items front (items_at reading n bytes)) more

pub items_step : {A : Type 0} (reading : List ℕ → Option (A × List ℕ)) (front : List A) (count i : ℕ) (bytes : List ℕ) (x : A) (rest : List ℕ) → i < count → reading bytes ≡ Some (x, rest)
    → with_items (front ++ (x ∷ [])) (items_at reading (count - (i + 1)) rest) ≡ with_items front (items_at reading (count - i) bytes)
items_step reading front count i bytes x rest lt found =
    sym (regroup front x (items_at reading (count - (i + 1)) rest))
    ∙ ap (λ one. with_items front (one >>= λ first. (items_at reading (count - (i + 1)) first.1 >>= λ others. Some (first.0 ∷ others.0, others.1)))) (sym found)
    ∙ sym (item_left reading front count i bytes lt)

pub items_stop : {A : Type 0} (reading : List ℕ → Option (A × List ℕ)) (front : List A) (count i : ℕ) (bytes : List ℕ) → i < count → reading bytes ≡ None
    → with_items front (items_at reading (count - i) bytes) ≡ None
items_stop reading front count i bytes lt none =
    item_left reading front count i bytes lt
    ∙ ap (λ one. with_items front (one >>= λ first. (items_at reading (count - (i + 1)) first.1 >>= λ others. Some (first.0 ∷ others.0, others.1)))) none

pub items_done : {A : Type 0} (reading : List ℕ → Option (A × List ℕ)) (front : List A) (count i : ℕ) (bytes : List ℕ) → count ≤ i
    → with_items front (items_at reading (count - i) bytes) ≡ Some (front, bytes)
items_done reading front count i bytes le =
    let no_more : count - i ≡ 0 = omega (arith, le) in
    ap (λ n. with_items front (items_at reading n bytes)) no_more ∙ ap (λ items. Some (items, bytes)) (append-nil front)
