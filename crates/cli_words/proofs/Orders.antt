-- In whatever order options stand, each has the same values, if it has at most one.
use Rattle.std.proofs.Common.{◌≡◌, ℕ, ◌+◌, ◌≤◌, List, [], ◌∷◌, Bool, true, false, cond, length, refl, ◌∙◌, sym, ap, arith}
use Rattle.std.specs.Prelude.{bytes_eq}
use Rattle.std.specs.List.{sum_by}
use Rattle.std.specs.List.Sorted.{IsPermutation}
use Rattle.std.proofs.lemmas.List.Sorted.{sum_by-IsPermutation}
use Rattle.std.proofs.lemmas.List.Sums.{sum_by-cons}
use Rattle.cli_words.specs.declared.options.CommandOption.{CommandOption}
use Rattle.cli_words.specs.Language.{Item, values_in}
use Rattle.cli_words.specs.Table.{is_same}
use Rattle.rel_base.proofs.Bytes.{bytes_same, equal_bytes}

-- what the values of an option add up to, over all options
abbrev share : (List ℕ → ℕ) → CommandOption → Item → ℕ
share weight x next = cond (is_same next.option x) (weight next.value) 0

one_share : (weight : List ℕ → ℕ) (value : List ℕ) (values : List (List ℕ)) (total : ℕ) (test : Bool) → sum_by weight values ≡ total → sum_by weight (cond test (value ∷ values) values) ≡ cond test (weight value) 0 + total
one_share weight value values total true e = sum_by-cons weight value values ∙ ap (λ n. weight value + n) e
one_share weight value values total false e = e ∙ omega arith

shares : (weight : List ℕ → ℕ) (x : CommandOption) (items : List Item) → sum_by weight (values_in items x) ≡ sum_by (share weight x) items
shares weight x [] = refl
shares weight x (next ∷ items) =
    one_share weight next.value (values_in items x) (sum_by (share weight x) items) (is_same next.option x) (shares weight x items) ∙ sym (sum_by-cons (share weight x) next items)

same_shares : (items others : List Item) (x : CommandOption) → IsPermutation items others → (weight : List ℕ → ℕ) → sum_by weight (values_in others x) ≡ sum_by weight (values_in items x)
same_shares items others x moved weight = shares weight x others ∙ sum_by-IsPermutation (share weight x) items others moved ∙ sym (shares weight x items)

-- lists that add up alike by every weight are one, if one of them has at most one item
abbrev one : List ℕ → ℕ
one value = 1

abbrev sameness : List ℕ → List ℕ → ℕ
sameness value other = cond (bytes_eq value other) 1 0

tested : (b : Bool) → cond b 1 0 + 0 ≡ 1 → b ≡ true
tested true e = refl
tested false e = absurd (omega (arith, e))

few_alike : (values others : List (List ℕ)) → length values ≤ 1 → ((weight : List ℕ → ℕ) → sum_by weight others ≡ sum_by weight values) → others ≡ values
few_alike [] [] few alike = refl
few_alike [] (other ∷ others) few alike = absurd (omega (arith, alike one, sum_by-cons one other others))
few_alike (value ∷ []) [] few alike = absurd (omega (arith, alike one))
few_alike (value ∷ []) (other ∷ []) few alike =
    let own : sum_by (sameness value) (value ∷ []) ≡ 1 = sum_by-cons (sameness value) value [] ∙ ap (λ b. cond b 1 0 + 0) (bytes_same value) in
    let is : bytes_eq value other ≡ true = tested (bytes_eq value other) (sym (sum_by-cons (sameness value) other []) ∙ alike (sameness value) ∙ own) in
    ap (λ v. v ∷ []) (sym (equal_bytes value other is))
few_alike (value ∷ []) (other ∷ another ∷ others) few alike = absurd (omega (arith, alike one, sum_by-cons one other (another ∷ others), sum_by-cons one another others))
few_alike (value ∷ another ∷ values) others few alike = absurd (omega (arith, few))

pub same_values : (items others : List Item) (x : CommandOption) → IsPermutation items others → length (values_in items x) ≤ 1 → values_in others x ≡ values_in items x
same_values items others x moved few = few_alike (values_in items x) (values_in others x) few (same_shares items others x moved)
