-- The entries of an ordered map between two ends.
use Rattle.std.proofs.Common.{◌≡◌, ◌∙◌, suc, zero, List, [], ◌∷◌, ◌++◌, Bool, true, false, ◌&&◌, not, cond, All, Contains, Option, Some, None, is_some, refl, ap, sym, subst, arith}
use Rattle.std.specs.BTreeMap.{is_at}
use Rattle.std.specs.BTreeMap.Range.{IsLeBy, IsLtBy, range_contains}
use Rattle.std.specs.Range.Bound.{IsForward}
use Rattle.std.specs.List.{AllByRecursion, filter}
use Rattle.std.specs.List.Sorted.{IsStrictlySortedBy}
use Rattle.std.specs.Cmp.{IsTotalOrder, tied_itself, upto}
use Rattle.std.specs.Map.{keys_of, lookup}
use Rattle.std.specs.Ordering.{is_eq, is_gt, is_le, is_lt, ordering_reverse, ordering_then}
use Rattle.std.specs.declared.cmp.Ordering.{Ordering}
use Rattle.std.specs.declared.cmp.Ordering.TheVariants.{Less, Equal, Greater}
use Rattle.std.proofs.lemmas.List.Elements.{All-cons, All-contains, All-filter, All-nil, All-weaker, Contains-append_right}
use Rattle.rel_base.specs.Value.{key_cmp, value_cmp, value_cmp-total}
use Rattle.rel_base.specs.declared.value.Value.{Value}
use Rattle.rel_base.proofs.Bits.{no_both, not_greater, not_greater_back}
use Rattle.version_index.specs.Candidates.{IsBetween, end_of, is_forward, key_end_of}

-- ---- items that pass a test

module _ {X : Type 0} (p : X → Bool) where
  pub passes_filter : (xs : List X) (x : X) → Contains xs x → p x ≡ true → Contains (filter p xs) x
  passes_filter [] x inside passes = let below = inside.1 in absurd (omega (arith, below))
  passes_filter (y ∷ ys) x (zero, below, is) passes =
      subst (λ b. Contains (cond b (y ∷ filter p ys) (filter p ys)) x) (sym (ap p is ∙ passes)) (0, omega arith, is)
  passes_filter (y ∷ ys) x (suc k, below, is) passes =
      elim (p y) as (λ b. Contains (cond b (y ∷ filter p ys) (filter p ys)) x) [
        | true ↦ let rest = passes_filter ys x (k, omega (arith, below), is) passes in let low = rest.1 in (suc rest.0, omega (arith, low), rest.2)
        | false ↦ passes_filter ys x (k, omega (arith, below), is) passes
      ]

-- what a look-up may find, it finds
pub some_there : {X : Type 0} (found : Option X) → is_some found ≡ true → (x : X) × (found ≡ Some x)
some_there None is = cc
some_there (Some x) is = (x, refl)

-- ---- the ends of spans

-- less or equal is not greater the other way round
up_to_end : (a b : Value) → is_le (value_cmp a b) ≡ true → not (is_lt (value_cmp b a)) ≡ true
up_to_end a b below = ap (λ o. not (is_lt o)) (value_cmp-total.antisymm b a) ∙ either (value_cmp a b) below
  where
    either : (o : Ordering) → is_le o ≡ true → not (is_lt (ordering_reverse o)) ≡ true
    either Less is = refl
    either Equal is = refl
    either Greater is = cc

pub in_range : (low high : Option Value) (value : Value) → IsBetween low high value → range_contains value_cmp (end_of low) (end_of high) value ≡ true
in_range None None value between = refl
in_range None (Some high) value between = up_to_end value high between.1
in_range (Some low) None value between = ap (λ b. b && true) between.0
in_range (Some low) (Some high) value between = (λ i. between.0 i && up_to_end value high between.1 i)

-- keys of one value stand as their values do
one_cmp : (a b : Value) → key_cmp (a ∷ []) (b ∷ []) ≡ value_cmp a b
one_cmp a b = go (value_cmp a b)
  where
    go : (o : Ordering) → ordering_then o Equal ≡ o
    go Less = refl
    go Equal = refl
    go Greater = refl

pub in_key_range : (low high : Option Value) (value : Value) → IsBetween low high value → range_contains key_cmp (key_end_of low) (key_end_of high) (value ∷ []) ≡ true
in_key_range None None value between = refl
in_key_range None (Some high) value between = ap (λ o. not (is_lt o)) (one_cmp high value) ∙ up_to_end value high between.1
in_key_range (Some low) None value between = ap (λ o. is_le o && true) (one_cmp low value) ∙ ap (λ b. b && true) between.0
in_key_range (Some low) (Some high) value between =
    (λ i. is_le (one_cmp low value i) && not (is_lt (one_cmp high value i))) ∙ (λ i. between.0 i && up_to_end value high between.1 i)

-- ends of keys are in order where those of values are
pub forward_keys : (low high : Option Value) → is_forward low high ≡ true → IsForward (IsLeBy key_cmp) (IsLtBy key_cmp) (key_end_of low) (key_end_of high)
forward_keys None high is = tt
forward_keys (Some low) None is = tt
forward_keys (Some low) (Some high) is = ap is_gt (one_cmp low high) ∙ not_greater_back (value_cmp low high) is

-- nothing lies between ends of which one is above the other
pub none_between : (low high : Option Value) (value : Value) → is_forward low high ≡ false → IsBetween low high value → ⊥
none_between None high value backward between = no_both true refl backward
none_between (Some low) None value backward between = no_both true refl backward
none_between (Some low) (Some high) value backward between =
    no_both (is_le (value_cmp low high)) (not_greater (value_cmp low high) (upto value_cmp-total low value high (not_greater_back (value_cmp low value) between.0) (not_greater_back (value_cmp value high) between.1))) backward

-- ---- what a map in order holds

module _ {K X : Type 0} (cmp : K → K → Ordering) (total : IsTotalOrder cmp) where
  less_all : (low : K) (es : List (K × X)) → AllByRecursion (λ key. cmp low key ≡ Less) (keys_of es) → All (λ e. cmp low e.0 ≡ Less) es
  less_all low [] less = All-nil (λ e. cmp low e.0 ≡ Less)
  less_all low (e ∷ es) less = All-cons (λ e. cmp low e.0 ≡ Less) e es less.0 (less_all low es less.1)

  -- an entry is found at its key
  found_at_own : (es : List (K × X)) → IsStrictlySortedBy cmp (keys_of es) → All (λ e. lookup (is_at (cmp e.0)) es ≡ Some e.1) es
  unfolding IsStrictlySortedBy
  found_at_own [] rise = All-nil (λ e. lookup (is_at (cmp e.0)) [] ≡ Some e.1)
  found_at_own (e ∷ es) rise =
      let Own : K × X → Type 0 = λ f. lookup (is_at (cmp f.0)) (e ∷ es) ≡ Some f.1 in
      let less = less_all e.0 es rise.0 in
      let rest = found_at_own es rise.1 in
      let both : All (λ f. (cmp e.0 f.0 ≡ Less) × (lookup (is_at (cmp f.0)) es ≡ Some f.1)) es = λ k d below. (less k d below, rest k d below) in
      All-cons Own e es (ap (λ o. cond (is_eq o) (Some e.1) (lookup (is_at (cmp e.0)) es)) (tied_itself total e.0))
      (All-weaker (λ f. (cmp e.0 f.0 ≡ Less) × (lookup (is_at (cmp f.0)) es ≡ Some f.1)) Own
      (λ f is. ap (λ o. cond (is_eq o) (Some e.1) (lookup (is_at (cmp f.0)) es)) (total.antisymm f.0 e.0 ∙ ap ordering_reverse is.0) ∙ is.1) es both)

  -- so is one of those between two ends that stands after others
  pub found_next : (es : List (K × X)) (p : K × X → Bool) (done rest left all : List (K × X)) (e : K × X) → IsStrictlySortedBy cmp (keys_of es) → done ++ left ≡ all → all ≡ filter p es → left ≡ e ∷ rest
      → lookup (is_at (cmp e.0)) es ≡ Some e.1
  found_next es p done rest left all e rise whole kept is =
      let Own : K × X → Type 0 = λ f. lookup (is_at (cmp f.0)) es ≡ Some f.1 in
      let own = subst (All Own) (sym (whole ∙ kept)) (All-filter p Own es (found_at_own es rise)) in
      All-contains Own (done ++ left) e own (Contains-append_right done left e (subst (λ xs. Contains xs e) (sym is) (0, omega arith, refl)))
