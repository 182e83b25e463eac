-- Keys that are added to those that were found.
use Rattle.std.proofs.Common.{◌≡◌, ◌∙◌, ℕ, List, [], ◌∷◌, ◌++◌, Bool, true, false, ◌||◌, Option, ◌⊎◌, inl, inr, refl, ap, sym, subst, Contains, arith, drop, slice_get, OnOk, Result, Ok, Err}
use Rattle.std.specs.Borrow.{Bor}
use Rattle.std.proofs.lemmas.List.Elements.{All-append, All-cons, All-nil, Contains-push_cases}
use Rattle.std.proofs.lemmas.List.{append-nil}
use Rattle.rel_base.specs.declared.value.Value.{Value}
use Rattle.rel_base.specs.Value.{key_eq}
use Rattle.row_sets.proofs.Histories.{unwrapped}
use Rattle.version_index.specs.Candidates.{Adds, IsCandidate, has_key}
use Rattle.version_index.specs.Chains.{slot_of}
use Rattle.version_index.specs.declared.chains.Chains.{Chains}
use Rattle.version_index.proofs.Keys.{key_itself}

-- a key, or a number, is wanted by one of the items
abbrev pub ByOne : {E K : Type 0} → List E → (E → K → Type 0) → K → Type 0
ByOne {E} es Wanted key = (e : E) × Contains es e × Wanted e key

module _ (chains : Chains) where
  -- no keys are added, where none is wanted
  pub adds_none : (found : List (Bor (List Value) × Option ℕ)) (Wanted : List Value → Type 0) → ((key : List Value) → Wanted key → ⊥) → Adds chains found found Wanted
  adds_none found Wanted none = record { right = λ all. all; kept = λ key is. is; added = λ key wanted. absurd (none key wanted) }

  -- more are added than are wanted
  pub adds_weaker : (old new : List (Bor (List Value) × Option ℕ)) (Wanted Fewer : List Value → Type 0) → ((key : List Value) → Fewer key → Wanted key) → Adds chains old new Wanted → Adds chains old new Fewer
  adds_weaker old new Wanted Fewer few adds = record { right = adds.right; kept = adds.kept; added = λ key wanted. adds.added key (few key wanted) }

  -- first some and then others
  pub adds_then : (old mid new : List (Bor (List Value) × Option ℕ)) (One Other Wanted : List Value → Type 0) → ((key : List Value) → Wanted key → One key ⊎ Other key)
      → Adds chains old mid One → Adds chains mid new Other → Adds chains old new Wanted
  adds_then old mid new One Other Wanted either one other =
      record { right = λ all. other.right (one.right all); kept = λ key is. other.kept key (one.kept key is); added = λ key wanted. go key (either key wanted) }
    where
      go : (key : List Value) → One key ⊎ Other key → has_key new key ≡ true
      go key (inl is) = other.kept key (one.added key is)
      go key (inr is) = other.added key is

  has_end : (found : List (Bor (List Value) × Option ℕ)) (c : Bor (List Value) × Option ℕ) (key : List Value) → has_key (found ++ c ∷ []) key ≡ (has_key found key || key_eq key c.0.now)
  has_end [] c key = either (key_eq key c.0.now)
    where
      either : (b : Bool) → (b || false) ≡ b
      either true = refl
      either false = refl
  has_end (d ∷ found) c key = ap (λ b. key_eq key d.0.now || b) (has_end found c key) ∙ shift (key_eq key d.0.now)
    where
      shift : (a : Bool) → (a || (has_key found key || key_eq key c.0.now)) ≡ ((a || has_key found key) || key_eq key c.0.now)
      shift true = refl
      shift false = refl

  -- one key with its slot
  pub adds_one : (found new : List (Bor (List Value) × Option ℕ)) (key : Bor (List Value)) (slot : Option ℕ) (Wanted : List Value → Type 0) → new ≡ found ++ (key, slot) ∷ [] → slot ≡ slot_of chains key.now
      → ((k : List Value) → Wanted k → k ≡ key.now) → Adds chains found new Wanted
  adds_one found new key slot Wanted is own one =
      subst (λ now. Adds chains found now Wanted) (sym is) (
      record {
        right = λ all. All-append (IsCandidate chains) found ((key, slot) ∷ []) all (All-cons (IsCandidate chains) (key, slot) [] own (All-nil (IsCandidate chains)));
        kept = λ k had. has_end found (key, slot) k ∙ ap (λ b. b || key_eq k key.now) had;
        added = λ k wanted. has_end found (key, slot) k ∙ ap (λ q. has_key found k || key_eq k q) (sym (one k wanted)) ∙ ap (λ b. has_key found k || b) (key_itself k) ∙ second (has_key found k);
      })
    where
      second : (b : Bool) → (b || true) ≡ true
      second true = refl
      second false = refl

  -- ---- those of some items, one by one

  pub each_start : {E : Type 0} (Wanted : E → List Value → Type 0) (found : List (Bor (List Value) × Option ℕ)) → Adds chains found found (ByOne [] Wanted)
  each_start Wanted found = adds_none found (ByOne [] Wanted) (λ key some. let below = some.1.1 in absurd (omega (arith, below)))

  pub each_next : {E : Type 0} (Wanted : E → List Value → Type 0) (es : List E) (e : E) (old mid new : List (Bor (List Value) × Option ℕ)) → Adds chains old mid (ByOne es Wanted) → Adds chains mid new (Wanted e)
      → Adds chains old new (ByOne (es ++ e ∷ []) Wanted)
  each_next Wanted es e old mid new before here = adds_then old mid new (ByOne es Wanted) (Wanted e) (ByOne (es ++ e ∷ []) Wanted) (λ key some. either key some (Contains-push_cases es e some.0 some.1)) before here
    where
      either : (key : List Value) → (some : ByOne (es ++ e ∷ []) Wanted key) → Contains es some.0 ⊎ (e ≡ some.0) → ByOne es Wanted key ⊎ Wanted e key
      either key some (inl before) = inl (some.0, before, some.2)
      either key some (inr same) = inr (subst (λ x. Wanted x key) (sym same) some.2)

-- ---- lists that are gone through

-- one item goes over from what is left to what was done
pub one_over : {E : Type 0} (done left rest all : List E) (e : E) → done ++ left ≡ all → left ≡ e ∷ rest → (done ++ e ∷ []) ++ rest ≡ all
one_over [] left rest all e whole is = sym is ∙ whole
one_over (d ∷ done) left rest [] e whole is = cc
one_over (d ∷ done) left rest (a ∷ all) e whole is = (λ i. unwrapped d a (ap (λ xs. slice_get xs 0) whole) i ∷ one_over done left rest all e (ap (drop 1) whole) is i)

-- where nothing is left, all was done
pub all_done : {E : Type 0} (done left all : List E) → done ++ left ≡ all → left ≡ [] → done ≡ all
all_done done left all whole is = sym (append-nil done) ∙ ap (λ rest. done ++ rest) (sym is) ∙ whole

-- what follows from what a call leaves where it goes well
pub on_ok : {X E P Q : Type 0} (result : Result X E) → (P → Q) → OnOk result P → OnOk result Q
on_ok (Ok x) step is = step is
on_ok (Err e) step is = is
