-- No two digests have a majority, and one that has is found.
use Rattle.std.proofs.Common.{◌≡◌, ◌≤◌, ◌<◌, ◌+◌, ◌*◌, ℕ, suc, List, [], ◌∷◌, Bool, true, false, cond, Option, Some, None, length, refl, sym, ◌∙◌, ap, subst, arith}
use Rattle.std.specs.Prelude.{not, slice_get, ◌-◌, ◌||◌}
use Rattle.std.specs.List.{cons_option, count_by, find, list_any, range_with_len}
use Rattle.std.specs.Str.{bytes_eq}
use Rattle.std.proofs.lemmas.Bool.{false≢true, ltb-true}
use Rattle.std.proofs.lemmas.List.Sums.{sum_by-cons}
use Rattle.std.proofs.lemmas.Option.{same_Some}
use Rattle.rel_base.proofs.Bytes.{bytes_same, equal_bytes}
use Rattle.checkpoint.specs.Laws.{MajoritiesAreOne}
use Rattle.checkpoint.specs.Majority.{are_apart, digest_at, digests_at, is_majority, is_same, majority}

-- what is found passes
passes_by : {A : Type 0} (p : A → Bool) (y : A) (ys : List A) (x : A) (passes : Bool) → p y ≡ passes → (find p ys ≡ Some x → p x ≡ true) → cond passes (Some y) (find p ys) ≡ Some x → p x ≡ true
passes_by p y ys x true is later e = ap p (sym (same_Some y x e)) ∙ is
passes_by p y ys x false is later e = later e

found_passes : {A : Type 0} (p : A → Bool) (xs : List A) (x : A) → find p xs ≡ Some x → p x ≡ true
found_passes p [] x e = absurd (cc)
found_passes p (y ∷ ys) x e = passes_by p y ys x (p y) refl (found_passes p ys x) e

-- how many of some peers have a digest at a height
abbrev holders : ℕ → List ℕ → List (List (List ℕ)) → ℕ
holders height digest peers = count_by (λ peer. is_same digest (digest_at peer height)) peers

-- where nothing is found that passes, none has what passes
none_same : (p : List ℕ → Bool) (digest own : List ℕ) (same : Bool) → p digest ≡ true → p own ≡ false → bytes_eq digest own ≡ same → same ≡ false
none_same p digest own true passes fails is = absurd (false≢true (sym fails ∙ ap p (sym (equal_bytes digest own is)) ∙ passes))
none_same p digest own false passes fails is = refl

none_own : (p : List ℕ → Bool) (digest own : List ℕ) (rest : List (List ℕ)) (n : ℕ) (passes : Bool) → p digest ≡ true → p own ≡ passes → cond passes (Some own) (find p rest) ≡ None
    → (find p rest ≡ None → n ≡ 0) → cond (bytes_eq digest own) 1 0 + n ≡ 0
none_own p digest own rest n true right is e later = absurd (cc)
none_own p digest own rest n false right is e later =
    ap (λ (same : Bool). cond same 1 0 + n) (none_same p digest own (bytes_eq digest own) right is refl) ∙ nothing n (later e)
  where
    nothing : (n : ℕ) → n ≡ 0 → 0 + n ≡ 0
    nothing n e = omega arith

none_by : (p : List ℕ → Bool) (digest : List ℕ) (found : Option (List ℕ)) (rest : List (List ℕ)) (n : ℕ) → p digest ≡ true → find p (cons_option found rest) ≡ None
    → (find p rest ≡ None → n ≡ 0) → cond (is_same digest found) 1 0 + n ≡ 0
none_by p digest None rest n right e later = nothing n (later e)
  where
    nothing : (n : ℕ) → n ≡ 0 → 0 + n ≡ 0
    nothing n e = omega arith
none_by p digest (Some own) rest n right e later = none_own p digest own rest n (p own) right refl e later

none_has : (p : List ℕ → Bool) (height : ℕ) (digest : List ℕ) → p digest ≡ true → (peers : List (List (List ℕ))) → find p (digests_at peers height) ≡ None → holders height digest peers ≡ 0
none_has p height digest right [] e = refl
none_has p height digest right (peer ∷ peers) e =
    sum_by-cons (λ peer. cond (is_same digest (digest_at peer height)) 1 0) peer peers
    ∙ none_by p digest (digest_at peer height) (digests_at peers height) (holders height digest peers) right e (none_has p height digest right peers)

-- a peer has at most one of two digests
one_of : (one other own : List ℕ) (left right : Bool) → (one ≡ other → ⊥) → bytes_eq one own ≡ left → bytes_eq other own ≡ right → cond left 1 0 + cond right 1 0 ≤ 1
one_of one other own true true apart is_one is_other = absurd (apart (equal_bytes one own is_one ∙ sym (equal_bytes other own is_other)))
one_of one other own true false apart is_one is_other = omega arith
one_of one other own false true apart is_one is_other = omega arith
one_of one other own false false apart is_one is_other = omega arith

one_at : (one other : List ℕ) (found : Option (List ℕ)) → (one ≡ other → ⊥) → cond (is_same one found) 1 0 + cond (is_same other found) 1 0 ≤ 1
one_at one other None apart = omega arith
one_at one other (Some own) apart = one_of one other own (bytes_eq one own) (bytes_eq other own) apart refl refl

add_up : (a b m n k x y : ℕ) → x ≡ a + m → y ≡ b + n → a + b ≤ 1 → m + n ≤ k → x + y ≤ suc k
add_up a b m n k x y is_x is_y one rest = omega arith

both_few : (height : ℕ) (one other : List ℕ) → (one ≡ other → ⊥) → (peers : List (List (List ℕ))) → holders height one peers + holders height other peers ≤ length peers
both_few height one other apart [] = omega arith
both_few height one other apart (peer ∷ peers) =
    add_up (cond (is_same one (digest_at peer height)) 1 0) (cond (is_same other (digest_at peer height)) 1 0) (holders height one peers) (holders height other peers) (length peers)
    (holders height one (peer ∷ peers)) (holders height other (peer ∷ peers))
    (sum_by-cons (λ peer. cond (is_same one (digest_at peer height)) 1 0) peer peers) (sum_by-cons (λ peer. cond (is_same other (digest_at peer height)) 1 0) peer peers)
    (one_at one other (digest_at peer height) apart) (both_few height one other apart peers)

too_many : (m n k : ℕ) → k < 2 * m → k < 2 * n → m + n ≤ k → ⊥
too_many m n k one other few = omega arith

same_by : (peers : List (List (List ℕ))) (height : ℕ) (most digest : List ℕ) (same : Bool) → bytes_eq most digest ≡ same → is_majority peers height most ≡ true → is_majority peers height digest ≡ true → most ≡ digest
same_by peers height most digest true is one other = equal_bytes most digest is
same_by peers height most digest false is one other = absurd
    (too_many (holders height most peers) (holders height digest peers) (length peers) (ltb-true (length peers) (2 * holders height most peers) one)
    (ltb-true (length peers) (2 * holders height digest peers) other)
    (both_few height most digest (λ e. false≢true (sym is ∙ ap (λ d. bytes_eq d digest) e ∙ bytes_same digest)) peers))

none_most : (k n : ℕ) → k < 2 * n → n ≡ 0 → ⊥
none_most k n more none = omega arith

is_found : (peers : List (List (List ℕ))) (height : ℕ) (digest : List ℕ) (found : Option (List ℕ)) → majority peers height ≡ found → is_majority peers height digest ≡ true → found ≡ Some digest
is_found peers height digest None e passes = absurd
    (none_most (length peers) (holders height digest peers) (ltb-true (length peers) (2 * holders height digest peers) passes) (none_has (is_majority peers height) height digest passes peers e))
is_found peers height digest (Some most) e passes =
    ap Some (same_by peers height most digest (bytes_eq most digest) refl (found_passes (is_majority peers height) (digests_at peers height) most e) passes)

pub majorities_are_one : MajoritiesAreOne
majorities_are_one peers height digest = (
  λ e. found_passes (is_majority peers height) (digests_at peers height) digest e,
  λ passes. is_found peers height digest (majority peers height) refl passes,
)

-- ---- digests that are apart, by the first of them

-- another one than this is among them
abbrev pub others : List ℕ → List (List ℕ) → Bool
others digest digests = list_any (λ own. not (bytes_eq digest own)) digests

alike_by : (digest x : List ℕ) (xs all : List (List ℕ)) (same : Bool) → bytes_eq digest x ≡ same → (not same || others digest xs) ≡ false → others digest all ≡ false
    → (others digest xs ≡ false → list_any (λ one. others one all) xs ≡ false) → (others x all || list_any (λ one. others one all) xs) ≡ false
alike_by digest x xs all true is e none later =
    ap (λ b. b || list_any (λ one. others one all) xs) (subst (λ one. others one all ≡ false) (equal_bytes digest x is) none) ∙ later e
alike_by digest x xs all false is e none later = absurd (false≢true (sym e))

alike : (digest : List ℕ) (xs all : List (List ℕ)) → others digest xs ≡ false → others digest all ≡ false → list_any (λ one. others one all) xs ≡ false
alike digest [] all e none = refl
alike digest (x ∷ xs) all e none = alike_by digest x xs all (bytes_eq digest x) refl e none (λ rest. alike digest xs all rest none)

apart_by : (x : List ℕ) (xs : List (List ℕ)) (some : Bool) → others x (x ∷ xs) ≡ some → others x (x ∷ xs) ≡ are_apart (x ∷ xs)
apart_by x xs true e = e ∙ sym (ap (λ b. b || list_any (λ one. others one (x ∷ xs)) xs) e)
apart_by x xs false e = e ∙ sym (alike x (x ∷ xs) (x ∷ xs) e e)

pub apart_first : (digests : List (List ℕ)) (digest : List ℕ) → Some digest ≡ slice_get digests 0 → others digest digests ≡ are_apart digests
apart_first [] digest e = absurd (cc)
apart_first (x ∷ xs) digest e = subst (λ d. others d (x ∷ xs) ≡ are_apart (x ∷ xs)) (sym (same_Some digest x e)) (apart_by x xs (others x (x ∷ xs)) refl)

pub apart_none : (digests : List (List ℕ)) → None ≡ slice_get digests 0 → false ≡ are_apart digests
apart_none [] e = refl
apart_none (x ∷ xs) e = absurd (cc)

-- the least number that passes, where the first does not
pub find_next : (p : ℕ → Bool) (at n : ℕ) → at < n → p (at + 1) ≡ false → find p (range_with_len (at + 1) (n - at)) ≡ find p (range_with_len (at + 1 + 1) (n - (at + 1)))
find_next p at n inside fails =
    let more : n - at ≡ suc (n - (at + 1)) = omega (arith, inside) in
    ap (λ k. find p (range_with_len (at + 1) k)) more ∙ ap (λ (passes : Bool). cond passes (Some (at + 1)) (find p (range_with_len (at + 1 + 1) (n - (at + 1))))) fails
