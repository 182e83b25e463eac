-- Jobs by their ids: what an index gains, and the newest of some ids.
use Rattle.std.proofs.Common.{All, Bool, IsTrue, List, None, Option, Some, [], ap, append_assoc, arith, cond, false, length, refl, slice_get, subst, suc, sym, take, true, zero, ◌+◌, ◌++◌, ◌∙◌, ◌≡◌, ◌≤◌, ◌∷◌, ℕ}
use Rattle.std.proofs.lemmas.List.Elements.{All-append, All-cons, All-nil, All-weaker}
use Rattle.std.proofs.lemmas.List.{length-map, map-append}
use Rattle.std.proofs.lemmas.Map.Text.{is_eq-slice_cmp}
use Rattle.std.proofs.lemmas.Option.{none-some, same_Some}
use Rattle.std.proofs.lemmas.Slice.Eq.{bytes_eq-Decides}
use Rattle.std.specs.BTreeMap.{is_at}
use Rattle.std.specs.Cmp.Lexicographic.{slice_cmp}
use Rattle.std.specs.Ordering.{nat_cmp}
use Rattle.std.specs.Prelude.{is_some, vec_capacity, vec_len}
use Rattle.std.specs.Str.{bytes_eq}
use Rattle.node_core.specs.ById.{HasEntry, HasRoom, Indexes, KeepsHeld, SameJobs, behind_first, newest, newest_of, number_at, olders, or_zero, tx_ids}
use Rattle.node_core.specs.declared.index.JobIndex.{JobIndex}
use Rattle.node_model.specs.Steps.{Shared}
use Rattle.proc_syntax.specs.declared.call.Tx.{Tx}
use Rattle.rel_base.proofs.Bytes.{bytes_sym, equal_bytes}

-- ---- equal ids

-- ---- an index that gains an entry

-- an index whose map differs at one id alone
abbrev pub Sets : JobIndex → JobIndex → List ℕ → ℕ → Type 0
Sets old new id number = (other : List ℕ) → number_at new other ≡ cond (is_at (slice_cmp nat_cmp id) other) (Some number) (number_at old other)

by_id : (old new : JobIndex) (id : List ℕ) (number : ℕ) → Sets old new id number → (other : List ℕ) → number_at new other ≡ cond (bytes_eq other id) (Some number) (number_at old other)
by_id old new id number sets = λ other. sets other ∙ ap (λ b. cond b (Some number) (number_at old other)) (is_eq-slice_cmp id other ∙ bytes_sym id other)

pub set_newest : (old new : JobIndex) (id : List ℕ) (number : ℕ) → Sets old new id number → (other : List ℕ) → newest_of new other ≡ cond (bytes_eq other id) number (newest_of old other)
set_newest old new id number sets = λ other. ap or_zero (by_id old new id number sets other) ∙ by (bytes_eq other id) (number_at old other)
  where
    by : (b : Bool) (found : Option ℕ) → or_zero (cond b (Some number) found) ≡ cond b number (or_zero found)
    by true found = refl
    by false found = refl

pub set_kept : (old new : JobIndex) (id : List ℕ) (number : ℕ) → Sets old new id number → KeepsHeld old new
set_kept old new id number sets = λ other held. subst (λ found. IsTrue (is_some found)) (sym (sets other)) (by (is_at (slice_cmp nat_cmp id) other) (number_at old other) held)
  where
    by : (b : Bool) (found : Option ℕ) → IsTrue (is_some found) → IsTrue (is_some (cond b (Some number) found))
    by true found held = refl
    by false found held = held

pub set_held : (old new : JobIndex) (id : List ℕ) (number : ℕ) → Sets old new id number → HasEntry new id
set_held old new id number sets =
    let same : bytes_eq id id ≡ true = (bytes_eq-Decides id id).1 refl in
    subst (λ found. IsTrue (is_some found)) (sym (by_id old new id number sets id ∙ ap (λ b. cond b (Some number) (number_at old id)) same)) refl

-- an id that was not held is held with no job
pub hold_same : (old new : JobIndex) (id : List ℕ) → is_some (number_at old id) ≡ false → Sets old new id 0 → (other : List ℕ) → newest_of new other ≡ newest_of old other
hold_same old new id absent sets = λ other. set_newest old new id 0 sets other ∙ by other (bytes_eq other id) refl
  where
    nothing : (found : Option ℕ) → is_some found ≡ false → 0 ≡ or_zero found
    nothing None is = refl
    nothing (Some number) is = cc

    by : (other : List ℕ) (b : Bool) → bytes_eq other id ≡ b → cond b 0 (newest_of old other) ≡ newest_of old other
    by other true is = subst (λ key. 0 ≡ newest_of old key) (sym (equal_bytes other id is)) (nothing (number_at old id) absent)
    by other false is = refl

-- an id that is held is found
pub held_found : (index : JobIndex) (id : List ℕ) → HasEntry index id → number_at index id ≡ None → ⊥
held_found index id held absent = by (number_at index id) held absent
  where
    by : (found : Option ℕ) → IsTrue (is_some found) → found ≡ None → ⊥
    by None held is = cc
    by (Some number) held is = cc

-- one more id is held
pub held_more : (old new : JobIndex) (front more : List (Shared Tx)) (tx : Shared Tx) → more ≡ front ++ tx ∷ [] → KeepsHeld old new → HasEntry new tx.value.id → All (HasEntry old) (tx_ids front)
    → All (HasEntry new) (tx_ids more)
held_more old new front more tx are keeps held was =
    subst (λ txs. All (HasEntry new) (tx_ids txs)) (sym are)
    (subst (All (HasEntry new)) (sym (map-append (λ (tx : Shared Tx). tx.value.id) front (tx ∷ [])))
    (All-append (HasEntry new) (tx_ids front) (tx.value.id ∷ []) (All-weaker (HasEntry old) (HasEntry new) keeps (tx_ids front) was) (All-cons (HasEntry new) tx.value.id [] held (All-nil (HasEntry new)))))

pub same_jobs : (old new : JobIndex) → ((id : List ℕ) → newest_of new id ≡ newest_of old id) → new.older.items ≡ old.older.items → SameJobs old new
same_jobs old new numbers older = λ ids was. record { newest = λ id. numbers id ∙ was.newest id; older = older ∙ was.older }

-- room for some jobs is room for the first
pub room_one : (index : JobIndex) (id : List ℕ) (ids : List (List ℕ)) → HasRoom index (id ∷ ids) → HasRoom index (id ∷ [])
room_one index id ids has = record {
  room = let room = has.room in omega (arith, room);
  held = All-cons (HasEntry index) id [] (has.held 0 id (omega arith)) (All-nil (HasEntry index));
}

pub room_all : (index : JobIndex) (txs : List (Shared Tx)) → vec_len index.older + length txs ≤ vec_capacity index.older → All (HasEntry index) (tx_ids txs) → HasRoom index (tx_ids txs)
room_all index txs room held =
    let same : length (tx_ids txs) ≡ length txs = length-map txs (λ (tx : Shared Tx). tx.value.id) in
    record { room = omega (arith, same, room); held = held }

-- ---- the newest of some ids

pub newest_within : (id : List ℕ) (ids : List (List ℕ)) → newest id ids ≤ length ids
newest_within id [] = omega arith
newest_within id (first ∷ ids) = by (bytes_eq id first) (newest id ids) (newest_within id ids)
  where
    by : (b : Bool) (n : ℕ) → n ≤ length ids → behind_first b n ≤ suc (length ids)
    by b (suc n) within = omega (arith, within)
    by true zero within = omega arith
    by false zero within = omega arith

-- it is equal
pub newest_equal : (id : List ℕ) (ids : List (List ℕ)) (place : ℕ) → newest id ids ≡ suc place → slice_get ids place ≡ Some id
newest_equal id [] place is = absurd (omega (arith, is))
newest_equal id (first ∷ ids) place is = by (λ place there. newest_equal id ids place there) (bytes_eq id first) refl (newest id ids) refl place is
  where
    by : ((place : ℕ) → newest id ids ≡ suc place → slice_get ids place ≡ Some id) → (b : Bool) → bytes_eq id first ≡ b → (n : ℕ) → newest id ids ≡ n → (place : ℕ)
        → behind_first b n ≡ suc place → slice_get (first ∷ ids) place ≡ Some id
    by later b here (suc n) rest zero is = absurd (omega (arith, is))
    by later b here (suc n) rest (suc place) is = later place (rest ∙ (let same : suc n ≡ suc place = omega (arith, is) in same))
    by later true here zero rest zero is = ap Some (sym (equal_bytes id first here))
    by later true here zero rest (suc place) is = absurd (omega (arith, is))
    by later false here zero rest place is = absurd (omega (arith, is))

pub newest_more : (id : List ℕ) (ids : List (List ℕ)) (last : List ℕ) → newest id (ids ++ last ∷ []) ≡ cond (bytes_eq id last) (suc (length ids)) (newest id ids)
newest_more id [] last = by (bytes_eq id last)
  where
    by : (b : Bool) → behind_first b 0 ≡ cond b 1 0
    by true = refl
    by false = refl
newest_more id (first ∷ ids) last = ap (behind_first (bytes_eq id first)) (newest_more id ids last) ∙ by (bytes_eq id last)
  where
    by : (b : Bool) → behind_first (bytes_eq id first) (cond b (suc (length ids)) (newest id ids)) ≡ cond b (suc (suc (length ids))) (behind_first (bytes_eq id first) (newest id ids))
    by true = refl
    by false = refl

-- ---- the ones before

none_behind : (ids : List (List ℕ)) → ids ++ [] ≡ ids
none_behind [] = refl
none_behind (id ∷ ids) = ap (λ rest. id ∷ rest) (none_behind ids)

pub olders_more : (front ids : List (List ℕ)) (last : List ℕ) → olders front (ids ++ last ∷ []) ≡ olders front ids ++ newest last (front ++ ids) ∷ []
olders_more front [] last = ap (λ all. newest last all ∷ []) (sym (none_behind front))
olders_more front (id ∷ ids) last =
    ap (λ rest. newest id front ∷ rest) (olders_more (front ++ id ∷ []) ids last)
    ∙ ap (λ all. newest id front ∷ (olders (front ++ id ∷ []) ids ++ newest last all ∷ [])) (append_assoc front (id ∷ []) ids)

pub olders_length : (front ids : List (List ℕ)) → length (olders front ids) ≡ length ids
olders_length front [] = refl
olders_length front (id ∷ ids) = ap suc (olders_length (front ++ id ∷ []) ids)

pub olders_at : (front ids : List (List ℕ)) (place : ℕ) (id : List ℕ) → slice_get ids place ≡ Some id → slice_get (olders front ids) place ≡ Some (newest id (front ++ take place ids))
olders_at front [] place id here = absurd (none-some id here)
olders_at front (first ∷ ids) zero id here =
    ap (λ key. Some (newest key front)) (same_Some first id here) ∙ ap (λ all. Some (newest id all)) (sym (none_behind front))
olders_at front (first ∷ ids) (suc place) id here =
    olders_at (front ++ first ∷ []) ids place id here ∙ ap (λ all. Some (newest id all)) (append_assoc front (first ∷ []) (take place ids))

-- one more job is noted
pub indexes_more : (old new : JobIndex) (ids : List (List ℕ)) (id : List ℕ) → Indexes old ids
    → ((other : List ℕ) → newest_of new other ≡ cond (bytes_eq other id) (length old.older.items + 1) (newest_of old other))
    → new.older.items ≡ old.older.items ++ newest_of old id ∷ [] → Indexes new (ids ++ id ∷ [])
indexes_more old new ids id was sets pushed =
    let number : length old.older.items + 1 ≡ suc (length ids) = omega (arith, ap length was.older ∙ olders_length [] ids) in
    record {
      newest = λ other.
          sets other ∙ ap (λ n. cond (bytes_eq other id) n (newest_of old other)) number ∙ ap (cond (bytes_eq other id) (suc (length ids))) (was.newest other)
          ∙ sym (newest_more other ids id);
      older = pushed ∙ ap (λ n. old.older.items ++ n ∷ []) (was.newest id) ∙ ap (λ all. all ++ newest id ids ∷ []) was.older ∙ sym (olders_more [] ids id);
    }
