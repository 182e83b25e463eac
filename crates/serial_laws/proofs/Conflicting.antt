-- The write conflict that is named is the least, by position, table and key.
use Rattle.std.proofs.Common.{All, Bool, Contains, List, MatchOption, None, Option, Some, [], ap, arith, cond, false, refl, subst, suc, sym, true, ◌+◌, ◌-◌, ◌∙◌, ◌≡◌, ◌≤◌, ◌∷◌, ℕ}
use Rattle.serial_laws.proofs.Finding.{IsFirst, find_first, from_map, into_map}
use Rattle.serial_laws.proofs.LeastPositions.{IsFirstAt, first_at, one_at}
use Rattle.serial_laws.specs.Conflicts.{HasNoConflict, KeyUpTo, StandByKey, Wrote}
use Rattle.serial_laws.specs.CauseLaws.{ConflictIsLeast, NamesConflict}
use Rattle.node_model.specs.Decide.{clash, clash_at, conflict_outcome, first_shared, is_shared}
use Rattle.node_model.specs.declared.outcome.Outcome.TheVariants as outcome
use Rattle.node_model.specs.declared.outcome.Outcome.{Outcome}
use Rattle.node_model.specs.declared.result.Committed.{Committed}
use Rattle.node_model.specs.Edges.{StandByPosition}
use Rattle.rel_base.proofs.Bits.{is_Equal, no_both}
use Rattle.rel_base.specs.Tables.{ref_cmp, ref_cmp-exact, ref_cmp-total, write_ref}
use Rattle.rel_base.specs.declared.access.Write.{Write}
use Rattle.rel_base.specs.declared.value.Value.{Value}
use Rattle.std.proofs.lemmas.Cmp.{tied_itself}
use Rattle.std.proofs.lemmas.List.Elements.{All-contains}
use Rattle.std.proofs.lemmas.List.Folds.{Any-from_list_any, list_any-from_Any}
use Rattle.std.specs.List.{find, position_from}
use Rattle.std.specs.Option.{IsSomeAnd, is_some, option_map}
use Rattle.std.specs.Ordering.{eq_by_cmp, is_eq, is_le}
use Rattle.std.specs.Prelude.{slice_get}
use Rattle.std.specs.declared.cmp.Ordering.TheVariants.{Less}

-- ---- the place of the first that passes

module _ {X : Type 0} (test : X → Bool) where
  -- a place, counted from a number, is where the first item stands that passes
  abbrev pub IsPlace : ℕ → List X → Option ℕ → Type 0
  IsPlace start xs found = MatchOption found (find test xs ≡ None) (λ k. (start ≤ k) × IsSomeAnd (slice_get xs (k - start)) (λ x. find test xs ≡ Some x))

  further : (start : ℕ) (x : X) (xs : List X) (found : Option ℕ) → test x ≡ false → IsPlace (start + 1) xs found → IsPlace start (x ∷ xs) found
  further start x xs None fails none = ap (λ b. cond b (Some x) (find test xs)) fails ∙ none
  further start x xs (Some k) fails place =
      let next : suc (k - (start + 1)) ≡ k - start = omega (arith, place.0) in (
        omega (arith, place.0),
        subst (λ n. IsSomeAnd (slice_get (x ∷ xs) n) (λ y. find test (x ∷ xs) ≡ Some y)) next
            (subst (λ found. IsSomeAnd (slice_get xs (k - (start + 1))) (λ y. found ≡ Some y)) (sym (ap (λ b. cond b (Some x) (find test xs)) fails)) place.1),
      )

  pub is_place : (start : ℕ) (xs : List X) → IsPlace start xs (position_from test start xs)
  is_place start [] = refl
  is_place start (x ∷ xs) =
      elim (test x) as (λ b. test x ≡ b → IsPlace start (x ∷ xs) (cond b (Some start) (position_from test (start + 1) xs))) [
        | true ↦ λ passes. let here : 0 ≡ start - start = omega arith in
            (omega arith, subst (λ n. IsSomeAnd (slice_get (x ∷ xs) n) (λ y. find test (x ∷ xs) ≡ Some y)) here (ap (λ b. cond b (Some x) (find test xs)) passes))
        | false ↦ λ fails. further start x xs (position_from test (start + 1) xs) fails (is_place (start + 1) xs)
      ] refl

-- what stands at a place is what was found
same_item : {X : Type 0} (there found : Option X) → IsSomeAnd there (λ x. found ≡ Some x) → (there ≡ found) × (is_some found ≡ true)
same_item None found is = absurd is
same_item (Some x) found is = (sym is, ap is_some is)

-- ---- tables and keys that both wrote

wrote_shared : (others : List Write) (write : Write) → is_shared others write ≡ true → Wrote others (write_ref write)
wrote_shared others write shared =
    let found = Any-from_list_any (λ other. eq_by_cmp ref_cmp (write_ref write) (write_ref other)) others shared in
    subst (Wrote others) (sym (ref_cmp-exact (write_ref write) (write_ref found.1) (is_Equal _ found.4))) (into_map write_ref others found.1 (found.0, found.2, found.3))

shared_wrote : (others : List Write) (write : Write) → Wrote others (write_ref write) → is_shared others write ≡ true
shared_wrote others write wrote =
    let found = from_map write_ref others (write_ref write) wrote in
    list_any-from_Any (λ other. eq_by_cmp ref_cmp (write_ref write) (write_ref other)) others
    (found.1.0, found.0, found.1.1, found.1.2, subst (λ ref. eq_by_cmp ref_cmp (write_ref write) ref ≡ true) (sym found.2) (ap is_eq (tied_itself ref_cmp-total (write_ref write))))

-- a table and key that both wrote is that of one of the writes, which is shared
shared_at : (others writes : List Write) (ref : ℕ × List Value) → Wrote others ref → Wrote writes ref → (write : Write) × Contains writes write × (write_ref write ≡ ref) × (is_shared others write ≡ true)
shared_at others writes ref one other =
    let found = from_map write_ref writes ref other in
    (found.0, found.1, found.2, shared_wrote others found.0 (subst (Wrote others) (sym found.2) one))

-- ---- the conflict

abbrev KeyBefore : Write → Write → Type 0
KeyBefore earlier later = ref_cmp (write_ref earlier) (write_ref later) ≡ Less

abbrev KeyNotLater : Write → Write → Type 0
KeyNotLater earlier later = KeyUpTo (write_ref earlier) (write_ref later)

key_before_is : (earlier later : Write) → KeyBefore earlier later → KeyNotLater earlier later
key_before_is earlier later before = ap is_le before

key_itself : (write : Write) → KeyNotLater write write
key_itself write = ap is_le (tied_itself ref_cmp-total (write_ref write))

module _ (writes : List Write) where
  -- the first of the writes that is of a table and key of others
  abbrev shares : List Write → Option Write
  shares others = find (is_shared others) writes

  abbrev touched : Committed → Bool
  touched done = is_some (shares done.writes)

  abbrev named : Committed → Write → Outcome
  named done write = outcome.WriteConflict (record { with = done.pos; table = write.table; key = write.key })

  abbrev named_of : Option Committed → Option Outcome
  named_of None = None
  named_of (Some done) = option_map (named done) (shares done.writes)

  -- the conflict is with the first that shares a table and key, at the first that it shares
  conflict_found : (committed : List Committed) → conflict_outcome writes (clash committed writes) ≡ named_of (find touched committed)
  conflict_found [] = refl
  conflict_found (done ∷ rest) = step (first_shared done.writes writes) (is_place (is_shared done.writes) 0 writes) (conflict_found rest)
    where
      step : (found : Option ℕ) → IsPlace (is_shared done.writes) 0 writes found → conflict_outcome writes (clash rest writes) ≡ named_of (find touched rest)
          → conflict_outcome writes (clash_at done found (clash rest writes)) ≡ named_of (cond (touched done) (Some done) (find touched rest))
      step None none later = later ∙ sym (ap (λ o. named_of (cond (is_some o) (Some done) (find touched rest))) none)
      step (Some index) place later =
          let here : index - 0 ≡ index = omega arith in
          let is = same_item (slice_get writes index) (shares done.writes) (subst (λ n. IsSomeAnd (slice_get writes n) (λ write. shares done.writes ≡ Some write)) here place.1) in
          ap (option_map (named done)) is.0 ∙ sym (ap (λ b. named_of (cond b (Some done) (find touched rest))) is.1)

  module _ (by_key : StandByKey writes) where
    abbrev IsFirstKey : (Write → Bool) → Option Write → Type 0
    IsFirstKey test found = IsFirst KeyBefore KeyNotLater key_before_is key_itself test writes found

    first_key : (others : List Write) → IsFirstKey (is_shared others) (shares others)
    first_key others = find_first KeyBefore KeyNotLater key_before_is key_itself (is_shared others) writes by_key

    -- a transaction that wrote a table and key of the writes is touched
    touched_from : (done : Committed) (ref : ℕ × List Value) → Wrote done.writes ref → Wrote writes ref → touched done ≡ true
    touched_from done ref one other = by_key_found (shares done.writes) (first_key done.writes)
      where
        by_key_found : (found : Option Write) → IsFirstKey (is_shared done.writes) found → is_some found ≡ true
        by_key_found (Some write) first = refl
        by_key_found None none =
            let found = shared_at done.writes writes ref one other in
            absurd (no_both (is_shared done.writes found.0) found.3 (All-contains (λ write. is_shared done.writes write ≡ false) writes found.0 none found.1))

    module _ (committed : List Committed) (by_position : StandByPosition committed) where
      abbrev place : Committed → ℕ
      place done = done.pos

      by_write : (done : Committed) → Contains committed done → All (λ other. touched other ≡ true → done.pos ≤ other.pos) committed
          → (found : Option Write) → is_some found ≡ true → IsFirstKey (is_shared done.writes) found
          → MatchOption (option_map (named done) found) (HasNoConflict committed writes) (NamesConflict committed writes)
      by_write done inside least None some none = absurd (no_both false some refl)
      by_write done inside least (Some write) some first = record {
        related = ((inside.0, done, inside.1, inside.2, (refl, wrote_shared done.writes write first.1)), into_map write_ref writes write first.0);
        least_position = λ pos ref both. let other = both.0 in
            subst (λ n. done.pos ≤ n) other.4.0
            (All-contains (λ other. touched other ≡ true → done.pos ≤ other.pos) committed other.1 least (other.0, other.2, other.3) (touched_from other.1 ref other.4.1 both.1));
        least_thing = λ ref both. let other = both.0 in
            let same = one_at place committed by_position other.1 done (other.0, other.2, other.3) inside other.4.0 in
            let at = shared_at done.writes writes ref (subst (λ (other : Committed). Wrote other.writes ref) same other.4.1) both.1 in
            subst (KeyUpTo (write_ref write)) at.2 (All-contains (λ other. is_shared done.writes other ≡ true → KeyNotLater write other) writes at.0 first.2 at.1 at.3);
      }

      by_done : (found : Option Committed) → IsFirstAt place touched committed found → MatchOption (named_of found) (HasNoConflict committed writes) (NamesConflict committed writes)
      by_done None none = λ pos ref both. let other = both.0 in
          no_both (touched other.1) (touched_from other.1 ref other.4.1 both.1) (All-contains (λ done. touched done ≡ false) committed other.1 none (other.0, other.2, other.3))
      by_done (Some done) first = by_write done first.0 first.2 (shares done.writes) first.1 (first_key done.writes)

pub conflict_is_least : ConflictIsLeast
conflict_is_least committed writes by_position by_key =
    subst (λ found. MatchOption found (HasNoConflict committed writes) (NamesConflict committed writes)) (sym (conflict_found writes committed))
    (by_done writes by_key committed by_position (find (touched writes) committed) (first_at (λ done. done.pos) (touched writes) committed by_position))
