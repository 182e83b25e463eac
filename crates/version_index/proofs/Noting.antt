-- One more write that is noted: what becomes of the writes on the keys of a table.
use Rattle.std.proofs.Common.{◌≡◌, ◌∙◌, ℕ, suc, zero, ◌<◌, ◌≤◌, List, [], ◌∷◌, ◌++◌, Bool, true, false, ◌&&◌, ◌==◌, cond, Option, Some, None, is_some, refl, ap, sym, subst, arith, slice_get, take, length, map}
use Rattle.std.specs.Ordering.{is_eq}
use Rattle.std.proofs.lemmas.Bool.Decides.{Decides-eqb}
use Rattle.std.proofs.lemmas.List.{append-nil, length_push, length-set}
use Rattle.rel_base.specs.declared.value.Value.{Value}
use Rattle.rel_base.specs.Tables.{Stamped}
use Rattle.rel_base.specs.Value.{key_cmp, key_eq}
use Rattle.rel_base.proofs.Bits.{no_both, not_true}
use Rattle.row_sets.proofs.Histories.{same_parts, unwrapped}
use Rattle.version_index.specs.Chain.{is_on}
use Rattle.version_index.specs.Chains.{AreApart, AreChains, IsNoted, IsSame, list_or_none, lists_of, numbers_at, numbers_of, slot_by, slot_in, slot_of, slot_or, with_number}
use Rattle.version_index.specs.Left.{left_at}
use Rattle.version_index.specs.Numbers.{last_in, passes, passes_at, passing}
use Rattle.version_index.specs.declared.chains.Chains.{Chains}
use Rattle.version_index.proofs.Keys.{key_itself, same_key}
use Rattle.version_index.proofs.Passing.{left_next}
use Rattle.version_index.proofs.Slots.{get_before, get_end, set_other, set_same}

-- a number up to another that it is not
below_end : (a b : ℕ) → a ≤ b → (a ≡ b → ⊥) → a < b
below_end zero zero up other = absurd (other refl)
below_end zero (suc b) up other = omega arith
below_end (suc a) zero up other = absurd (omega (arith, up))
below_end (suc a) (suc b) up other = let less = below_end a b (omega (arith, up)) (λ same. other (ap suc same)) in omega (arith, less)

-- ---- lists of numbers with one more

at_own : (number : ℕ) (slot : Option ℕ) (lists : List (List ℕ)) → ((s : ℕ) → slot ≡ Some s → s < length lists)
    → numbers_at (with_number number slot lists) (Some (slot_or (length lists) slot)) ≡ numbers_at lists slot ++ number ∷ []
at_own number None lists within = ap list_or_none (get_end lists (number ∷ []))
at_own number (Some s) lists within = ap list_or_none (set_same lists s (numbers_at lists (Some s) ++ number ∷ []) (within s refl))

at_other : (number : ℕ) (slot other : Option ℕ) (lists : List (List ℕ)) → ((s : ℕ) → other ≡ Some s → s < length lists) → ((s : ℕ) → other ≡ Some s → slot ≡ Some s → ⊥)
    → numbers_at (with_number number slot lists) other ≡ numbers_at lists other
at_other number slot None lists within apart = refl
at_other number None (Some s) lists within apart = ap list_or_none (get_before lists (number ∷ []) s (within s refl))
at_other number (Some own) (Some s) lists within apart =
    ap list_or_none (set_other lists own s (numbers_at lists (Some own) ++ number ∷ []) (λ same. apart s refl (ap Some (sym same))))

-- the own slot is one of them
pub own_within : (number : ℕ) (slot : Option ℕ) (lists : List (List ℕ)) → ((s : ℕ) → slot ≡ Some s → s < length lists) → slot_or (length lists) slot < length (with_number number slot lists)
own_within number None lists within = let more = length_push lists (number ∷ []) in omega (arith, more)
own_within number (Some s) lists within =
    let same = length-set lists s (numbers_at lists (Some s) ++ number ∷ []) in
    let below = within s refl in
    omega (arith, same, below)

-- and so are the others
pub others_within : (number : ℕ) (slot : Option ℕ) (lists : List (List ℕ)) (s : ℕ) → s < length lists → s < length (with_number number slot lists)
others_within number None lists s below = let more = length_push lists (number ∷ []) in omega (arith, more, below)
others_within number (Some own) lists s below = let same = length-set lists own (numbers_at lists (Some own) ++ number ∷ []) in omega (arith, same, below)

-- ---- a write and the keys of a table

-- a write of the table is on a key where it is on the key of the write
pub on_own : (table : ℕ) (stamped : Stamped) (key : List Value) → table ≡ stamped.1.write.table → is_on (table, key) stamped ≡ key_eq key stamped.1.write.key
on_own table stamped key own =
    same_parts table stamped.1.write.table (key_cmp key stamped.1.write.key)
    ∙ ap (λ b. b && is_eq (key_cmp key stamped.1.write.key)) ((Decides-eqb table stamped.1.write.table).1 own)

-- and one of another table is on none
pub on_none : (table : ℕ) (stamped : Stamped) (key : List Value) → (table ≡ stamped.1.write.table → ⊥) → is_on (table, key) stamped ≡ false
on_none table stamped key other =
    same_parts table stamped.1.write.table (key_cmp key stamped.1.write.key)
    ∙ ap (λ b. b && is_eq (key_cmp key stamped.1.write.key)) (not_true (table == stamped.1.write.table) (λ same. other ((Decides-eqb table stamped.1.write.table).0 same)))

-- what is there of one of two
pub some_cond : {X : Type 0} (b : Bool) (x y : Option X) → is_some (cond b x y) ≡ cond b (is_some x) (is_some y)
some_cond true x y = refl
some_cond false x y = refl

-- the slot of another key is not that of a key, nor the next one that is free
pub place_apart : (table : ℕ) (history : List Stamped) (noted : ℕ) (chains : Chains) → AreChains table history noted chains → (key k : List Value) → key_eq k key ≡ false → (s : ℕ) → slot_of chains k ≡ Some s
    → slot_or (length (lists_of chains)) (slot_of chains key) ≡ s → ⊥
place_apart table history noted chains are key k apart s was same = go (slot_of chains key) refl same
  where
    go : (found : Option ℕ) → slot_of chains key ≡ found → slot_or (length (lists_of chains)) found ≡ s → ⊥
    go None none at_end = let below = are.within k s was in omega (arith, below, at_end)
    go (Some t) found equal = no_both (key_eq k key) (ap (λ q. key_eq q key) (are.own k key s was (found ∙ ap Some equal)) ∙ key_itself key) apart

module _ (table : ℕ) (history : List Stamped) (number : ℕ) (stamped : Stamped) (there : slice_get history number ≡ Some stamped) where
  -- the test of its number
  test_here : (ref : ℕ × List Value) → passes_at (is_on ref) history number ≡ is_on ref stamped
  test_here ref = ap (passes (is_on ref)) there

  -- ---- a write of the table

  module _ (own : table ≡ stamped.1.write.table) where
    abbrev key : List Value
    key = stamped.1.write.key

    pub chains_next : (old new : Chains) → AreChains table history number old → IsNoted key (is_some stamped.1.write.after) number old new → AreChains table history (suc number) new
    chains_next old new are noted =
        record {
          numbers = numbers_next;
          lives = λ k.
              noted.lives_now k ∙ ap (cond (key_eq k key) (is_some stamped.1.write.after)) (are.lives k)
              ∙ sym (ap is_some (left_next (table, k) history number stamped there ∙ ap (λ b. cond b stamped.1.write.after (left_at (table, k) (take number history))) (on_own table stamped k own))
              ∙ some_cond (key_eq k key) stamped.1.write.after (left_at (table, k) (take number history)));
          apart = noted.apart;
          within = within_next;
          own = own_next;
          keyed = keyed_next;
          all_in = noted.all_in are.all_in;
          lasts = noted.lasts are.lasts;
        }
      where
        slot_within : (s : ℕ) → slot_of old key ≡ Some s → s < length (lists_of old)
        slot_within s is = are.within key s is

        -- the slot of another key is another one
        apart_from : (k : List Value) → key_eq k key ≡ false → (s : ℕ) → slot_of old k ≡ Some s → slot_of old key ≡ Some s → ⊥
        apart_from k other s one two = no_both (key_eq k key) (ap (λ q. key_eq q key) (are.own k key s one two) ∙ key_itself key) other

        slot_same : (k : List Value) → key_eq k key ≡ true → slot_of new k ≡ Some (slot_or (length (lists_of old)) (slot_of old key))
        slot_same k tied = noted.slots k ∙ ap (λ b. cond b (Some (slot_or (length (lists_of old)) (slot_of old key))) (slot_of old k)) tied

        slot_other : (k : List Value) → key_eq k key ≡ false → slot_of new k ≡ slot_of old k
        slot_other k other = noted.slots k ∙ ap (λ b. cond b (Some (slot_or (length (lists_of old)) (slot_of old key))) (slot_of old k)) other

        numbers_next : (k : List Value) → numbers_of new k ≡ passing (passes_at (is_on (table, k)) history) (suc number)
        numbers_next k =
            elim (key_eq k key) as (λ b. key_eq k key ≡ b → numbers_of new k ≡ passing (passes_at (is_on (table, k)) history) number ++ cond b (number ∷ []) []) [
              | true ↦ λ tied.
                  (λ i. numbers_at (noted.lists i) (slot_same k tied i)) ∙ at_own number (slot_of old key) (lists_of old) slot_within
                  ∙ ap (λ xs. xs ++ number ∷ []) (are.numbers key ∙ ap (λ q. passing (passes_at (is_on (table, q)) history) number) (sym (same_key k key tied)))
              | false ↦ λ other.
                  (λ i. numbers_at (noted.lists i) (slot_other k other i)) ∙ at_other number (slot_of old key) (slot_of old k) (lists_of old) (λ s is. are.within k s is) (apart_from k other)
                  ∙ are.numbers k ∙ sym (append-nil (passing (passes_at (is_on (table, k)) history) number))
            ] refl
            ∙ ap (λ b. passing (passes_at (is_on (table, k)) history) number ++ cond b (number ∷ []) []) (sym (test_here (table, k) ∙ on_own table stamped k own))

        within_next : (k : List Value) (s : ℕ) → slot_of new k ≡ Some s → s < length (lists_of new)
        within_next k s is = subst (λ ls. s < length ls) (sym noted.lists) (go (key_eq k key) refl)
          where
            go : (b : Bool) → key_eq k key ≡ b → s < length (with_number number (slot_of old key) (lists_of old))
            go true tied = subst (λ n. n < length (with_number number (slot_of old key) (lists_of old))) (unwrapped _ s (sym (slot_same k tied) ∙ is)) (own_within number (slot_of old key) (lists_of old) slot_within)
            go false other = others_within number (slot_of old key) (lists_of old) s (are.within k s (sym (slot_other k other) ∙ is))

        own_next : (one other : List Value) (s : ℕ) → slot_of new one ≡ Some s → slot_of new other ≡ Some s → one ≡ other
        own_next one other s first second = go (key_eq one key) (key_eq other key) refl refl
          where
            go : (a b : Bool) → key_eq one key ≡ a → key_eq other key ≡ b → one ≡ other
            go true true p q = same_key one key p ∙ sym (same_key other key q)
            go true false p q = absurd (place_apart table history number old are key other q s (sym (slot_other other q) ∙ second) (unwrapped _ s (sym (slot_same one p) ∙ first)))
            go false true p q = absurd (place_apart table history number old are key one p s (sym (slot_other one p) ∙ first) (unwrapped _ s (sym (slot_same other q) ∙ second)))
            go false false p q = are.own one other s (sym (slot_other one p) ∙ first) (sym (slot_other other q) ∙ second)

        -- a slot of before is of its key still
        kept : (s : ℕ) → s < length (lists_of old) → (k : List Value) × (slot_of new k ≡ Some s)
        kept s below =
            let was = are.keyed s below in
            (was.0, go was.0 was.1 (key_eq was.0 key) refl)
          where
            go : (k : List Value) → slot_of old k ≡ Some s → (b : Bool) → key_eq k key ≡ b → slot_of new k ≡ Some s
            go k was false apart = slot_other k apart ∙ was
            go k was true tied =
                let here : slot_of old key ≡ Some s = ap (slot_of old) (sym (same_key k key tied)) ∙ was in
                slot_same k tied ∙ ap (λ found. Some (slot_or (length (lists_of old)) found)) here

        keyed_next : (s : ℕ) → s < length (lists_of new) → (k : List Value) × (slot_of new k ≡ Some s)
        keyed_next s below = go (slot_of old key) refl (subst (λ ls. s < length ls) noted.lists below)
          where
            go : (found : Option ℕ) → slot_of old key ≡ found → s < length (with_number number found (lists_of old)) → (k : List Value) × (slot_of new k ≡ Some s)
            go (Some t) is few = kept s (let same = length-set (lists_of old) t (numbers_at (lists_of old) (Some t) ++ number ∷ []) in omega (arith, same, few))
            go None is few = at_end (s == length (lists_of old)) refl
              where
                at_end : (b : Bool) → (s == length (lists_of old)) ≡ b → (k : List Value) × (slot_of new k ≡ Some s)
                at_end true same = (key, slot_same key (key_itself key) ∙ ap (λ found. Some (slot_or (length (lists_of old)) found)) is ∙ ap Some (sym ((Decides-eqb s (length (lists_of old))).0 same)))
                at_end false differ =
                    let more = length_push (lists_of old) (number ∷ []) in
                    let other : s ≡ length (lists_of old) → ⊥ = λ same. no_both (s == length (lists_of old)) ((Decides-eqb s (length (lists_of old))).1 same) differ in
                    kept s (below_end s (length (lists_of old)) (omega (arith, more, few)) other)

  -- ---- a write of another table

  pub chains_skip : (table ≡ stamped.1.write.table → ⊥) → (chains : Chains) → AreChains table history number chains → AreChains table history (suc number) chains
  chains_skip other chains are =
      record {
        numbers = λ k.
            are.numbers k ∙ sym (append-nil (passing (passes_at (is_on (table, k)) history) number))
            ∙ ap (λ b. passing (passes_at (is_on (table, k)) history) number ++ cond b (number ∷ []) []) (sym (test_here (table, k) ∙ on_none table stamped k other));
        lives = λ k.
            are.lives k ∙ ap is_some (sym (left_next (table, k) history number stamped there ∙ ap (λ b. cond b stamped.1.write.after (left_at (table, k) (take number history))) (on_none table stamped k other)));
        apart = are.apart;
        within = are.within;
        own = are.own;
        keyed = are.keyed;
        all_in = are.all_in;
        lasts = are.lasts;
      }

-- ---- nothing changed

pub slot_stays : (old new : Chains) → IsSame old new → (key : List Value) → slot_of new key ≡ slot_of old key
slot_stays old new same key = λ i. slot_by (same.living i) (same.ended i) key

pub chains_stay : (table : ℕ) (history : List Stamped) (noted : ℕ) (old new : Chains) → IsSame old new → AreChains table history noted old → AreChains table history noted new
chains_stay table history noted old new same are =
    record {
      numbers = λ key. (λ i. numbers_at (same.lists i) (slot_stays old new same key i)) ∙ are.numbers key;
      lives = λ key. ap (λ living. is_some (slot_in living key)) same.living ∙ are.lives key;
      apart = subst (λ living. AreApart living new.ended.entries) (sym same.living) (subst (AreApart old.living.entries) (sym same.ended) are.apart);
      within = λ key slot is. subst (λ lists. slot < length lists) (sym same.lists) (are.within key slot (sym (slot_stays old new same key) ∙ is));
      own = λ one other slot first second. are.own one other slot (sym (slot_stays old new same one) ∙ first) (sym (slot_stays old new same other) ∙ second);
      keyed = λ slot below.
          let was = are.keyed slot (subst (λ lists. slot < length lists) same.lists below) in
          (was.0, slot_stays old new same was.0 ∙ was.1);
      all_in = same.all_in are.all_in;
      lasts = ap (map (λ n. Some n)) same.lasts ∙ are.lasts ∙ ap (map last_in) (sym same.lists);
    }
