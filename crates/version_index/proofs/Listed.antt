-- The places of values, and the lists of numbers that stand there.
use Rattle.std.proofs.Common.{◌≡◌, ◌∙◌, ℕ, ◌+◌, ◌<◌, ◌≤◌, ◌⊎◌, inl, inr, List, [], ◌∷◌, ◌++◌, Bool, true, false, cond, Option, Some, None, refl, ap, arith, is_some, length, slice_get, slice_set, subst, sym}
use Rattle.std.specs.Option.{IsSomeAnd, option_map}
use Rattle.std.specs.Vec.{vec_capacity, vec_len}
use Rattle.std.specs.declared.alloc.Global.{Global}
use Rattle.std.specs.declared.vec.Vec.{Vec}
use Rattle.std.proofs.lemmas.List.{length_push, length-map}
use Rattle.std.proofs.lemmas.Option.{slice_get-map}
use Rattle.rel_base.specs.declared.value.Value.{Value}
use Rattle.rel_base.specs.Value.{value_eq}
use Rattle.rel_base.proofs.Bits.{no_both}
use Rattle.row_sets.proofs.Histories.{unwrapped}
use Rattle.version_index.specs.Chains.{HasRoomForNumber, list_or_none, lists_in, numbers_at}
use Rattle.version_index.specs.Columns.{HavePlaces, place_in}
use Rattle.version_index.proofs.AtValues.{same_value}
use Rattle.version_index.proofs.Cells.{value_itself}
use Rattle.version_index.proofs.Lasts.{below_of_get}
use Rattle.version_index.proofs.Points.{below_or}
use Rattle.version_index.proofs.Slots.{below_got, get_before, get_end, set_other, set_same}

-- the list of a place that may be there has room
abbrev pub HasRoomIn : List (Vec ℕ Global) → Option ℕ → Type 0
HasRoomIn lists place = IsSomeAnd place (HasRoomForNumber lists)

module _ (places : List (Value × ℕ)) (values : List Value) (lists : List (Vec ℕ Global)) (are : HavePlaces places values lists) where
  -- the place of a value has a list
  pub place_within : (value : Value) (place : ℕ) → place_in places value ≡ Some place → place < length lists
  place_within value place is = let below = below_got values place value (are.own value place is) in let long = are.long in omega (arith, below, long)

  -- ---- one more value

  module _ (now : List (Value × ℕ)) (value : Value) (list : Vec ℕ Global) (put : (v : Value) → place_in now v ≡ cond (value_eq v value) (Some (length values)) (place_in places v)) (new : place_in places value ≡ None) where
    at_end : (v : Value) → value_eq v value ≡ true → place_in now v ≡ Some (length values)
    at_end v tied = put v ∙ ap (λ b. cond b (Some (length values)) (place_in places v)) tied

    before : (v : Value) → value_eq v value ≡ false → place_in now v ≡ place_in places v
    before v apart = put v ∙ ap (λ b. cond b (Some (length values)) (place_in places v)) apart

    -- a value that had a place is another one
    had_none : (v : Value) (place : ℕ) → place_in places v ≡ Some place → value_eq v value ≡ true → ⊥
    had_none v place is tied = no_both (is_some (place_in places v)) (ap is_some is) (ap is_some (ap (place_in places) (same_value v value tied) ∙ new))

    own_next : (v : Value) (place : ℕ) → place_in now v ≡ Some place → slice_get (values ++ value ∷ []) place ≡ Some v
    own_next v place is = go (value_eq v value) refl
      where
        go : (b : Bool) → value_eq v value ≡ b → slice_get (values ++ value ∷ []) place ≡ Some v
        go true tied =
            subst (λ p. slice_get (values ++ value ∷ []) p ≡ Some v) (unwrapped (length values) place (sym (at_end v tied) ∙ is)) (get_end values value ∙ ap Some (sym (same_value v value tied)))
        go false apart =
            let was = are.own v place (sym (before v apart) ∙ is) in
            get_before values value place (below_got values place v was) ∙ was

    keyed_next : (v : Value) (place : ℕ) → slice_get (values ++ value ∷ []) place ≡ Some v → place_in now v ≡ Some place
    keyed_next v place is = go (below_or place (length values))
      where
        more : length (values ++ value ∷ []) ≡ length values + 1
        more = length_push values value

        go : (place < length values) ⊎ (length values ≤ place) → place_in now v ≡ Some place
        go (inl below) =
            let was = are.keyed v place (sym (get_before values value place below) ∙ is) in
            stays (value_eq v value) refl was
          where
            stays : (b : Bool) → value_eq v value ≡ b → place_in places v ≡ Some place → place_in now v ≡ Some place
            stays true tied was = absurd (had_none v place was tied)
            stays false apart was = before v apart ∙ was
        go (inr past) =
            let within = below_got (values ++ value ∷ []) place v is in
            let long = more in
            let here : place ≡ length values = omega (arith, past, within, long) in
            let same : v ≡ value = unwrapped v value (sym is ∙ ap (slice_get (values ++ value ∷ [])) here ∙ get_end values value) in
            at_end v (ap (λ w. value_eq w value) same ∙ value_itself value) ∙ ap Some (sym here)

    pub listed_more : HavePlaces now (values ++ value ∷ []) (lists ++ list ∷ [])
    listed_more =
        record {
          own = own_next;
          keyed = keyed_next;
          long =
              let one = length_push values value in
              let other = length_push lists list in
              let long = are.long in
              omega (arith, one, other, long);
        }

    -- the lists that were there are there
    got_before : (place : ℕ) → place < length lists → slice_get (lists ++ list ∷ []) place ≡ slice_get lists place
    got_before place below = get_before lists list place below

    list_now : slice_get (lists ++ list ∷ []) (length values) ≡ Some list
    list_now = subst (λ n. slice_get (lists ++ list ∷ []) n ≡ Some list) are.long (get_end lists list)

    numbers_got : (all : List (Vec ℕ Global)) (place : ℕ) → numbers_at (lists_in all) (Some place) ≡ list_or_none (option_map (λ (l : Vec ℕ Global). l.items) (slice_get all place))
    numbers_got all place = ap list_or_none (slice_get-map (λ (l : Vec ℕ Global). l.items) all place)

    -- a new value has no number yet
    pub same_more : list.items ≡ [] → (v : Value) → numbers_at (lists_in (lists ++ list ∷ [])) (place_in now v) ≡ numbers_at (lists_in lists) (place_in places v)
    same_more empty v = go (value_eq v value) refl
      where
        old : (found : Option ℕ) → place_in places v ≡ found → numbers_at (lists_in (lists ++ list ∷ [])) found ≡ numbers_at (lists_in lists) found
        old None is = refl
        old (Some place) is =
            numbers_got (lists ++ list ∷ []) place ∙ ap (λ found. list_or_none (option_map (λ (l : Vec ℕ Global). l.items) found)) (got_before place (place_within v place is)) ∙ sym (numbers_got lists place)

        go : (b : Bool) → value_eq v value ≡ b → numbers_at (lists_in (lists ++ list ∷ [])) (place_in now v) ≡ numbers_at (lists_in lists) (place_in places v)
        go false apart = ap (numbers_at (lists_in (lists ++ list ∷ []))) (before v apart) ∙ old (place_in places v) refl
        go true tied =
            ap (numbers_at (lists_in (lists ++ list ∷ []))) (at_end v tied) ∙ numbers_got (lists ++ list ∷ []) (length values)
            ∙ ap (λ found. list_or_none (option_map (λ (l : Vec ℕ Global). l.items) found)) list_now ∙ empty
            ∙ sym (ap (numbers_at (lists_in lists)) (ap (place_in places) (same_value v value tied) ∙ new))

    room_old : (place : ℕ) → HasRoomForNumber lists place → HasRoomForNumber (lists ++ list ∷ []) place
    room_old place room =
        subst (λ found. IsSomeAnd found (λ numbers. vec_len numbers < vec_capacity numbers))
        (sym (got_before place (below_of_get (λ numbers. vec_len numbers < vec_capacity numbers) place lists room))) room

    -- the others have the room that they had
    pub kept_more : (v : Value) → HasRoomIn lists (place_in places v) → HasRoomIn (lists ++ list ∷ []) (place_in now v)
    kept_more v room = go (value_eq v value) refl
      where
        old : (found : Option ℕ) → HasRoomIn lists found → HasRoomIn (lists ++ list ∷ []) found
        old None room = absurd room
        old (Some place) room = room_old place room

        go : (b : Bool) → value_eq v value ≡ b → HasRoomIn (lists ++ list ∷ []) (place_in now v)
        go false apart = subst (HasRoomIn (lists ++ list ∷ [])) (sym (before v apart)) (old (place_in places v) room)
        go true tied = absurd (subst (HasRoomIn lists) (ap (place_in places) (same_value v value tied) ∙ new) room)

    -- and the new one has some
    pub room_more : vec_len list < vec_capacity list → HasRoomIn (lists ++ list ∷ []) (place_in now value)
    room_more room =
        subst (HasRoomIn (lists ++ list ∷ [])) (sym (at_end value (value_itself value)))
        (subst (λ found. IsSomeAnd found (λ numbers. vec_len numbers < vec_capacity numbers)) (sym list_now) room)

  -- ---- lists that change

  -- as many lists
  pub listed_same : (now : List (Vec ℕ Global)) → length (lists_in now) ≡ length (lists_in lists) → HavePlaces places values now
  listed_same now same =
      record {
        own = are.own;
        keyed = are.keyed;
        long =
            let one = length-map now (λ (l : Vec ℕ Global). l.items) in
            let other = length-map lists (λ (l : Vec ℕ Global). l.items) in
            let long = are.long in
            omega (arith, one, other, long, same);
      }

  -- a number is added at one of them
  module _ (now : List (Vec ℕ Global)) (value : Value) (place number : ℕ) (here : place_in places value ≡ Some place)
      (pushed : lists_in now ≡ slice_set (lists_in lists) place (numbers_at (lists_in lists) (Some place) ++ number ∷ [])) where
    -- another value has another place
    other_place : (v : Value) (p : ℕ) → value_eq v value ≡ false → place_in places v ≡ Some p → p ≡ place → ⊥
    other_place v p apart is same =
        let one : v ≡ value = unwrapped v value (sym (are.own v p is) ∙ ap (slice_get values) same ∙ are.own value place here) in
        no_both (value_eq v value) (ap (λ w. value_eq w value) one ∙ value_itself value) apart

    pub touched_more : (v : Value) → numbers_at (lists_in now) (place_in places v) ≡ cond (value_eq v value) (numbers_at (lists_in lists) (place_in places v) ++ number ∷ []) (numbers_at (lists_in lists) (place_in places v))
    touched_more v =
        ap (λ ls. numbers_at ls (place_in places v)) pushed
        ∙ elim (value_eq v value) as (λ b. value_eq v value ≡ b → numbers_at (slice_set (lists_in lists) place (numbers_at (lists_in lists) (Some place) ++ number ∷ [])) (place_in places v)
        ≡ cond b (numbers_at (lists_in lists) (place_in places v) ++ number ∷ []) (numbers_at (lists_in lists) (place_in places v))) [
          | true ↦ λ tied.
              let is : place_in places v ≡ Some place = ap (place_in places) (same_value v value tied) ∙ here in
              let below = place_within value place here in
              let long = length-map lists (λ (l : Vec ℕ Global). l.items) in
              ap (numbers_at (slice_set (lists_in lists) place (numbers_at (lists_in lists) (Some place) ++ number ∷ []))) is
              ∙ ap list_or_none (set_same (lists_in lists) place (numbers_at (lists_in lists) (Some place) ++ number ∷ []) (omega (arith, below, long)))
              ∙ ap (λ p. numbers_at (lists_in lists) p ++ number ∷ []) (sym is)
          | false ↦ λ apart. other (place_in places v) (λ p is. other_place v p apart is)
        ] refl
      where
        other : (found : Option ℕ) → ((p : ℕ) → found ≡ Some p → p ≡ place → ⊥) → numbers_at (slice_set (lists_in lists) place (numbers_at (lists_in lists) (Some place) ++ number ∷ [])) found ≡ numbers_at (lists_in lists) found
        other None apart = refl
        other (Some p) apart = ap list_or_none (set_other (lists_in lists) place p (numbers_at (lists_in lists) (Some place) ++ number ∷ []) (apart p refl))

    pub room_apart : ((p : ℕ) → (p ≡ place → ⊥) → HasRoomForNumber lists p → HasRoomForNumber now p) → (v : Value) → value_eq v value ≡ false → HasRoomIn lists (place_in places v) → HasRoomIn now (place_in places v)
    room_apart kept v apart room = go (place_in places v) refl room
      where
        go : (found : Option ℕ) → place_in places v ≡ found → HasRoomIn lists found → HasRoomIn now found
        go None is room = absurd room
        go (Some p) is room = kept p (other_place v p apart is) room

-- room that each list has still
pub room_kept : (lists now : List (Vec ℕ Global)) → ((p : ℕ) → HasRoomForNumber lists p → HasRoomForNumber now p) → (place : Option ℕ) → HasRoomIn lists place → HasRoomIn now place
room_kept lists now kept None room = absurd room
room_kept lists now kept (Some p) room = kept p room
