-- What the last write on a key up to a height says of the tables at the height.
use Rattle.std.proofs.Common.{◌≡◌, ◌∙◌, ℕ, suc, zero, List, [], ◌∷◌, ◌++◌, true, false, ◌&&◌, cond, Option, Some, None, is_some, refl, ap, sym, subst, All, slice_get, take, nat_le}
use Rattle.std.specs.FinMap.{get, get-empty}
use Rattle.std.specs.Option.{IsSomeAnd}
use Rattle.std.proofs.lemmas.List.Elements.{All-head, All-tail}
use Rattle.rel_base.specs.declared.access.Seen.{Seen}
use Rattle.rel_base.specs.declared.value.Value.{Value}
use Rattle.rel_base.specs.Tables.{Tables, Stamped, ref_cmp, write_ref, set_stamped, set_write, no_tables, seen_at, tables_at, writes_up_to}
use Rattle.rel_base.proofs.Commutes.{get-set_entry}
use Rattle.version_index.specs.Chain.{IsLast, is_on, is_seen}
use Rattle.version_index.specs.Found.{IsVersion, IsVisible}
use Rattle.version_index.specs.Rows.{seen_of, write_of}
use Rattle.version_index.proofs.Passing.{take_next}

-- the row that the write of a number leaves
abbrev pub seen_by : Option Stamped → Option Seen
seen_by None = None
seen_by (Some stamped) = seen_of stamped

module _ (ref : ℕ × List Value) where
  -- what a key has after committed writes, by what it had before
  abbrev after_all : List Stamped → Option Seen → Option Seen
  after_all [] old = old
  after_all (stamped ∷ rest) old = after_all rest (cond (is_on ref stamped) (seen_of stamped) old)

  get-set_stamped : (tables : Tables) (history : List Stamped) → get (set_stamped tables history) ref ≡ after_all history (get tables ref)
  get-set_stamped tables [] = refl
  get-set_stamped tables (stamped ∷ rest) =
      get-set_stamped (set_write stamped.0 stamped.1.pos tables stamped.1.write) rest ∙ ap (after_all rest) (get-set_entry tables (write_ref stamped.1.write) (seen_of stamped) ref)

  module _ (height : ℕ) where
    -- what a key has after the committed writes up to the height
    abbrev after_low : List Stamped → Option Seen → Option Seen
    after_low history old = after_all (writes_up_to height history) old

    -- one write more
    low_step : (stamped : Stamped) (rest : List Stamped) (old : Option Seen) → after_low (stamped ∷ rest) old ≡ after_low rest (cond (is_seen ref height stamped) (seen_of stamped) old)
    low_step stamped rest old =
        elim (nat_le stamped.0 height) as (λ b. after_all (cond b (stamped ∷ writes_up_to height rest) (writes_up_to height rest)) old ≡ after_low rest (cond (is_on ref stamped && b) (seen_of stamped) old)) [
          | true ↦ elim (is_on ref stamped) as (λ b. after_low rest (cond b (seen_of stamped) old) ≡ after_low rest (cond (b && true) (seen_of stamped) old)) [ true ↦ refl | false ↦ refl ]
          | false ↦ elim (is_on ref stamped) as (λ b. after_low rest old ≡ after_low rest (cond (b && false) (seen_of stamped) old)) [ true ↦ refl | false ↦ refl ]
        ]

    abbrev Unseen : Stamped → Type 0
    Unseen stamped = is_seen ref height stamped ≡ false

    -- writes that are not seen leave it
    unseen_left : (history : List Stamped) (old : Option Seen) → All Unseen history → after_low history old ≡ old
    unseen_left [] old none = refl
    unseen_left (stamped ∷ rest) old none =
        low_step stamped rest old ∙ ap (λ b. after_low rest (cond b (seen_of stamped) old)) (All-head Unseen stamped rest none) ∙ unseen_left rest old (All-tail Unseen stamped rest none)

    -- the last that is seen decides
    last_decides : (history : List Stamped) (number : ℕ) (old : Option Seen) → IsLast (is_seen ref height) history (Some number) → after_low history old ≡ seen_by (slice_get history number)
    last_decides [] number old last = absurd last.0
    last_decides (stamped ∷ rest) zero old last =
        low_step stamped rest old ∙ ap (λ b. after_low rest (cond b (seen_of stamped) old)) last.0 ∙ unseen_left rest (seen_of stamped) last.1
    last_decides (stamped ∷ rest) (suc number) old last = low_step stamped rest old ∙ last_decides rest number (cond (is_seen ref height stamped) (seen_of stamped) old) last

    last_by : (history : List Stamped) (found : Option ℕ) (old : Option Seen) → old ≡ None → IsLast (is_seen ref height) history found → after_low history old ≡ seen_by (write_of history found)
    last_by history None old nothing none = unseen_left history old none ∙ nothing
    last_by history (Some number) old nothing last = last_decides history number old last

    -- what the tables have at a key is what the last write on it up to the height left
    pub get_seen : (history : List Stamped) (found : Option ℕ) → IsLast (is_seen ref height) history found → get (tables_at height history) ref ≡ seen_by (write_of history found)
    get_seen history found last =
        get-set_stamped no_tables (writes_up_to height history) ∙ last_by history found (get no_tables ref) (get-empty ref_cmp ref) last

    -- the last write of some is seen, or what was there before it is there still
    low_end : (history : List Stamped) (stamped : Stamped) (old : Option Seen) → after_low (history ++ stamped ∷ []) old ≡ cond (is_seen ref height stamped) (seen_of stamped) (after_low history old)
    low_end [] stamped old = low_step stamped [] old
    low_end (s ∷ rest) stamped old =
        low_step s (rest ++ stamped ∷ []) old ∙ low_end rest stamped (cond (is_seen ref height s) (seen_of s) old)
        ∙ ap (cond (is_seen ref height stamped) (seen_of stamped)) (sym (low_step s rest old))

    -- what the tables have at a key after one more write
    pub seen_next : (history : List Stamped) (number : ℕ) (stamped : Stamped) → slice_get history number ≡ Some stamped
        → get (tables_at height (take (suc number) history)) ref ≡ cond (is_seen ref height stamped) (seen_of stamped) (get (tables_at height (take number history)) ref)
    seen_next history number stamped there =
        let before = take number history in
        ap (λ xs. get (tables_at height xs) ref) (take_next history number stamped there) ∙ get-set_stamped no_tables (writes_up_to height (before ++ stamped ∷ [])) ∙ low_end before stamped (get no_tables ref)
        ∙ ap (cond (is_seen ref height stamped) (seen_of stamped)) (sym (get-set_stamped no_tables (writes_up_to height before)))

-- the last write on a key up to a height is the version there, where it left a row
pub version_of : (ref : ℕ × List Value) (height : ℕ) (history : List Stamped) (number : ℕ) (stamped : Stamped) → slice_get history number ≡ Some stamped → IsLast (is_seen ref height) history (Some number)
    → IsVersion ref height history (cond (is_some stamped.1.write.after) (Some number) None)
version_of ref height history number stamped there last = go stamped.1.write.after refl
  where
    left : get (tables_at height history) ref ≡ seen_of stamped
    left = get_seen ref height history (Some number) last ∙ ap seen_by there

    go : (after : Option (List Value)) → stamped.1.write.after ≡ after → IsVersion ref height history (cond (is_some after) (Some number) None)
    go None is = left ∙ ap (seen_at stamped.0 stamped.1.pos) is
    go (Some row) is = (last, subst (λ found. IsSomeAnd found (IsVisible ref height history)) (sym there) (ap is_some is, left))
