-- The versions that a transaction made or ended are all of keys that it wrote.
use Rattle.std.proofs.Common.{◌≡◌, ◌∙◌, List, [], ◌∷◌, ◌++◌, ◌||◌, ℕ, Bool, true, false, cond, Option, None, Some, All, refl, sym, subst, ap, map, length, nat_lt}
use Rattle.std.specs.List.{filter, flat_map}
use Rattle.std.specs.Option.{IfSome}
use Rattle.std.specs.Ordering.{eq_by_cmp}
use Rattle.std.specs.Cmp.{Equal-is}
use Rattle.std.proofs.lemmas.List.{append-nil}
use Rattle.std.proofs.lemmas.List.Elements.{All-cons, All-head, All-map, All-nil, All-tail, All-weaker, filter-append}
use Rattle.node_model.specs.declared.result.BlockResult.{BlockResult}
use Rattle.node_model.specs.declared.version.Version.{Version}
use Rattle.provenance.proofs.KeySets.{has_ref, told_by_some}
use Rattle.provenance.proofs.Spans.{HoldsOf, spans_hold}
use Rattle.provenance.specs.Answer.{is_place_of, is_written_by, of_id}
use Rattle.provenance.specs.Chosen.{is_writer, put_keys, written_on}
use Rattle.provenance.specs.Versions.{history_of, keys_of, of_key, version_of}
use Rattle.rel_base.specs.Tables.{Stamped, place_of, ref_cmp, ref_cmp-exact, write_ref}
use Rattle.rel_base.specs.declared.access.Place.{Place}
use Rattle.rel_base.specs.declared.schema.TableDef.{TableDef}
use Rattle.rel_base.specs.declared.value.Value.{Value}
use Rattle.row_sets.specs.Lifespans.{is_of_key, lifespans}

-- ---- lists

-- where no item passes, none is left
none_pass : {X : Type 0} (test : X → Bool) (xs : List X) → All (λ x. test x ≡ false) xs → filter test xs ≡ []
none_pass test [] none = refl
none_pass test (x ∷ xs) none =
    ap (λ b. cond b (x ∷ filter test xs) (filter test xs)) (All-head (λ y. test y ≡ false) x xs none) ∙ none_pass test xs (All-tail (λ y. test y ≡ false) x xs none)

-- what passes of what is reported of the items that pass
filter-flat_map : {X Y : Type 0} (chosen : Y → Bool) (f : X → List Y) (test : X → Bool) (xs : List X)
    → filter chosen (flat_map f (filter test xs)) ≡ flat_map (λ x. filter chosen (cond (test x) (f x) [])) xs
filter-flat_map chosen f test [] = refl
filter-flat_map chosen f test (x ∷ xs) =
    elim (test x) as (λ b. filter chosen (flat_map f (cond b (x ∷ filter test xs) (filter test xs))) ≡ filter chosen (cond b (f x) []) ++ flat_map (λ y. filter chosen (cond (test y) (f y) [])) xs) [
      | true ↦ filter-append chosen (f x) (flat_map f (filter test xs)) ∙ ap (λ ys. filter chosen (f x) ++ ys) (filter-flat_map chosen f test xs)
      | false ↦ filter-flat_map chosen f test xs
    ]

-- ---- the versions of a key that a transaction did not write

-- no write on the key passes
none_on : (test : Stamped → Bool) (ref : ℕ × List Value) (writes : List Stamped) → has_ref (filter test writes) ref ≡ false
    → All (λ x. eq_by_cmp ref_cmp ref (write_ref x.1.write) ≡ true → test x ≡ false) writes
none_on test ref [] absent = All-nil (λ (x : Stamped). eq_by_cmp ref_cmp ref (write_ref x.1.write) ≡ true → test x ≡ false)
none_on test ref (x ∷ xs) absent =
    let P : Stamped → Type 0 = λ y. eq_by_cmp ref_cmp ref (write_ref y.1.write) ≡ true → test y ≡ false in
    let own = eq_by_cmp ref_cmp ref (write_ref x.1.write) in
    elim (test x) as (λ b. test x ≡ b → has_ref (cond b (x ∷ filter test xs) (filter test xs)) ref ≡ false → All P (x ∷ xs)) [
      | true ↦ λ passes gone.
          All-cons P x xs (λ on. absurd (not_both own (has_ref (filter test xs) ref) on gone)) (none_on test ref xs (later own (has_ref (filter test xs) ref) gone))
      | false ↦ λ fails gone. All-cons P x xs (λ on. fails) (none_on test ref xs gone)
    ] refl absent
  where
    not_both : (a b : Bool) → a ≡ true → (a || b) ≡ false → ⊥
    not_both true b on gone = cc
    not_both false b on gone = cc

    later : (a b : Bool) → (a || b) ≡ false → b ≡ false
    later true b gone = cc
    later false b gone = gone

module _ (blocks : List BlockResult) (id : List ℕ) where
  -- a place is of no write of the transaction
  abbrev IsOther : Place → Type 0
  IsOther place = is_place_of blocks id (Some place) ≡ false

  not_written : (made : Place) (ended : Option Place) → IsOther made → IfSome ended IsOther → is_written_by blocks id made ended ≡ false
  not_written made None at_made at_end = ap (λ b. b || false) at_made
  not_written made (Some place) at_made at_end = ap (λ b. b || is_place_of blocks id (Some place)) at_made ∙ at_end

  -- the versions of a key on which it has no write are none of its
  none_of_key : (ref : ℕ × List Value) (table : ℕ) → has_ref (filter (is_writer blocks id) (history_of blocks)) ref ≡ false
      → filter (λ version. is_written_by blocks id version.made version.ended) (map (version_of blocks table) (lifespans (is_of_key ref.0 ref.1) (history_of blocks))) ≡ []
  none_of_key ref table absent =
      let history = history_of blocks in
      let On : ℕ × List Value → Stamped → Type 0 = λ r x. is_of_key r.0 r.1 x ≡ true → IsOther (place_of x) in
      let none : All (On ref) history = none_on (is_writer blocks id) ref history absent in
      let hold = spans_hold IsOther (is_of_key ref.0 ref.1) history none
      (λ z passes. subst (λ r. All (On r) history) (ref_cmp-exact ref (write_ref z.1.write) ((Equal-is (ref_cmp ref (write_ref z.1.write))).0 passes)) none) in
      let Silent : Version → Type 0 = λ version. is_written_by blocks id version.made version.ended ≡ false in
      let spans = lifespans (is_of_key ref.0 ref.1) history in
      none_pass (λ version. is_written_by blocks id version.made version.ended) (map (version_of blocks table) spans)
      (All-map Silent (version_of blocks table) spans (All-weaker (HoldsOf IsOther) (λ span. Silent (version_of blocks table span)) (λ span at. not_written span.made span.ended at.0 at.1) spans hold))

  -- so it is of a key whose table may be declared
  none_on_key : (tables : List TableDef) (ref : ℕ × List Value) → has_ref (filter (is_writer blocks id) (history_of blocks)) ref ≡ false → written_on tables blocks id ref ≡ []
  none_on_key tables ref absent =
      elim (nat_lt ref.0 (length tables)) as (λ b. filter (λ version. is_written_by blocks id version.made version.ended) (map (version_of blocks ref.0) (cond b (lifespans (is_of_key ref.0 ref.1) (history_of blocks)) [])) ≡ []) [
        | true ↦ none_of_key ref ref.0 absent
        | false ↦ refl
      ]

  -- the versions of the keys that it wrote are all of its versions
  written_all : (tables : List TableDef) → flat_map (written_on tables blocks id) (put_keys [] (filter (is_writer blocks id) (history_of blocks))) ≡ of_id tables blocks id
  written_all tables =
      let history = history_of blocks in
      let chosen : Version → Bool = λ version. is_written_by blocks id version.made version.ended in
      let declared : ℕ × List Value → Bool = λ ref. nat_lt ref.0 (length tables) in
      let Silent : Stamped → Type 0 = λ x. has_ref (filter (is_writer blocks id) history) (write_ref x.1.write) ≡ false → written_on tables blocks id (write_ref x.1.write) ≡ [] in
      let silent : All Silent history = λ k d within. none_on_key tables _ in
      sym (told_by_some (written_on tables blocks id) (is_writer blocks id) history silent)
      ∙ (λ i. flat_map (λ ref. filter chosen (pulled (declared ref) ref i)) (keys_of history))
      ∙ sym (filter-flat_map chosen (of_key blocks) declared (keys_of history))
    where
      pulled : (b : Bool) (ref : ℕ × List Value) → map (version_of blocks ref.0) (cond b (lifespans (is_of_key ref.0 ref.1) (history_of blocks)) []) ≡ cond b (of_key blocks ref) []
      pulled true ref = refl
      pulled false ref = refl

  -- once no key is left, what was reported is all of it
  pub written_end : (tables : List TableDef) (told : List Version) (left : List (ℕ × List Value)) → left ≡ []
      → told ++ flat_map (written_on tables blocks id) left ≡ flat_map (written_on tables blocks id) (put_keys [] (filter (is_writer blocks id) (history_of blocks))) → told ≡ of_id tables blocks id
  written_end tables told left none all =
      sym (append-nil told) ∙ ap (λ refs. told ++ flat_map (written_on tables blocks id) refs) (sym none) ∙ all ∙ written_all tables
