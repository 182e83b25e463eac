-- The keys of some writes as a set: those of the writes of one transaction among those of all.
use Rattle.std.proofs.Common.{◌≡◌, ◌∙◌, List, [], ◌∷◌, ◌++◌, ◌||◌, ℕ, Bool, true, false, cond, Option, None, Some, All, refl, sym, ap, map}
use Rattle.std.specs.FinMap as finite
use Rattle.std.specs.FinMap.{FinMap}
use Rattle.std.specs.FinMap.Entries.{by_order, find, put}
use Rattle.std.specs.List.{filter, flat_map, list_any}
use Rattle.std.specs.BTreeSet.{insert_key}
use Rattle.std.specs.Ordering.{eq_by_cmp, match_ordering}
use Rattle.std.specs.declared.cmp.Ordering.TheVariants.{Equal, Greater, Less}
use Rattle.std.proofs.lemmas.List.{nil_from_length}
use Rattle.std.proofs.lemmas.List.Elements.{All-head, All-tail, All-weaker}
use Rattle.std.specs.Cmp.{Equal-is}
use Rattle.provenance.specs.Chosen.{put_keys}
use Rattle.provenance.specs.Versions.{keys_of}
use Rattle.rel_base.specs.Tables.{Stamped, ref_cmp, ref_cmp-exact, ref_cmp-total, write_ref}
use Rattle.rel_base.specs.declared.value.Value.{Value}

-- a set of tables and keys, as a map with nothing at each
abbrev pub Refs : Type 0
Refs = FinMap ref_cmp (Unit {0})

abbrev ref_of : Stamped → ℕ × List Value
ref_of stamped = write_ref stamped.1.write

-- whether some write is on a key
abbrev pub has_ref : List Stamped → ℕ × List Value → Bool
has_ref writes ref = list_any (λ stamped. eq_by_cmp ref_cmp ref (ref_of stamped)) writes

-- a set with the keys of some writes put in, one after the other
abbrev pub with_refs : Refs → List Stamped → Refs
with_refs refs [] = refs
with_refs refs (stamped ∷ later) = with_refs (finite.insert refs (ref_of stamped) (tt {0})) later

-- ---- what is in a set

abbrev mark : Bool → Option (Unit {0}) → Option (Unit {0})
mark b x = cond b (Some (tt {0})) x

mark_twice : (a b : Bool) (x : Option (Unit {0})) → mark b (mark a x) ≡ mark (a || b) x
mark_twice true true x = refl
mark_twice true false x = refl
mark_twice false b x = refl

get-with_refs : (refs : Refs) (writes : List Stamped) (ref : ℕ × List Value) → finite.get (with_refs refs writes) ref ≡ mark (has_ref writes ref) (finite.get refs ref)
get-with_refs refs [] ref = refl
get-with_refs refs (stamped ∷ later) ref =
    get-with_refs (finite.insert refs (ref_of stamped) (tt {0})) later ref
    ∙ ap (mark (has_ref later ref)) (finite.get-insert ref_cmp-total refs (ref_of stamped) (tt {0}) ref)
    ∙ mark_twice (eq_by_cmp ref_cmp ref (ref_of stamped)) (has_ref later ref) (finite.get refs ref)

find_marks : (writes : List Stamped) (ref : ℕ × List Value) → find ref_cmp ref (map (λ stamped. (ref_of stamped, tt {0})) writes) ≡ mark (has_ref writes ref) None
find_marks [] ref = refl
find_marks (stamped ∷ later) ref =
    elim (eq_by_cmp ref_cmp ref (ref_of stamped)) as (λ b. cond b (Some (tt {0})) (find ref_cmp ref (map (λ s. (ref_of s, tt {0})) later)) ≡ mark (b || has_ref later ref) None) [
      | true ↦ refl
      | false ↦ find_marks later ref
    ]

-- the set of the keys of writes
abbrev refs_of : List Stamped → Refs
refs_of writes = finite.from_entries (map (λ stamped. (ref_of stamped, tt {0})) writes)

get-refs_of : (writes : List Stamped) (ref : ℕ × List Value) → finite.get (refs_of writes) ref ≡ mark (has_ref writes ref) None
get-refs_of writes ref = finite.get-from_entries ref_cmp-total (map (λ stamped. (ref_of stamped, tt {0})) writes) ref ∙ find_marks writes ref

-- ---- the keys of a set, in order

keys-put : (ref : ℕ × List Value) (entries : List ((ℕ × List Value) × Unit {0})) → map (λ e. e.0) (put ref_cmp ref (tt {0}) entries) ≡ insert_key ref_cmp (map (λ e. e.0) entries) ref
keys-put ref [] = refl
keys-put ref (e ∷ es) =
    elim (ref_cmp ref e.0) as (λ o. map (λ f. f.0) (by_order o ((ref, tt {0}) ∷ e ∷ es) ((e.0, tt {0}) ∷ es) (e ∷ put ref_cmp ref (tt {0}) es))
    ≡ match_ordering o (ref ∷ e.0 ∷ map (λ f. f.0) es) (e.0 ∷ map (λ f. f.0) es) (e.0 ∷ insert_key ref_cmp (map (λ f. f.0) es) ref)) [
      | Less ↦ refl
      | Equal ↦ refl
      | Greater ↦ ap (λ ks. e.0 ∷ ks) (keys-put ref es)
    ]

keys-insert : (refs : Refs) (ref : ℕ × List Value) → finite.keys (finite.insert refs ref (tt {0})) ≡ insert_key ref_cmp (finite.keys refs) ref
keys-insert refs ref = ap (map (λ e. e.0)) (finite.entries-insert ref_cmp-total refs ref (tt {0})) ∙ keys-put ref (finite.entries refs)

keys-with_refs : (refs : Refs) (writes : List Stamped) → finite.keys (with_refs refs writes) ≡ put_keys (finite.keys refs) writes
keys-with_refs refs [] = refl
keys-with_refs refs (stamped ∷ later) =
    keys-with_refs (finite.insert refs (ref_of stamped) (tt {0})) later ∙ ap (λ keys. put_keys keys later) (keys-insert refs (ref_of stamped))

-- ---- a set with more keys put in

module _ {Y : Type 0} (f : ℕ × List Value → List Y) where
  -- a key at which nothing is reported
  flat-put : (ref : ℕ × List Value) (entries : List ((ℕ × List Value) × Unit {0})) → f ref ≡ [] → flat_map f (map (λ e. e.0) (put ref_cmp ref (tt {0}) entries)) ≡ flat_map f (map (λ e. e.0) entries)
  flat-put ref [] none = ap (λ ys. ys ++ []) none
  flat-put ref (e ∷ es) none =
      elim (ref_cmp ref e.0) as (λ o. flat_map f (map (λ x. x.0) (by_order o ((ref, tt {0}) ∷ e ∷ es) ((e.0, tt {0}) ∷ es) (e ∷ put ref_cmp ref (tt {0}) es))) ≡ flat_map f (map (λ x. x.0) (e ∷ es))) [
        | Less ↦ ap (λ ys. ys ++ flat_map f (map (λ x. x.0) (e ∷ es))) none
        | Equal ↦ refl
        | Greater ↦ ap (λ ys. f e.0 ++ ys) (flat-put ref es none)
      ]

  flat-new : (refs : Refs) (ref : ℕ × List Value) → f ref ≡ [] → flat_map f (finite.keys (finite.insert refs ref (tt {0}))) ≡ flat_map f (finite.keys refs)
  flat-new refs ref none = ap (λ es. flat_map f (map (λ e. e.0) es)) (finite.entries-insert ref_cmp-total refs ref (tt {0})) ∙ flat-put ref (finite.entries refs) none

-- a key that is there is put in for nothing
same_refs : (refs : Refs) (ref : ℕ × List Value) → finite.get refs ref ≡ Some (tt {0}) → finite.insert refs ref (tt {0}) ≡ refs
same_refs refs ref there = finite.same_map ref_cmp-total ref_cmp-exact (finite.insert refs ref (tt {0})) refs (λ q.
    finite.get-insert ref_cmp-total refs ref (tt {0}) q
    ∙ elim (eq_by_cmp ref_cmp q ref) as (λ b. eq_by_cmp ref_cmp q ref ≡ b → mark b (finite.get refs q) ≡ finite.get refs q) [
      | true ↦ λ tied. sym there ∙ ap (finite.get refs) (sym (ref_cmp-exact q ref ((Equal-is (ref_cmp q ref)).0 tied)))
      | false ↦ λ _. refl
    ] refl)

-- nothing is reported of a write's key where it is not there
abbrev IsSilent : {Y : Type 0} → (ℕ × List Value → List Y) → Refs → Stamped → Type 0
IsSilent f refs stamped = finite.get refs (ref_of stamped) ≡ None → f (ref_of stamped) ≡ []

module _ {Y : Type 0} (f : ℕ × List Value → List Y) where
  flat-insert : (refs : Refs) (ref : ℕ × List Value) → (finite.get refs ref ≡ None → f ref ≡ []) → flat_map f (finite.keys (finite.insert refs ref (tt {0}))) ≡ flat_map f (finite.keys refs)
  flat-insert refs ref none =
      elim (finite.get refs ref) as (λ found. finite.get refs ref ≡ found → flat_map f (finite.keys (finite.insert refs ref (tt {0}))) ≡ flat_map f (finite.keys refs)) [
        | None ↦ λ absent. flat-new f refs ref (none absent)
        | Some u ↦ λ there. ap (λ set. flat_map f (finite.keys set)) (same_refs refs ref there)
      ] refl

  -- what was not there after one more was not there before
  not_before : (refs : Refs) (ref q : ℕ × List Value) → finite.get (finite.insert refs ref (tt {0})) q ≡ None → finite.get refs q ≡ None
  not_before refs ref q absent =
      elim (eq_by_cmp ref_cmp q ref) as (λ b. mark b (finite.get refs q) ≡ None → finite.get refs q ≡ None) [ true ↦ λ there. cc | false ↦ λ same. same ]
      (sym (finite.get-insert ref_cmp-total refs ref (tt {0}) q) ∙ absent)

  flat-with : (refs : Refs) (writes : List Stamped) → All (IsSilent f refs) writes → flat_map f (finite.keys (with_refs refs writes)) ≡ flat_map f (finite.keys refs)
  flat-with refs [] none = refl
  flat-with refs (stamped ∷ later) none =
      let next = finite.insert refs (ref_of stamped) (tt {0}) in
      let rest : All (IsSilent f next) later =
      All-weaker (IsSilent f refs) (IsSilent f next) (λ s told absent. told (not_before refs (ref_of stamped) (ref_of s) absent)) later (All-tail (IsSilent f refs) stamped later none) in
      flat-with next later rest ∙ flat-insert refs (ref_of stamped) (All-head (IsSilent f refs) stamped later none)

-- ---- the keys of some writes among those of all

has_part : (test : Stamped → Bool) (writes : List Stamped) (ref : ℕ × List Value) → (has_ref (filter test writes) ref || has_ref writes ref) ≡ has_ref writes ref
has_part test [] ref = refl
has_part test (x ∷ xs) ref =
    let own = eq_by_cmp ref_cmp ref (ref_of x) in
    elim (test x) as (λ b. (has_ref (cond b (x ∷ filter test xs) (filter test xs)) ref || (own || has_ref xs ref)) ≡ (own || has_ref xs ref)) [
      | true ↦ one_side own (has_ref (filter test xs) ref) (has_ref xs ref) (has_part test xs ref)
      | false ↦ other_side own (has_ref (filter test xs) ref) (has_ref xs ref) (has_part test xs ref)
    ]
  where
    one_side : (a b c : Bool) → (b || c) ≡ c → ((a || b) || (a || c)) ≡ (a || c)
    one_side true b c same = refl
    one_side false b c same = same

    other_side : (a b c : Bool) → (b || c) ≡ c → (b || (a || c)) ≡ (a || c)
    other_side true true c same = refl
    other_side true false c same = refl
    other_side false b c same = same

-- the keys of all writes are those of some with those of all put in
all_with : (test : Stamped → Bool) (writes : List Stamped) → refs_of writes ≡ with_refs (with_refs finite.empty (filter test writes)) writes
all_with test writes = finite.same_map ref_cmp-total ref_cmp-exact (refs_of writes) (with_refs (with_refs finite.empty (filter test writes)) writes) (λ q.
    get-refs_of writes q
    ∙ ap (λ b. mark b None) (sym (has_part test writes q))
    ∙ sym (mark_twice (has_ref (filter test writes) q) (has_ref writes q) None)
    ∙ ap (λ x. mark (has_ref writes q) (mark (has_ref (filter test writes) q) x)) (sym (finite.get-empty ref_cmp q))
    ∙ ap (mark (has_ref writes q)) (sym (get-with_refs finite.empty (filter test writes) q))
    ∙ sym (get-with_refs (with_refs finite.empty (filter test writes)) writes q))

keys-empty : finite.keys (finite.empty {X = Unit {0}} {R = ref_cmp}) ≡ []
keys-empty = ap (map (λ e. e.0)) (nil_from_length (finite.entries finite.empty) (sym (finite.len-entries finite.empty) ∙ finite.len-empty ref_cmp (Unit {0})))

-- where nothing is reported of keys on which no write passes, what is reported of the keys of all writes is reported of the keys of those that pass
pub told_by_some : {Y : Type 0} (f : ℕ × List Value → List Y) (test : Stamped → Bool) (writes : List Stamped)
    → All (λ x. has_ref (filter test writes) (ref_of x) ≡ false → f (ref_of x) ≡ []) writes → flat_map f (keys_of writes) ≡ flat_map f (put_keys [] (filter test writes))
told_by_some f test writes none =
    let some : Refs = with_refs finite.empty (filter test writes) in
    ap (λ set. flat_map f (finite.keys set)) (all_with test writes)
    ∙ flat-with f some writes (All-weaker (λ x. has_ref (filter test writes) (ref_of x) ≡ false → f (ref_of x) ≡ []) (IsSilent f some) (λ x told absent. told (unmarked (has_ref (filter test writes) (ref_of x)) (sym (ap (mark (has_ref (filter test writes) (ref_of x))) (finite.get-empty ref_cmp (ref_of x))) ∙ sym (get-with_refs finite.empty (filter test writes) (ref_of x)) ∙ absent))) writes none)
    ∙ ap (flat_map f) (keys-with_refs finite.empty (filter test writes) ∙ ap (λ keys. put_keys keys (filter test writes)) keys-empty)
  where
    unmarked : (b : Bool) → mark b None ≡ None → b ≡ false
    unmarked true there = cc
    unmarked false there = refl
