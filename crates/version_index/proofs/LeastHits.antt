-- The first late write on a key or of a table is the least one that a read hits.
use Rattle.std.proofs.Common.{◌≡◌, ◌∙◌, ℕ, suc, zero, List, [], ◌∷◌, Bool, true, false, ◌&&◌, ◌||◌, ◌==◌, cond, Option, Some, None, refl, ap, sym, subst, All, is_some, ◌⊎◌, inl, inr, slice_get, take, nat_le, nat_lt}
use Rattle.std.specs.List.{filter}
use Rattle.std.specs.Option.{IsSomeAnd, IfSome}
use Rattle.std.specs.declared.cmp.Ordering.{Ordering}
use Rattle.std.specs.Ordering.{is_gt, eq_by_cmp}
use Rattle.std.specs.Cmp.{eq_by_cmp_equiv}
use Rattle.std.proofs.lemmas.Bool.Decides.{Decides-eqb}
use Rattle.std.proofs.lemmas.List.Elements.{All-head, All-tail, All-weaker, All-filter, All-take, filter_passes}
use Rattle.rel_base.specs.declared.access.Read.{Read}
use Rattle.rel_base.specs.declared.access.Read.TheVariants.{Point}
use Rattle.rel_base.specs.declared.access.Write.{Write}
use Rattle.rel_base.specs.declared.schema.TableDef.{TableDef}
use Rattle.rel_base.specs.declared.value.Value.{Value}
use Rattle.rel_base.specs.Access.{read_table, covers_some, hits_write, WriteFits, PartFits}
use Rattle.rel_base.specs.Late.{stamp_cmp, lesser, least, least_hit, hits_in, where_declared}
use Rattle.rel_base.specs.Tables.{Stamped, HistoryFits, ref_cmp, writes_between, write_ref}
use Rattle.rel_base.specs.Value.{key_cmp, key_eq, key_cmp-total}
use Rattle.rel_base.proofs.Bits.{no_both, first_true}
use Rattle.row_sets.proofs.Histories.{same_parts}
use Rattle.version_index.specs.Chain.{IsFirst, is_late}
use Rattle.version_index.specs.Log.{InOrder, Precedes}
use Rattle.version_index.specs.Rows.{write_of}

module _ {X : Type 0} (cmp : X → X → Ordering) where
  -- what holds of all items holds of the least
  least_all : (P : X → Type 0) (xs : List X) → All P xs → IfSome (least cmp xs) P
  least_all P [] all = tt
  least_all P (x ∷ xs) all = pick (least cmp xs) (least_all P xs (All-tail P x xs all))
    where
      pick : (found : Option X) → IfSome found P → P (lesser cmp x found)
      pick None there = All-head P x xs all
      pick (Some y) there = elim (is_gt (cmp x y)) as (λ b. P (cond b y x)) [ true ↦ there | false ↦ All-head P x xs all ]

  -- an item that all others follow is the least
  least_leads : (x : X) (xs : List X) → All (λ y. is_gt (cmp x y) ≡ false) xs → least cmp (x ∷ xs) ≡ Some x
  least_leads x xs all = ap Some (leads (least cmp xs) (least_all (λ y. is_gt (cmp x y) ≡ false) xs all))
    where
      leads : (found : Option X) → IfSome found (λ z. is_gt (cmp x z) ≡ false) → lesser cmp x found ≡ x
      leads None follows = refl
      leads (Some z) follows = ap (λ b. cond b z x) follows

module _ {X : Type 0} (p q : X → Bool) where
  -- what two filters keep
  abbrev kept : List X → List X
  kept xs = filter p (filter q xs)

  kept_step : (x : X) (xs : List X) → kept (x ∷ xs) ≡ cond (p x && q x) (x ∷ kept xs) (kept xs)
  kept_step x xs =
      elim (q x) as (λ b. filter p (cond b (x ∷ filter q xs) (filter q xs)) ≡ cond (p x && b) (x ∷ kept xs) (kept xs)) [
        | true ↦ elim (p x) as (λ b. cond b (x ∷ kept xs) (kept xs) ≡ cond (b && true) (x ∷ kept xs) (kept xs)) [ true ↦ refl | false ↦ refl ]
        | false ↦ elim (p x) as (λ b. kept xs ≡ cond (b && false) (x ∷ kept xs) (kept xs)) [ true ↦ refl | false ↦ refl ]
      ]

  -- what holds of all items holds of those that are kept, which pass
  All-kept : (P : X → Type 0) (xs : List X) → All P xs → All (λ x. P x × (p x ≡ true)) (kept xs)
  All-kept P xs all k d below = (All-filter p P (filter q xs) (All-filter q P xs all) k d below, filter_passes p (filter q xs) k d below)

-- the first of the writes of one table that pass is the least of them
module _ (hit between : Stamped → Bool) (table : ℕ) (of_table : (s : Stamped) → hit s ≡ true → s.1.write.table ≡ table) where
  -- those that are kept follow one of the table that stands before them
  follow : (x : Stamped) (xs : List Stamped) → hit x ≡ true → All (Precedes x) xs → All (λ y. is_gt (stamp_cmp x y) ≡ false) (kept hit between xs)
  follow x xs passes precede =
      All-weaker (λ y. Precedes x y × (hit y ≡ true)) (λ y. is_gt (stamp_cmp x y) ≡ false) (λ y both. both.0.1 (of_table x passes ∙ sym (of_table y both.1))) (kept hit between xs)
      (All-kept hit between (Precedes x) xs precede)

  pub first_is_least : (xs : List Stamped) (found : Option ℕ) → InOrder xs → IsFirst (λ s. hit s && between s) xs found → least stamp_cmp (filter hit (filter between xs)) ≡ write_of xs found
  first_is_least [] None ordered first = refl
  first_is_least [] (Some number) ordered first = absurd first.0
  first_is_least (x ∷ xs) None ordered first =
      ap (least stamp_cmp) (kept_step hit between x xs ∙ ap (λ b. cond b (x ∷ kept hit between xs) (kept hit between xs)) (All-head (λ s. (hit s && between s) ≡ false) x xs first))
      ∙ first_is_least xs None ordered.1 (All-tail (λ s. (hit s && between s) ≡ false) x xs first)
  first_is_least (x ∷ xs) (Some zero) ordered first =
      ap (least stamp_cmp) (kept_step hit between x xs ∙ ap (λ b. cond b (x ∷ kept hit between xs) (kept hit between xs)) first.0)
      ∙ least_leads stamp_cmp x (kept hit between xs) (follow x xs (first_true (hit x) (between x) first.0) ordered.0)
  first_is_least (x ∷ xs) (Some (suc number)) ordered first =
      ap (least stamp_cmp) (kept_step hit between x xs ∙ ap (λ b. cond b (x ∷ kept hit between xs) (kept hit between xs)) (All-head (λ s. (hit s && between s) ≡ false) x (take number xs) first.1))
      ∙ first_is_least xs (Some number) ordered.1 (first.0, All-tail (λ s. (hit s && between s) ≡ false) x (take number xs) first.1)

-- ---- tests that agree

module _ {X : Type 0} (f g : X → Bool) where
  -- an item that passes one passes the other
  agree_at : (xs : List X) (number : ℕ) → All (λ x. f x ≡ g x) xs → IsSomeAnd (slice_get xs number) (λ x. f x ≡ true) → IsSomeAnd (slice_get xs number) (λ x. g x ≡ true)
  agree_at [] number all there = there
  agree_at (x ∷ xs) zero all there = sym (All-head (λ x. f x ≡ g x) x xs all) ∙ there
  agree_at (x ∷ xs) (suc number) all there = agree_at xs number (All-tail (λ x. f x ≡ g x) x xs all) there

  fail_both : (xs : List X) → All (λ x. f x ≡ g x) xs → All (λ x. f x ≡ false) xs → All (λ x. g x ≡ false) xs
  fail_both xs all fails k d below = sym (all k d below) ∙ fails k d below

  -- the first is the same
  pub first_agrees : (xs : List X) (found : Option ℕ) → All (λ x. f x ≡ g x) xs → IsFirst f xs found → IsFirst g xs found
  first_agrees xs None all first = fail_both xs all first
  first_agrees xs (Some number) all first = (agree_at xs number all first.0, fail_both (take number xs) (All-take (λ x. f x ≡ g x) number xs all) first.1)

-- ---- a point hits the writes on its key

-- a point covers a row that fits by the key of the write
covers_fit : (def : TableDef) (table : ℕ) (key own : List Value) (row : Option (List Value)) → PartFits def own row → covers_some def (Point table key) row ≡ cond (is_some row) (key_eq own key) false
covers_fit def table key own None fits = refl
covers_fit def table key own (Some row) fits = ap (λ k. key_eq k key) fits.1

-- at least one row is there
one_there : (a b k : Bool) → (a ≡ true) ⊎ (b ≡ true) → (cond a k false || cond b k false) ≡ k
one_there true b true there = refl
one_there true true false there = refl
one_there true false false there = refl
one_there false true k there = refl
one_there false false k (inl there) = absurd (no_both false there refl)
one_there false false k (inr there) = absurd (no_both false there refl)

-- a point of the table of a write that fits covers one of its rows where the keys are one
hits_by_key : (def : TableDef) (table : ℕ) (key : List Value) (write : Write) → WriteFits def write
    → (covers_some def (Point table key) write.before || covers_some def (Point table key) write.after) ≡ key_eq key write.key
hits_by_key def table key write fits =
    (λ i. covers_fit def table key write.key write.before fits.before i || covers_fit def table key write.key write.after fits.after i)
    ∙ one_there (is_some write.before) (is_some write.after) (key_eq write.key key) fits.some ∙ (eq_by_cmp_equiv key_cmp-total).symm write.key key

pub hits_point : (defs : List TableDef) (def : TableDef) (table : ℕ) (key : List Value) (write : Write) → slice_get defs table ≡ Some def → IsSomeAnd (slice_get defs write.table) (λ d. WriteFits d write)
    → hits_in defs (Point table key) write ≡ eq_by_cmp ref_cmp (table, key) (write_ref write)
hits_point defs def table key write declared fits =
    ap (λ found. where_declared found (λ d. hits_write d (Point table key) write)) declared
    ∙ elim (table == write.table) as (λ t. (table == write.table) ≡ t → (t && (covers_some def (Point table key) write.before || covers_some def (Point table key) write.after)) ≡ (t && key_eq key write.key)) [
      | true ↦ λ same.
          let one : write.table ≡ table = sym ((Decides-eqb table write.table).0 same) in
          hits_by_key def table key write (subst (λ found. IsSomeAnd found (λ d. WriteFits d write)) (ap (slice_get defs) one ∙ declared) fits)
      | false ↦ λ other. refl
    ] refl
    ∙ sym (same_parts table write.table (key_cmp key write.key))

-- a read hits writes of its table alone
pub hits_table : (defs : List TableDef) (read : Read) (write : Write) → hits_in defs read write ≡ true → write.table ≡ read_table read
hits_table defs read write hit = go (slice_get defs (read_table read)) hit
  where
    go : (found : Option TableDef) → where_declared found (λ d. hits_write d read write) ≡ true → write.table ≡ read_table read
    go None hit = absurd (no_both false hit refl)
    go (Some def) hit = sym ((Decides-eqb (read_table read) write.table).0 (first_true (read_table read == write.table) _ hit))

-- the first write that a read hits in the blocks between two heights is the least
pub least_from_first : (defs : List TableDef) (read : Read) (after upto : ℕ) (history : List Stamped) (found : Option ℕ) → InOrder history
    → IsFirst (λ s. hits_in defs read s.1.write && (nat_lt after s.0 && nat_le s.0 upto)) history found → least_hit defs read (writes_between after upto history) ≡ write_of history found
least_from_first defs read after upto history found ordered first =
    first_is_least (λ s. hits_in defs read s.1.write) (λ s. nat_lt after s.0 && nat_le s.0 upto) (read_table read) (λ s hit. hits_table defs read s.1.write hit) history found ordered first

-- the first late write on the key of a point is the least that it hits
pub least_of_point : (defs : List TableDef) (def : TableDef) (table : ℕ) (key : List Value) (after upto : ℕ) (history : List Stamped) (found : Option ℕ) → slice_get defs table ≡ Some def
    → HistoryFits defs history → InOrder history → IsFirst (is_late (table, key) after upto) history found → least_hit defs (Point table key) (writes_between after upto history) ≡ write_of history found
least_of_point defs def table key after upto history found declared fits ordered first =
    least_from_first defs (Point table key) after upto history found ordered
    (first_agrees (is_late (table, key) after upto) (λ s. hits_in defs (Point table key) s.1.write && (nat_lt after s.0 && nat_le s.0 upto)) history found
    (All-weaker (λ s. IsSomeAnd (slice_get defs s.1.write.table) (λ d. WriteFits d s.1.write)) (λ s. is_late (table, key) after upto s ≡ (hits_in defs (Point table key) s.1.write && (nat_lt after s.0 && nat_le s.0 upto)))
    (λ s fit. ap (λ b. b && (nat_lt after s.0 && nat_le s.0 upto)) (sym (hits_point defs def table key s.1.write declared fit))) history fits) first)
