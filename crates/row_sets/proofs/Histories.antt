-- Items of lists by their numbers, and histories of committed writes.
use Rattle.std.proofs.Common.{◌≡◌, ◌∙◌, ℕ, List, ◌++◌, true, false, ◌&&◌, ◌==◌, cond, Some, refl, ap, subst, arith, All, slice_get, nat_lt}
use Rattle.std.specs.Option.{IsSomeAnd, unwrap_or}
use Rattle.std.specs.Ordering.{is_eq, nat_cmp, ordering_then}
use Rattle.std.specs.declared.cmp.Ordering.{Ordering}
use Rattle.std.specs.declared.cmp.Ordering.TheVariants.{Less, Equal, Greater}
use Rattle.std.proofs.lemmas.Bool.Decides.{Decides-eqb, nat_tests}
use Rattle.std.proofs.lemmas.List.Elements.{All-append, All-map, All-weaker}
use Rattle.rel_base.specs.declared.access.Place.{Place}
use Rattle.rel_base.specs.declared.access.Write.{Write}
use Rattle.rel_base.specs.declared.schema.TableDef.{TableDef}
use Rattle.rel_base.specs.Access.{WriteFits}
use Rattle.rel_base.specs.Among.{WriteFitsIn}
use Rattle.rel_base.specs.Tables.{HistoryFits, Stamped}
pub use Rattle.rel_base.proofs.Lists.{drop_next}
use Rattle.row_sets.specs.Versions.{stamped_at}

-- two values that are there are one
pub unwrapped : {X : Type 0} (x y : X) → Some x ≡ Some y → x ≡ y
unwrapped x y same = ap (λ found. unwrap_or found x) same

-- tables and keys are one where both are
pub same_parts : (a b : ℕ) (k : Ordering) → is_eq (ordering_then (nat_cmp a b) k) ≡ ((a == b) && is_eq k)
same_parts a b k =
    elim (a == b) as (λ t. (a == b) ≡ t → is_eq (ordering_then (cond (nat_lt a b) Less (cond t Equal Greater)) k) ≡ (t && is_eq k)) [
      | true ↦ λ same. let apart : nat_lt a b ≡ false = grind (arith, nat_tests, (Decides-eqb a b).0 same) in ap (λ c. is_eq (ordering_then (cond c Less Equal) k)) apart
      | false ↦ λ other. elim (nat_lt a b) as (λ c. is_eq (ordering_then (cond c Less Greater) k) ≡ false) [ true ↦ refl | false ↦ refl ]
    ] refl

-- the writes of a declared table fit its declaration
pub table_fits : (defs : List TableDef) (def : TableDef) (table : ℕ) (history : List Stamped) → slice_get defs table ≡ Some def → HistoryFits defs history
    → All (λ stamped. stamped.1.write.table ≡ table → WriteFits def stamped.1.write) history
table_fits defs def table history declared fits =
    All-weaker (λ (s : Stamped). IsSomeAnd (slice_get defs s.1.write.table) (λ d. WriteFits d s.1.write)) (λ s. s.1.write.table ≡ table → WriteFits def s.1.write)
    (λ s fit same. subst (λ found. IsSomeAnd found (λ d. WriteFits d s.1.write)) (ap (slice_get defs) same ∙ declared) fit) history fits

-- a history that fits, and writes that fit after it
pub fits_next : (defs : List TableDef) (place : Place) (history : List Stamped) (writes : List Write) → HistoryFits defs history → All (WriteFitsIn defs) writes → HistoryFits defs (history ++ stamped_at place writes)
fits_next defs place history writes fits more =
    let Fit : Stamped → Type 0 = λ stamped. WriteFitsIn defs stamped.1.write in
    All-append Fit history (stamped_at place writes) fits (All-map Fit (λ (write : Write). (place.block, record { pos = place.pos; write = write })) writes more)
