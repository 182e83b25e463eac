-- Writes rise exactly where each stands before all after it.
use Rattle.std.proofs.Common.{◌≡◌, List, [], ◌∷◌, true, refl}
use Rattle.std.specs.Cmp.{IsTotalOrder, then_total, on_total, nat_cmp_total}
use Rattle.std.specs.List.{AllByRecursion}
use Rattle.std.specs.List.Sorted.{IsStrictlySortedBy}
use Rattle.std.specs.Ordering.{is_lt}
use Rattle.std.specs.declared.cmp.Ordering.TheVariants.{Less}
use Rattle.std.specs.declared.cmp.Ordering.{Ordering}
use Rattle.std.proofs.lemmas.Bool.{and_from, and_parts}
use Rattle.rel_base.specs.Tables.{ref_cmp-total, write_ref}
use Rattle.rel_base.specs.declared.access.Placed.{Placed}
use Rattle.rel_base.proofs.Bits.{less_from}
use Rattle.block_digest.specs.Grammar.{placed_cmp}
use Rattle.block_digest.specs.Readings.{rise, rise_behind}

placed_cmp-total : IsTotalOrder placed_cmp
placed_cmp-total = then_total (on_total (λ (placed : Placed). placed.pos) nat_cmp_total) (on_total (λ (placed : Placed). write_ref placed.write) ref_cmp-total)

-- a write stands before some writes
abbrev StandsBefore : Placed → List Placed → Type 0
StandsBefore first writes = AllByRecursion (λ later. placed_cmp first later ≡ Less) writes

before_all : (first next : Placed) (writes : List Placed) → placed_cmp first next ≡ Less → StandsBefore next writes → StandsBefore first writes
before_all first next [] less all = tt
before_all first next (later ∷ rest) less all = (placed_cmp-total.trans first next later less all.0, before_all first next rest less all.1)

sorted_behind : (last : Placed) (writes : List Placed) → rise_behind last writes ≡ true → IsStrictlySortedBy placed_cmp (last ∷ writes)
unfolding IsStrictlySortedBy
sorted_behind last [] rises = (tt, tt)
sorted_behind last (next ∷ rest) rises =
    let parts = and_parts (is_lt (placed_cmp last next)) (rise_behind next rest) rises in
    let less : placed_cmp last next ≡ Less = less_from (placed_cmp last next) parts.0 in
    let later : IsStrictlySortedBy placed_cmp (next ∷ rest) = sorted_behind next rest parts.1 in
    ((less, before_all last next rest less later.0), later)

pub sorted_from_rise : (writes : List Placed) → rise writes ≡ true → IsStrictlySortedBy placed_cmp writes
unfolding IsStrictlySortedBy
sorted_from_rise [] rises = tt
sorted_from_rise (first ∷ rest) rises = sorted_behind first rest rises

is_less : (order : Ordering) → order ≡ Less → is_lt order ≡ true
is_less order e = rw e refl

behind_from_sorted : (last : Placed) (writes : List Placed) → IsStrictlySortedBy placed_cmp (last ∷ writes) → rise_behind last writes ≡ true
unfolding IsStrictlySortedBy
behind_from_sorted last [] sorted = refl
behind_from_sorted last (next ∷ rest) sorted =
    and_from (is_lt (placed_cmp last next)) (rise_behind next rest) (is_less (placed_cmp last next) sorted.0.0) (behind_from_sorted next rest sorted.1)

pub rise_from_sorted : (writes : List Placed) → IsStrictlySortedBy placed_cmp writes → rise writes ≡ true
unfolding IsStrictlySortedBy
rise_from_sorted [] sorted = refl
rise_from_sorted (first ∷ rest) sorted = behind_from_sorted first rest sorted
