-- The groups of tuples, as their tallies.
use Rattle.std.proofs.Common.{◌≡◌, ◌+◌, ◌+ℤ◌, ℤ, List, [], ◌∷◌, ◌++◌, map, Bool, true, false, cond, length, Option, Some, None, refl, sym, ap, ◌∙◌, arith, append_assoc, length-append}
use Rattle.std.specs.declared.cmp.Ordering.{Ordering}
use Rattle.std.specs.declared.cmp.Ordering.TheVariants.{Less, Equal, Greater}
use Rattle.std.specs.BTreeMap.{insert_entry, is_at}
use Rattle.std.specs.Map.{lookup}
use Rattle.std.specs.Option.{option_map}
use Rattle.std.specs.Ordering.{match_ordering}
use Rattle.rel_base.specs.Value.{key_cmp}
use Rattle.rel_base.specs.declared.access.Seen.{Seen}
use Rattle.rel_base.specs.declared.value.Value.{Value}
use Rattle.query_plan.specs.Answer.{Group, all_of, greatest_on, int_of, item_of, least_on, put_one, put_tuple, put_tuples, sum_on, with_tuple}
use Rattle.query_plan.specs.Tallies.{greater, kept, lesser, next_tallies, next_tally, passing, put_all, put_tallies, tally_of, value_of, with_tallies}
use Rattle.query_plan.specs.Tuples.{at, holds_all}
use Rattle.query_plan.specs.declared.tally.Tally.{Tally}
use Rattle.query_plan.specs.declared.tally.Tally.TheVariants as tally
use Rattle.query_plan.specs.declared.select.Col.{Col}
use Rattle.query_plan.specs.declared.select.Comparison.{Comparison}
use Rattle.query_plan.specs.declared.select.Item.{Item}
use Rattle.query_plan.specs.declared.select.Item.TheVariants.{Plain, Count, Sum, Min, Max}

-- ---- maps whose values are seen by a function

module _ {K X Y : Type 0} (f : X → Y) where
  seen_found : (test : K → Bool) (entries : List (K × X)) → lookup test (map (λ e. (e.0, f e.1)) entries) ≡ option_map f (lookup test entries)
  seen_found test [] = refl
  seen_found test (e ∷ entries) =
      elim (test e.0) as (λ b. cond b (Some (f e.1)) (lookup test (map (λ e. (e.0, f e.1)) entries)) ≡ option_map f (cond b (Some e.1) (lookup test entries))) [ true ↦ refl | false ↦ seen_found test entries ]

  seen_put : (cmp : K → K → Ordering) (entries : List (K × X)) (k : K) (x : X) → insert_entry cmp (map (λ e. (e.0, f e.1)) entries) k (f x) ≡ map (λ e. (e.0, f e.1)) (insert_entry cmp entries k x)
  seen_put cmp [] k x = refl
  seen_put cmp (e ∷ entries) k x =
      elim (cmp k e.0) as (λ o.
      match_ordering o ((k, f x) ∷ (e.0, f e.1) ∷ map (λ e. (e.0, f e.1)) entries) ((e.0, f x) ∷ map (λ e. (e.0, f e.1)) entries) ((e.0, f e.1) ∷ insert_entry cmp (map (λ e. (e.0, f e.1)) entries) k (f x))
      ≡ map (λ e. (e.0, f e.1)) (match_ordering o ((k, x) ∷ e ∷ entries) ((e.0, x) ∷ entries) (e ∷ insert_entry cmp entries k x))
      ) [ Less ↦ refl | Equal ↦ refl | Greater ↦ ap (λ es. (e.0, f e.1) ∷ es) (seen_put cmp entries k x) ]

-- ---- one tuple more

sum_more : (col : Col) (sum : ℤ) (tuples : List (List Seen)) (tuple : List Seen) → sum_on col sum (tuples ++ tuple ∷ []) ≡ sum_on col sum tuples +ℤ int_of (at tuple col)
sum_more col sum [] tuple = refl
sum_more col sum (t ∷ tuples) tuple = sum_more col (sum +ℤ int_of (at t col)) tuples tuple

least_more : (col : Col) (v : Value) (tuples : List (List Seen)) (tuple : List Seen) → least_on col v (tuples ++ tuple ∷ []) ≡ lesser (least_on col v tuples) (at tuple col)
least_more col v [] tuple = refl
least_more col v (t ∷ tuples) tuple = least_more col (lesser v (at t col)) tuples tuple

greatest_more : (col : Col) (v : Value) (tuples : List (List Seen)) (tuple : List Seen) → greatest_on col v (tuples ++ tuple ∷ []) ≡ greater (greatest_on col v tuples) (at tuple col)
greatest_more col v [] tuple = refl
greatest_more col v (t ∷ tuples) tuple = greatest_more col (greater v (at t col)) tuples tuple

next_is : (group : Group) (tuple : List Seen) (item : Item) → next_tally tuple (tally_of group item) item ≡ tally_of (with_tuple (Some group) tuple) item
next_is group tuple (Plain col) = refl
next_is group tuple Count = let more : length group.more + 1 + 1 ≡ length (group.more ++ tuple ∷ []) + 1 = omega (arith, length-append group.more (tuple ∷ [])) in ap tally.Count more
next_is group tuple (Sum col) = ap tally.Sum (sym (sum_more col (int_of (at group.first col)) group.more tuple))
next_is group tuple (Min col) = ap tally.Min (sym (least_more col (at group.first col) group.more tuple))
next_is group tuple (Max col) = ap tally.Max (sym (greatest_more col (at group.first col) group.more tuple))

nexts_are : (group : Group) (tuple : List Seen) (items : List Item) → next_tallies tuple (map (tally_of group) items) items ≡ map (tally_of (with_tuple (Some group) tuple)) items
nexts_are group tuple [] = refl
nexts_are group tuple (item ∷ items) = ap (λ t. t ∷ next_tallies tuple (map (tally_of group) items) items) (next_is group tuple item) ∙ ap (λ ts. tally_of (with_tuple (Some group) tuple) item ∷ ts) (nexts_are group tuple items)

with_is : (items : List Item) (tuple : List Seen) (group : Option Group) → with_tallies items tuple (option_map (λ g. map (tally_of g) items) group) ≡ map (tally_of (with_tuple group tuple)) items
with_is items tuple None = refl
with_is items tuple (Some group) = nexts_are group tuple items

module _ (columns : List Col) (items : List Item) where
  put_is : (groups : List (List Value × Group)) (tuple : List Seen) → put_tallies columns items (map (kept items) groups) tuple ≡ map (kept items) (put_tuple columns groups tuple)
  put_is groups tuple =
      let key = map (at tuple) columns in
      ap (λ found. insert_entry key_cmp (map (kept items) groups) key (with_tallies items tuple found)) (seen_found (λ g. map (tally_of g) items) (is_at (key_cmp key)) groups)
      ∙ ap (insert_entry key_cmp (map (kept items) groups) key) (with_is items tuple (lookup (is_at (key_cmp key)) groups))
      ∙ seen_put (λ g. map (tally_of g) items) key_cmp groups key (with_tuple (lookup (is_at (key_cmp key)) groups) tuple)

  -- the tallies are those of the groups
  pub all_put : (groups : List (List Value × Group)) (tuples : List (List Seen)) → put_all columns items (map (kept items) groups) tuples ≡ map (kept items) (put_tuples columns groups tuples)
  all_put groups [] = refl
  all_put groups (tuple ∷ tuples) = ap (λ es. put_all columns items es tuples) (put_is groups tuple) ∙ all_put (put_tuple columns groups tuple) tuples

  pub put_next : (cs : List Comparison) (entries : List (List Value × List Tally)) (row : Seen) (rows : List Seen) →
      put_all columns items (put_all columns items entries (passing cs (row ∷ []))) (passing cs rows) ≡ put_all columns items entries (passing cs (row ∷ rows))
  put_next cs entries row rows =
      elim (holds_all cs (row ∷ [])) as (λ b.
      put_all columns items (put_all columns items entries (cond b ((row ∷ []) ∷ []) [])) (passing cs rows) ≡ put_all columns items entries (cond b ((row ∷ []) ∷ passing cs rows) (passing cs rows))
      ) [ true ↦ refl | false ↦ refl ]

pub count_next : (cs : List Comparison) (row : Seen) (rows : List Seen) → length (passing cs (row ∷ [])) + length (passing cs rows) ≡ length (passing cs (row ∷ rows))
count_next cs row rows =
    elim (holds_all cs (row ∷ [])) as (λ b. length (cond b ((row ∷ []) ∷ []) []) + length (passing cs rows) ≡ length (cond b ((row ∷ []) ∷ passing cs rows) (passing cs rows))) [ true ↦ omega arith | false ↦ omega arith ]

pub value_is : (group : Group) (item : Item) → value_of (tally_of group item) ≡ item_of group item
value_is group (Plain col) = refl
value_is group Count = refl
value_is group (Sum col) = refl
value_is group (Min col) = refl
value_is group (Max col) = refl

-- one more is there
pub more_of : {X Y : Type 0} → (f : X → Option Y) (made new : List Y) (x : X) (y : Y) (xs rest : List X) (all : Option (List Y)) → f x ≡ Some y → xs ≡ x ∷ rest → new ≡ made ++ y ∷ []
    → option_map (λ more. made ++ more) (all_of f xs) ≡ all → option_map (λ more. new ++ more) (all_of f rest) ≡ all
more_of {Y = Y} f made new x y xs rest all is next pushed was =
    ap (λ (new : List Y). option_map (λ more. new ++ more) (all_of f rest)) pushed ∙ by (all_of f rest)
    ∙ ap (λ (o : Option Y). option_map (λ more. made ++ more) (put_one o (all_of f rest))) (sym is) ∙ ap (λ us. option_map (λ more. made ++ more) (all_of f us)) (sym next) ∙ was
  where
    by : (o : Option (List Y)) → option_map (λ more. (made ++ y ∷ []) ++ more) o ≡ option_map (λ more. made ++ more) (put_one (Some y) o)
    by None = refl
    by (Some more) = ap Some (append_assoc made (y ∷ []) more)
