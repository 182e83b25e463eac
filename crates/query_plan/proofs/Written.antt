-- A value that is written to a key that a map has.
use Rattle.std.proofs.Common.{◌≡◌, List, [], ◌∷◌, Some, None, arith, refl, sym, ap, ◌∙◌}
use Rattle.std.proofs.lemmas.Map.Entries.{lookup_at_gap}
use Rattle.std.proofs.lemmas.Map.Keys.{sorted_tail}
use Rattle.std.specs.BTreeMap.{insert_entry, is_at}
use Rattle.std.specs.Cmp.{IsTotalOrder}
use Rattle.std.specs.List.Sorted.{IsStrictlySortedBy}
use Rattle.std.specs.Map.{keys_of, lookup, set_value}
use Rattle.std.specs.declared.cmp.Ordering.{Ordering}
use Rattle.std.specs.declared.cmp.Ordering.TheVariants.{Less, Equal, Greater}

module _ {K X : Type 0} (cmp : K → K → Ordering) (total : IsTotalOrder cmp) (key : K) (w : X) where
  absent : (e : K × X) (es : List (K × X)) → IsStrictlySortedBy cmp (keys_of (e ∷ es)) → cmp key e.0 ≡ Less → lookup (is_at (cmp key)) (e ∷ es) ≡ None
  absent e es sorted less = lookup_at_gap total key (e ∷ es) 0 sorted (λ j other below found. absurd (omega (arith, below))) (λ other found. let same : e ≡ other = cc in ap (λ (x : K × X). cmp key x.0) (sym same) ∙ less)

  by_order : (e : K × X) (es : List (K × X)) (v : X) → IsStrictlySortedBy cmp (keys_of (e ∷ es)) → lookup (is_at (cmp key)) (e ∷ es) ≡ Some v
      → (lookup (is_at (cmp key)) es ≡ Some v → set_value (is_at (cmp key)) es w ≡ insert_entry cmp es key w)
      → (o : Ordering) → cmp key e.0 ≡ o → set_value (is_at (cmp key)) (e ∷ es) w ≡ insert_entry cmp (e ∷ es) key w
  by_order e es v sorted found later Less is = absurd (let none : lookup (is_at (cmp key)) (e ∷ es) ≡ None = absent e es sorted is in cc)
  by_order e es v sorted found later Equal is = rw is refl
  by_order e es v sorted found later Greater is =
      let behind : lookup (is_at (cmp key)) (e ∷ es) ≡ lookup (is_at (cmp key)) es = rw is refl in
      rw is (ap (λ (more : List (K × X)). e ∷ more) (later (sym behind ∙ found)))

  -- the entries are those after an insertion
  pub set_is_insert : (es : List (K × X)) (v : X) → IsStrictlySortedBy cmp (keys_of es) → lookup (is_at (cmp key)) es ≡ Some v → set_value (is_at (cmp key)) es w ≡ insert_entry cmp es key w
  set_is_insert [] v sorted found = absurd cc
  set_is_insert (e ∷ es) v sorted found = by_order e es v sorted found (λ there. set_is_insert es v (sorted_tail cmp e.0 (keys_of es) sorted) there) (cmp key e.0) refl
