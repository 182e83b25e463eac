-- The order of a history with the writes of a later place.
use Rattle.std.proofs.Common.{◌≡◌, ◌∙◌, ℕ, ◌<◌, List, [], ◌∷◌, ◌++◌, true, ◌==◌, cond, refl, ap, sym, arith, All, ◌⊎◌, inl, inr, IsTrue, nat_lt}
use Rattle.std.specs.Cmp.{tied_itself, nat_cmp_total}
use Rattle.std.specs.Ordering.{is_lt, is_gt, nat_cmp, ordering_then}
use Rattle.std.specs.declared.cmp.Ordering.TheVariants.{Less, Equal, Greater}
use Rattle.std.proofs.lemmas.Bool.Decides.{nat_tests}
use Rattle.std.proofs.lemmas.List.Elements.{All-nil, All-cons, All-head, All-tail, All-weaker, All-append, All-map}
use Rattle.rel_base.specs.Tables.{Stamped, ref_cmp, ref_cmp-total, write_ref}
use Rattle.rel_base.specs.Value.{key_cmp}
use Rattle.rel_base.specs.declared.access.Place.{Place}
use Rattle.rel_base.specs.declared.access.Write.{Write}
use Rattle.rel_base.specs.declared.value.Value.{Value}
use Rattle.rel_base.proofs.Bits.{first_true, less_from, second_true}
use Rattle.row_sets.specs.Versions.{stamped_at, IsBefore, are_rising, follows}
use Rattle.version_index.specs.Log.{InOrder, Precedes}

-- a lesser number compares as less
less_cmp : (a b : ℕ) → a < b → nat_cmp a b ≡ Less
less_cmp a b below = let less : nat_lt a b ≡ true = grind (arith, nat_tests) in ap (λ c. cond c Less (cond (a == b) Equal Greater)) less

-- a table and key that is another's or below it, is below those that rise after that one
pub less_all : (a : Write) (low : ℕ × List Value) (writes : List Write) → (low ≡ write_ref a) ⊎ (ref_cmp (write_ref a) low ≡ Less) → IsTrue (follows low writes) → All (λ b. ref_cmp (write_ref a) (write_ref b) ≡ Less) writes
less_all a low [] from rises = All-nil (λ b. ref_cmp (write_ref a) (write_ref b) ≡ Less)
less_all a low (b ∷ rest) from rises =
    let next : ref_cmp low (write_ref b) ≡ Less = less_from (ref_cmp low (write_ref b)) (first_true (is_lt (ref_cmp low (write_ref b))) (follows (write_ref b) rest) rises) in
    let less : ref_cmp (write_ref a) (write_ref b) ≡ Less = chain low (write_ref b) from next in
    All-cons (λ b. ref_cmp (write_ref a) (write_ref b) ≡ Less) b rest less (less_all a (write_ref b) rest (inr less) (second_true (is_lt (ref_cmp low (write_ref b))) (follows (write_ref b) rest) rises))
  where
    chain : (low high : ℕ × List Value) → (low ≡ write_ref a) ⊎ (ref_cmp (write_ref a) low ≡ Less) → ref_cmp low high ≡ Less → ref_cmp (write_ref a) high ≡ Less
    chain low high (inl same) less = ap (λ r. ref_cmp r high) (sym same) ∙ less
    chain low high (inr below) less = ref_cmp-total.trans (write_ref a) low high below less

module _ (place : Place) where
  -- a write that stands before the place precedes one at it
  precedes_place : (stamped : Stamped) (write : Write) → IsBefore place stamped → Precedes stamped (place.block, record { pos = place.pos; write = write })
  precedes_place stamped write (inl lower) = (
    omega (arith, lower),
    λ _. let less : nat_cmp stamped.0 place.block ≡ Less = less_cmp stamped.0 place.block lower in
        ap (λ o. is_gt (ordering_then o (ordering_then (nat_cmp stamped.1.pos place.pos) (key_cmp stamped.1.write.key write.key)))) less,
  )
  precedes_place stamped write (inr same) = (
    let one = same.0 in omega (arith, one),
    λ _. let less : nat_cmp stamped.1.pos place.pos ≡ Less = less_cmp stamped.1.pos place.pos same.1 in
        ap (λ o. is_gt (ordering_then o (ordering_then (nat_cmp stamped.1.pos place.pos) (key_cmp stamped.1.write.key write.key)))) (ap (λ n. nat_cmp n place.block) same.0 ∙ tied_itself nat_cmp_total place.block)
        ∙ ap (λ o. is_gt (ordering_then o (key_cmp stamped.1.write.key write.key))) less,
  )

  precede_all : (stamped : Stamped) (writes : List Write) → IsBefore place stamped → All (Precedes stamped) (stamped_at place writes)
  precede_all stamped [] before = All-nil (Precedes stamped)
  precede_all stamped (write ∷ writes) before =
      All-cons (Precedes stamped) (place.block, record { pos = place.pos; write = write }) (stamped_at place writes) (precedes_place stamped write before) (precede_all stamped writes before)

  -- a write of a lesser table and key precedes one at the same place
  precedes_key : (a b : Write) → ref_cmp (write_ref a) (write_ref b) ≡ Less → Precedes (place.block, record { pos = place.pos; write = a }) (place.block, record { pos = place.pos; write = b })
  precedes_key a b less = (
    omega arith,
    λ same. ap (λ o. is_gt (ordering_then o (ordering_then (nat_cmp place.pos place.pos) (key_cmp a.key b.key)))) (tied_itself nat_cmp_total place.block)
        ∙ ap (λ o. is_gt (ordering_then o (key_cmp a.key b.key))) (tied_itself nat_cmp_total place.pos)
        ∙ ap is_gt (sym (ap (λ o. ordering_then o (key_cmp a.key b.key)) (ap (λ n. nat_cmp n b.table) same ∙ tied_itself nat_cmp_total b.table)) ∙ less),
  )

  -- a write precedes all that follow it in order
  follow_all : (a : Write) (writes : List Write) → IsTrue (follows (write_ref a) writes) → All (Precedes (place.block, record { pos = place.pos; write = a })) (stamped_at place writes)
  follow_all a writes rises =
      let first : Stamped = (place.block, record { pos = place.pos; write = a }) in
      All-map (Precedes first) (λ write. (place.block, record { pos = place.pos; write = write })) writes
      (All-weaker (λ b. ref_cmp (write_ref a) (write_ref b) ≡ Less) (λ b. Precedes first (place.block, record { pos = place.pos; write = b })) (precedes_key a) writes (less_all a (write_ref a) writes (inl refl) rises))

  order_of_follows : (low : ℕ × List Value) (writes : List Write) → IsTrue (follows low writes) → InOrder (stamped_at place writes)
  order_of_follows low [] rises = tt
  order_of_follows low (write ∷ rest) rises =
      let behind = second_true (is_lt (ref_cmp low (write_ref write))) (follows (write_ref write) rest) rises in
      (follow_all write rest behind, order_of_follows (write_ref write) rest behind)

  order_at_place : (writes : List Write) → IsTrue (are_rising writes) → InOrder (stamped_at place writes)
  order_at_place [] rises = tt
  order_at_place (write ∷ rest) rises = (follow_all write rest rises, order_of_follows (write_ref write) rest rises)

  -- a history in order, and the writes of a later place after it
  pub order_next : (history : List Stamped) (writes : List Write) → InOrder history → All (IsBefore place) history → IsTrue (are_rising writes) → InOrder (history ++ stamped_at place writes)
  order_next [] writes ordered before rises = order_at_place writes rises
  order_next (stamped ∷ rest) writes ordered before rises = (
    All-append (Precedes stamped) rest (stamped_at place writes) ordered.0 (precede_all stamped writes (All-head (IsBefore place) stamped rest before)),
    order_next rest writes ordered.1 (All-tail (IsBefore place) stamped rest before) rises,
  )
