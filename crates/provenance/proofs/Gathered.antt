-- The keys of the writes of a history, put among others one after the other.
use Rattle.std.proofs.Common.{List, None, Some, [], ap, arith, drop, length, refl, slice_get, suc, sym, zero, Bool, ◌+◌, ◌++◌, ◌≤◌, ◌≡◌, ◌∙◌, ◌∷◌, ℕ}
use Rattle.std.proofs.lemmas.List.Elements.{filter-append}
use Rattle.std.proofs.lemmas.List.{drop_all}
use Rattle.std.specs.BTreeSet.{insert_key}
use Rattle.std.specs.List.{filter}
use Rattle.provenance.specs.Chosen.{put_keys}
use Rattle.rel_base.proofs.Lists.{drop_next}
use Rattle.rel_base.specs.Tables.{Stamped, ref_cmp, write_ref}
use Rattle.rel_base.specs.declared.value.Value.{Value}

put_keys-append : (keys : List (ℕ × List Value)) (xs ys : List Stamped) → put_keys keys (xs ++ ys) ≡ put_keys (put_keys keys xs) ys
put_keys-append keys [] ys = refl
put_keys-append keys (x ∷ xs) ys = put_keys-append (insert_key ref_cmp keys (write_ref x.1.write)) xs ys

-- nothing more is left where there is no item of a number
drop_past : {X : Type 0} (at : ℕ) (xs : List X) → slice_get xs at ≡ None → drop (suc at) xs ≡ drop at xs
drop_past zero [] none = refl
drop_past (suc at) [] none = refl
drop_past zero (x ∷ xs) none = cc
drop_past (suc at) (x ∷ xs) none = drop_past at xs none

module _ (test : Stamped → Bool) (history : List Stamped) where
  -- one write more: with the keys of those that are left, the keys so far are those of all
  pub keys_more : (old new whole : List (ℕ × List Value)) (number : ℕ) (stamped : Stamped) → slice_get history number ≡ Some stamped
      → new ≡ put_keys old (filter test (stamped ∷ [])) → put_keys old (filter test (drop number history)) ≡ whole
      → put_keys new (filter test (drop (number + 1) history)) ≡ whole
  keys_more old new whole number stamped there put all =
      let rest = drop (suc number) history in
      let after : number + 1 ≡ suc number = omega arith in
      ap (λ n. put_keys new (filter test (drop n history))) after
      ∙ ap (λ keys. put_keys keys (filter test rest)) put
      ∙ sym (put_keys-append old (filter test (stamped ∷ [])) (filter test rest))
      ∙ ap (put_keys old) (sym (filter-append test (stamped ∷ []) rest))
      ∙ ap (λ writes. put_keys old (filter test writes)) (sym (drop_next history number stamped there))
      ∙ all

  -- so it is where there is no write of the number
  pub keys_past : (keys whole : List (ℕ × List Value)) (number : ℕ) → slice_get history number ≡ None
      → put_keys keys (filter test (drop number history)) ≡ whole → put_keys keys (filter test (drop (number + 1) history)) ≡ whole
  keys_past keys whole number none all =
      let after : number + 1 ≡ suc number = omega arith in
      ap (λ n. put_keys keys (filter test (drop n history))) after ∙ ap (λ writes. put_keys keys (filter test writes)) (drop_past number history none) ∙ all

  -- after the last write the keys are those of all
  pub keys_end : (keys whole : List (ℕ × List Value)) (number : ℕ) → length history ≤ number → put_keys keys (filter test (drop number history)) ≡ whole → keys ≡ whole
  keys_end keys whole number past all = ap (λ writes. put_keys keys (filter test writes)) (sym (drop_all number history past)) ∙ all
