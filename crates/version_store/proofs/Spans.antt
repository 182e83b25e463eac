-- The versions that the writes of a history left, one write after the other.
use Rattle.std.proofs.Common.{◌≡◌, ◌∙◌, ℕ, suc, List, [], ◌++◌, Bool, true, false, cond, Some, ap, sym, slice_get, drop, append_assoc}
use Rattle.std.specs.List.{find}
use Rattle.rel_base.specs.Tables.{Stamped, place_of}
use Rattle.rel_base.proofs.Lists.{drop_next}
use Rattle.row_sets.specs.declared.versions.Lifespan.{Lifespan}
use Rattle.row_sets.specs.Lifespans.{ended_by, lifespan, lifespans}

module _ (test : Stamped → Bool) (history : List Stamped) (number : ℕ) (x : Stamped) (there : slice_get history number ≡ Some x) where
  -- one write more: what was made with the versions of the writes that are left is the whole
  pub spans_more : (old new whole : List Lifespan) (passes : Bool) → passes ≡ test x → new ≡ old ++ cond passes (lifespan x.1.write.after (place_of x) (ended_by x (drop (suc number) history))) []
      → old ++ lifespans test (drop number history) ≡ whole → new ++ lifespans test (drop (suc number) history) ≡ whole
  spans_more old new whole passes is made left =
      let own : Bool → List Lifespan = λ b. cond b (lifespan x.1.write.after (place_of x) (ended_by x (drop (suc number) history))) [] in
      let rest = lifespans test (drop (suc number) history) in
      ap (λ xs. xs ++ rest) (made ∙ ap (λ b. old ++ own b) is) ∙ append_assoc old (own (test x)) rest ∙ ap (λ xs. old ++ lifespans test xs) (sym (drop_next history number x there)) ∙ left

-- ---- the first write on a key

module _ (test : Stamped → Bool) (history : List Stamped) (number : ℕ) (x : Stamped) (there : slice_get history number ≡ Some x) where
  pub find_here : test x ≡ true → find test (drop number history) ≡ Some x
  find_here passes = ap (find test) (drop_next history number x there) ∙ ap (λ b. cond b (Some x) (find test (drop (suc number) history))) passes

  pub find_past : test x ≡ false → find test (drop number history) ≡ find test (drop (suc number) history)
  find_past fails = ap (find test) (drop_next history number x there) ∙ ap (λ b. cond b (Some x) (find test (drop (suc number) history))) fails
