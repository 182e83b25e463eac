-- The versions of a history start and end at places of its writes.
use Rattle.std.proofs.Common.{◌≡◌, ◌∙◌, List, [], ◌∷◌, ◌++◌, ℕ, Bool, true, false, cond, Option, None, Some, All, refl, sym, subst, ap, length, nat_lt}
use Rattle.std.specs.List.{find}
use Rattle.std.specs.Option.{IfSome, IsSome, option_map}
use Rattle.std.proofs.lemmas.List.Elements.{All-append, All-cons, All-head, All-nil, All-tail, All-weaker}
use Rattle.node_model.specs.declared.result.BlockResult.{BlockResult}
use Rattle.provenance.specs.Chosen.{IsTold, declared_spans}
use Rattle.provenance.specs.Versions.{AreTold, history_of, told_at}
use Rattle.rel_base.specs.Tables.{Stamped, place_of}
use Rattle.rel_base.specs.declared.access.Place.{Place}
use Rattle.rel_base.specs.declared.schema.TableDef.{TableDef}
use Rattle.rel_base.specs.declared.value.Value.{Value}
use Rattle.row_sets.specs.Lifespans.{ended_by, is_of_key, lifespan, lifespans}
use Rattle.row_sets.specs.declared.versions.Lifespan.{Lifespan}

module _ (P : Place → Type 0) where
  -- what holds of the places of a version
  abbrev pub HoldsOf : Lifespan → Type 0
  HoldsOf span = P span.made × IfSome span.ended P

  -- what holds of the place of each write that passes a test, holds of the first one's
  found_at : (test : Stamped → Bool) (history : List Stamped) → All (λ x. test x ≡ true → P (place_of x)) history → IfSome (option_map place_of (find test history)) P
  found_at test [] each = tt
  found_at test (x ∷ xs) each =
      let Q : Stamped → Type 0 = λ y. test y ≡ true → P (place_of y) in
      elim (test x) as (λ b. test x ≡ b → IfSome (option_map place_of (cond b (Some x) (find test xs))) P) [
        | true ↦ λ passes. All-head Q x xs each passes
        | false ↦ λ _. found_at test xs (All-tail Q x xs each)
      ] refl

  one_span : (row : Option (List Value)) (made : Place) (ended : Option Place) → P made → IfSome ended P → All HoldsOf (lifespan row made ended)
  one_span None made ended at_made at_end = All-nil HoldsOf
  one_span (Some row) made ended at_made at_end = All-cons HoldsOf (record { row = row; made = made; ended = ended }) [] (at_made, at_end) (All-nil HoldsOf)

  -- what holds of the place of each write that passes, and of each on the key of one that passes, holds of the places of the versions
  pub spans_hold : (test : Stamped → Bool) (history : List Stamped) → All (λ x. test x ≡ true → P (place_of x)) history
      → ((x : Stamped) → test x ≡ true → All (λ y. is_of_key x.1.write.table x.1.write.key y ≡ true → P (place_of y)) history) → All HoldsOf (lifespans test history)
  spans_hold test [] made ended = All-nil HoldsOf
  spans_hold test (x ∷ xs) made ended =
      let Q : Stamped → Type 0 = λ y. test y ≡ true → P (place_of y) in
      let OnKey : Stamped → Stamped → Type 0 = λ z y. is_of_key z.1.write.table z.1.write.key y ≡ true → P (place_of y) in
      let own : List Lifespan = lifespan x.1.write.after (place_of x) (ended_by x xs) in
      let rest = spans_hold test xs (All-tail Q x xs made) (λ z passes. All-tail (OnKey z) x xs (ended z passes)) in
      elim (test x) as (λ b. test x ≡ b → All HoldsOf (cond b own [] ++ lifespans test xs)) [
        | true ↦ λ passes.
            All-append HoldsOf own (lifespans test xs)
            (one_span x.1.write.after (place_of x) (ended_by x xs) (All-head Q x xs made passes)
            (found_at (is_of_key x.1.write.table x.1.write.key) xs (All-tail (OnKey x) x xs (ended x passes)))) rest
        | false ↦ λ _. rest
      ] refl

-- where each write stands at the place of a transaction, transactions made and ended the versions
pub spans_told : (blocks : List BlockResult) (test : Stamped → Bool) (history : List Stamped) (spans : List Lifespan) → spans ≡ lifespans test history → history ≡ history_of blocks → AreTold blocks
    → All (IsTold blocks) spans
spans_told blocks test history spans is same told =
    let P : Place → Type 0 = λ place. IsSome (told_at blocks place) in
    let T : Stamped → Type 0 = λ x. P (place_of x) in
    let all = history_of blocks in
    let hold = spans_hold P test all (All-weaker T (λ x. test x ≡ true → P (place_of x)) (λ x at passes. at) all told)
    (λ z passes. All-weaker T (λ y. is_of_key z.1.write.table z.1.write.key y ≡ true → P (place_of y)) (λ y at on. at) all told) in
    let each = All-weaker (HoldsOf P) (IsTold blocks) (λ span at. record { made = at.0; ended = at.1 }) (lifespans test all) hold in
    subst (All (IsTold blocks)) (sym (is ∙ ap (lifespans test) same)) each

-- the same of a key whose table may be declared
pub declared_told : (blocks : List BlockResult) (tables : List TableDef) (ref : ℕ × List Value) (history : List Stamped) (spans : List Lifespan) → spans ≡ declared_spans tables history ref
    → history ≡ history_of blocks → AreTold blocks → All (IsTold blocks) spans
declared_told blocks tables ref history spans is same told =
    let test = is_of_key ref.0 ref.1 in
    subst (All (IsTold blocks)) (sym is) (elim (nat_lt ref.0 (length tables)) as (λ b. All (IsTold blocks) (cond b (lifespans test history) [])) [
      | true ↦ spans_told blocks test history (lifespans test history) refl same told
      | false ↦ All-nil (IsTold blocks)
    ])
