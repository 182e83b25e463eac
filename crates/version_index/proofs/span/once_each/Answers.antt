use Rattle.std.proofs.Common.{◌≡◌, ◌∙◌, ◌+◌, ◌<◌, ◌++◌, ◌∷◌, ℕ, List, All, None, Option, ap, drop, false, length, rules, slice_index_or, subst, sym}
use Rattle.std.proofs.lemmas.List.{drop_more}
use Rattle.std.proofs.lemmas.List.Elements.{All-push}
use Rattle.std.specs.Borrow.{Bor}
use Rattle.std.specs.Option.{option_copied}
use Rattle.std.specs.declared.alloc.Global.{Global}
use Rattle.std.specs.declared.vec.Vec.{Vec}
use Rattle.rel_base.specs.declared.value.Value.{Value}
use Rattle.version_index.specs.Candidates.{IsCandidate}
use Rattle.version_index.specs.Span.{distinct, is_again, keys_in}
use Rattle.version_index.proofs.Distinct.{kept_again, kept_new, keys_push}
use Rattle.version_index.proofs.span.once_each.Goals.{then-not-is_last+in_ok-push, else-not-is_last}
use Rattle.version_index.proofs.span.once_each.Goals as goal

-- a key that is the last one is not kept, and another is
pub loop-key-preserved : goal.loop-key-preserved
loop-key-preserved c =
    let found : List (Bor (List Value) × Option ℕ) = c.args.found.now in
    let index = c.loop-key.key-index in
    let item : Bor (List Value) × Option ℕ = c.loop-key-item.result in
    let here : slice_index_or found index item ≡ item = search rules in
    let within : index < length found = search rules in
    let left : drop index found ≡ item ∷ drop (index + 1) found = drop_more found index item within ∙ ap (λ x. x ∷ drop (index + 1) found) here in
    let rest = keys_in (drop (index + 1) found) in
    let made = keys_in c.loop-key.kept.items in
    let whole = distinct None (keys_in found) in
    let last : Option (List Value) = option_copied c.loop-key.last in
    let now : made ++ distinct last (item.0.now ∷ rest) ≡ whole = subst (λ xs. made ++ distinct last (keys_in xs) ≡ whole) left c.loop-key.invariant.0 in
    elim c.if-not-is_last.branch [
      | then-not-is_last+in_ok-push w ↦
          let apart : is_again last item.0.now ≡ false = sym c.is_last.ensures ∙ w.if-not-is_last.true in
          let items = ap (λ (kept : Vec (Bor (List Value) × Option ℕ) Global). keys_in kept.items) w.kept-is ∙ ap keys_in w.in_ok-push.ensures.items ∙ keys_push c.loop-key.kept.items item in (
            (λ i. items i ++ distinct (option_copied (w.last-is i)) rest) ∙ kept_new made whole last item.0.now rest apart now,
            λ chains all.
                subst (λ (kept : Vec (Bor (List Value) × Option ℕ) Global). All (IsCandidate chains) kept.items) (sym w.kept-is)
                (subst (All (IsCandidate chains)) (sym w.in_ok-push.ensures.items) (All-push (IsCandidate chains) c.loop-key.kept.items item (c.loop-key.invariant.1 chains all) (subst (IsCandidate chains) here (all index item within)))),
          )
      | else-not-is_last w ↦ (
        (λ i. keys_in (w.kept-is i).items ++ distinct (option_copied (w.last-is i)) rest) ∙ kept_again made whole last item.0.now rest (sym c.is_last.ensures ∙ w.if-not-is_last.false) now,
        λ chains all. subst (λ (kept : Vec (Bor (List Value) × Option ℕ) Global). All (IsCandidate chains) kept.items) (sym w.kept-is) (c.loop-key.invariant.1 chains all),
      )
    ]
