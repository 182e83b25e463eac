use Rattle.std.proofs.Common.{ℕ, All, List, Option, true, ◌≡◌, refl, subst, sym}
use Rattle.std.proofs.lemmas.List.Elements.{All-nil}
use Rattle.std.specs.Borrow.{Bor}
use Rattle.std.specs.declared.alloc.Global.{Global}
use Rattle.std.specs.declared.vec.Vec.{Vec}
use Rattle.rel_base.specs.declared.value.Value.{Value}
use Rattle.version_index.specs.Candidates.{IsCandidate, has_key}
use Rattle.version_index.specs.declared.column.ColumnIndex.{ColumnIndex}
use Rattle.version_index.specs.Span.{HasCellAt}
use Rattle.version_index.proofs.span.keys_between.Goals.{in-None+in_ok-add_by_key-in-None, in-Some+in_ok-add_by_column-in-Some}
use Rattle.version_index.proofs.span.keys_between.Goals as goal

pub returns-clause-all : goal.returns-clause-all
returns-clause-all c key wanted =
    c.in_ok-kept.ensures.all key
    (elim c.match-column_of.branch [
      | in-None+in_ok-add_by_key-in-None w ↦ subst (λ (found : Vec (Bor (List Value) × Option ℕ) Global). has_key found.items key ≡ true) (sym w.found-is) (w.in_ok-add_by_key-in-None.ensures.added key (wanted.by_key (subst (All (λ (own : ColumnIndex). own.column ≡ c.args.column → ⊥)) c.as_slice.ensures.value (w.in-None.ensures.none refl))))
      | in-Some+in_ok-add_by_column-in-Some w ↦ subst (λ (found : Vec (Bor (List Value) × Option ℕ) Global). has_key found.items key ≡ true) (sym w.found-is)
          (w.in_ok-add_by_column-in-Some.ensures.added key
          (subst (λ number. HasCellAt c.args.view.now number c.args.ends.low.now c.args.ends.high.now c.args.height key) (sym w.in-Some.ensures.some.0) wanted.by_cell))
    ])

-- each key that was found has its slot
pub returns-clause-found : goal.returns-clause-found
returns-clause-found c =
    let chains = c.args.view.now.index.now.chains in
    let none = subst (All (IsCandidate chains)) (sym c.new-found.ensures.items) (All-nil (IsCandidate chains)) in
    c.in_ok-kept.ensures.right chains (elim c.match-column_of.branch [
      | in-None+in_ok-add_by_key-in-None w ↦ subst (λ (found : Vec (Bor (List Value) × Option ℕ) Global). All (IsCandidate chains) found.items) (sym w.found-is) (w.in_ok-add_by_key-in-None.ensures.right none)
      | in-Some+in_ok-add_by_column-in-Some w ↦ subst (λ (found : Vec (Bor (List Value) × Option ℕ) Global). All (IsCandidate chains) found.items) (sym w.found-is) (w.in_ok-add_by_column-in-Some.ensures.right none)
    ])
