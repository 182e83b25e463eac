-- The steps of a `give`, one after the other.
use Rattle.std.proofs.Common.{◌≡◌, ℕ, List, [], ◌∷◌, ◌++◌, All, Option, Some, sym, ap, ◌∙◌, arith}
use Rattle.atomic_table.specs.Table.{Me, rest}
use Rattle.turn_lock.specs.declared.rule.Stage.TheVariants.{Idle, Ready, Out}
use Rattle.turn_lock.specs.declared.rule.View.{View}
use Rattle.turn_lock.specs.Views.{at_stage, published_view}
use Rattle.rel_base.proofs.Stories.{entries_kept}
use Rattle.turn_lock.specs.Standing.{slots_of}
use Rattle.turn_lock.specs.Steps.{NoneAhead, PuttingBack, Publishing, Leaving}

module _ {Value Base Entry : Type 0} (story_of : Value → List Entry) where
  -- from the pass before the call, with the value in its hand, to the pass after it
  pub gives_all : (start filled published back end : Me (Option Value) (View Base Entry)) (value : Value) (news : List Entry) → start.1 ≡ slots_of start.0.stage → start.0.stage ≡ Out → filled ≡ (start.0, (0, Some value) ∷ rest start.1) → story_of value ≡ start.0.seen ++ news
      → Publishing story_of filled published → PuttingBack published back → Leaving back end → (end.1 ≡ []) × (end.0 ≡ at_stage Idle (at_stage Ready (published_view (story_of value) (start.0.mine ++ news) start.0)))
  gives_all start filled published back end value news slots out fill grown publishing putting leaving =
      let one : rest start.1 ≡ [] = ap rest (slots ∙ ap slots_of out) in
      let view : filled.0 ≡ start.0 = ap (λ m. m.0) fill in
      let hand : filled.1 ≡ (0, Some value) ∷ [] = ap (λ m. m.1) fill ∙ ap (λ l. (0, Some value) ∷ l) one in
      let told = publishing value news hand (grown ∙ ap (λ v. v.seen ++ news) (sym view)) in (
        leaving.slots ∙ (putting.slots ∙ (ap rest told.0 ∙ ap rest hand)),
        leaving.view ∙ ap (at_stage Idle) (putting.view ∙ ap (at_stage Ready) (told.1 ∙ ap (λ v. published_view (story_of value) (v.mine ++ news) v) view)),
      )

-- entries of pass 0 leave the numbers that it has not given out yet without entries
pub ahead_grown : {Entry : Type 0} (actor : Entry → ℕ) (number made : ℕ) (before news after : List Entry) → number ≡ 0 → after ≡ before ++ news → All (λ entry. actor entry ≡ number) news → NoneAhead actor made before → NoneAhead actor made after
ahead_grown actor number made before news after first grown own ahead = λ other above. entries_kept actor number other before news after (λ same. absurd (omega arith)) grown own ∙ ahead other above
