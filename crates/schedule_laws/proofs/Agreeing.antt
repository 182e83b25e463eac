-- Schedules that deliver the same blocks seal the same.
use Rattle.std.proofs.Common.{List, None, [], ap, append-nil, append_assoc, drop, length, refl, suc, sym, take, ◌++◌, ◌∙◌, ◌≡◌, ◌∷◌, ℕ}
use Rattle.node_model.specs.Fold.{fold, fold_from, seal}
use Rattle.node_model.specs.History.{SealedBlock}
use Rattle.node_model.specs.Journals.{IsLegal, delivered, world}
use Rattle.node_model.specs.declared.journal.Entry.{Entry}
use Rattle.proc_syntax.specs.declared.call.Block.{Block}
use Rattle.proc_syntax.specs.declared.tree.App.{App}
use Rattle.schedule_laws.specs.Laws.{SchedulesAgree, SchedulesSealTheSame}
use Rattle.schedule_laws.specs.Scheduled.{block_in}
use Rattle.std.proofs.lemmas.List.{take-append-drop, take-take, take_at}
use Rattle.schedule_laws.proofs.Folding.{delivered_are, first_are, reached, schedules_fold}

-- ---- that schedules agree

module _ (app : App) where
  fold-append : (chain : List SealedBlock) (xs ys : List Block) → fold_from app chain (xs ++ ys) ≡ fold_from app (fold_from app chain xs) ys
  fold-append chain [] ys = refl
  fold-append chain (x ∷ xs) ys = fold-append (chain ++ seal app chain x ∷ []) xs ys

  -- results are only added, one for each block
  record Adds (chain : List SealedBlock) (blocks : List Block) : Type 0 where
    more : List SealedBlock
    is : fold_from app chain blocks ≡ chain ++ more
    count : length more ≡ length blocks

  adds : (chain : List SealedBlock) (blocks : List Block) → Adds chain blocks
  adds chain [] = record { more = []; is = sym (append-nil chain); count = refl }
  adds chain (x ∷ xs) =
      let a = adds (chain ++ seal app chain x ∷ []) xs in
      record { more = seal app chain x ∷ a.more; is = a.is ∙ append_assoc chain (seal app chain x ∷ []) a.more; count = ap suc a.count }

  -- the results of the first blocks are the first results
  fold-front : (front rest : List Block) → take (length front) (fold app (front ++ rest)) ≡ fold app front
  fold-front front rest =
      let first = adds [] front in
      let all = adds (fold app front) rest in
      let is = first.is in
      ap (take (length front)) (fold-append [] front rest ∙ all.is) ∙ take_at (fold app front) all.more (length front) (ap length first.is ∙ first.count)

pub schedules_agree : SchedulesAgree
schedules_agree app one two legal_one legal_two fewer same =
    let a = schedules_fold app one legal_one in
    let b = schedules_fold app two legal_two in
    let n : ℕ = length (world app one).sealed in
    let m : ℕ = length (world app two).sealed in
    let first : List Block = take n (delivered two) in
    let parted : take n (take m (delivered two)) ++ drop n (take m (delivered two)) ≡ take m (delivered two) = take-append-drop n (take m (delivered two)) in
    let front : take n (take m (delivered two)) ≡ first = take-take n m (delivered two) fewer in
    let whole : (world app two).sealed ≡ fold app (first ++ drop n (take m (delivered two))) =
    b.sealed ∙ ap (fold app) (sym parted ∙ ap (λ blocks. blocks ++ drop n (take m (delivered two))) front) in
    let count : length first ≡ n = ap length (sym same) ∙ first_count app one legal_one in
    a.sealed ∙ (ap (fold app) same ∙ (sym (fold-front app first (drop n (take m (delivered two)))) ∙ (ap (λ k. take k (fold app (first ++ drop n (take m (delivered two))))) count ∙ ap (take n) (sym whole))))
  where
    first_count : (app : App) (journal : List Entry) → IsLegal app journal → length (take (length (world app journal).sealed) (delivered journal)) ≡ length (world app journal).sealed
    first_count app journal legal = ap length (first_are app journal legal) ∙ sym (reached app journal legal).goes.count

-- where no block is in work, what was delivered is what is sealed
pub all_sealed : (app : App) (journal : List Entry) → IsLegal app journal → (world app journal).work ≡ None → (world app journal).sealed ≡ fold app (delivered journal)
all_sealed app journal legal idle =
    let both = reached app journal legal in
    both.goes.sealed ∙ ap (fold app) (sym (delivered_are app journal legal ∙ (ap (λ o. both.goes.blocks ++ block_in o) idle ∙ append-nil both.goes.blocks)))

pub schedules_seal_the_same : SchedulesSealTheSame
schedules_seal_the_same app one two legal_one legal_two idle_one idle_two same =
    all_sealed app one legal_one idle_one ∙ (ap (fold app) same ∙ sym (all_sealed app two legal_two idle_two))
