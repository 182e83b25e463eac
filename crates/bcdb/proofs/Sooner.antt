-- The tables at a height are made by the blocks up to it.
use Rattle.std.proofs.Common.{◌≡◌, ◌≤◌, ◌+◌, ◌∙◌, ℕ, zero, suc, List, [], ◌∷◌, ◌++◌, Bool, true, false, length, drop, take, ap, refl, sym, subst, arith, length-append}
use Rattle.std.specs.Prelude.{nat_lt}
use Rattle.std.proofs.lemmas.Bool.{ltb-false, ltb-true}
use Rattle.std.proofs.lemmas.List.{length-take-le, take-append-drop, take_all}
use Rattle.bcdb.specs.RowsAnswer.{rows_asked}
use Rattle.chain_file.specs.Numbered.{NumberedFrom}
use Rattle.checkpoint.proofs.Folding.{fold_append, fold_grows, fold_length}
use Rattle.node_model.specs.Fold.{fold, fold_from, seal}
use Rattle.node_model.specs.History.{SealedBlock, history_of, snapshot}
use Rattle.proc_syntax.specs.Declaring.{tables_of}
use Rattle.proc_syntax.specs.declared.call.Block.{Block}
use Rattle.proc_syntax.specs.declared.tree.App.{App}
use Rattle.query_plan.specs.Answer.{answer_of}
use Rattle.query_text.specs.Answered.{answered}
use Rattle.query_text.specs.Walk.{◌>>=◌, select_of}
use Rattle.rel_base.specs.Tables.{Tables}
use Rattle.schedule_laws.proofs.Chains.{counted-append, shows-more}
use Rattle.schedule_laws.specs.Facts.{AreCounted}

pub take_among : {A : Type 0} (count : ℕ) (xs : List A) → length (take count xs) ≤ length xs
take_among zero xs = omega arith
take_among (suc count) [] = omega arith
take_among (suc count) (x ∷ xs) = let rest = take_among count xs in omega (arith, rest)

-- their results have their numbers
fold_counts : (app : App) (chain : List SealedBlock) (blocks : List Block) → NumberedFrom (1 + length chain) blocks → AreCounted 1 chain → AreCounted 1 (fold_from app chain blocks)
fold_counts app chain [] numbered counted = counted
fold_counts app chain (block ∷ blocks) numbered counted =
    let long = length-append chain (seal app chain block ∷ []) in
    let next : (1 + length chain) + 1 ≡ 1 + length (chain ++ seal app chain block ∷ []) = omega (arith, long) in
    fold_counts app (chain ++ seal app chain block ∷ []) blocks (subst (λ n. NumberedFrom n blocks) next numbered.1) (counted-append 1 chain (seal app chain block ∷ []) counted (numbered.0, tt))

pub count_fold : (app : App) (blocks : List Block) → length (fold app blocks) ≡ length blocks
count_fold app blocks = fold_length app [] blocks ∙ none (length blocks)
  where
    none : (n : ℕ) → 0 + n ≡ n
    none n = omega arith

-- more blocks change no height up to the last of some
more_same : (app : App) (some more : List Block) (height : ℕ) → NumberedFrom 1 (some ++ more) → height ≤ length some → snapshot height (fold app (some ++ more)) ≡ snapshot height (fold app some)
more_same app some more height numbered low =
    let grown = fold_grows app (fold app some) more in
    let is : fold app (some ++ more) ≡ fold app some ++ grown.0 = fold_append app [] some more ∙ grown.1 in
    let counted : AreCounted 1 (fold app some ++ grown.0) = subst (AreCounted 1) is (fold_counts app [] (some ++ more) numbered tt) in
    let long = count_fold app some in
    ap (snapshot height) is ∙ (shows-more app (fold app some) grown.0 counted).tables height (omega (arith, low, long))

-- so a height shows what the blocks up to it made
pub shows_first : (app : App) (blocks : List Block) (height : ℕ) → NumberedFrom 1 blocks → snapshot height (fold app (take height blocks)) ≡ snapshot height (fold app blocks)
shows_first app blocks height numbered = by (nat_lt height (length blocks)) refl
  where
    by : (less : Bool) → nat_lt height (length blocks) ≡ less → snapshot height (fold app (take height blocks)) ≡ snapshot height (fold app blocks)
    by true e =
        let less = ltb-true height (length blocks) e in
        let long : length (take height blocks) ≡ height = length-take-le height blocks (omega (arith, less)) in
        let whole = take-append-drop height blocks in
        sym (more_same app (take height blocks) (drop height blocks) height (subst (NumberedFrom 1) (sym whole) numbered) (omega (arith, long))) ∙ ap (λ bs. snapshot height (fold app bs)) whole
    by false e = ap (λ bs. snapshot height (fold app bs)) (take_all height blocks (ltb-false height (length blocks) e))

-- and a query of it is answered from these
pub asks_first : (height : ℕ) (text : List ℕ) (app : App) (blocks : List Block) → NumberedFrom 1 blocks
    → answered (tables_of app) text (history_of (fold app (take height blocks))) (length blocks) height ≡ rows_asked height text app blocks
asks_first height text app blocks numbered =
    ap (λ (tables : Tables). select_of (tables_of app) text >>= λ select. answer_of tables select (length blocks) height) (shows_first app blocks height numbered)
    ∙ ap (λ (sealed : ℕ). answered (tables_of app) text (history_of (fold app blocks)) sealed height) (sym (count_fold app blocks))
