use Rattle.std.proofs.Common.{◌≡◌, ◌∙◌, ◌++◌, ◌∷◌, [], rules, arith, ap, subst, sym, add-one, length, length-append, suc, take, Some}
use Rattle.std.specs.Prelude.{slice_get}
use Rattle.std.proofs.lemmas.Option.{slice_get-get_or}
use Rattle.direct_run.specs.Sums.{BeginsWith, IsSum}
use Rattle.direct_run.proofs.Adding.{begins_longer, begins_more}
use Rattle.direct_run.proofs.sums.sums_of.Goals as goal

-- a statement that is none ends them
pub returns-in_default : goal.returns-in_default
returns-in_default c = begins_longer c.args.turn.columns.now c.args.turn.slot c.args.turn.table c.loop-action.action-index c.args.block.now c.loop-action.sums.items c.loop-action.invariant.1

-- so does one for which there is no memory
pub returns-then-not-has_pushed : goal.returns-then-not-has_pushed
returns-then-not-has_pushed c =
    let kept = begins_longer c.args.turn.columns.now c.args.turn.slot c.args.turn.table c.loop-action.action-index c.args.block.now c.loop-action.sums.items c.loop-action.invariant.1 in
    subst (BeginsWith c.args.turn.columns.now c.args.turn.slot c.args.turn.table c.args.block.now) (sym (c.has_pushed.ensures.kept (search rules))) kept

-- one more
pub loop-action-preserved : goal.loop-action-preserved
loop-action-preserved c =
    let columns = c.args.turn.columns.now in
    let slot = c.args.turn.slot in
    let table = c.args.turn.table in
    let at = c.loop-action.action-index in
    let block = c.args.block.now in
    let sums = c.loop-action.sums.items in
    let sum = c.in-Some.sum in
    let pushed : c.has_pushed.new.sums.items ≡ sums ++ sum ∷ [] = c.has_pushed.ensures.pushed (search rules) in
    let here : slice_get block at ≡ Some c.action-item.result = slice_get-get_or block at c.action-item.result (search rules) ∙ ap Some (sym c.action-item.is) in
    let is : IsSum columns slot table c.action-item.result sum = search rules in
    let more = begins_more columns slot table at block sums c.action-item.result sum c.loop-action.invariant.0 c.loop-action.invariant.1 here is in (
      omega (arith, c.loop-action.invariant.0, length-append sums (sum ∷ []), ap length pushed),
      subst (λ left. BeginsWith columns slot table left c.has_pushed.new.sums.items) (ap (λ n. take n block) (sym (add-one at))) (subst (BeginsWith columns slot table (take (suc at) block)) (sym pushed) more),
    )
