use Rattle.std.proofs.Common.{ap, drop, length, rules, sym, None, Some, ◌+◌, ◌<◌, ◌≡◌, ◌∙◌, ◌∷◌}
use Rattle.std.proofs.lemmas.List.{drop_more}
use Rattle.node_model.specs.Decide.{clash, clash_at, first_shared}
use Rattle.conflict_rules.proofs.Passed.{clash_skips}
use Rattle.conflict_rules.proofs.clash.first_conflict.Goals as goal

-- what is left begins with the transaction that is looked at, which is the first to clash
pub returns-in-Some : goal.returns-in-Some
returns-in-Some c =
    let within : c.loop-done.done-index < length c.args.committed.now = search rules in
    let rest = drop (c.loop-done.done-index + 1) c.args.committed.now in
    let here : drop c.loop-done.done-index c.args.committed.now ≡ c.done-item.result ∷ rest =
    drop_more c.args.committed.now c.loop-done.done-index c.done-item.result within ∙ ap (λ done. done ∷ rest) (sym c.done-item.is) in
    let shared : first_shared c.done-item.result.writes c.args.writes.now ≡ Some c.in-Some.index =
    ap (λ writes. first_shared writes c.args.writes.now) (sym c.as_slice.ensures) ∙ sym c.first_shared.ensures ∙ c.in-Some.is in
    ap (λ place. clash_at c.done-item.result place (clash rest c.args.writes.now)) (sym shared) ∙ ap (λ left. clash left c.args.writes.now) (sym here) ∙ c.loop-done.invariant

-- it shares no key, and is passed over
pub loop-done-preserved : goal.loop-done-preserved
loop-done-preserved c =
    let within : c.loop-done.done-index < length c.args.committed.now = search rules in
    let rest = drop (c.loop-done.done-index + 1) c.args.committed.now in
    let here : drop c.loop-done.done-index c.args.committed.now ≡ c.done-item.result ∷ rest =
    drop_more c.args.committed.now c.loop-done.done-index c.done-item.result within ∙ ap (λ done. done ∷ rest) (sym c.done-item.is) in
    let apart : first_shared c.done-item.result.writes c.args.writes.now ≡ None =
    ap (λ writes. first_shared writes c.args.writes.now) (sym c.as_slice.ensures) ∙ sym c.first_shared.ensures ∙ c.in_default.is in
    sym (clash_skips c.args.writes.now c.done-item.result rest apart) ∙ ap (λ left. clash left c.args.writes.now) (sym here) ∙ c.loop-done.invariant
