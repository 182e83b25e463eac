use Rattle.std.proofs.Common.{◌≡◌, ◌∙◌, ◌++◌, ◌+◌, suc, refl, subst, ap, arith, drop, cond, []}
use Rattle.row_sets.specs.Lifespans.{is_of_table, ended_by, lifespan, lifespans}
use Rattle.row_sets.specs.Log.{history_of, stamped_of}
use Rattle.version_store.proofs.Leasts.{get_history}
use Rattle.version_store.proofs.Spans.{spans_more}
use Rattle.version_store.proofs.lifespans.of_table.Goals as goal
use Rattle.rel_base.specs.Tables.{place_of}

-- one write more
pub loop-number-preserved : goal.loop-number-preserved
loop-number-preserved c =
    let test = is_of_table c.args.table in
    let history = history_of c.args.log.now in
    let number = c.loop-number.number in
    let x = stamped_of c.entry_at.result.now in
    let there = get_history c.args.log.now number c.entry_at.result.now c.entry_at.ensures in
    let next : suc number ≡ number + 1 = omega arith in
    let back : number + 1 ≡ suc number = omega arith in
    subst (λ n. c.add_version.new.versions ++ lifespans test (drop n history) ≡ lifespans test history) next
    (spans_more test history number x there c.loop-number.versions c.add_version.new.versions (lifespans test history) (test x) refl
    (c.in_ok-add_version.ensures x there ∙ ap (λ n. c.loop-number.versions ++ cond (test x) (lifespan x.1.write.after (place_of x) (ended_by x (drop n history))) []) back) c.loop-number.invariant)
