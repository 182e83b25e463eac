use Rattle.std.proofs.Common.{◌∙◌, ◌++◌, ◌+◌, ap, sym, cond, drop, List, []}
use Rattle.rel_base.specs.Tables.{Stamped, place_of}
use Rattle.row_sets.proofs.Endings.{on_ok_then}
use Rattle.row_sets.proofs.Histories.{unwrapped}
use Rattle.row_sets.specs.Lifespans.{ended_by, lifespan}
use Rattle.row_sets.specs.declared.versions.Lifespan.{Lifespan}
use Rattle.row_sets.specs.Log.{history_of, stamped_of}
use Rattle.version_store.proofs.Leasts.{get_history}
use Rattle.version_store.proofs.lifespans.add_version.Goals as goal

pub returns-then-passes : goal.returns-then-passes
returns-then-passes c =
    let later = drop (c.args.number + 1) (history_of c.args.log.now) in
    let entry = c.entry_at-entry.result.now in
    let old : List Lifespan = c.args.versions.now in
    on_ok_then c.add_row.result
    (λ is x here.
    let same = unwrapped (stamped_of entry) x (sym (get_history c.args.log.now c.args.number entry c.entry_at-entry.ensures) ∙ here) in
    is ∙ ap (λ place. old ++ lifespan entry.placed.write.after place c.next_on-ended.result) c.place_at.ensures
    ∙ ap (λ ended. old ++ lifespan entry.placed.write.after (place_of (stamped_of entry)) ended) c.next_on-ended.ensures
    ∙ ap (λ (s : Stamped). old ++ lifespan s.1.write.after (place_of s) (ended_by s later)) same
    ∙ ap (λ b. old ++ cond b (lifespan x.1.write.after (place_of x) (ended_by x later)) []) (sym c.if-passes.true))
    c.add_row.ensures
