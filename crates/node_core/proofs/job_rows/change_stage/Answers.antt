use Rattle.std.proofs.Common.{slice_index_or, ap, ◌∙◌}
use Rattle.std.specs.Prelude.{slice_set}
use Rattle.node_core.proofs.Table.{set_is}
use Rattle.node_core.specs.declared.jobs.JobRow.{JobRow}
use Rattle.node_core.proofs.job_rows.change_stage.Goals as goal

pub returns-clause-now : goal.returns-clause-now
returns-clause-now c =
    ap (λ (row : JobRow). slice_set c.args.rows.now.items c.args.place (record { tx = row.tx; stage = c.replace.new.dest })) c.index_mut.ensures.value
    ∙ ap (λ now. slice_set c.args.rows.now.items c.args.place (record { tx = (slice_index_or c.args.rows.now.items c.args.place c.index_mut.result.now).tx; stage = now })) c.replace.ensures.after
    ∙ set_is c.args.rows.now.items c.args.place c.args.stage c.index_mut.result.now c.requires
