use Rattle.std.proofs.Common.{ap, sym, ◌∙◌}
use Rattle.std.specs.Option.{option_copied}
use Rattle.row_sets.proofs.Few.{past, is_Greater}
use Rattle.row_sets.proofs.few_writes.is_after.Goals as goal

pub returns-in-Some-clause-missing : goal.returns-in-Some-clause-missing
returns-in-Some-clause-missing c more =
    (past c.args.key.now c.args.few.now c.in-Some.field-0.now c.requires (sym c.last.ensures.value ∙ ap option_copied c.in-Some.is)
    (sym c.cmp.ensures ∙ is_Greater _ (sym c.is_gt.ensures ∙ more))).missing

pub returns-in-Some-clause-place : goal.returns-in-Some-clause-place
returns-in-Some-clause-place c more =
    (past c.args.key.now c.args.few.now c.in-Some.field-0.now c.requires (sym c.last.ensures.value ∙ ap option_copied c.in-Some.is)
    (sym c.cmp.ensures ∙ is_Greater _ (sym c.is_gt.ensures ∙ more))).place
