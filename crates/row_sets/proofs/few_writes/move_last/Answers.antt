use Rattle.std.proofs.Common.{◌++◌, ap, sym, subst, ◌∙◌, T}
use Rattle.std.specs.FinMap.Entries.{is_sorted}
use Rattle.rel_base.specs.Value.{key_cmp}
use Rattle.row_sets.proofs.Few.{put_last}
use Rattle.row_sets.proofs.few_writes.move_last.Goals as goal

pub returns-clause-same : goal.returns-clause-same
returns-clause-same c =
    let rest = c.take_last-key.new.self.items in
    let last = c.take_last-key.result in
    let greater = c.args.many.now.entries in
    let whole = c.take_last-key.ensures.items in
    ap (λ own. rest ++ own) c.in_default.ensures.entries ∙ put_last rest greater last.0 last.1 (subst (λ own. T (is_sorted key_cmp (own ++ greater))) whole c.requires.sorted)
    ∙ ap (λ own. own ++ greater) (sym whole)
