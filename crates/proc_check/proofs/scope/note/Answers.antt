use Rattle.std.proofs.Common.{Some, subst, sym, ◌∙◌}
use Rattle.std.specs.BTreeMap.{Updates}
use Rattle.std.specs.Cmp.Lexicographic.{slice_cmp}
use Rattle.std.specs.Ordering.{nat_cmp}
use Rattle.proc_check.proofs.Places.{noted_known, noted_new}
use Rattle.proc_check.proofs.scope.note.Goals as goal

pub returns-then-contains_key-clause-more : goal.returns-then-contains_key-clause-more
returns-then-contains_key-clause-more c before counted has = noted_known c.args.places.now before c.args.variable.now (sym c.contains_key.ensures ∙ c.if-contains_key.true) has

pub returns-clause-more : goal.returns-clause-more
returns-clause-more c before counted has =
    noted_new c.args.places.now c.insert.new.self before c.args.variable.now c.args.place (sym c.contains_key.ensures ∙ c.if-contains_key.false)
    (subst (λ name. Updates (slice_cmp nat_cmp) c.args.places.now c.insert.new.self name (Some c.args.place)) c.in_ok-name.ensures c.in_ok-insert.ensures.updates) counted has
