use Rattle.std.proofs.Common.{ap, sym, ◌++◌, ◌∙◌}
use Rattle.bcdb.proofs.intake.GathererIntake.take.Goals as goal

pub returns-clause-follows : goal.returns-clause-follows
returns-clause-follows c = λ bytes gathers. (
  c.in_ok-fed.ensures.follows bytes gathers.0,
  (c.in_ok-fed.ensures.fed bytes gathers.0).0 ∙ ap (λ blocks. blocks ++ c.in_ok-fed.fed.blocks) gathers.1 ∙ sym c.in_ok-append.ensures.ok,
)
