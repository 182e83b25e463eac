use Rattle.std.proofs.Common.{ap, sym, ◌∙◌}
use Rattle.std.specs.Option.{option_map}
use Rattle.block_work.proofs.Consistent.{danger_is, few_positions, into_among, out_among}
use Rattle.block_work.proofs.causes.judge_edges.Goals as goal
use Rattle.node_model.specs.declared.outcome.Outcome.TheVariants as outcome
use Rattle.node_model.specs.Decide.{or_committed}

pub find_danger-requires-clause-few : goal.find_danger-requires-clause-few
find_danger-requires-clause-few c = few_positions c.args.tables.now c.args.work.now c.requires.consistent c.requires.few

pub find_danger-requires-clause-out : goal.find_danger-requires-clause-out
find_danger-requires-clause-out c = out_among c.args.tables.now c.args.work.now c.args.ran.now c.own_edges-edges.result c.requires.consistent c.own_edges-edges.ensures.out

pub find_danger-requires-clause-into : goal.find_danger-requires-clause-into
find_danger-requires-clause-into c = into_among c.args.tables.now c.args.work.now c.args.ran.now c.own_edges-edges.result c.requires.consistent c.own_edges-edges.ensures.into

pub returns-in_ok-of_danger-in-Some-clause-outcome : goal.returns-in_ok-of_danger-in-Some-clause-outcome
returns-in_ok-of_danger-in-Some-clause-outcome c =
    c.in_ok-of_danger-in-Some.ensures
    ∙ ap (λ found. or_committed (option_map outcome.Danger found))
    (sym c.in-Some.is ∙ c.in_ok-found.ensures.found
    ∙ danger_is c.args.tables.now c.args.work.now c.args.ran.now c.own_edges-edges.result c.requires.consistent c.args.exact c.own_edges-edges.ensures.out c.own_edges-edges.ensures.into)

pub returns-in-None-clause-outcome : goal.returns-in-None-clause-outcome
returns-in-None-clause-outcome c =
    ap (λ found. or_committed (option_map outcome.Danger found))
    (sym c.in-None.is ∙ c.in_ok-found.ensures.found
    ∙ danger_is c.args.tables.now c.args.work.now c.args.ran.now c.own_edges-edges.result c.requires.consistent c.args.exact c.own_edges-edges.ensures.out c.own_edges-edges.ensures.into)
