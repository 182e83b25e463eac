use Rattle.std.proofs.Common.{Some, ap, length, refl, rules, slice_get, ◌&&◌, ◌||◌, ◌∙◌, ◌≡◌}
use Rattle.std.specs.Bool.{nat_eq}
use Rattle.std.proofs.lemmas.Option.{slice_get_read}
use Rattle.conflict_rules.proofs.Passed.{edges_all, edges_next}
use Rattle.conflict_rules.proofs.walk.edges_among.Goals as goal
use Rattle.conflict_rules.specs.Halves.{meets}
use Rattle.conflict_rules.specs.Marking.{NoneFound}
use Rattle.rw_graph.specs.Held.{holds}

pub loop-number-preserved : goal.loop-number-preserved
loop-number-preserved c =
    let done = c.index-committed-number.result in
    let at : slice_get c.args.committed.now c.in-Some.number ≡ Some done =
    slice_get_read c.args.committed.now (length c.args.committed.now) c.in-Some.number done refl c.in-Some.ensures.1 c.index-committed-number.is in (
      edges_next (meets c.args.tables.now c.args.half) c.args.found.now c.args.committed.now c.requires.only (holds c.loop-number.edges) (holds c.add_if.new.self) c.loop-number.from c.in-Some.number
          done c.loop-number.invariant.0 c.in-Some.ensures.0 c.in-Some.ensures.2 at (λ pos. c.add_if.ensures pos ∙ ap (λ b. (b && nat_eq pos done.pos) || holds c.loop-number.edges pos) c.meets.ensures),
      search rules,
    )

pub returns : goal.returns
returns c =
    let none : NoneFound c.args.found.now c.loop-number.from (length c.args.committed.now) = search rules in
    edges_all (meets c.args.tables.now c.args.half) c.args.found.now c.args.committed.now c.requires.only (holds c.loop-number.edges) c.loop-number.from c.loop-number.invariant.0 c.loop-number.invariant.1 none
