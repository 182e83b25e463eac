use Rattle.std.proofs.Common.{arith, rules, subst, ◌∙◌, ◌≡◌}
use Rattle.std.proofs.lemmas.Grind.{common_steps}
use Rattle.std.specs.Prelude.{is_some}
use Rattle.block_work.proofs.Places.{is_known}
use Rattle.block_work.specs.Ids.{AddsAmong, HasFirstPlaces, place_of_id}
use Rattle.plain_node.proofs.Deciding.{goes_on, on_ok_both, with_room}
use Rattle.plain_node.proofs.process.decide_next.Goals as goal
use Rattle.proc_syntax.specs.Declaring.{tables_of}

pub returns-clause-consistent : goal.returns-clause-consistent
returns-clause-consistent g c =
    let tables = tables_of c.args.chain.now.app.value.app in
    c.add_decided.ensures.consistent tables (c.reserve.ensures.consistent tables c.requires.consistent) c.in_ok-decided.ensures.decision

pub returns-clause-added : goal.returns-clause-added
returns-clause-added g c = λ before added.
    let same = c.reserve.ensures.same in
    subst (λ number. AddsAmong before c.add_decided.new.ids number c.add_decided.new.work.outcomes.items) same.number
    (c.add_decided.ensures.added before (with_room c.args.work.now c.reserve.new.self (AddsAmong before c.args.ids.now) same added))

pub returns-clause-work : goal.returns-clause-work
returns-clause-work g c =
    let app = c.args.chain.now.app.value.app in
    let same = c.reserve.ensures.same in
    let known : c.is_some-known.result ≡ is_some (place_of_id c.args.ids.now c.args.tx.now.id) = search rules in
    on_ok_both c.add_decided.result _ _ _ c.add_decided.ensures.work c.add_decided.ensures.places (λ adds places sealed holds has.
    let roomy = with_room c.args.work.now c.reserve.new.self (HasFirstPlaces c.args.ids.now sealed) same has in (
      goes_on app sealed c.args.work.now c.reserve.new.self c.args.tx.now c.in_ok-decided.decided _ same adds
          (c.in_ok-decided.ensures.work sealed holds (known ∙ is_known c.args.ids.now sealed c.reserve.new.self.number c.reserve.new.self.outcomes.items c.args.tx.now.id roomy)),
      subst (λ number. HasFirstPlaces c.add_decided.new.ids sealed number c.add_decided.new.work.outcomes.items) same.number (places sealed roomy),
    ))

pub returns-clause-count : goal.returns-clause-count
returns-clause-count g c = grind (arith, common_steps)
