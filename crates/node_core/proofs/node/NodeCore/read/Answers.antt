use Rattle.std.proofs.Common.{IfSome, None, Option, Some, [], ap, length, rules, subst, sym, false, ◌+◌, ◌++◌, ◌∙◌, ◌≡◌, ◌≤◌, ◌∷◌}
use Rattle.std.specs.Option.{is_some, option_map}
use Rattle.std.specs.Prelude.{vec_capacity, vec_len}
use Rattle.block_work.specs.Ids.{place_of_id}
use Rattle.node_core.proofs.Answering.{read_answered, read_gone, read_held, read_kept, read_order, read_steps}
use Rattle.node_core.proofs.Settled.{settled_is}
use Rattle.node_core.specs.Answers.{got_as, got_of}
use Rattle.node_core.specs.Core.{Core, IsHeld, Steps}
use Rattle.node_core.specs.Hands.{IsAnswered}
use Rattle.node_core.specs.InHand.{InHand, IsNextRead, with_read}
use Rattle.node_core.specs.Kept.{up_to}
use Rattle.node_core.specs.Rows.{count_held}
use Rattle.node_model.specs.Events.{settled_in}
use Rattle.node_model.specs.Journals.{world}
use Rattle.node_model.specs.Steps as steps
use Rattle.rel_base.specs.Tables as stamps
use Rattle.node_model.specs.declared.journal.Event.TheVariants as event
use Rattle.proc_run.specs.Remains.{StandInOrder}
use Rattle.proc_syntax.specs.Declaring.{tables_of}
use Rattle.rel_base.specs.Among.{rows_in}
use Rattle.rel_base.specs.Late.{least_hit}
use Rattle.rel_base.specs.Tables.{tables_at, writes_between}
use Rattle.rel_base.specs.declared.access.Read.{Read}
use Rattle.node_core.proofs.node.NodeCore.read.Goals as goal

pub returns-in-Some-clause-step : goal.returns-in-Some-clause-step
returns-in-Some-clause-step g c =
    let s = c.self.inside in
    let held = subst (λ (core : Core). IsHeld core c.args.work.now) (sym c.self.view_is) c.requires.held in
    let at : c.height-height.result ≡ length s.chain.blocks = search rules in
    let found : c.settled_in.result ≡ up_to c.height-height.result (place_of_id s.ids c.args.work.now.told.tx.id) = search rules in
    let is : settled_in c.args.work.now.told.tx.id (world s.chain.app.value.app s.journal.items).sealed ≡ Some c.in-Some.number =
    sym (settled_is _ c.self.invariant.0 c.height-height.result c.args.work.now.told.tx.id at) ∙ (sym found ∙ c.in-Some.is) in
    subst (λ (core : Core). Steps core c.args.work.now.actor (steps.ToRead c.args.work.now.job) (steps.Gone c.in-Some.number) core) c.self.view_is
    (read_gone _ c.self.invariant.0 c.args.work.now held c.in-Some.number is)

pub answer-requires-clause-order : goal.answer-requires-clause-order
answer-requires-clause-order g c =
    let s = c.self.inside in
    let held = subst (λ (core : Core). IsHeld core c.args.work.now) (sym c.self.view_is) c.requires.held in
    let asks : c.args.work.now.told.asks ≡ Some c.in-Some-wanted.read.now = search rules in
    let rows : c.in_ok-rows-in-Some-wanted.rows ≡ rows_in (g.V.Versions.tables s.chain.versions) c.in-Some-wanted.read.now (tables_at c.args.work.now.told.tx.height (g.V.Versions.history s.chain.versions)) = search rules in
    subst (λ (o : Option Read). IfSome o (λ read. StandInOrder (tables_of c.args.work.now.told.app) read c.in_ok-rows-in-Some-wanted.rows)) (sym asks)
    (read_order _ c.self.invariant.0 c.args.work.now held c.in-Some-wanted.read.now c.in_ok-rows-in-Some-wanted.rows rows)

pub invariant_of-self-in-Some-wanted : goal.invariant_of-self-in-Some-wanted
invariant_of-self-in-Some-wanted g c =
    let s = c.self.inside in
    let held = subst (λ (core : Core). IsHeld core c.args.work.now) (sym c.self.view_is) c.requires.held in
    let asks : c.args.work.now.told.asks ≡ Some c.in-Some-wanted.read.now = search rules in
    let next : IsNextRead c.args.work.now.told c.in-Some-wanted.read.now = subst (λ (o : Option Read). IfSome o (IsNextRead c.args.work.now.told)) asks c.wanted.ensures.next in
    let whole : c.args.work.now.cut ≡ false = search rules in
    let at : c.height-height.result ≡ length s.chain.blocks = search rules in
    let found : up_to c.height-height.result (place_of_id s.ids c.args.work.now.told.tx.id) ≡ None = search rules in
    let live : settled_in c.args.work.now.told.tx.id (world s.chain.app.value.app s.journal.items).sealed ≡ None = sym (settled_is _ c.self.invariant.0 c.height-height.result c.args.work.now.told.tx.id at) ∙ found in
    let hits : c.find_hit-hit.result ≡ option_map stamps.place_of (least_hit (g.V.Versions.tables s.chain.versions) c.in-Some-wanted.read.now (writes_between c.args.work.now.told.tx.height c.height-height.result (g.V.Versions.history s.chain.versions))) = search rules in
    let noted : c.push_reserved.new.self.items ≡ s.journal.items ++ record { actor = c.args.work.now.actor; event = event.Read c.args.work.now.job } ∷ [] = search rules in
    let fits : vec_len c.push_reserved.new.self + count_held s.jobs ≤ vec_capacity c.push_reserved.new.self = search rules in
    (read_kept _ c.self.invariant.0 c.args.work.now held c.in-Some-wanted.read.now next whole live c.find_hit-hit.result c.height-height.result at hits c.push_reserved.new.self.items noted, fits)

pub returns-clause-step : goal.returns-clause-step
returns-clause-step g c =
    let s = c.self.inside in
    let held = subst (λ (core : Core). IsHeld core c.args.work.now) (sym c.self.view_is) c.requires.held in
    let asks : c.args.work.now.told.asks ≡ Some c.in-Some-wanted.read.now = search rules in
    let next : IsNextRead c.args.work.now.told c.in-Some-wanted.read.now = subst (λ (o : Option Read). IfSome o (IsNextRead c.args.work.now.told)) asks c.wanted.ensures.next in
    let whole : c.args.work.now.cut ≡ false = search rules in
    let at : c.height-height.result ≡ length s.chain.blocks = search rules in
    let found : up_to c.height-height.result (place_of_id s.ids c.args.work.now.told.tx.id) ≡ None = search rules in
    let live : settled_in c.args.work.now.told.tx.id (world s.chain.app.value.app s.journal.items).sealed ≡ None = sym (settled_is _ c.self.invariant.0 c.height-height.result c.args.work.now.told.tx.id at) ∙ found in
    let hits : c.find_hit-hit.result ≡ option_map stamps.place_of (least_hit (g.V.Versions.tables s.chain.versions) c.in-Some-wanted.read.now (writes_between c.args.work.now.told.tx.height c.height-height.result (g.V.Versions.history s.chain.versions))) = search rules in
    let noted : c.push_reserved.new.self.items ≡ s.journal.items ++ record { actor = c.args.work.now.actor; event = event.Read c.args.work.now.job } ∷ [] = search rules in
    subst (λ a. Steps c.args.self.now c.args.work.now.actor (steps.ToRead c.args.work.now.job) (got_as a) (record { app = s.chain.app.value.app; journal = c.push_reserved.new.self.items })) (sym c.got_of.ensures)
    (subst (λ (core : Core). Steps core c.args.work.now.actor (steps.ToRead c.args.work.now.job) (got_as (got_of c.find_hit-hit.result)) (record { app = s.chain.app.value.app; journal = c.push_reserved.new.self.items })) c.self.view_is
    (read_steps _ c.self.invariant.0 c.args.work.now held c.in-Some-wanted.read.now next whole live c.find_hit-hit.result c.height-height.result at hits c.push_reserved.new.self.items noted))

pub returns-clause-held : goal.returns-clause-held
returns-clause-held g c =
    let s = c.self.inside in
    let held = subst (λ (core : Core). IsHeld core c.args.work.now) (sym c.self.view_is) c.requires.held in
    let asks : c.args.work.now.told.asks ≡ Some c.in-Some-wanted.read.now = search rules in
    let next : IsNextRead c.args.work.now.told c.in-Some-wanted.read.now = subst (λ (o : Option Read). IfSome o (IsNextRead c.args.work.now.told)) asks c.wanted.ensures.next in
    let whole : c.args.work.now.cut ≡ false = search rules in
    let at : c.height-height.result ≡ length s.chain.blocks = search rules in
    let found : up_to c.height-height.result (place_of_id s.ids c.args.work.now.told.tx.id) ≡ None = search rules in
    let live : settled_in c.args.work.now.told.tx.id (world s.chain.app.value.app s.journal.items).sealed ≡ None = sym (settled_is _ c.self.invariant.0 c.height-height.result c.args.work.now.told.tx.id at) ∙ found in
    let hits : c.find_hit-hit.result ≡ option_map stamps.place_of (least_hit (g.V.Versions.tables s.chain.versions) c.in-Some-wanted.read.now (writes_between c.args.work.now.told.tx.height c.height-height.result (g.V.Versions.history s.chain.versions))) = search rules in
    let noted : c.push_reserved.new.self.items ≡ s.journal.items ++ record { actor = c.args.work.now.actor; event = event.Read c.args.work.now.job } ∷ [] = search rules in
    let rows : c.in_ok-rows-in-Some-wanted.rows ≡ rows_in (g.V.Versions.tables s.chain.versions) c.in-Some-wanted.read.now (tables_at c.args.work.now.told.tx.height (g.V.Versions.history s.chain.versions)) = search rules in
    let answered : c.answer.new.self ≡ with_read c.args.work.now c.in-Some-wanted.read.now c.in_ok-rows-in-Some-wanted.rows c.is_some.result =
    subst (λ (o : Option Read). IfSome o (λ read. c.answer.new.self ≡ with_read c.args.work.now read c.in_ok-rows-in-Some-wanted.rows c.is_some.result)) asks c.answer.ensures in
    let cuts : c.is_some.result ≡ is_some c.find_hit-hit.result = search rules in
    read_held _ c.self.invariant.0 c.args.work.now held c.in-Some-wanted.read.now next whole live c.find_hit-hit.result c.height-height.result at hits c.push_reserved.new.self.items noted
    c.answer.new.self c.in_ok-rows-in-Some-wanted.rows rows (answered ∙ ap (with_read c.args.work.now c.in-Some-wanted.read.now c.in_ok-rows-in-Some-wanted.rows) cuts)

pub returns-clause-answered : goal.returns-clause-answered
returns-clause-answered g c =
    let asks : c.args.work.now.told.asks ≡ Some c.in-Some-wanted.read.now = search rules in
    let answered : c.answer.new.self ≡ with_read c.args.work.now c.in-Some-wanted.read.now c.in_ok-rows-in-Some-wanted.rows c.is_some.result =
    subst (λ (o : Option Read). IfSome o (λ read. c.answer.new.self ≡ with_read c.args.work.now read c.in_ok-rows-in-Some-wanted.rows c.is_some.result)) asks c.answer.ensures in
    subst (λ got. IsAnswered got c.args.work.now c.answer.new.self) (sym c.got_of.ensures)
    (subst (λ (work : InHand). IsAnswered (got_of c.find_hit-hit.result) c.args.work.now work) (sym answered)
    (read_answered c.args.work.now c.in-Some-wanted.read.now c.in_ok-rows-in-Some-wanted.rows c.is_some.result c.find_hit-hit.result c.requires.wants))
