use Rattle.std.proofs.Common.{arith}
use Rattle.std.proofs.lemmas.Grind.{common_steps}
use Rattle.std.proofs.Common.{All, [], length, rules, subst, sym, ◌++◌, ◌∙◌, ◌≡◌, ◌∷◌}
use Rattle.block_work.proofs.Applied.{holds_more, still_fits}
use Rattle.block_work.proofs.Consistent.{in_order_longer}
use Rattle.block_work.proofs.chain.Chain.seal.Goals as goal
use Rattle.block_work.specs.Block.{StandInOrder, sealed_of}
use Rattle.block_work.specs.Chain.{stamps}
use Rattle.block_work.specs.Results.{last_digest}
use Rattle.node_model.specs.Fold.{block_result}
use Rattle.proc_check.proofs.Bounds.{small_tables}
use Rattle.proc_check.specs.Sizes.{IsSmall}
use Rattle.proc_syntax.specs.Declaring.{tables_of}

pub add_result-requires-clause-small : goal.add_result-requires-clause-small
add_result-requires-clause-small g c = subst (All IsSmall) (sym c.requires.store.declared) (small_tables c.args.self.now.app.value.app c.args.self.now.app.value.well_typed)

pub apply_all-requires-clause-order : goal.apply_all-requires-clause-order
apply_all-requires-clause-order g c =
    subst (λ tables. StandInOrder tables 0 c.args.work.committed.items 1024) (sym (c.in_default.ensures.tables ∙ c.requires.store.declared))
    (in_order_longer (tables_of c.args.self.now.app.value.app) 0 (length c.args.work.outcomes.items) 1024 c.args.work.committed.items c.requires.consistent.committed c.requires.few)

pub returns-clause-store : goal.returns-clause-store
returns-clause-store g c =
    let tables = g.V.Versions.tables c.args.self.now.versions in
    still_fits c.args.self.now.app.value.app tables (g.V.Versions.tables c.apply_all.new.versions)
    (g.V.Versions.history c.args.self.now.versions) (g.V.Versions.history c.apply_all.new.versions) c.args.self.now.blocks c.add_result.new.blocks
    (block_result tables (last_digest c.args.self.now.blocks) (sealed_of c.args.work)) c.args.work.number (length c.args.work.outcomes.items) c.args.work.committed.items c.requires.store
    (subst (λ defs. StandInOrder defs 0 c.args.work.committed.items (length c.args.work.outcomes.items)) (sym c.requires.store.declared) c.requires.consistent.committed)
    c.requires.next (search rules) (search rules) (search rules) c.in_default.ensures.added

pub returns-clause-holds : goal.returns-clause-holds
returns-clause-holds g c = λ chain holds.
    let tables = tables_of c.args.self.now.app.value.app in
    let wrote : g.V.Versions.history c.apply_all.new.versions ≡ g.V.Versions.history c.args.self.now.versions ++ stamps c.args.work.number c.args.work.committed.items = search rules in
    holds_more tables chain (g.V.Versions.history c.args.self.now.versions) (g.V.Versions.history c.apply_all.new.versions) c.args.self.now.blocks c.add_result.new.blocks c.args.work holds wrote
    (subst (λ defs. c.add_result.new.blocks ≡ c.args.self.now.blocks ++ block_result defs (last_digest c.args.self.now.blocks) (sealed_of c.args.work) ∷ []) c.requires.store.declared c.in_default.ensures.added)

pub returns-clause-count : goal.returns-clause-count
returns-clause-count g c = grind (arith, common_steps)
