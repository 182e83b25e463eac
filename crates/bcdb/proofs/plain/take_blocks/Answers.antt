use Rattle.std.proofs.Common.{[], List, ap, append-nil, append_assoc, arith, refl, rules, subst, sym, ◌++◌, ◌∙◌, ◌≡◌, ◌∷◌}
use Rattle.std.proofs.lemmas.Grind.{common_steps}
use Rattle.std.specs.Vec.Iter.{into_iter_items}
use Rattle.bcdb.proofs.Processed.{number_after}
use Rattle.bcdb.proofs.plain.take_blocks.Goals as goal
use Rattle.bcdb.specs.Folds.{HoldsFirst}
use Rattle.chain_file.specs.Numbered.{NumberedFrom}
use Rattle.proc_syntax.specs.declared.call.Block.{Block}

pub take_block-requires : goal.take_block-requires
take_block-requires g c =
    let block = c.in-Some.block in
    let rest = into_iter_items c.next.new.self in
    let left : into_iter_items c.loop-block.block-iterator ≡ block ∷ rest = search rules in
    let far = c.loop-block.invariant.1 c.requires.holds.0 c.requires.holds.1.1 in
    let whole : c.requires.holds.0 ++ c.args.blocks ≡ far.0 ++ block ∷ rest = sym far.1.0 ∙ ap (λ bs. far.0 ++ bs) left in
    let number = number_after 1 far.0 block rest (subst (NumberedFrom 1) whole c.requires.holds.1.0) in
    let count = far.1.1.count in
    record {
      next = omega (arith, number, count);
      holds = (far.0, far.1.1);
    }

pub loop-block-preserved : goal.loop-block-preserved
loop-block-preserved g c =
    let block = c.in-Some.block in
    let rest = into_iter_items c.next.new.self in
    let left : into_iter_items c.loop-block.block-iterator ≡ block ∷ rest = search rules in (
      c.take_block.ensures.app ∙ c.loop-block.invariant.0,
      λ before has.
          let far = c.loop-block.invariant.1 before has in
          (far.0 ++ block ∷ [], (append_assoc far.0 (block ∷ []) rest ∙ ap (λ bs. far.0 ++ bs) (sym left) ∙ far.1.0, c.in_ok-take_block.ensures.holds far.0 far.1.1)),
    )

pub loop-block-init : goal.loop-block-init
loop-block-init g c = (refl, λ before has. (before, (ap (λ rest. before ++ rest) (search rules), has)))

pub returns-clause-holds : goal.returns-clause-holds
returns-clause-holds g c = λ before has.
    let far = c.loop-block.invariant.1 before has in
    let ended : into_iter_items c.loop-block.block-iterator ≡ [] = grind (arith, common_steps) in
    let whole : far.0 ≡ before ++ c.args.blocks = sym (append-nil far.0) ∙ ap (λ rest. far.0 ++ rest) (sym ended) ∙ far.1.0 in
    subst (λ (bs : List Block). HoldsFirst c.args.height bs c.loop-block.taken c.loop-block.node.chain.app.value.app (g.V.Versions.tables c.loop-block.node.chain.versions)
    (g.V.Versions.history c.loop-block.node.chain.versions) c.loop-block.node.ids c.loop-block.node.chain.blocks) whole far.1.1
