use Rattle.std.proofs.Common.{◌≡◌, ◌++◌, ◌∷◌, [], All, arith, rules, subst, sym}
use Rattle.std.proofs.lemmas.Grind.{common_steps}
use Rattle.std.proofs.lemmas.List.Elements.{All-append, All-cons, All-nil}
use Rattle.version_index.specs.Index.{IsEmptyIndex}
use Rattle.version_index.proofs.store.no_indexes.Goals as goal

pub loop-def-preserved : goal.loop-def-preserved
loop-def-preserved c =
    let before = c.loop-def.indexes.items in
    let index = c.in_ok-new.field-0 in
    let more : c.push.new.self.items ≡ before ++ index ∷ [] = search rules in
    let empty = All-append IsEmptyIndex before (index ∷ []) c.loop-def.invariant.1 (All-cons IsEmptyIndex index [] c.in_ok-new.ensures.empty (All-nil IsEmptyIndex)) in
    (grind (arith, common_steps), subst (All IsEmptyIndex) (sym more) empty)

pub returns-clause-columns : goal.returns-clause-columns
returns-clause-columns c = grind (arith, common_steps)
