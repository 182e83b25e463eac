use Rattle.std.proofs.Common.{◌≡◌, ◌∙◌, ◌++◌, ◌∷◌, [], List, ℕ, refl, subst}
use Rattle.rel_base.specs.declared.value.Value.{Value}
use Rattle.version_index.proofs.Adding.{all_done, one_over}
use Rattle.version_index.proofs.PutIn.{AreAllOf, keys_done, keys_next, keys_start}
use Rattle.version_index.proofs.guesses.Guesses.put_all.Goals as goal

pub loop-key-init : goal.loop-key-init
loop-key-init c = ([], refl, keys_start c.args.self.now.marks.items, λ h was. was)

pub loop-key-preserved : goal.loop-key-preserved
loop-key-preserved c =
    let e : List Value × ℕ = (c.in-Some.key.now, c.in-Some.slot.now) in
    let done = c.loop-key.invariant in (
      done.0 ++ e ∷ [],
      one_over done.0 c.loop-key.key-iterator c.next.new.self c.into_iter-key-iterator.result e done.1 c.in-Some.ensures.steps,
      keys_next done.0 e c.loop-key.self.marks.items c.put.new.self.marks.items c.hash_of.result done.2 c.put.ensures.kept c.hash_of.ensures c.put.ensures.own,
      λ h was. c.put.ensures.kept h (done.3 h was),
    )

pub returns-clause-all : goal.returns-clause-all
returns-clause-all c =
    let done = c.loop-key.invariant in
    let none : c.loop-key.key-iterator ≡ [] = c.in-None.ensures.steps.0 in
    let all : done.0 ≡ c.args.slots.now.entries = all_done done.0 c.loop-key.key-iterator c.into_iter-key-iterator.result done.1 none ∙ c.into_iter-key-iterator.ensures.into_iter_gives ∙ c.iter-key-items.ensures.rest in
    keys_done c.args.slots.now.entries c.loop-key.self.marks.items (subst (λ es. AreAllOf es c.loop-key.self.marks.items) all done.2)

pub returns-clause-kept : goal.returns-clause-kept
returns-clause-kept c = c.loop-key.invariant.3
