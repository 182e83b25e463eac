use Rattle.std.proofs.Common.{◌≡◌, ◌++◌, ◌∷◌, [], arith, rules, subst, sym}
use Rattle.std.proofs.lemmas.Grind.{common_steps}
use Rattle.version_index.specs.Chains.{AreLasts, lists_in, lists_of, slot_of, with_number}
use Rattle.version_index.proofs.LastNumbers.{lasts_first}
use Rattle.version_index.proofs.PutIn.{first_in}
use Rattle.version_index.proofs.chains.Chains.note_first.Goals as goal

pub returns-clause-noted : goal.returns-clause-noted
returns-clause-noted c =
    let old = c.args.self.now in
    let placed = c.in_ok-settle_key.ensures.placed in
    let now = lists_in c.push_reserved.new.self.items in
    let lists : now ≡ with_number c.args.number (slot_of old c.args.key.now) (lists_of old) = grind (arith, common_steps) in
    let last : c.push_reserved-2.new.self.items ≡ old.lasts.items ++ c.args.number ∷ [] = search rules in
    record {
      slots = grind (arith, common_steps);
      lives_now = grind (arith, common_steps);
      apart = placed.apart c.requires.apart;
      lists = lists;
      lasts = λ are. subst (λ lasts. AreLasts lasts now) (sym last) (lasts_first old.lasts.items (lists_of old) now c.args.number (slot_of old c.args.key.now) c.requires.new lists are);
      all_in = λ all.
          first_in old.living.entries old.ended.entries c.settle_key.new.living.entries c.settle_key.new.ended.entries c.args.key.now _ c.args.lives placed c.hold_guess.new.guesses.marks.items
          c.put.new.self.marks.items c.hash_of.result (c.hold_guess.ensures all) c.put.ensures.kept c.hash_of.ensures c.put.ensures.own;
    }
