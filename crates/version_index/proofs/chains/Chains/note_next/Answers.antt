use Rattle.std.proofs.Common.{◌≡◌, ◌∙◌, ◌++◌, ◌∷◌, [], Some, ap, cond, length, slice_set, sym}
use Rattle.rel_base.specs.Value.{key_eq}
use Rattle.version_index.specs.Chains.{lists_in, lists_of, numbers_at, slot_of, slot_or, with_number}
use Rattle.version_index.proofs.LastNumbers.{lasts_follow}
use Rattle.version_index.proofs.PutIn.{next_in}
use Rattle.version_index.proofs.chains.Chains.note_next.Goals as goal

pub returns-clause-noted : goal.returns-clause-noted
returns-clause-noted c =
    let old = c.args.self.now in
    let key = c.args.key.now in
    let slot = c.args.spot.slot in
    let placed = c.in_ok-place_key.ensures.placed in
    let lists : lists_in c.push_at.new.lists.items ≡ with_number c.args.number (slot_of old key) (lists_of old) =
    c.push_at.ensures.pushed ∙ ap (λ lists. slice_set lists slot (numbers_at lists (Some slot) ++ c.args.number ∷ [])) c.in_ok-hold_room.ensures.same
    ∙ ap (λ s. with_number c.args.number s (lists_of old)) (sym c.requires.own) in
    record {
      slots = λ k. placed.slots k ∙ ap (λ s. cond (key_eq k key) (Some (slot_or (length (lists_of old)) s)) (slot_of old k)) (sym c.requires.own);
      lives_now = placed.lives_now;
      apart = placed.apart c.requires.apart;
      lists = lists;
      lasts = λ are. lasts_follow old.lasts.items (lists_of old) (lists_in c.push_at.new.lists.items) slot c.args.number (slot_of old key) c.requires.own lists are;
      all_in = next_in old.living.entries old.ended.entries c.place_key.new.living.entries c.place_key.new.ended.entries key slot c.args.lives placed old.guesses.marks.items c.requires.own;
    }
