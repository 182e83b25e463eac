use Rattle.std.proofs.Common.{◌∙◌, sym}
use Rattle.version_index.specs.Candidates.{HasSlot, IsKeyOf}
use Rattle.version_index.proofs.Adding.{adds_none, adds_weaker, on_ok}
use Rattle.version_index.proofs.LastNumbers.{ends_with, has_none}
use Rattle.version_index.proofs.Offered.{last_below, last_is_key, last_is_own, no_slot}
use Rattle.version_index.proofs.candidates.add_slot.Goals as goal

pub push_key-requires-clause-within : goal.push_key-requires-clause-within
push_key-requires-clause-within c =
    let end = ends_with _ c.in-Some.number (sym (c.last.ensures c.requires.index.chains.lasts) ∙ c.in-Some.is) in
    last_below c.args.view.now c.requires c.args.slot c.in-Some.number end.0 end.1

pub push_key-requires-clause-own : goal.push_key-requires-clause-own
push_key-requires-clause-own c =
    let end = ends_with _ c.in-Some.number (sym (c.last.ensures c.requires.index.chains.lasts) ∙ c.in-Some.is) in
    last_is_own c.args.view.now c.requires c.args.slot c.in-Some.number end.0 end.1

-- a slot with no number is of no key with a row
pub returns-in-None : goal.returns-in-None
returns-in-None c =
    adds_none c.args.view.now.index.now.chains c.args.found.now.items (HasSlot c.args.view.now c.args.slot)
    (λ key has. no_slot c.args.view.now c.requires c.args.slot key (has_none _ (sym (c.last.ensures c.requires.index.chains.lasts) ∙ c.in-None.is)) has)

pub returns-in-Some : goal.returns-in-Some
returns-in-Some c =
    let end = ends_with _ c.in-Some.number (sym (c.last.ensures c.requires.index.chains.lasts) ∙ c.in-Some.is) in
    on_ok c.push_key.result (adds_weaker c.args.view.now.index.now.chains c.args.found.now.items c.push_key.new.found.items (IsKeyOf c.args.view.now c.in-Some.number) (HasSlot c.args.view.now c.args.slot)
    (λ key has. last_is_key c.args.view.now c.requires c.args.slot c.in-Some.number end.0 end.1 key has)) c.push_key.ensures
