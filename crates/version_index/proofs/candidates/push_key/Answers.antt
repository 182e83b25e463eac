use Rattle.std.proofs.Common.{◌≡◌, subst, sym}
use Rattle.std.specs.Option.{IsSomeAnd}
use Rattle.version_index.specs.Candidates.{IsKeyOf}
use Rattle.version_index.specs.Chains.{slot_of}
use Rattle.version_index.proofs.Adding.{adds_one}
use Rattle.version_index.proofs.Logged.{get_history}
use Rattle.version_index.proofs.candidates.push_key.Goals as goal

pub returns : goal.returns
returns c =
    let chains = c.args.view.now.index.now.chains in
    let there = get_history c.args.view.now.entries.now c.args.number c.entry_at.result.now c.entry_at.ensures in
    adds_one chains c.args.found.now.items c.push.new.self.items _ c.args.slot (IsKeyOf c.args.view.now c.args.number) c.in_ok-push.ensures.items
    (subst (λ found. IsSomeAnd found (λ stamped. c.args.slot ≡ slot_of chains stamped.1.write.key)) there c.requires.own) (λ k is. sym (subst (λ found. IsSomeAnd found (λ stamped. stamped.1.write.key ≡ k)) there is))
