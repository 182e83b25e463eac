use Rattle.std.proofs.Common.{◌≡◌, subst, sym}
use Rattle.std.specs.Option.{IsSomeAnd}
use Rattle.version_index.specs.Chains.{slot_of}
use Rattle.version_index.proofs.Logged.{get_history}
use Rattle.version_index.proofs.candidates.add_key_of.Goals as goal

pub push_key-requires-clause-own : goal.push_key-requires-clause-own
push_key-requires-clause-own c =
    subst (λ found. IsSomeAnd found (λ stamped. c.slot-slot.result ≡ slot_of c.args.view.now.index.now.chains stamped.1.write.key))
    (sym (get_history c.args.view.now.entries.now c.args.number c.entry_at.result.now c.entry_at.ensures)) c.slot-slot.ensures
