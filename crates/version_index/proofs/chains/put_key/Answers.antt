use Rattle.std.proofs.Common.{◌≡◌, List, Some, cond, subst}
use Rattle.rel_base.specs.declared.value.Value.{Value}
use Rattle.version_index.specs.Chains.{slot_in}
use Rattle.rel_base.specs.Value.{key_eq}
use Rattle.version_index.proofs.Keys.{slot_set}
use Rattle.version_index.proofs.chains.put_key.Goals as goal

pub returns-clause-put : goal.returns-clause-put
returns-clause-put c = subst (λ key. (k : List Value) → slot_in c.insert.new.self.entries k ≡ cond (key_eq k key) (Some c.args.slot) (slot_in c.args.slots.now.entries k)) c.in_ok-key.ensures
    (slot_set c.args.slots.now.entries c.insert.new.self.entries c.in_ok-key.key (Some c.args.slot) c.in_ok-insert.ensures.updates.0)
