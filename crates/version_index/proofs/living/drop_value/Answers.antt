use Rattle.std.proofs.Common.{None, refl, sym}
use Rattle.std.specs.BTreeMap.{is_at}
use Rattle.std.specs.Map.{lookup}
use Rattle.rel_base.specs.Value.{value_cmp}
use Rattle.version_index.proofs.AtValues.{slots_same}
use Rattle.version_index.proofs.living.drop_value.Goals as goal

-- no slot was left at the value
pub returns : goal.returns
returns c =
    slots_same c.args.living.now.entries c.remove.new.self.entries c.args.value.now (lookup (is_at (value_cmp c.args.value.now)) c.args.living.now.entries) None refl c.remove.ensures.updates.0
    (λ s. sym (c.requires s))
