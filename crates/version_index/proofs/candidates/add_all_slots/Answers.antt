use Rattle.std.proofs.Common.{OnOk, subst}
use Rattle.version_index.specs.Candidates.{Adds, IsAtOne}
use Rattle.version_index.proofs.candidates.add_all_slots.Goals as goal

-- to take room leaves what was found
pub returns : goal.returns
returns c =
    subst (λ items. OnOk c.add_slots.result (Adds c.args.view.now.index.now.chains items c.add_slots.new.found.items (IsAtOne c.args.view.now c.args.slots.now))) c.reserve.ensures.items c.add_slots.ensures
