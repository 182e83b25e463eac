use Rattle.version_index.proofs.Logged.{get_read}
use Rattle.version_index.proofs.Lasts.{below_of_get}
use Rattle.std.specs.Vec.{vec_capacity, vec_len}
use Rattle.std.proofs.Common.{◌<◌}
use Rattle.version_index.proofs.Slots.{lists_more}
use Rattle.version_index.proofs.lists.push_at.Goals as goal

pub returns-clause-pushed : goal.returns-clause-pushed
returns-clause-pushed c =
    let items = c.args.lists.now.items in
    let below = below_of_get (λ numbers. vec_len numbers < vec_capacity numbers) c.args.slot items c.requires in
    lists_more items c.args.slot c.args.number c.index_mut.result.now c.push_reserved.new.self (get_read items c.args.slot c.index_mut.result.now below c.index_mut.ensures.value) c.push_reserved.ensures.items
