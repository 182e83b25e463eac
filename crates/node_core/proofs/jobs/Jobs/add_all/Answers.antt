use Rattle.std.proofs.Common.{All, List, length, rules, subst, ◌≡◌, ◌≤◌, ◌+◌}
use Rattle.std.specs.Prelude.{vec_capacity, vec_len}
use Rattle.node_core.proofs.Newest.{room_all, same_jobs}
use Rattle.node_core.proofs.Standing.{table_more, table_same}
use Rattle.node_core.specs.ById.{HasEntry, SameJobs, tx_ids}
use Rattle.node_model.specs.Steps.{Shared}
use Rattle.proc_syntax.specs.declared.call.Tx.{Tx}
use Rattle.node_core.proofs.jobs.Jobs.add_all.Goals as goal

-- running out of memory leaves an index of the same jobs
pub invariant_of-self-in_err-hold_all : goal.invariant_of-self-in_err-hold_all
invariant_of-self-in_err-hold_all c =
    let older : c.hold_all.new.index.older.items ≡ c.reserve-2.new.self.older.items = search rules in
    let before : c.reserve.new.self.items ≡ c.self.inside.rows.items = search rules in
    table_same c.self.inside.rows.items c.reserve.new.self.items c.self.inside.held c.self.inside.bounds c.self.inside.index c.hold_all.new.index c.self.invariant before
    (λ ids was. same_jobs c.reserve-2.new.self c.hold_all.new.index c.hold_all.ensures.newest older ids (c.reserve-2.ensures.same ids was))

pub push_rows-requires-clause-index_room : goal.push_rows-requires-clause-index_room
push_rows-requires-clause-index_room c =
    let room : vec_len c.hold_all.new.index.older + length c.args.txs.items ≤ vec_capacity c.hold_all.new.index.older = search rules in
    let txs : c.as_slice.result.now ≡ c.args.txs.items = search rules in
    room_all c.hold_all.new.index c.args.txs.items room (subst (λ (txs : List (Shared Tx)). All (HasEntry c.hold_all.new.index) (tx_ids txs)) txs c.in_ok-hold_all.ensures.held)

pub invariant_of-self-2 : goal.invariant_of-self-2
invariant_of-self-2 c =
    let older : c.hold_all.new.index.older.items ≡ c.reserve-2.new.self.older.items = search rules in
    let same : SameJobs c.self.inside.index c.hold_all.new.index =
    λ ids was. same_jobs c.reserve-2.new.self c.hold_all.new.index c.hold_all.ensures.newest older ids (c.reserve-2.ensures.same ids was) in
    let before : c.reserve.new.self.items ≡ c.self.inside.rows.items = search rules in
    table_more c.self.inside.rows.items c.reserve.new.self.items c.push_rows.new.rows.items c.self.inside.held c.self.inside.bounds c.self.inside.index
    c.hold_all.new.index c.push_rows.new.index c.args.txs.items c.self.invariant before c.push_rows.ensures.rows same c.push_rows.ensures.index
