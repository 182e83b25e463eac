use Rattle.std.proofs.Common.{◌<◌, arith, subst, sym}
use Rattle.std.specs.Option.{IsSomeAnd}
use Rattle.std.specs.Vec.{vec_capacity, vec_len}
use Rattle.version_index.proofs.Slots.{lists_same, set_same}
use Rattle.version_index.proofs.lists.hold_room.Goals as goal

pub returns-in_err-reserve-clause-same : goal.returns-in_err-reserve-clause-same
returns-in_err-reserve-clause-same c = lists_same c.args.lists.now.items c.args.slot c.index_mut.result.now c.reserve.new.self c.index_mut.ensures.value c.reserve.ensures.items

pub returns-clause-same : goal.returns-clause-same
returns-clause-same c = lists_same c.args.lists.now.items c.args.slot c.index_mut.result.now c.reserve.new.self c.index_mut.ensures.value c.reserve.ensures.items

pub returns-clause-room : goal.returns-clause-room
returns-clause-room c =
    let room = c.in_ok-reserve.ensures.ok in
    subst (λ found. IsSomeAnd found (λ numbers. vec_len numbers < vec_capacity numbers)) (sym (set_same c.args.lists.now.items c.args.slot c.reserve.new.self c.requires)) (omega (arith, room))
