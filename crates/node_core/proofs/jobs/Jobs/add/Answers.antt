use Rattle.std.proofs.Common.{[], rules, ◌≡◌, ◌≤◌, ◌+◌, ◌∷◌}
use Rattle.std.proofs.lemmas.List.Elements.{All-cons, All-nil}
use Rattle.std.specs.Prelude.{vec_capacity, vec_len}
use Rattle.node_core.proofs.Newest.{same_jobs}
use Rattle.node_core.proofs.Standing.{table_more}
use Rattle.node_core.specs.ById.{HasEntry, SameJobs}
use Rattle.node_core.proofs.jobs.Jobs.add.Goals as goal

pub push_row-requires-clause-index_room : goal.push_row-requires-clause-index_room
push_row-requires-clause-index_room c = record {
  room = let room : vec_len c.hold.new.self.older + 1 ≤ vec_capacity c.hold.new.self.older = search rules in room;
  held = All-cons (HasEntry c.hold.new.self) c.args.tx.value.id [] (search rules) (All-nil (HasEntry c.hold.new.self));
}

pub invariant_of-self-2 : goal.invariant_of-self-2
invariant_of-self-2 c =
    let older : c.hold.new.self.older.items ≡ c.reserve-2.new.self.older.items = search rules in
    let same : SameJobs c.self.inside.index c.hold.new.self = λ ids was. same_jobs c.reserve-2.new.self c.hold.new.self c.hold.ensures.newest older ids (c.reserve-2.ensures.same ids was) in
    let before : c.reserve.new.self.items ≡ c.self.inside.rows.items = search rules in
    table_more c.self.inside.rows.items c.reserve.new.self.items c.push_row.new.rows.items c.self.inside.held c.self.inside.bounds c.self.inside.index c.hold.new.self
    c.push_row.new.index (c.args.tx ∷ []) c.self.invariant before c.push_row.ensures.rows same c.push_row.ensures.index
