use Rattle.std.proofs.Common.{arith, rules, length, cond, List, ℕ, ◌≡◌, ◌+◌, ◌++◌, ◌∷◌, []}
use Rattle.std.specs.Prelude.{vec_capacity, vec_len}
use Rattle.std.specs.Str.{bytes_eq}
use Rattle.std.proofs.lemmas.List.Elements.{All-tail, All-weaker}
use Rattle.node_core.proofs.Newest.{indexes_more}
use Rattle.node_core.specs.ById.{HasEntry, newest_of}
use Rattle.node_core.specs.declared.index.JobIndex.{JobIndex}
use Rattle.node_core.proofs.index.JobIndex.note.Goals as goal

pub returns-clause-noted : goal.returns-clause-noted
returns-clause-noted c ids was =
    let now : JobIndex = record { newest = c.set-older.new.self.newest; older = c.push_reserved.new.self; alloc = c.set-older.new.self.alloc } in
    let pushed : c.push_reserved.new.self.items ≡ c.args.self.now.older.items ++ newest_of c.args.self.now c.args.id.now ∷ [] = search rules in
    let sets : (other : List ℕ) → newest_of now other ≡ cond (bytes_eq other c.args.id.now) (length c.args.self.now.older.items + 1) (newest_of c.args.self.now other) = search rules in
    indexes_more c.args.self.now now ids c.args.id.now was sets pushed

pub returns-clause-room : goal.returns-clause-room
returns-clause-room c ids was =
    let now : JobIndex = record { newest = c.set-older.new.self.newest; older = c.push_reserved.new.self; alloc = c.set-older.new.self.alloc } in
    let len : vec_len c.push_reserved.new.self ≡ vec_len c.args.self.now.older + 1 = search rules in
    let capacity : vec_capacity c.push_reserved.new.self ≡ vec_capacity c.args.self.now.older = search rules in
    record {
      room = omega (arith, len, capacity, was.room);
      held = All-weaker (HasEntry c.args.self.now) (HasEntry now) (λ other held. c.set-older.ensures.kept other held) ids (All-tail (HasEntry c.args.self.now) c.args.id.now ids was.held);
    }
