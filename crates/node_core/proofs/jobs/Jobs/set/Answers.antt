use Rattle.std.proofs.Common.{IsSome, ap, arith, rules, sym, length, subst, ◌∙◌, ◌+◌, ◌<◌, ◌^◌, ◌≡◌, ◌-◌}
use Rattle.node_core.proofs.Quiet.{length_put, number_within}
use Rattle.node_core.proofs.Standing.{table_put}
use Rattle.node_core.proofs.Table.{Change, change_of}
use Rattle.node_core.specs.Rows.{count_held, put_at, put_row, row_at}
use Rattle.node_core.specs.Waiting.{BoundsHold}
use Rattle.node_core.proofs.jobs.Jobs.set.Goals as goal

pub overflow_sub-self : goal.overflow_sub-self
overflow_sub-self c =
    let change : Change c.self.inside.rows.items c.args.number c.change_stage-was.result c.args.stage = change_of c.self.inside.rows.items c.args.number c.change_stage-was.result c.args.stage (search rules) in
    omega (arith, change.room, c.one_held.ensures, c.self.invariant.count)

pub overflow_add-self : goal.overflow_add-self
overflow_add-self c =
    let change : Change c.self.inside.rows.items c.args.number c.change_stage-was.result c.args.stage = change_of c.self.inside.rows.items c.args.number c.change_stage-was.result c.args.stage (search rules) in
    let few : length c.self.inside.rows.items < 2 ^ 63 = search rules in
    let fits : c.self.inside.held - c.one_held.result + c.one_held-more.result < 2 ^ 64 = omega (arith, change.room, change.within, change.one, few, c.one_held-more.ensures, c.one_held.ensures, c.self.invariant.count) in
    search rules

pub change-requires : goal.change-requires
change-requires c =
    let change_is : c.change_stage-was.new.rows.items ≡ put_at c.self.inside.rows.items (c.args.number - 1) c.args.stage = search rules in
    let rows : c.as_slice.result.now ≡ c.change_stage-was.new.rows.items = search rules in
    let there : IsSome (row_at c.self.inside.rows.items c.args.number) = subst (λ all. IsSome (row_at all c.args.number)) (sym c.self.view_is) c.requires in
    let within : c.args.number - 1 < length c.self.inside.rows.items = number_within c.self.inside.rows.items c.args.number there in
    let long : length c.as_slice.result.now ≡ length c.self.inside.rows.items =
    ap length (rows ∙ change_is) ∙ length_put c.self.inside.rows.items (c.args.number - 1) c.args.stage in
    omega (arith, within, long)

pub invariant_of-self : goal.invariant_of-self
invariant_of-self c =
    let change : Change c.self.inside.rows.items c.args.number c.change_stage-was.result c.args.stage = change_of c.self.inside.rows.items c.args.number c.change_stage-was.result c.args.stage (search rules) in
    let now : c.change_stage-was.new.rows.items ≡ put_row c.self.inside.rows.items c.args.number c.args.stage = search rules in
    let held : c.self.inside.held - c.one_held.result + c.one_held-more.result ≡ count_held (put_row c.self.inside.rows.items c.args.number c.args.stage) =
    omega (arith, change.count, change.room, c.one_held-more.ensures, c.one_held.ensures, c.self.invariant.count) in
    let change_is : c.change_stage-was.new.rows.items ≡ put_at c.self.inside.rows.items (c.args.number - 1) c.args.stage = search rules in
    let rows : c.as_slice.result.now ≡ c.change_stage-was.new.rows.items = search rules in
    let keeps : BoundsHold c.self.inside.bounds c.self.inside.rows.items → BoundsHold c.change.new.self c.change_stage-was.new.rows.items =
    λ was. subst (BoundsHold c.change.new.self) rows (c.change.ensures c.self.inside.rows.items c.args.stage (rows ∙ change_is) was) in
    table_put c.self.inside.rows.items c.change_stage-was.new.rows.items c.self.inside.held (c.self.inside.held - c.one_held.result + c.one_held-more.result)
    c.self.inside.bounds c.change.new.self c.self.inside.index c.args.number c.args.stage c.self.invariant now held keeps
