use Rattle.std.proofs.Common.{◌+◌, ap, sym, ◌∙◌, cond, arith, length}
use Rattle.row_sets.specs.Overlay.{flat}
use Rattle.row_sets.proofs.Flat.{counted_put}
use Rattle.row_sets.proofs.by_table.WritesByTable.put.Goals as goal

-- a key that was not written
pub invariant_of-self-then-branch : goal.invariant_of-self-then-branch
invariant_of-self-then-branch c =
    let old = flat c.self.inside.tables.entries in
    let counted = counted_put c.self.inside.tables.entries c.put_in.new.tables.entries c.self.invariant.ordered c.put_in.ensures.ordered (c.args.table, c.args.key) c.args.before c.args.after c.in_ok-put_in.field-0 c.in_ok-put_in.ensures.put c.in_ok-put_in.ensures.first in
    record {
      ordered = c.put_in.ensures.ordered;
      counted = counted ∙ ap (λ new. cond new (length old + 1) (length old)) c.if-branch.true ∙ ap (λ n. n + 1) c.self.invariant.counted ∙ sym c.in_ok-more.ensures.more;
      empty = (c.hold_one_more.ensures.items ∙ c.self.invariant.empty.0, c.hold_one_more.ensures.len ∙ c.self.invariant.empty.1);
      enough = c.in_ok-more.ensures.room;
    }

-- a key that was written
pub invariant_of-self-else-branch : goal.invariant_of-self-else-branch
invariant_of-self-else-branch c =
    let old = flat c.self.inside.tables.entries in
    let counted = counted_put c.self.inside.tables.entries c.put_in.new.tables.entries c.self.invariant.ordered c.put_in.ensures.ordered (c.args.table, c.args.key) c.args.before c.args.after c.in_ok-put_in.field-0 c.in_ok-put_in.ensures.put c.in_ok-put_in.ensures.first in
    let enough = c.self.invariant.enough in
    record {
      ordered = c.put_in.ensures.ordered;
      counted = counted ∙ ap (λ new. cond new (length old + 1) (length old)) c.if-branch.false ∙ c.self.invariant.counted;
      empty = (c.hold_one_more.ensures.items ∙ c.self.invariant.empty.0, c.hold_one_more.ensures.len ∙ c.self.invariant.empty.1);
      enough = omega (arith, enough, c.hold_one_more.ensures.kept);
    }
