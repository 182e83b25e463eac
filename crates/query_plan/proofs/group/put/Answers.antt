use Rattle.std.proofs.Common.{◌≡◌, ◌∙◌, Some, ap, sym}
use Rattle.std.specs.BTreeMap.{get_by}
use Rattle.std.specs.Option.{option_copied_mut}
use Rattle.rel_base.specs.Value.{key_cmp}
use Rattle.query_plan.proofs.Writing.{of_written}
use Rattle.query_plan.proofs.group.put.Goals as goal

pub returns-in-Some : goal.returns-in-Some
returns-in-Some c =
    let entries = c.args.groups.now.entries in
    let key = c.in_ok-key.key in
    let there : get_by (key_cmp key) c.args.groups.now ≡ Some c.in-Some.tallies.now = sym c.get_mut.ensures.value ∙ ap option_copied_mut c.in-Some.is in
    of_written c.args.columns.now c.args.items.now c.args.groups.now c.args.tuple.now key c.in-Some.tallies.now c.next_all.new.tallies c.next_all.result (c.get_mut.follows.lender c.next_all.new.tallies) c.in_ok-key.ensures
    c.get_mut.ensures.ordered there ((c.get_mut.follows.holds c.next_all.new.tallies).0) c.next_all.ensures
