use Rattle.std.proofs.Common.{◌≡◌, ◌+◌, ◌≤◌, ◌++◌, List, length, ap, sym, subst, ◌∙◌, append_assoc, arith}
use Rattle.std.specs.FinMap.{FinMap, entries}
use Rattle.std.specs.Vec.{vec_len, vec_capacity}
use Rattle.std.proofs.lemmas.List.{length-append, length-map}
use Rattle.rel_base.specs.Value.{key_cmp}
use Rattle.rel_base.specs.declared.access.Write.{Write}
use Rattle.row_sets.specs.Overlay.{flat, in_table, net_writes}
use Rattle.row_sets.specs.declared.table_writes.OwnWrite.{OwnWrite}
use Rattle.row_sets.proofs.Nets.{net_append}
use Rattle.row_sets.proofs.by_table.push_tables.Goals as goal

-- the writes of the next table
pub loop-table-preserved : goal.loop-table-preserved
loop-table-preserved c =
    let own = entries c.in-Some.own in
    let here = in_table c.in-Some.table own in
    let rest = flat c.next.new.self in
    let whole = subst (λ (tables : List (_ × FinMap key_cmp OwnWrite)). c.loop-table.writes.items ++ net_writes (flat tables) ≡ c.args.writes.now.items ++ net_writes (flat c.args.tables.entries)) c.in-Some.ensures.steps c.loop-table.invariant.0 in
    let room = subst (λ (tables : List (_ × FinMap key_cmp OwnWrite)). vec_len c.loop-table.writes + length (flat tables) ≤ vec_capacity c.loop-table.writes) c.in-Some.ensures.steps c.loop-table.invariant.1 in
    let both : length (here ++ rest) ≡ length here + length rest = length-append here rest in
    let each : length here ≡ length own = length-map own (λ entry. ((c.in-Some.table, entry.0), entry.1)) in (
      ap (λ (writes : List Write). writes ++ net_writes rest) c.push_net.ensures.writes ∙ append_assoc c.loop-table.writes.items (net_writes here) (net_writes rest)
          ∙ ap (λ writes. c.loop-table.writes.items ++ writes) (sym (net_append here rest)) ∙ whole,
      omega (arith, room, both, each, c.push_net.ensures.len, c.push_net.ensures.room),
    )
