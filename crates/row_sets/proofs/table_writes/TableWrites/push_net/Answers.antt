use Rattle.std.proofs.Common.{◌≡◌, ◌+◌, ◌≤◌, ◌++◌, List, length, ap, sym, subst, ◌∙◌, append_assoc, arith}
use Rattle.std.specs.FinMap.{entries}
use Rattle.std.specs.Vec.{vec_len, vec_capacity}
use Rattle.std.proofs.lemmas.List.{length-append, map-append}
use Rattle.rel_base.specs.Value.{key_cmp, key_cmp-total, key_cmp-exact}
use Rattle.rel_base.specs.declared.access.Write.{Write}
use Rattle.row_sets.specs.Overlay.{in_table, net_writes}
use Rattle.row_sets.proofs.Entries.{entries_of_sorted}
use Rattle.row_sets.proofs.Nets.{net_append}
use Rattle.row_sets.proofs.table_writes.TableWrites.push_net.Goals as goal

pub push_few-requires : goal.push_few-requires
push_few-requires c =
    let few = c.self.inside.few.items in
    let many = c.self.inside.many.entries in
    let same : entries c.args.self ≡ few ++ many = ap entries (sym c.self.view_is) ∙ entries_of_sorted key_cmp key_cmp-total key_cmp-exact (few ++ many) c.self.invariant in
    let room = subst (λ own. vec_len c.args.writes.now + length own ≤ vec_capacity c.args.writes.now) same c.requires in
    let both : length (few ++ many) ≡ length few + length many = length-append few many in
    omega (arith, room, both)

pub push_each-requires : goal.push_each-requires
push_each-requires c =
    let few = c.self.inside.few.items in
    let many = c.self.inside.many.entries in
    let same : entries c.args.self ≡ few ++ many = ap entries (sym c.self.view_is) ∙ entries_of_sorted key_cmp key_cmp-total key_cmp-exact (few ++ many) c.self.invariant in
    let room = subst (λ own. vec_len c.args.writes.now + length own ≤ vec_capacity c.args.writes.now) same c.requires in
    let both : length (few ++ many) ≡ length few + length many = length-append few many in
    omega (arith, room, both, c.push_few.ensures.len, c.push_few.ensures.room)

pub returns-clause-writes : goal.returns-clause-writes
returns-clause-writes c =
    let few = c.self.inside.few.items in
    let many = c.self.inside.many.entries in
    let table = c.args.table in
    let before = c.args.writes.now.items in
    let same : entries c.args.self ≡ few ++ many = ap entries (sym c.self.view_is) ∙ entries_of_sorted key_cmp key_cmp-total key_cmp-exact (few ++ many) c.self.invariant in
    c.push_each.ensures.writes ∙ ap (λ (writes : List Write). writes ++ net_writes (in_table table many)) c.push_few.ensures.writes
    ∙ append_assoc before (net_writes (in_table table few)) (net_writes (in_table table many))
    ∙ ap (λ writes. before ++ writes) (sym (net_append (in_table table few) (in_table table many)))
    ∙ ap (λ own. before ++ net_writes own) (sym (map-append (λ entry. ((table, entry.0), entry.1)) few many) ∙ ap (in_table table) (sym same))

pub returns-clause-len : goal.returns-clause-len
returns-clause-len c =
    let few = c.self.inside.few.items in
    let many = c.self.inside.many.entries in
    let same : entries c.args.self ≡ few ++ many = ap entries (sym c.self.view_is) ∙ entries_of_sorted key_cmp key_cmp-total key_cmp-exact (few ++ many) c.self.invariant in
    let all : length (entries c.args.self) ≡ length (few ++ many) = ap length same in
    let both : length (few ++ many) ≡ length few + length many = length-append few many in
    omega (arith, all, both, c.push_few.ensures.len, c.push_each.ensures.len)
