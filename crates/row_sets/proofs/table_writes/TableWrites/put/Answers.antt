use Rattle.std.proofs.Common.{◌≡◌, ◌++◌, ap, sym, subst, ◌∙◌, IfOk, T, is_some, not, length}
use Rattle.std.specs.FinMap.{from_entries, get, get-from_entries}
use Rattle.std.specs.FinMap.Entries.{find, is_sorted, is_sorted-put}
use Rattle.rel_base.specs.Value.{key_cmp, key_cmp-total}
use Rattle.row_sets.specs.Few.{put_over}
use Rattle.row_sets.specs.Overlay.{put_own}
use Rattle.row_sets.proofs.Endings.{either_way, on_ok_then}
use Rattle.row_sets.proofs.Entries.{sorted_from_keys}
use Rattle.row_sets.proofs.Few.{alone, put_is_own}
use Rattle.row_sets.proofs.table_writes.TableWrites.put.Goals as goal

-- all writes stand in the vector
pub invariant_of-self : goal.invariant_of-self
invariant_of-self c =
    let few = c.self.inside.few.items in
    let new = c.put_few.new.few.items in
    let many = c.self.inside.many.entries in
    let none : length many ≡ 0 = c.is_empty.ensures.0 c.if-is_empty.true in
    let sorted : T (is_sorted key_cmp few) = subst (λ own. T (is_sorted key_cmp own)) (alone few many none) c.self.invariant in
    subst (λ own. T (is_sorted key_cmp own)) (sym (alone new many none))
    (either_way c.put_few.result (λ put. subst (λ own. T (is_sorted key_cmp own)) (sym put)
    (is_sorted-put key_cmp key_cmp-total c.args.key (put_over c.args.before c.args.after (find key_cmp c.args.key few)) few sorted))
    (λ same. subst (λ own. T (is_sorted key_cmp own)) (sym same) sorted) c.put_few.ensures.put c.put_few.ensures.unchanged)

pub returns-then-len-lt-MOST_FEW-clause-put : goal.returns-then-len-lt-MOST_FEW-clause-put
returns-then-len-lt-MOST_FEW-clause-put c =
    let few = c.self.inside.few.items in
    let new = c.put_few.new.few.items in
    let many = c.self.inside.many.entries in
    let none : length many ≡ 0 = c.is_empty.ensures.0 c.if-is_empty.true in
    let all : from_entries {R = key_cmp} few ≡ c.args.self.now = ap (from_entries {R = key_cmp}) (sym (alone few many none)) ∙ c.self.view_is in
    on_ok_then c.put_few.result (λ put. ap (from_entries {R = key_cmp}) (alone new many none ∙ put)
    ∙ put_is_own c.args.key c.args.before c.args.after few
    ∙ ap (λ own. put_own own c.args.key c.args.before c.args.after) all) c.put_few.ensures.put

pub returns-then-len-lt-MOST_FEW-clause-first : goal.returns-then-len-lt-MOST_FEW-clause-first
returns-then-len-lt-MOST_FEW-clause-first c =
    let few = c.self.inside.few.items in
    let many = c.self.inside.many.entries in
    let none : length many ≡ 0 = c.is_empty.ensures.0 c.if-is_empty.true in
    let got : get c.args.self.now c.args.key ≡ find key_cmp c.args.key few =
    ap (λ own. get own c.args.key) (sym c.self.view_is) ∙ get-from_entries key_cmp-total (few ++ many) c.args.key ∙ ap (find key_cmp c.args.key) (alone few many none) in
    subst (λ own. IfOk c.put_few.result (λ first. first ≡ not (is_some own))) (sym got) c.put_few.ensures.first

-- all stand in the map
pub invariant_of-self-2 : goal.invariant_of-self-2
invariant_of-self-2 c =
    let many = c.put_many.new.many.entries in
    subst (λ own. T (is_sorted key_cmp (own ++ many))) (sym c.in_ok-move_all.ensures.all) (sorted_from_keys key_cmp many c.put_many.ensures.ordered)
