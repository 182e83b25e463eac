use Rattle.std.proofs.Common.{rules, is_lt, ap, ◌∙◌}
use Rattle.std.proofs.lemmas.List.Sorted.{ranks_by}
use Rattle.std.proofs.lemmas.Fn.{always_returns_same}
use Rattle.rel_base.specs.Value.{key_cmp-total}
use Rattle.query_plan.proofs.Sorting.{sorted_is}
use Rattle.query_plan.specs.Answer.{in_order, named, row_cmp}
use Rattle.query_plan.proofs.order.in_order.Goals as goal

pub returns : goal.returns
returns c =
    let order = c.args.order.now in
    c.from_vec.ensures
    ∙ sorted_is (λ a b. is_lt (row_cmp order a b)) (ranks_by key_cmp-total (named order)) c.into_vec-rows.result.items c.sort_by.new.self.items
    (c.in_ok-sort_by.ensures.sorted (λ a b. is_lt (row_cmp order a b)) (ranks_by key_cmp-total (named order)) (always_returns_same _ _ _ (λ a r f k. search rules)))
    (c.sort_by.ensures.stable (λ a b. is_lt (row_cmp order a b)) (ranks_by key_cmp-total (named order)) (always_returns_same _ _ _ (λ a r f k. search rules)))
    ∙ ap (in_order order) c.into_vec-rows.ensures
