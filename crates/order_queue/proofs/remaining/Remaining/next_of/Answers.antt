use Rattle.std.proofs.Common.{◌≡◌, ◌-◌, [], ℕ, length, ap, sym, ◌∙◌, arith, slice_index_or, set}
use Rattle.std.specs.Vec.Iter.{into_iter_items}
use Rattle.std.proofs.lemmas.List.{length-map, get_or-map, map-set}
use Rattle.order_queue.proofs.remaining.Remaining.next_of.Goals as goal

pub returns : goal.returns
returns c =
    let i : ℕ = c.args.client - 1 in
    let lists = c.self.inside.lists.items in
    let size : length lists ≡ length c.args.self.now = sym (length-map lists into_iter_items) ∙ ap length c.self.view_is in
    let some = c.requires.client in
    let at : slice_index_or c.args.self.now i [] ≡ into_iter_items c.index_mut.result.now =
    ap (λ l. slice_index_or l i []) (sym c.self.view_is) ∙ (get_or-map into_iter_items lists i c.index_mut.result.now [] (omega arith) ∙ ap into_iter_items (sym c.index_mut.ensures.value)) in
    record { taken = (into_iter_items c.next.new.self, at ∙ c.in-Some.ensures.items, map-set into_iter_items lists i c.next.new.self ∙ ap (λ l. set l i (into_iter_items c.next.new.self)) c.self.view_is) }
