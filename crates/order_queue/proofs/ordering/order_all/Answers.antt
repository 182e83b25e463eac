use Rattle.std.proofs.Common.{◌≡◌, ◌==◌, ◌+◌, ◌<◌, [], length, map, slice_index, slice_index_or, ap, sym, ◌∙◌, subst}
use Rattle.std.specs.List.{count_by, sum_by}
use Rattle.std.proofs.lemmas.List.{length-map, get_or-map}
use Rattle.order_queue.proofs.Filled.{filled_count}
use Rattle.order_queue.proofs.ordering.order_all.Goals as goal

pub deal-requires-clause-counts : goal.deal-requires-clause-counts
deal-requires-clause-counts g c = λ k below.
    let clients = c.args.clients in
    let remaining = c.in_ok-remaining.ensures.all in
    let counts : c.as_slice-2.result.now ≡ map length clients = c.as_slice-2.ensures.value ∙ (c.in_ok-counts.ensures.counts ∙ ap (map length) c.as_slice.ensures) in
    let few : k < length clients = subst (λ l. k < length l) remaining below in
    let inside : k < length c.as_slice-2.result.now = subst (λ n. k < n) (sym (ap length counts ∙ length-map clients length)) few in
    ap (count_by (λ client. client == k + 1)) c.as_slice-3.ensures.value
    ∙ (c.in_ok-from.ensures.counts k inside
    ∙ (ap (λ l. slice_index l k) counts
    ∙ (get_or-map length clients k [] 0 few
    ∙ ap (λ l. length (slice_index_or l k [])) (sym remaining))))

pub returns-clause-count : goal.returns-clause-count
returns-clause-count g c =
    filled_count c.args.most c.in_ok-blocks.blocks (sum_by length c.args.clients) c.requires.most.0 c.in_ok-blocks.ensures.filled (c.in_ok-blocks.ensures.all ∙ ap (sum_by length) c.in_ok-remaining.ensures.all)
