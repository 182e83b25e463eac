use Rattle.std.specs.Prelude.{◌≡◌, ◌+◌, ℕ, get_or, vec_items, slice_index}
use Rattle.std.proofs.Common.{rules, arith, ap, sym, ◌∙◌, subst, below_more, ◌∷◌, [], ◌++◌, length}
use Rattle.std.proofs.Math.ListN.{get_or-append}
use Rattle.std.proofs.Math.Seq.{get_or-append_seam}
use Rattle.order_queue.specs.Works.{WorksFor}
use Rattle.order_queue.proofs.threads.fn.run_clients.scope.Goals.{in-Ok, in-Err}
use Rattle.order_queue.proofs.threads.fn.run_clients.scope.Goals as goal

pub loop-i-preserved : goal.loop-i-preserved
loop-i-preserved g c = (
  search rules,
  search rules,
  search rules,
  search rules,
  search rules,
  λ k d below.
      let z = c.captures.shared.now.queue.table.shared.table_id in
      let i : ℕ = c.loop-i.i in
      let counts = c.captures.counts.now in
      let all = vec_items c.push_reserved.new.self in
      let size : length c.loop-i.works.items ≡ i = search rules in
      let grown : all ≡ c.loop-i.works.items ++ c.match-start.work ∷ [] = c.push_reserved.ensures.items in
      let ok : WorksFor z (i + 1) (slice_index counts i) c.match-start.work = elim c.match-start.branch [ in-Ok w ↦ rw w.work-is (search rules, search rules, search rules) | in-Err w ↦ rw w.work-is (search rules, search rules, search rules) ] in
      below_more (λ (j : ℕ). WorksFor z (j + 1) (slice_index counts j) (get_or all j d)) i
      (λ j low. let same : get_or all j d ≡ get_or (vec_items c.loop-i.works) j d = ap (λ l. get_or l j d) grown ∙ get_or-append c.loop-i.works.items (c.match-start.work ∷ []) d j (omega arith) in subst (λ p. WorksFor z (j + 1) (slice_index counts j) p) (sym same) (c.loop-i.invariant.5 j d (omega arith)))
      (let last : get_or all i d ≡ c.match-start.work = ap (λ l. get_or l i d) grown ∙ (ap (λ (j : ℕ). get_or (c.loop-i.works.items ++ c.match-start.work ∷ []) j d) (sym size) ∙ get_or-append_seam c.loop-i.works.items c.match-start.work [] d) in subst (λ p. WorksFor z (i + 1) (slice_index counts i) p) (sym last) ok)
      k (omega arith),
)
