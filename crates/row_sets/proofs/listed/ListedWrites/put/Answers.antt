use Rattle.std.proofs.Common.{◌∙◌, T, ap, subst, sym}
use Rattle.std.specs.FinMap.{from_entries}
use Rattle.std.specs.FinMap.Entries.{find, is_sorted, is_sorted-put}
use Rattle.rel_base.specs.Tables.{ref_cmp, ref_cmp-total, ref_cmp-exact}
use Rattle.row_sets.specs.Few.{put_over}
use Rattle.row_sets.specs.Listed.{listed}
use Rattle.row_sets.specs.Overlay.{put_own}
use Rattle.row_sets.proofs.Listing.{Ref}
use Rattle.row_sets.proofs.Endings.{either_way, on_ok_then}
use Rattle.row_sets.proofs.Few.{own_put}
use Rattle.row_sets.proofs.listed.ListedWrites.put.Goals as goal

pub invariant_of-self : goal.invariant_of-self
invariant_of-self c =
    let old = listed c.self.inside.writes.items in
    let ref : Ref = (c.args.table, c.args.key) in
    either_way c.put_listed.result
    (λ put. subst (λ own. T (is_sorted ref_cmp own)) (sym put) (is_sorted-put ref_cmp ref_cmp-total ref (put_over c.args.before c.args.after (find ref_cmp ref old)) old c.self.invariant))
    (λ same. subst (λ own. T (is_sorted ref_cmp (listed own))) (sym same) c.self.invariant)
    c.put_listed.ensures.put c.put_listed.ensures.unchanged

pub returns-clause-put : goal.returns-clause-put
returns-clause-put c =
    let old = listed c.self.inside.writes.items in
    let ref : Ref = (c.args.table, c.args.key) in
    on_ok_then c.put_listed.result
    (λ put. ap (from_entries {R = ref_cmp}) put ∙ own_put ref_cmp ref_cmp-total ref_cmp-exact ref c.args.before c.args.after old ∙ ap (λ own. put_own own ref c.args.before c.args.after) c.self.view_is)
    c.put_listed.ensures.put
