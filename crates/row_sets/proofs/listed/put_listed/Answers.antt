use Rattle.std.proofs.Common.{◌≡◌, ◌∙◌, Err, Ok, ap, arith, length, sym}
use Rattle.std.proofs.lemmas.List.{length-map}
use Rattle.rel_base.specs.Tables.{ref_cmp, ref_cmp-total}
use Rattle.row_sets.specs.Few.{place_in}
use Rattle.row_sets.specs.Listed.{listed}
use Rattle.row_sets.proofs.Listing.{Ref, entry, insert_listed, set_listed}
use Rattle.row_sets.proofs.Places.{found_at, missed_at}
use Rattle.row_sets.proofs.listed.put_listed.Goals as goal

pub index_mut-requires : goal.index_mut-requires
index_mut-requires c =
    let writes = c.args.writes.now.items in
    let ref : Ref = (c.args.table, c.args.key) in
    let here = c.as_slice.ensures.value in
    let at : place_in ref_cmp 0 ref (listed writes) ≡ Ok c.in-Ok.place = ap (λ ws. place_in ref_cmp 0 ref (listed ws)) (sym here) ∙ sym c.search.ensures ∙ c.in-Ok.is in
    let there = found_at ref_cmp ref_cmp-total ref (listed writes) c.in-Ok.place at in
    let within = there.within in
    let same = ap length here in
    let all : length (listed writes) ≡ length writes = length-map writes entry in
    omega (arith, within, all, same, c.as_slice.ensures.len)

pub insert-requires : goal.insert-requires
insert-requires c =
    let writes = c.args.writes.now.items in
    let ref : Ref = (c.args.table, c.args.key) in
    let here = c.as_slice.ensures.value in
    let at : place_in ref_cmp 0 ref (listed writes) ≡ Err c.in-Err.place = ap (λ ws. place_in ref_cmp 0 ref (listed ws)) (sym here) ∙ sym c.search.ensures ∙ c.in-Err.is in
    let there = missed_at ref_cmp ref_cmp-total ref (listed writes) c.in-Err.place c.requires at in
    let within = there.within in
    let same = ap length here in
    let all : length (listed writes) ≡ length writes = length-map writes entry in
    omega (arith, within, all, same, c.as_slice.ensures.len)

-- a key that was written keeps its row before
pub returns-in-Ok-clause-put : goal.returns-in-Ok-clause-put
returns-in-Ok-clause-put c =
    let writes = c.args.writes.now.items in
    let ref : Ref = (c.args.table, c.args.key) in
    let at : place_in ref_cmp 0 ref (listed writes) ≡ Ok c.in-Ok.place = ap (λ ws. place_in ref_cmp 0 ref (listed ws)) (sym c.as_slice.ensures.value) ∙ sym c.search.ensures ∙ c.in-Ok.is in
    let there = found_at ref_cmp ref_cmp-total ref (listed writes) c.in-Ok.place at in
    set_listed writes c.in-Ok.place c.index_mut.result.now ref c.args.before c.args.after (sym c.index_mut.ensures.value) there

-- a key that was not written
pub returns-in_ok-insert-in-Err-clause-put : goal.returns-in_ok-insert-in-Err-clause-put
returns-in_ok-insert-in-Err-clause-put c =
    let writes = c.args.writes.now.items in
    let ref : Ref = (c.args.table, c.args.key) in
    let at : place_in ref_cmp 0 ref (listed writes) ≡ Err c.in-Err.place = ap (λ ws. place_in ref_cmp 0 ref (listed ws)) (sym c.as_slice.ensures.value) ∙ sym c.search.ensures ∙ c.in-Err.is in
    let there = missed_at ref_cmp ref_cmp-total ref (listed writes) c.in-Err.place c.requires at in
    ap listed c.in_ok-insert-in-Err.ensures.items ∙ insert_listed writes c.in-Err.place c.args.table c.args.key c.args.before c.args.after there
