use Rattle.std.proofs.Common.{◌≡◌, ap, sym, ◌∙◌, length, arith, not, is_some, Some, None, Ok, Err}
use Rattle.std.specs.Prelude.{slice_index_or, slice_set}
use Rattle.std.specs.FinMap.Entries.{find, put}
use Rattle.rel_base.specs.Value.{key_cmp}
use Rattle.row_sets.specs.Few.{place_from, put_over}
use Rattle.row_sets.proofs.Few.{found_at, missed_at}
use Rattle.row_sets.proofs.few_writes.put_few.Goals as goal

pub index_mut-requires : goal.index_mut-requires
index_mut-requires c =
    let es = c.args.few.now.items in
    let here = c.as_slice.ensures.value in
    let at : place_from 0 c.args.key es ≡ Ok c.in-Ok.place = ap (place_from 0 c.args.key) (sym here) ∙ sym c.search.ensures ∙ c.in-Ok.is in
    let there = found_at c.args.key es c.in-Ok.place at in
    let within = there.within in
    let same = ap length here in
    omega (arith, within, same, c.as_slice.ensures.len)

pub insert-requires : goal.insert-requires
insert-requires c =
    let es = c.args.few.now.items in
    let here = c.as_slice.ensures.value in
    let at : place_from 0 c.args.key es ≡ Err c.in-Err.place = ap (place_from 0 c.args.key) (sym here) ∙ sym c.search.ensures ∙ c.in-Err.is in
    let there = missed_at c.args.key es c.in-Err.place c.requires at in
    let within = there.within in
    let same = ap length here in
    omega (arith, within, same, c.as_slice.ensures.len)

-- a key that was written keeps its row before
pub returns-in-Ok-clause-put : goal.returns-in-Ok-clause-put
returns-in-Ok-clause-put c =
    let es = c.args.few.now.items in
    let at : place_from 0 c.args.key es ≡ Ok c.in-Ok.place = ap (place_from 0 c.args.key) (sym c.as_slice.ensures.value) ∙ sym c.search.ensures ∙ c.in-Ok.is in
    let there = found_at c.args.key es c.in-Ok.place at in
    let held = c.index_mut.result.now in
    let is : slice_index_or es c.in-Ok.place held ≡ held = sym c.index_mut.ensures.value in
    let new : put_over c.args.before c.args.after (find key_cmp c.args.key es) ≡ put_over c.args.before c.args.after (Some held.1) =
    ap (put_over c.args.before c.args.after) (there.found held ∙ ap (λ entry. Some entry.1) is) in
    sym (there.puts held (put_over c.args.before c.args.after (find key_cmp c.args.key es)) ∙ (λ i. slice_set es c.in-Ok.place ((is i).0, new i)))

pub returns-in-Ok-clause-first : goal.returns-in-Ok-clause-first
returns-in-Ok-clause-first c =
    let es = c.args.few.now.items in
    let at : place_from 0 c.args.key es ≡ Ok c.in-Ok.place = ap (place_from 0 c.args.key) (sym c.as_slice.ensures.value) ∙ sym c.search.ensures ∙ c.in-Ok.is in
    let there = found_at c.args.key es c.in-Ok.place at in
    sym (ap (λ own. not (is_some own)) (there.found c.index_mut.result.now))

-- a key that was not written
pub returns-in_ok-insert-in-Err-clause-put : goal.returns-in_ok-insert-in-Err-clause-put
returns-in_ok-insert-in-Err-clause-put c =
    let es = c.args.few.now.items in
    let at : place_from 0 c.args.key es ≡ Err c.in-Err.place = ap (place_from 0 c.args.key) (sym c.as_slice.ensures.value) ∙ sym c.search.ensures ∙ c.in-Err.is in
    let there = missed_at c.args.key es c.in-Err.place c.requires at in
    c.in_ok-insert-in-Err.ensures.items ∙ sym (there.puts (put_over c.args.before c.args.after None))
    ∙ ap (λ own. put key_cmp c.args.key (put_over c.args.before c.args.after own) es) (sym there.missing)

pub returns-in_ok-insert-in-Err-clause-first : goal.returns-in_ok-insert-in-Err-clause-first
returns-in_ok-insert-in-Err-clause-first c =
    let es = c.args.few.now.items in
    let at : place_from 0 c.args.key es ≡ Err c.in-Err.place = ap (place_from 0 c.args.key) (sym c.as_slice.ensures.value) ∙ sym c.search.ensures ∙ c.in-Err.is in
    let there = missed_at c.args.key es c.in-Err.place c.requires at in
    sym (ap (λ own. not (is_some own)) there.missing)
