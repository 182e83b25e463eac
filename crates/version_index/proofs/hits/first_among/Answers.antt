use Rattle.std.proofs.Common.{◌≡◌, ◌∙◌, Some, arith, cond, subst, sym}
use Rattle.std.proofs.lemmas.List.Elements.{All-contains}
use Rattle.rel_base.specs.Access.{WriteFits, read_table}
use Rattle.rel_base.proofs.Lists.{nil_of}
use Rattle.row_sets.specs.Log.{stamped_of}
use Rattle.version_index.specs.View.{history_in}
use Rattle.version_index.proofs.Logged.{contains_got, get_history}
use Rattle.version_index.proofs.Watching.{HitWalk, hit_back, hit_below, hit_end, hit_start, hit_stop, read_fits_table}
use Rattle.version_index.proofs.hits.first_among.Goals as goal

pub loop-number-init : goal.loop-number-init
loop-number-init c = hit_start c.args.watch.now c.args.view.now c.args.numbers.now c.args.found c.requires.numbers

pub entry_at-entry-requires : goal.entry_at-entry-requires
entry_at-entry-requires c =
    let low = hit_below c.args.watch.now c.args.view.now c.args.numbers.now c.loop-number.left.now c.args.found c.loop-number.first c.loop-number.invariant c.in-Some.number.now c.in-Some.earlier.now c.in-Some.ensures.cases.0 in
    let within = c.requires.view.within in
    omega (arith, low, within)

pub is_hit-requires-clause-write_fits : goal.is_hit-requires-clause-write_fits
is_hit-requires-clause-write_fits c =
    let view = c.args.view.now in
    let watch = c.args.watch.now in
    let entry = c.entry_at-entry.result.now in
    let there = get_history view.entries.now c.in-Some.number.now entry c.entry_at-entry.ensures in
    λ same. All-contains (λ s. s.1.write.table ≡ read_table watch.read.now → WriteFits watch.def.now s.1.write) (history_in view) (stamped_of entry)
    (read_fits_table watch.def.now watch.read.now view c.requires.watch) (contains_got (history_in view) c.in-Some.number.now (stamped_of entry) there) (sym same)

-- what is left is in no block above the height
pub returns-then-entry-watch : goal.returns-then-entry-watch
returns-then-entry-watch c =
    hit_stop c.args.watch.now c.args.view.now c.args.numbers.now c.loop-number.left.now c.args.found c.loop-number.first c.loop-number.invariant c.in-Some.number.now c.in-Some.earlier.now c.in-Some.ensures.cases.0
    c.entry_at-entry.result.now c.requires.view.in_order c.entry_at-entry.ensures c.if-entry-watch.true

pub loop-number-preserved : goal.loop-number-preserved
loop-number-preserved c =
    let watch = c.args.watch.now in
    let last = c.in-Some.number.now in
    let first = c.loop-number.first in
    subst (HitWalk watch c.args.view.now c.args.numbers.now c.in-Some.earlier.now c.args.found)
    (sym (c.first_of-first.ensures ∙ (λ i. cond (c.is_hit.ensures i) (Some (c.least_with.ensures i)) first)))
    (hit_back watch c.args.view.now c.args.numbers.now c.loop-number.left.now c.args.found first c.loop-number.invariant last c.in-Some.earlier.now c.in-Some.ensures.cases.0 c.entry_at-entry.result.now c.entry_at-entry.ensures)

pub returns : goal.returns
returns c =
    hit_end c.args.watch.now c.args.view.now c.args.numbers.now c.loop-number.left.now c.args.found c.loop-number.first c.loop-number.invariant (nil_of c.loop-number.left.now c.in_default.ensures.cases)
