use Rattle.std.proofs.Common.{◌≡◌, ◌∙◌, ap, sym, cond, Some}
use Rattle.rel_base.specs.Access.{WriteFits, read_table}
use Rattle.rel_base.specs.Late.{lesser, stamp_cmp}
use Rattle.rel_base.specs.Tables.{Stamped}
use Rattle.row_sets.proofs.Histories.{unwrapped}
use Rattle.row_sets.specs.Log.{history_of, stamped_of}
use Rattle.row_sets.specs.Watched.{is_watched}
use Rattle.version_store.specs.Log.{write_of}
use Rattle.version_store.proofs.Leasts.{all_below, all_got, either_of_table, get_history, hit_table}
use Rattle.version_store.proofs.hits.least_with.Goals as goal

pub is_hit-requires-clause-write_fits : goal.is_hit-requires-clause-write_fits
is_hit-requires-clause-write_fits c same =
    all_got (λ (s : Stamped). s.1.write.table ≡ read_table c.args.watch.now.read.now → WriteFits c.args.watch.now.def.now s.1.write) (history_of c.args.log.now) c.args.number (stamped_of c.entry_at.result.now)
    (get_history c.args.log.now c.args.number c.entry_at.result.now c.entry_at.ensures) c.requires.fits (sym same)

pub lesser_of-requires-clause-other : goal.lesser_of-requires-clause-other
lesser_of-requires-clause-other c = all_below c.args.log.now (read_table c.args.watch.now.read.now) c.args.least c.requires.on_table

pub returns-then-is_hit-clause-on_table : goal.returns-then-is_hit-clause-on_table
returns-then-is_hit-clause-on_table c =
    let watch = c.args.watch.now in
    let entry = c.entry_at.result.now in
    either_of_table c.args.log.now (read_table watch.read.now) c.args.number c.lesser_of.result c.args.least entry c.entry_at.ensures
    (hit_table watch entry (sym c.is_hit.ensures ∙ c.if-is_hit.true)) c.requires.on_table c.lesser_of.ensures.either

pub returns-then-is_hit-clause-least : goal.returns-then-is_hit-clause-least
returns-then-is_hit-clause-least c x here =
    let history = history_of c.args.log.now in
    let same = unwrapped (stamped_of c.entry_at.result.now) x (sym (get_history c.args.log.now c.args.number c.entry_at.result.now c.entry_at.ensures) ∙ here) in
    let hit = ap (is_watched c.args.watch.now) (sym same) ∙ sym c.is_hit.ensures ∙ c.if-is_hit.true in
    c.lesser_of.ensures.lesser x here ∙ sym (ap (λ b. cond b (Some (lesser stamp_cmp x (write_of history c.args.least))) (write_of history c.args.least)) hit)

pub returns-else-is_hit-clause-least : goal.returns-else-is_hit-clause-least
returns-else-is_hit-clause-least c x here =
    let history = history_of c.args.log.now in
    let same = unwrapped (stamped_of c.entry_at.result.now) x (sym (get_history c.args.log.now c.args.number c.entry_at.result.now c.entry_at.ensures) ∙ here) in
    let miss = ap (is_watched c.args.watch.now) (sym same) ∙ sym c.is_hit.ensures ∙ c.if-is_hit.false in
    sym (ap (λ b. cond b (Some (lesser stamp_cmp x (write_of history c.args.least))) (write_of history c.args.least)) miss)
