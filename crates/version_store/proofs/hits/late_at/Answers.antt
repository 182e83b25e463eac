use Rattle.std.proofs.Common.{◌≡◌, ◌∙◌, ◌<◌, sym, ap, subst, Some, length}
use Rattle.std.specs.Option.{IfSome, option_map}
use Rattle.rel_base.specs.Access.{read_table}
use Rattle.rel_base.specs.Among.{WriteFitsIn}
use Rattle.rel_base.specs.Late.{least_hit}
use Rattle.rel_base.specs.Tables.{Stamped, writes_between}
use Rattle.row_sets.proofs.Histories.{table_fits}
use Rattle.row_sets.specs.Versions.{hit_by}
use Rattle.row_sets.specs.Log.{history_of, stamped_of}
use Rattle.version_store.specs.Log.{IsOfTable, write_of}
use Rattle.version_store.proofs.Leasts.{all_below, all_got, get_history, least_declared, table_of_got}
use Rattle.version_store.proofs.hits.late_at.Goals as goal

pub least_at-requires-clause-fits : goal.least_at-requires-clause-fits
least_at-requires-clause-fits c = table_fits c.args.defs.now c.def_of-def.result.now (read_table c.args.read.now) (history_of c.args.log.now) c.def_of-def.ensures.declared c.requires.fits

pub entry_at-requires : goal.entry_at-requires
entry_at-requires c =
    subst (λ found. IfSome found (λ number. number < length c.args.log.now)) c.in-Some.is (all_below c.args.log.now (read_table c.args.read.now) c.least_at.result c.least_at.ensures.on_table)

pub hit_ref-requires-clause-on_table : goal.hit_ref-requires-clause-on_table
hit_ref-requires-clause-on_table c =
    table_of_got c.args.log.now (read_table c.args.read.now) c.in-Some.number c.entry_at.result.now c.entry_at.ensures
    (subst (λ found. IfSome found (IsOfTable c.args.log.now (read_table c.args.read.now))) c.in-Some.is c.least_at.ensures.on_table)

pub hit_ref-requires-clause-write_fits : goal.hit_ref-requires-clause-write_fits
hit_ref-requires-clause-write_fits c =
    all_got (λ (s : Stamped). WriteFitsIn c.args.defs.now s.1.write) (history_of c.args.log.now) c.in-Some.number (stamped_of c.entry_at.result.now)
    (get_history c.args.log.now c.in-Some.number c.entry_at.result.now c.entry_at.ensures) c.requires.fits

-- the write that was found is the least hit
pub returns-in-Some : goal.returns-in-Some
returns-in-Some c =
    let history = history_of c.args.log.now in
    let is : Some (stamped_of c.entry_at.result.now) ≡ least_hit c.args.defs.now c.args.read.now (writes_between c.args.after c.args.upto history) =
    sym (get_history c.args.log.now c.in-Some.number c.entry_at.result.now c.entry_at.ensures) ∙ ap (write_of history) (sym c.in-Some.is) ∙ c.least_at.ensures.least
    ∙ sym (least_declared c.args.defs.now c.def_of-def.result.now c.args.read.now (writes_between c.args.after c.args.upto history) c.def_of-def.ensures.declared) in
    ap Some c.hit_ref.ensures ∙ ap (option_map (hit_by c.args.defs.now c.args.read.now)) is

pub returns-in-None : goal.returns-in-None
returns-in-None c =
    let history = history_of c.args.log.now in
    ap (option_map (hit_by c.args.defs.now c.args.read.now)) (ap (write_of history) (sym c.in-None.is) ∙ c.least_at.ensures.least
    ∙ sym (least_declared c.args.defs.now c.def_of-def.result.now c.args.read.now (writes_between c.args.after c.args.upto history) c.def_of-def.ensures.declared))
