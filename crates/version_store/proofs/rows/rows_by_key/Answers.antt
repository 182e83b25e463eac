use Rattle.std.proofs.Common.{◌≡◌, ◌∙◌, ◌+◌, suc, refl, ap, sym, subst, arith, drop, [], ◌∷◌}
use Rattle.std.proofs.lemmas.List.{drop_all, length-map}
use Rattle.rel_base.specs.Access.{WriteFits, read_table}
use Rattle.rel_base.specs.Tables.{Stamped, no_tables, set_stamped, writes_up_to}
use Rattle.rel_base.proofs.Lists.{drop_next}
use Rattle.row_sets.specs.Log.{history_of, stamped_of}
use Rattle.version_store.specs.Rows.{AreRows}
use Rattle.version_store.proofs.Found.{rows_of_none, set_more}
use Rattle.version_store.proofs.Leasts.{all_got, get_history}
use Rattle.version_store.proofs.rows.rows_by_key.Goals as goal

-- before the first write there are no rows
pub loop-number-init : goal.loop-number-init
loop-number-init c = (no_tables, subst (AreRows c.args.def.now c.args.read.now no_tables) (sym c.new-rows.ensures.empty) (rows_of_none c.args.def.now c.args.read.now), refl)

pub go_on-requires-clause-write_fits : goal.go_on-requires-clause-write_fits
go_on-requires-clause-write_fits c =
    all_got (λ (s : Stamped). s.1.write.table ≡ read_table c.args.read.now → WriteFits c.args.def.now s.1.write) (history_of c.args.log.now) c.loop-number.number (stamped_of c.entry_at.result.now)
    (get_history c.args.log.now c.loop-number.number c.entry_at.result.now c.entry_at.ensures) c.requires.fits

-- one write more
pub loop-number-preserved : goal.loop-number-preserved
loop-number-preserved c =
    let history = history_of c.args.log.now in
    let number = c.loop-number.number in
    let x = stamped_of c.entry_at.result.now in
    let there = get_history c.args.log.now number c.entry_at.result.now c.entry_at.ensures in
    let tables = c.loop-number.invariant.0 in
    let next : number + 1 ≡ suc number = omega arith in (
      set_stamped tables (writes_up_to c.args.height (x ∷ [])),
      c.in_ok-go_on.ensures tables c.loop-number.invariant.1,
      ap (λ n. set_stamped (set_stamped tables (writes_up_to c.args.height (x ∷ []))) (writes_up_to c.args.height (drop n history))) next
          ∙ set_more tables c.args.height x (drop (suc number) history) ∙ ap (λ xs. set_stamped tables (writes_up_to c.args.height xs)) (sym (drop_next history number x there)) ∙ c.loop-number.invariant.2,
    )

-- none is left
pub returns : goal.returns
returns c =
    let past = c.loop-number-test.false in
    let same = length-map c.args.log.now stamped_of in
    let tables = c.loop-number.invariant.0 in
    subst (λ made. AreRows c.args.def.now c.args.read.now made c.loop-number.rows.entries)
    (ap (λ xs. set_stamped tables (writes_up_to c.args.height xs)) (sym (drop_all c.loop-number.number (history_of c.args.log.now) (omega (arith, past, same)))) ∙ c.loop-number.invariant.2) c.loop-number.invariant.1
