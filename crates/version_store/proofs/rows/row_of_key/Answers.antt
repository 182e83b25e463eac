use Rattle.std.proofs.Common.{◌≡◌, ◌∙◌, ◌+◌, suc, refl, ap, sym, arith, drop, [], ◌∷◌}
use Rattle.std.specs.FinMap.{get, get-empty}
use Rattle.std.proofs.lemmas.List.{drop_all, length-map}
use Rattle.rel_base.specs.Tables.{no_tables, ref_cmp, set_stamped, writes_up_to}
use Rattle.rel_base.proofs.Lists.{drop_next}
use Rattle.row_sets.specs.Log.{history_of, stamped_of}
use Rattle.version_store.proofs.Found.{set_more}
use Rattle.version_store.proofs.Leasts.{get_history}
use Rattle.version_store.proofs.rows.row_of_key.Goals as goal

-- before the first write there is no row
pub loop-number-init : goal.loop-number-init
loop-number-init c = (no_tables, sym (get-empty ref_cmp (c.args.table, c.args.key.now)), refl)

-- one write more
pub loop-number-preserved : goal.loop-number-preserved
loop-number-preserved c =
    let history = history_of c.args.log.now in
    let number = c.loop-number.number in
    let x = stamped_of c.entry_at.result.now in
    let there = get_history c.args.log.now number c.entry_at.result.now c.entry_at.ensures in
    let tables = c.loop-number.invariant.0 in
    let next : number + 1 ≡ suc number = omega arith in (
      set_stamped tables (writes_up_to c.args.height (x ∷ [])),
      c.after_write-row.ensures tables c.loop-number.invariant.1,
      ap (λ n. set_stamped (set_stamped tables (writes_up_to c.args.height (x ∷ []))) (writes_up_to c.args.height (drop n history))) next
          ∙ set_more tables c.args.height x (drop (suc number) history) ∙ ap (λ xs. set_stamped tables (writes_up_to c.args.height xs)) (sym (drop_next history number x there)) ∙ c.loop-number.invariant.2,
    )

-- none is left
pub returns : goal.returns
returns c =
    let past = c.loop-number-test.false in
    let same = length-map c.args.log.now stamped_of in
    let tables = c.loop-number.invariant.0 in
    c.loop-number.invariant.1
    ∙ ap (λ made. get made (c.args.table, c.args.key.now))
    (ap (λ xs. set_stamped tables (writes_up_to c.args.height xs)) (sym (drop_all c.loop-number.number (history_of c.args.log.now) (omega (arith, past, same)))) ∙ c.loop-number.invariant.2)
