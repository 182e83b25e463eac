-- The run of a call on the tables of a history that fits.
use Rattle.std.proofs.Common.{List, [], arith, refl, subst, sym, true, ◌≡◌, ◌∷◌}
use Rattle.std.specs.List.{AllPairs}
use Rattle.std.specs.Ordering.{is_lt}
use Rattle.std.specs.Prelude.{IsTrue, suc, ℤ}
use Rattle.std.specs.declared.cmp.Ordering.TheVariants.{Less}
use Rattle.block_work.specs.Causes.{RunFits}
use Rattle.block_work.specs.Chain.{StoreFits}
use Rattle.block_work.specs.Laws.{RunsFit}
use Rattle.node_model.specs.declared.result.BlockResult.{BlockResult}
use Rattle.proc_syntax.proofs.Runs.{few_reads, few_writes, reads_fit, writes_fit, writes_in_order}
use Rattle.proc_syntax.specs.Declaring.{tables_of}
use Rattle.proc_syntax.specs.Run.{run}
use Rattle.proc_syntax.specs.declared.call.Tx.{Tx}
use Rattle.proc_syntax.specs.declared.tree.App.{App}
use Rattle.rel_base.specs.Among.{TablesFit}
use Rattle.rel_base.specs.Tables.{HistoryFits, Stamped, Tables, ref_cmp, tables_at, write_ref}
use Rattle.rel_base.specs.declared.access.Write.{Write}
use Rattle.rel_base.specs.declared.schema.TableDef.{TableDef}
use Rattle.rel_base.proofs.Bits.{both_true}
use Rattle.row_sets.specs.Versions.{are_rising, follows}
use Rattle.serial_laws.proofs.Fitting.{tables_fit}

abbrev Precedes : Write → Write → Type 0
Precedes a b = ref_cmp (write_ref a) (write_ref b) ≡ Less

is_less : (a b : Write) → Precedes a b → is_lt (ref_cmp (write_ref a) (write_ref b)) ≡ true
is_less a b precedes = subst (λ o. is_lt o ≡ true) (sym precedes) refl

rising_from : (write : Write) (writes : List Write) → AllPairs Precedes (write ∷ writes) → IsTrue (follows (write_ref write) writes)
rising_from write [] pairs = refl
rising_from write (next ∷ writes) pairs =
    both_true (is_lt (ref_cmp (write_ref write) (write_ref next))) (follows (write_ref next) writes)
    (is_less write next (pairs 0 1 write (omega arith) (omega arith)))
    (rising_from next writes (λ i j d below within. pairs (suc i) (suc j) d (omega (arith, below)) (omega (arith, within))))

rising : (writes : List Write) → AllPairs Precedes writes → IsTrue (are_rising writes)
rising [] pairs = refl
rising (write ∷ writes) pairs = rising_from write writes pairs

-- a run on tables that fit can be judged
pub run_fits : (app : App) (tx : Tx) (time : ℤ) (at_height : Tables) → TablesFit (tables_of app) at_height → RunFits (tables_of app) (run app tx time at_height)
run_fits app tx time at_height fit = record {
  reads = reads_fit app tx time at_height;
  writes = writes_fit app tx time at_height fit;
  rise = rising (run app tx time at_height).writes (writes_in_order app tx time at_height);
  few = omega (arith, few_reads app tx time at_height);
  few_writes = few_writes app tx time at_height;
}

-- so can one on the tables of a height
pub runs_fit : RunsFit
runs_fit app tx time height history fits = run_fits app tx time (tables_at height history) (tables_fit (tables_of app) height history fits)

-- the writes of the store fit the application's tables
pub store_fits : (app : App) (tables : List TableDef) (history : List Stamped) (results : List BlockResult) → StoreFits app tables history results → HistoryFits (tables_of app) history
store_fits app tables history results store = subst (λ defs. HistoryFits defs history) store.declared store.fits
