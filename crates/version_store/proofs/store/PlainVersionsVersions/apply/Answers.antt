use Rattle.std.proofs.Common.{subst, sym, All}
use Rattle.rel_base.specs.Among.{WriteFitsIn}
use Rattle.rel_base.specs.Tables.{HistoryFits}
use Rattle.row_sets.proofs.Histories.{fits_next}
use Rattle.row_sets.specs.Log.{history_of}
use Rattle.version_store.proofs.store.PlainVersionsVersions.apply.Goals as goal

-- the writes fit
pub invariant_of-self : goal.invariant_of-self
invariant_of-self c =
    subst (HistoryFits c.self.inside.tables) (sym c.push_all.ensures.history)
    (fits_next c.self.inside.tables c.args.place (history_of c.self.inside.log.items) c.args.writes c.self.invariant (subst (λ store. All (WriteFitsIn store.0) c.args.writes) (sym c.self.view_is) c.requires.fit))
