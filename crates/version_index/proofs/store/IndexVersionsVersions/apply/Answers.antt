use Rattle.std.proofs.lemmas.Grind.{common_steps}
use Rattle.std.proofs.Common.{All, ap, arith, length, length-append, subst, sym}
use Rattle.std.proofs.lemmas.List.{length-map}
use Rattle.rel_base.specs.Among.{WriteFitsIn}
use Rattle.row_sets.specs.Versions.{IsBefore, stamped_at}
use Rattle.row_sets.specs.Log.{history_of, stamped_of}
use Rattle.version_index.proofs.Keeping.{kept_next}
use Rattle.version_index.proofs.store.IndexVersionsVersions.apply.Goals as goal

-- the writes fit, and stand after those of the history
pub invariant_of-self : goal.invariant_of-self
invariant_of-self c =
    let old = c.self.inside.log.items in
    let new = c.push_all.new.log.items in
    let longer = ap length c.push_all.ensures.history in
    let parts = length-append (history_of old) (stamped_at c.args.place c.args.writes) in
    let one = length-map old stamped_of in
    let other = length-map new stamped_of in
    let within = c.self.invariant.within in
    kept_next c.self.inside.tables old c.self.inside.indexes.items c.self.inside.noted c.self.invariant new c.args.place c.args.writes
    (subst (λ store. All (WriteFitsIn store.0) c.args.writes) (sym c.self.view_is) c.requires.fit) c.requires.rise (subst (λ store. All (IsBefore c.args.place) store.1.0) (sym c.self.view_is) c.requires.later)
    c.push_all.ensures.history (omega (arith, longer, parts, one, other, within))

pub returns-clause-tail : goal.returns-clause-tail
returns-clause-tail c = grind (arith, common_steps)
