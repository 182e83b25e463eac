use Rattle.std.proofs.lemmas.Bool.{eq-eqb}
use Rattle.block_work.proofs.Places.{goes, outside_here}
use Rattle.block_work.proofs.ids.IdIndex.forget_id.Goals as goal
use Rattle.block_work.specs.Ids.{place_of_id}

pub returns-then-place-number : goal.returns-then-place-number
returns-then-place-number c =
    goes c.args.self.now (record { places = c.remove.new.self }) c.args.number c.args.id.now
    (outside_here c.args.number (place_of_id c.args.self.now c.args.id.now) c.in-Some.place c.in-Some.ensures (eq-eqb c.in-Some.place.block c.args.number c.if-place-number.true)) c.remove.ensures
