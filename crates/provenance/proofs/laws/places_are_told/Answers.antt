use Rattle.provenance.proofs.Placed.{places_told}
use Rattle.provenance.proofs.laws.places_are_told.Goals as goal

pub returns : goal.returns
returns c = places_told
