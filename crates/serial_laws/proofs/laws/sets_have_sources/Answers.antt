use Rattle.serial_laws.proofs.Admitted.{sets_have_sources}
use Rattle.serial_laws.proofs.laws.sets_have_sources.Goals as goal

pub returns : goal.returns
returns c = sets_have_sources
