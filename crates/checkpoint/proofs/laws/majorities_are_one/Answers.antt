use Rattle.checkpoint.proofs.Majorities.{majorities_are_one}
use Rattle.checkpoint.proofs.laws.majorities_are_one.Goals as goal

pub returns : goal.returns
returns c = majorities_are_one
