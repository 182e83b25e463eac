use Rattle.load_gen.proofs.Sounding.{app_is_sound}
use Rattle.load_gen.proofs.laws.app_is_sound.Goals as goal

pub returns : goal.returns
returns c = app_is_sound
