use Rattle.std.proofs.Common.{◌∙◌, sym}
use Rattle.std.specs.Cmp.{booleans_Decides}
use Rattle.version_index.proofs.Keys.{stays_placed}
use Rattle.version_index.proofs.chains.place_key.Goals as goal

-- a key that belongs where it stands is placed there
pub returns-then-spot-lives-clause-placed : goal.returns-then-spot-lives-clause-placed
returns-then-spot-lives-clause-placed c =
    stays_placed c.args.living.now.entries c.args.ended.now.entries c.args.key.now c.args.spot.slot c.args.lives c.requires.own (sym ((booleans_Decides c.args.spot.lives c.args.lives).0 c.if-spot-lives.true) ∙ c.requires.lived)
