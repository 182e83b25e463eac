use Rattle.version_index.proofs.guessing.slot_near.Goals as goal

pub spot_of-requires : goal.spot_of-requires
spot_of-requires c = let is = c.requires in (c.args.view.now.table, c.args.view.now.noted, is.within, is.index.chains)
