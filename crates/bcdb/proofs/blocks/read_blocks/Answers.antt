use Rattle.bcdb.proofs.blocks.read_blocks.Goals as goal

pub returns-in-Ok-clause-told : goal.returns-in-Ok-clause-told
returns-in-Ok-clause-told g c = c.end.ensures.told (g.S.Shelf.told c.args.shelf.now) c.args.name.now c.in-Ok.ensures.told

pub returns-in-Ok-clause-numbered : goal.returns-in-Ok-clause-numbered
returns-in-Ok-clause-numbered g c = c.end.ensures.numbered (g.S.Shelf.told c.args.shelf.now) c.args.name.now c.in-Ok.ensures.told
