use Rattle.version_index.proofs.Keys.{settled_ended, settled_living}
use Rattle.version_index.proofs.chains.settle_key.Goals as goal

-- the key moved to those with a row
pub returns-then-lives-clause-placed : goal.returns-then-lives-clause-placed
returns-then-lives-clause-placed c =
    settled_living c.args.living.now.entries c.args.ended.now.entries c.move_key.new.into.entries c.move_key.new.from.entries c.args.key.now c.args.slot c.move_key.result c.args.lives c.if-lives.true
    c.move_key.ensures.put c.move_key.ensures.taken

-- it moved to those whose row was deleted
pub returns-else-lives-clause-placed : goal.returns-else-lives-clause-placed
returns-else-lives-clause-placed c =
    settled_ended c.args.living.now.entries c.args.ended.now.entries c.move_key-else-lives.new.from.entries c.move_key-else-lives.new.into.entries c.args.key.now c.args.slot c.move_key-else-lives.result c.args.lives
    c.if-lives.false c.move_key-else-lives.ensures.put c.move_key-else-lives.ensures.taken
