use Rattle.row_sets.proofs.listed.put_copy.Goals as goal

pub returns : goal.returns
returns c = rw (c.in_ok-key.ensures, c.in_ok-before.ensures, c.in_ok-after.ensures) at c.put.ensures.put
