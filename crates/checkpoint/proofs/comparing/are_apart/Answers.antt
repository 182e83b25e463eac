use Rattle.std.proofs.Common.{◌∙◌}
use Rattle.checkpoint.specs.Majority.{digests_at}
use Rattle.checkpoint.proofs.Majorities.{apart_first, apart_none}
use Rattle.checkpoint.proofs.comparing.are_apart.Goals as goal

pub returns-in-Some : goal.returns-in-Some
returns-in-Some c = c.has_others.ensures ∙ apart_first (digests_at c.args.peers.now c.args.height) c.in-Some.digest.now c.in-Some.ensures

pub returns-in-None : goal.returns-in-None
returns-in-None c = apart_none (digests_at c.args.peers.now c.args.height) c.in-None.ensures
