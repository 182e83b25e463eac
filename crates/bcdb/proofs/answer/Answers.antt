use Rattle.std.proofs.Common.{None}
use Rattle.bcdb.proofs.Leaves.{all_may}
use Rattle.bcdb.specs.Plan.{plan_of}
use Rattle.bcdb.proofs.answer.Goals as goal
use Rattle.cli_words.specs.Language.{settings_of, texts}

pub bcdb-requires-clause-allowed : goal.bcdb-requires-clause-allowed
bcdb-requires-clause-allowed g c κs within = all_may (plan_of (settings_of (texts c.args.words.now))) None
