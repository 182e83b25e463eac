use Rattle.canon_code.proofs.Exact.{one_to_one, prefix_free}
use Rattle.node_model.specs.BlockCode.{outcome_code}
use Rattle.block_digest.specs.Grammar.{HasOutcomeCode}
use Rattle.block_digest.specs.Readings.{outcome_at}
use Rattle.block_digest.proofs.Outcomes.{outcome_exact}
use Rattle.block_digest.proofs.laws.outcomes_have_codes.Goals as goal

pub returns-clause-one_to_one : goal.returns-clause-one_to_one
returns-clause-one_to_one c = one_to_one outcome_code HasOutcomeCode outcome_at outcome_exact

pub returns-clause-prefix_free : goal.returns-clause-prefix_free
returns-clause-prefix_free c = prefix_free outcome_code HasOutcomeCode outcome_at outcome_exact
