use Rattle.canon_code.proofs.Exact.{one_to_one, prefix_free}
use Rattle.node_model.specs.BlockCode.{block_code}
use Rattle.block_digest.specs.Grammar.{HasBlockCode}
use Rattle.block_digest.specs.Readings.{block_at}
use Rattle.block_digest.proofs.Blocks.{block_exact}
use Rattle.block_digest.proofs.laws.blocks_have_codes.Goals as goal

pub returns-clause-one_to_one : goal.returns-clause-one_to_one
returns-clause-one_to_one c = one_to_one block_code HasBlockCode block_at block_exact

pub returns-clause-prefix_free : goal.returns-clause-prefix_free
returns-clause-prefix_free c = prefix_free block_code HasBlockCode block_at block_exact

pub returns-clause-comes_back : goal.returns-clause-comes_back
returns-clause-comes_back c = block_exact.back

pub returns-clause-was_written : goal.returns-clause-was_written
returns-clause-was_written c = block_exact.written
