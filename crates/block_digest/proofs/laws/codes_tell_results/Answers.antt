use Rattle.std.proofs.Common.{Err, MatchResult, Ok, Result, refl, ◌≡◌}
use Rattle.rel_base.specs.declared.reading.ReadFault.TheVariants as fault
use Rattle.rel_base.specs.declared.reading.ReadFault.{ReadFault}
use Rattle.canon_code.proofs.Exact.{one_to_one}
use Rattle.node_model.specs.BlockCode.{block_code}
use Rattle.node_model.specs.declared.result.BlockResult.{BlockResult}
use Rattle.block_digest.specs.Decoding.{Decodes}
use Rattle.block_digest.specs.Grammar.{HasBlockCode}
use Rattle.block_digest.specs.Laws.{bare}
use Rattle.block_digest.specs.Readings.{block_at}
use Rattle.block_digest.proofs.Blocks.{block_exact}
use Rattle.block_digest.proofs.Written.{can_be_written}
use Rattle.block_digest.proofs.laws.codes_tell_results.Goals as goal

pub returns-clause-of_bare : goal.returns-clause-of_bare
returns-clause-of_bare c = λ previous block. (refl, refl)

pub returns-clause-tells : goal.returns-clause-tells
returns-clause-tells c = λ x y has_x has_y same. one_to_one block_code HasBlockCode block_at block_exact (bare x) (bare y) has_x has_y same

pub returns-clause-written : goal.returns-clause-written
returns-clause-written c = can_be_written

read_back : (block : BlockResult) (answer : Result BlockResult ReadFault) → HasBlockCode block → Decodes block_code HasBlockCode (block_code block) answer
    → MatchResult answer (λ found. found ≡ block) (λ e. e ≡ fault.NoMemory)
read_back block (Ok found) has decoded = one_to_one block_code HasBlockCode block_at block_exact found block decoded.0 has decoded.1
read_back block (Err fault.NoMemory) has decoded = refl
read_back block (Err fault.Bad) has decoded = absurd (decoded block has refl)

pub returns-clause-read_back : goal.returns-clause-read_back
returns-clause-read_back c = read_back
