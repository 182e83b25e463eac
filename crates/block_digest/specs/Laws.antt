-- Laws of the codes of blocks.
use Rattle.block_digest.specs.Codable.{IsCodable}
use Rattle.block_digest.specs.Decoding.{Decodes}
use Rattle.block_digest.specs.Grammar.{HasBlockCode}
use Rattle.rel_base.specs.declared.reading.ReadFault.TheVariants as fault
use Rattle.rel_base.specs.declared.reading.ReadFault.{ReadFault}
use Rattle.node_model.specs.BlockCode.{block_code, digest_of}
use Rattle.node_model.specs.declared.result.BlockResult.{BlockResult}
use Rattle.std.specs.Prelude.{List, MatchResult, Result, replicate, ◌≡◌, ℕ}

-- a result without its digest
abbrev pub bare : BlockResult → BlockResult
bare block = record block { digest = replicate 32 0 }

-- which has no part in a code, nor in the digest that follows
abbrev pub IsOfBare : Type 0
IsOfBare = (previous : List ℕ) (block : BlockResult) → (block_code block ≡ block_code (bare block)) × (digest_of previous block ≡ digest_of previous (bare block))

-- so results with one code differ in their digests alone
abbrev pub CodesTell : Type 0
CodesTell = (x y : BlockResult) → HasBlockCode (bare x) → HasBlockCode (bare y) → block_code x ≡ block_code y → bare x ≡ bare y

-- a block of the grammar can be written
abbrev pub CanBeWritten : Type 0
CanBeWritten = (block : BlockResult) → HasBlockCode block → IsCodable block

-- and where its code is decoded, the answer is that block, unless memory ran out
abbrev pub IsReadBack : Type 0
IsReadBack = (block : BlockResult) (answer : Result BlockResult ReadFault) → HasBlockCode block → Decodes block_code HasBlockCode (block_code block) answer
    → MatchResult answer (λ found. found ≡ block) (λ e. e ≡ fault.NoMemory)
