-- The draft of blocks: a file of version 1, in which blocks have no times.
use Rattle.std.specs.Prelude.{ℕ, List}
use Rattle.proc_syntax.specs.declared.call.Block.{Block}
use Rattle.chain_file.specs.Chain.{no_digits}
use Rattle.chain_file.specs.Headers.{draft_form}
use Rattle.chain_file.specs.Text as file
use Rattle.chain_file.specs.declared.form.ChainVersion.TheVariants as version

-- `block N`, the transactions and `end`; a draft has no hashes
abbrev pub draft_block : Block → List ℕ
draft_block block = file.block_text (draft_form version.One) no_digits block

abbrev pub draft_text : List Block → List ℕ
draft_text blocks = file.draft_text version.One blocks
