-- Block files as they are written.
use Rattle.std.specs.Prelude.{◌≡◌, ◌≤◌, length, ℕ, ℤ, List, [], ◌∷◌, ◌++◌, None, codes, decimal}
use Rattle.std.specs.Fmt.{signed_decimal}
use Rattle.std.specs.List.{flat_map, AllByRecursion}
use Rattle.proc_syntax.specs.declared.call.Tx.{Tx}
use Rattle.proc_syntax.specs.declared.call.Block.{Block}
use Rattle.tx_text.specs.Lines.{tx_text, HasLine}
use Rattle.tx_text.specs.Parts.{line_text}
use Rattle.chain_file.specs.declared.form.ChainVersion.{ChainVersion}
use Rattle.chain_file.specs.declared.form.ChainVersion.TheVariants as version
use Rattle.chain_file.specs.declared.form.FileKind.{FileKind}
use Rattle.chain_file.specs.declared.form.FileKind.TheVariants as file
use Rattle.chain_file.specs.declared.form.FileForm.{FileForm}
use Rattle.chain_file.specs.Headers.{draft_form, header_text}
use Rattle.chain_file.specs.Chain.{chain, hash_digits, no_digits}
use Rattle.chain_file.specs.Numbered.{NumberedFrom, TimesFit}
use Rattle.proc_syntax.specs.Limits.{most_blocks}

-- the line of a transaction
abbrev pub tx_line : Tx → List ℕ
tx_line tx = line_text (tx_text tx)

-- in a chain the hash of the block before, after a space
abbrev pub hash_field : FileKind → List ℕ → List ℕ
hash_field file.Draft digits = []
hash_field file.Chain digits = 32 ∷ digits

-- in version 2 the time, after a space
abbrev pub time_field : ChainVersion → ℤ → List ℕ
time_field version.One time = []
time_field version.Two time = 32 ∷ signed_decimal time

-- `block N`, and the fields of the form
abbrev pub first_line : FileForm → List ℕ → ℕ → ℤ → List ℕ
first_line f digits number time = codes "block " ++ (decimal number ++ (hash_field f.kind digits ++ time_field f.version time))

-- the first line of a block
abbrev pub block_line : FileForm → List ℕ → Block → List ℕ
block_line f digits block = first_line f digits block.number block.time

-- that line, the transactions and `end`
abbrev pub block_text : FileForm → List ℕ → Block → List ℕ
block_text f digits block = line_text (block_line f digits block) ++ (flat_map tx_line block.txs ++ line_text (codes "end"))

-- blocks, each after one whose hash has the digits of the bytes of the one before
abbrev pub blocks_text : FileForm → List ℕ → List Block → List ℕ
blocks_text f digits [] = []
blocks_text f digits (block ∷ blocks) = block_text f digits block ++ blocks_text f (hash_digits (block_text f digits block)) blocks

-- the header, and the blocks
abbrev pub file_text : FileForm → List Block → List ℕ
file_text f blocks = line_text (header_text f) ++ blocks_text f no_digits blocks

-- a draft
abbrev pub draft_text : ChainVersion → List Block → List ℕ
draft_text v blocks = file_text (draft_form v) blocks

-- blocks that can stand in a file of a version: at most 1,000,000, numbered from 1, with times of the version, each transaction
-- with a line
pub record CanStand (v : ChainVersion) (blocks : List Block) : Type 0 where
  pub numbered : NumberedFrom 1 blocks
  pub times : TimesFit v blocks
  pub few : length blocks ≤ most_blocks
  pub lines : AllByRecursion (λ block. AllByRecursion HasLine block.txs) blocks

-- they are read back from their text, with no fault
abbrev pub FilesComeBack : Type 0
FilesComeBack = (f : FileForm) (blocks : List Block) → CanStand f.version blocks → chain (file_text f blocks) ≡ (blocks, None)

-- a file without a fault that begins with a header is the text of its blocks, each byte of it
abbrev pub FilesHaveOneText : Type 0
FilesHaveOneText = (f : FileForm) (rest : List ℕ) (blocks : List Block) → chain (line_text (header_text f) ++ rest) ≡ (blocks, None) → line_text (header_text f) ++ rest ≡ file_text f blocks

-- 1,026,000,002 lines of at most 4,096 bytes and a newline: the header, 1,026 for each of 1,000,000 blocks, and one line more
abbrev pub longest_file : ℕ
longest_file = 4203522008194
