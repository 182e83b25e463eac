-- A draft has no hashes, so its blocks are written one after another.
use Rattle.std.proofs.Common.{◌≡◌, ℕ, List, [], ◌∷◌, ◌++◌, ap, refl}
use Rattle.std.specs.List.{flat_map}
use Rattle.proc_syntax.specs.declared.call.Block.{Block}
use Rattle.chain_file.specs.Chain.{hash_digits, no_digits}
use Rattle.chain_file.specs.Headers.{draft_form, header_text}
use Rattle.chain_file.specs.Text.{block_text, blocks_text}
use Rattle.chain_file.specs.declared.form.ChainVersion.TheVariants as version
use Rattle.tx_text.specs.Parts.{line_text}
use Rattle.order_queue.specs.Drafts.{draft_block, draft_text}

blocks_flat : (digits : List ℕ) (blocks : List Block) → flat_map draft_block blocks ≡ blocks_text (draft_form version.One) digits blocks
blocks_flat digits [] = refl
blocks_flat digits (block ∷ blocks) = ap (λ rest. draft_block block ++ rest) (blocks_flat (hash_digits (block_text (draft_form version.One) digits block)) blocks)

pub draft_flat : (blocks : List Block) → line_text (header_text (draft_form version.One)) ++ flat_map draft_block blocks ≡ draft_text blocks
draft_flat blocks = ap (λ rest. line_text (header_text (draft_form version.One)) ++ rest) (blocks_flat no_digits blocks)
