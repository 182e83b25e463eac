-- Blocks in order, and the results that each finds.
use Rattle.proc_syntax.specs.declared.call.Block.{Block}
use Rattle.std.specs.Prelude.{List, [], length, ◌+◌, ◌≡◌, ◌∷◌, ℕ}

-- blocks are numbered without a gap, where the first has a number
abbrev pub AreNumbered : ℕ → List Block → Type 0
AreNumbered number [] = Unit {0}
AreNumbered number (block ∷ rest) = (block.number ≡ number) × AreNumbered (number + 1) rest

-- some blocks from number 1, and the next
pub record IsNext (blocks : List Block) (block : Block) : Type 0 where
  pub before : AreNumbered 1 blocks
  pub next : block.number ≡ length blocks + 1
