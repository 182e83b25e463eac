-- The numbers and the times of blocks.
use Rattle.std.specs.Prelude.{◌≡◌, ◌+◌, ℕ, ℤ, pos, int_le, true, List, [], ◌∷◌}
use Rattle.std.specs.List.{AllByRecursion}
use Rattle.proc_syntax.specs.declared.call.Block.{Block}
use Rattle.chain_file.specs.declared.form.ChainVersion.{ChainVersion}
use Rattle.chain_file.specs.declared.form.ChainVersion.TheVariants as version
use Rattle.chain_file.specs.Steps.{most_time}

-- the numbers rise by one from n
abbrev pub NumberedFrom : ℕ → List Block → Type 0
NumberedFrom n [] = Unit {0}
NumberedFrom n (block ∷ blocks) = (block.number ≡ n) × NumberedFrom (n + 1) blocks

-- no time is below the one before, nor the first below t
abbrev pub TimesFrom : ℤ → List Block → Type 0
TimesFrom t [] = Unit {0}
TimesFrom t (block ∷ blocks) = (int_le t block.time ≡ true) × TimesFrom block.time blocks

-- each time is 0
abbrev pub HaveNoTimes : List Block → Type 0
HaveNoTimes blocks = AllByRecursion (λ block. block.time ≡ pos 0) blocks

-- the times that blocks may have in a file of a version: in version 1 each is 0; in version 2 they never fall, and each is an i64
abbrev pub TimesFit : ChainVersion → List Block → Type 0
TimesFit version.One blocks = HaveNoTimes blocks
TimesFit version.Two blocks = TimesFrom (pos 0) blocks × AllByRecursion (λ block. int_le block.time (pos most_time) ≡ true) blocks
