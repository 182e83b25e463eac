-- The laws, each the contract of a function of the module `laws`.
use Rattle.load_gen.specs.Application.{app_text}
use Rattle.load_gen.specs.Blocks.{first_of}
use Rattle.load_gen.specs.Drawing.{step, upper}
use Rattle.load_gen.specs.Transactions.{block_at, load_tx}
use Rattle.proc_check.specs.Apps.{first_fault}
use Rattle.proc_parse.specs.Grammar.{app_of}
use Rattle.proc_syntax.specs.declared.tree.App.{App}
use Rattle.std.specs.Prelude.{None, Some, codes, length, ◌+◌, ◌<◌, ◌≡◌, ◌≤◌, ℕ}

-- the first draws of two loads, and what their first drawn transactions call
abbrev pub FirstDraws : Type 0
FirstDraws = (upper (step 0) ≡ 335903614) × ((load_tx 0 65).procedure ≡ codes "pay") × (upper (step 1) ≡ 1817669548) × ((load_tx 1 65).procedure ≡ codes "add")

-- each of the 50 drawn transactions of a block stands in that block
abbrev pub EachInItsBlock : Type 0
EachInItsBlock = (block place : ℕ) → 2 ≤ block → place < 50 → block_at (first_of block + place) ≡ block

-- a drawn transaction reads the tables after a block that stands before its own
abbrev pub HeightsLieBefore : Type 0
HeightsLieBefore = (number n : ℕ) → (1 ≤ (load_tx number n).height) × ((load_tx number n).height < block_at n)

-- the text of the application is in the grammar, and its check meets no fault
pub record AppIsSound : Type 0 where
  pub app : App
  pub read : app_of app_text ≡ Some app
  pub sound : first_fault app ≡ None
  pub short : length app_text ≤ 1048576
