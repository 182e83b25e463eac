-- The application of a load is accepted, and its blocks are numbered from 1.
use Rattle.std.proofs.Common.{Err, None, Ok, Some, ap, cond, length, map, refl, suc, zero, ◌+◌, ◌∙◌, ◌≡◌, ℕ}
use Rattle.std.proofs.lemmas.Bool.{le-leb}
use Rattle.std.specs.List.{range_with_len}
use Rattle.bcdb.specs.Accepted.{accepted, sound, too_long, typed}
use Rattle.chain_file.specs.Numbered.{NumberedFrom}
use Rattle.load_gen.proofs.Sounding.{app_is_sound}
use Rattle.load_gen.specs.Application.{app_text}
use Rattle.load_gen.specs.Blocks.{later_block, load_blocks}
use Rattle.load_gen.specs.Laws.{AppIsSound}
use Rattle.proc_check.specs.Apps.{first_fault}
use Rattle.proc_parse.specs.Grammar.{application, tree_of}
use Rattle.proc_parse.specs.Reading.{Read}
use Rattle.proc_parse.specs.Tokens.{tokens_of}
use Rattle.proc_syntax.specs.declared.tree.App.{App}

-- a tree without a fault is accepted
typed_is : (read : Read App) (app : App) → tree_of read ≡ Some app → first_fault app ≡ None → typed read ≡ Ok app
typed_is (Ok read) app is fine = let same : read.0 ≡ app = cc in ap (λ (one : App). sound one (first_fault one)) same ∙ ap (sound app) fine
typed_is (Err rest) app is fine = absurd cc

by_law : (law : AppIsSound) → accepted app_text ≡ Ok law.app
by_law law =
    ap (λ b. cond b (typed (application (tokens_of app_text))) (Err too_long)) (le-leb (length app_text) 1048576 law.short)
    ∙ typed_is (application (tokens_of app_text)) law.app law.read law.sound

pub load_accepted : accepted app_text ≡ Ok app_is_sound.app
load_accepted = by_law app_is_sound

later_numbered : (number first count : ℕ) → NumberedFrom first (map (later_block number) (range_with_len first count))
later_numbered number first zero = tt
later_numbered number first (suc count) = (refl, later_numbered number (first + 1) count)

pub loads_numbered : (number : ℕ) → NumberedFrom 1 (load_blocks number)
unfolding load_blocks
loads_numbered number = (refl, later_numbered number 2 40)
