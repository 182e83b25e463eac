-- Laws of digest files and of majorities.
use Rattle.checkpoint.specs.Files.{digest_file, digests_of, most_digests}
use Rattle.checkpoint.specs.Folded.{fold_digests}
use Rattle.checkpoint.specs.Majority.{digest_at, is_majority, majority}
use Rattle.hex_digits.specs.Laws.{IsHash}
use Rattle.proc_syntax.specs.declared.call.Block.{Block}
use Rattle.proc_syntax.specs.declared.tree.App.{App}
use Rattle.std.specs.List.{AllByRecursion}
use Rattle.std.specs.Prelude.{IsTrue, List, Ok, Some, false, length, take, ◌↔◌, ◌≡◌, ◌≤◌, ℕ}

-- a file that is read is the file of its digests, each byte of it
abbrev pub FilesHaveOneText : Type 0
FilesHaveOneText = (bytes : List ℕ) (digests : List (List ℕ)) → digests_of bytes ≡ Ok digests → bytes ≡ digest_file false digests

-- and digests are read back from it, at most 1,000,000
abbrev pub FilesComeBack : Type 0
FilesComeBack = (digests : List (List ℕ)) → length digests ≤ most_digests → AllByRecursion IsHash digests → digests_of (digest_file false digests) ≡ Ok digests

-- the majority is the one digest that more than half of all peers have
abbrev pub MajoritiesAreOne : Type 0
MajoritiesAreOne = (peers : List (List (List ℕ))) (height : ℕ) (digest : List ℕ) → (majority peers height ≡ Some digest) ↔ IsTrue (is_majority peers height digest)

-- nodes that fold blocks of which the first so many are the same have the same digests up to that height
abbrev pub FoldsAgree : Type 0
FoldsAgree = (app : App) (blocks others : List Block) (same height : ℕ) → take same blocks ≡ take same others → height ≤ same
    → digest_at (fold_digests app blocks) height ≡ digest_at (fold_digests app others) height
