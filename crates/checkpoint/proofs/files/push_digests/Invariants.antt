use Rattle.std.proofs.Common.{◌≡◌, ◌+◌, ◌++◌, drop, take}
use Rattle.std.specs.Prelude.{All}
use Rattle.hex_digits.specs.Laws.{IsHash}
use Rattle.checkpoint.specs.Files.{lines_from}
use Rattle.checkpoint.proofs.files.push_digests.Given as goal

abbrev pub invariant-loop-digest : goal.invariant-loop-digest
invariant-loop-digest l = record {
  height : l.height ≡ l.digest-index + 1;
  lines : l.out.items ++ lines_from l.height (drop l.digest-index l.digests) ≡ l.fn.out.items ++ lines_from 1 l.digests;
  sound : All IsHash (take l.digest-index l.digests);
}
