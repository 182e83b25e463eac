use Rattle.std.proofs.Common.{◌≡◌, ◌++◌, drop}
use Rattle.report_text.specs.Summary.{kinds_in}
use Rattle.report_text.proofs.counts.kinds_in.Given as goal

-- what was added and what is left make the whole
abbrev pub invariant-loop-block : goal.invariant-loop-block
invariant-loop-block l = l.kinds.items ++ kinds_in (drop l.block-index l.blocks) ≡ kinds_in l.blocks
