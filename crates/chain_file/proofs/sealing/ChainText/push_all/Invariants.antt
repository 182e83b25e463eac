use Rattle.std.proofs.Common.{List, ◌++◌, take}
use Rattle.proc_syntax.specs.declared.call.Block.{Block}
use Rattle.chain_file.specs.declared.form.ChainVersion.{ChainVersion}
use Rattle.chain_file.specs.Sealed.{Spells}
use Rattle.chain_file.proofs.sealing.ChainText.push_all.Given as goal

abbrev pub invariant-loop-block : goal.invariant-loop-block
invariant-loop-block l = (v : ChainVersion) (before : List Block) → Spells l.initial.self v before → Spells l.self v (before ++ take l.block-index l.blocks)
