-- Chain files as they are written.
use Rattle.std.specs.Prelude.{ℕ, List, [], Option, Some, None}
use Rattle.proc_syntax.specs.declared.call.Block.{Block}
use Rattle.chain_file.specs.declared.form.ChainVersion.{ChainVersion}
use Rattle.chain_file.specs.Headers.{chain_form}
use Rattle.chain_file.specs.Text.{file_text}

-- a chain of a version
abbrev pub chain_text : ChainVersion → List Block → List ℕ
chain_text v blocks = file_text (chain_form v) blocks

-- a chain of the version of a file; one that has no version has a fault, and no chain
abbrev pub sealed_text : Option ChainVersion → List Block → List ℕ
sealed_text None blocks = []
sealed_text (Some v) blocks = chain_text v blocks
