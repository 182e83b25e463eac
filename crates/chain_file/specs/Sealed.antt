-- Block files that are sealed while they are read.
use Rattle.std.specs.Prelude.{◌≡◌, ℕ, List, ◌++◌, Option, Some, None, Result, Ok, Err}
use Rattle.proc_syntax.specs.declared.call.Block.{Block}
use Rattle.proc_syntax.specs.declared.chain_fault.ChainFault.{ChainFault}
use Rattle.chain_file.specs.declared.form.ChainVersion.{ChainVersion}
use Rattle.chain_file.specs.declared.sealing.ChainText.{ChainText}
use Rattle.chain_file.specs.declared.sealer.Sealed.{Sealed}
use Rattle.chain_file.specs.declared.sealer.Sealed.TheVariants as sealed
use Rattle.chain_file.specs.declared.sealer.Sealer.{Sealer}
use Rattle.chain_file.specs.Chain.{chain}
use Rattle.chain_file.specs.ChainText.{chain_text, sealed_text}
use Rattle.chain_file.specs.Following.{WasFed}
use Rattle.chain_file.specs.Headers.{chain_form, file_form, version_of}
use Rattle.chain_file.specs.Text.{blocks_text}

-- these blocks are written in a version: whatever blocks follow them, with the text of those it is the chain file of all
abbrev pub Spells : ChainText → ChainVersion → List Block → Type 0
Spells t v blocks = (t.version ≡ v) × ((more : List Block) → t.text.items ++ blocks_text (chain_form v) t.digits more ≡ chain_text v (blocks ++ more))

-- what is written of a file, whose bytes so far are these
abbrev pub Holds : Sealed → List ℕ → Type 0
Holds (sealed.Front text) bytes = (text ≡ bytes) × (file_form bytes ≡ None)
Holds (sealed.Same text) bytes = (text ≡ bytes) × ((v : ChainVersion) × (file_form bytes ≡ Some (chain_form v)))
Holds (sealed.Anew t) bytes = (v : ChainVersion) × (version_of bytes ≡ Some v) × Spells t v (chain bytes).0

-- the sealer was fed these bytes
abbrev pub Seals : Sealer → List ℕ → Type 0
Seals s bytes = WasFed s.reader bytes × Holds s.sealed bytes

-- the chain file of the blocks of a file without a fault, in the version that was read, or its fault
abbrev pub SealsAs : Result (List ℕ) ChainFault → Option ChainVersion → List Block × Option ChainFault → Type 0
SealsAs (Ok text) v meant = (meant.1 ≡ None) × (text ≡ sealed_text v meant.0)
SealsAs (Err found) v meant = meant.1 ≡ Some found
