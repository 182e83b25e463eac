-- What holds of every file of blocks, with a fault or without one.
use Rattle.std.specs.Prelude.{◌≡◌, ◌≤◌, ◌++◌, ℕ, pos, List, None, Some, length}
use Rattle.proc_syntax.specs.declared.chain_fault.ChainFault.{ChainFault}
use Rattle.chain_file.specs.declared.form.ChainVersion.{ChainVersion}
use Rattle.chain_file.specs.declared.form.ChainVersion.TheVariants as version
use Rattle.chain_file.specs.Chain.{chain, lasting}
use Rattle.chain_file.specs.Headers.{version_of}
use Rattle.chain_file.specs.Numbered.{HaveNoTimes, NumberedFrom, TimesFrom}
use Rattle.chain_file.specs.Text.{longest_file}

-- bytes that have no fault but that they end too early are at most so many
abbrev pub FilesAreBounded : Type 0
FilesAreBounded = (bytes : List ℕ) → lasting (chain bytes).1 ≡ None → length bytes ≤ longest_file

-- the blocks before the first fault have the numbers from 1 on
abbrev pub FilesAreNumbered : Type 0
FilesAreNumbered = (bytes : List ℕ) → NumberedFrom 1 (chain bytes).0

-- their times never fall
abbrev pub TimesNeverFall : Type 0
TimesNeverFall = (bytes : List ℕ) → TimesFrom (pos 0) (chain bytes).0

-- and in version 1 each time is 0
abbrev pub VersionOneHasNoTimes : Type 0
VersionOneHasNoTimes = (bytes : List ℕ) → version_of bytes ≡ Some version.One → HaveNoTimes (chain bytes).0

-- a file without a fault has a version
abbrev pub WholeFilesHaveVersions : Type 0
WholeFilesHaveVersions = (bytes : List ℕ) → (chain bytes).1 ≡ None → (v : ChainVersion) × (version_of bytes ≡ Some v)

-- a fault that was met stays the fault, with the same blocks before it, whatever bytes follow
abbrev pub FaultsLast : Type 0
FaultsLast = (bytes more : List ℕ) (found : ChainFault) → lasting (chain bytes).1 ≡ Some found → chain (bytes ++ more) ≡ ((chain bytes).0, Some found)
