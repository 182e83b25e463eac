-- A block file that is read piece by piece.
use Rattle.std.specs.Prelude.{◌≡◌, ◌<◌, ◌≤◌, ◌+◌, ℕ, List, Option, Some, None, IfSome, length, take}
use Rattle.bcdb.specs.declared.blocks.ChainPiece.{ChainPiece}
use Rattle.bcdb.specs.declared.blocks.ChainPiece.TheVariants as step
use Rattle.bcdb.specs.declared.intake.Gatherer.{Gatherer}
use Rattle.chain_file.specs.Chain.{chain, lasting}
use Rattle.chain_file.specs.Following.{WasFed}
use Rattle.chain_file.specs.Text.{longest_file}
use Rattle.edge_traits.specs.Shelf.{Files}
use Rattle.proc_syntax.specs.declared.chain_fault.ChainFault.{ChainFault}

-- the blocks of these bytes were gathered
abbrev pub Gathers : Gatherer → List ℕ → Type 0
Gathers gatherer bytes = WasFed gatherer.reader bytes × ((chain bytes).0 ≡ gatherer.blocks)

-- so many bytes of a file were taken, with no fault yet; they are its prefix if the shelf tells its files
pub record IsRead (told : Option Files) (name : List ℕ) (count : ℕ) (took : List ℕ → Type 0) : Type 0 where
  pub bytes : List ℕ
  pub size : length bytes ≡ count
  pub follows : took bytes
  pub clear : lasting (chain bytes).1 ≡ None
  pub front : IfSome told (λ files. bytes ≡ take count (files name))

-- the whole file was taken
pub record IsWholeChain (told : Option Files) (name : List ℕ) (took : List ℕ → Type 0) : Type 0 where
  pub bytes : List ℕ
  pub follows : took bytes
  pub whole : IfSome told (λ files. bytes ≡ files name)

-- bytes were taken that have this fault, which is that of the file, with the same blocks before it
pub record HasFault (told : Option Files) (name : List ℕ) (took : List ℕ → Type 0) (fault : ChainFault) : Type 0 where
  pub bytes : List ℕ
  pub follows : took bytes
  pub stops : IfSome told (λ files. chain (files name) ≡ ((chain bytes).0, Some fault))

-- the file was taken to its end, or up to a fault
abbrev pub HasRead : Option Files → List ℕ → (List ℕ → Type 0) → Option ChainFault → Type 0
HasRead told name took None = IsWholeChain told name took
HasRead told name took (Some fault) = HasFault told name took fault

-- what one more piece of a file comes to, where so many bytes were taken before it
abbrev pub LeadsTo : ChainPiece → Option Files → List ℕ → ℕ → (List ℕ → Type 0) → Type 0
LeadsTo (step.More count) told name at took = (0 < count) × (at + count ≤ longest_file) × IsRead told name (at + count) took
LeadsTo step.End told name at took = IsWholeChain told name took
LeadsTo (step.Stop fault) told name at took = HasFault told name took fault
