-- Pieces of a file, one after another: what was read stays a prefix of the file, and a fault that was met is the file's.
use Rattle.std.proofs.Common.{◌≡◌, ℕ, ◌<◌, ◌≤◌, ◌+◌, List, ◌++◌, length, take, drop, sym, ap, subst, ◌∙◌, length-append, arith, Option, Some, None, IfSome}
use Rattle.std.proofs.lemmas.List.{length-take-le, take-append-drop, take_all}
use Rattle.bcdb.specs.Reading.{HasFault, IsRead, IsWholeChain}
use Rattle.chain_file.specs.Chain.{chain, lasting}
use Rattle.chain_file.specs.Files.{FaultsLast, FilesAreBounded}
use Rattle.chain_file.specs.Text.{longest_file}
use Rattle.edge_traits.proofs.Fronts.{told_grows}
use Rattle.edge_traits.specs.Shelf.{Files, IsPiece}
use Rattle.proc_syntax.specs.declared.chain_fault.ChainFault.{ChainFault}

-- what was read and a piece after it are a prefix of the file
pub front_by : (told : Option Files) (name bytes buffer : List ℕ) (at count : ℕ) → length bytes ≡ at → count ≤ length buffer → IfSome told (λ files. IsPiece (files name) at count buffer)
    → IfSome told (λ files. bytes ≡ take at (files name)) → IfSome told (λ files. bytes ++ take count buffer ≡ take (length (bytes ++ take count buffer)) (files name))
front_by None name bytes buffer at count size le piece front = tt
front_by (Some files) name bytes buffer at count size le piece front =
    told_grows (Some files) name bytes buffer count le (subst (λ n. IsPiece (files name) n count buffer) (sym size) piece) (front ∙ ap (λ n. take n (files name)) (sym size))

pub at_size : (told : Option Files) (name bytes : List ℕ) (n : ℕ) → length bytes ≡ n → IfSome told (λ files. bytes ≡ take (length bytes) (files name)) → IfSome told (λ files. bytes ≡ take n (files name))
at_size None name bytes n size front = tt
at_size (Some files) name bytes n size front = front ∙ ap (λ n. take n (files name)) size

pub joined_size : (bytes buffer : List ℕ) (at count : ℕ) → length bytes ≡ at → count ≤ length buffer → length (bytes ++ take count buffer) ≡ at + count
joined_size bytes buffer at count size le = omega (arith, length-append bytes (take count buffer), length-take-le count buffer le, size)

-- what holds of a prefix whatever follows holds of the file
pub file_by : (told : Option Files) (name bytes : List ℕ) (Holds : List ℕ → Type 0) → IfSome told (λ files. bytes ≡ take (length bytes) (files name)) → ((more : List ℕ) → Holds (bytes ++ more))
    → IfSome told (λ files. Holds (files name))
file_by None name bytes Holds front holds = tt
file_by (Some files) name bytes Holds front holds =
    let whole : bytes ++ drop (length bytes) (files name) ≡ files name = ap (λ bs. bs ++ drop (length bytes) (files name)) front ∙ take-append-drop (length bytes) (files name) in
    subst Holds whole (holds (drop (length bytes) (files name)))

-- what was read so far has no fault, so the file may be read from there on
pub may_go_on : (told : Option Files) (name : List ℕ) (at : ℕ) (took : List ℕ → Type 0) → IsRead told name at took → IfSome told (λ files. lasting (chain (take at (files name))).1 ≡ None)
may_go_on None name at took read = tt
may_go_on (Some files) name at took read = ap (λ bytes. lasting (chain bytes).1) (sym read.front) ∙ read.clear

module _ (told : Option Files) (name buffer : List ℕ) (at count : ℕ) (old new : List ℕ → Type 0) (read : IsRead told name at old) (le : count ≤ length buffer)
    (piece : IfSome told (λ files. IsPiece (files name) at count buffer)) where
  abbrev both : List ℕ
  both = read.bytes ++ take count buffer

  size : length both ≡ at + count
  size = joined_size read.bytes buffer at count read.size le

  front : IfSome told (λ files. both ≡ take (length both) (files name))
  front = front_by told name read.bytes buffer at count read.size le piece read.front

  -- the reading goes on after a piece without a fault
  pub goes_on : (fault : Option ChainFault) → new both → fault ≡ lasting (chain both).1 → fault ≡ None → IsRead told name (at + count) new
  goes_on fault took is none = record { bytes = both; size = size; follows = took; clear = sym is ∙ none; front = at_size told name both (at + count) size front }

  -- and has not gone past the longest file
  pub within : FilesAreBounded → (fault : Option ChainFault) → fault ≡ lasting (chain both).1 → fault ≡ None → at + count ≤ longest_file
  within bounded fault is none = subst (λ n. n ≤ longest_file) size (bounded both (sym is ∙ none))

  whole_by : FaultsLast → (found : ChainFault) → lasting (chain both).1 ≡ Some found → IfSome told (λ files. chain (files name) ≡ ((chain both).0, Some found))
  whole_by last found is = file_by told name both (λ bytes. chain bytes ≡ ((chain both).0, Some found)) front (λ more. last both more found is)

  -- a fault that was met is the file's, with the blocks before it
  pub stops : FaultsLast → (fault : Option ChainFault) (found : ChainFault) → new both → fault ≡ lasting (chain both).1 → fault ≡ Some found → HasFault told name new found
  stops last fault found took is met = record { bytes = both; follows = took; stops = whole_by last found (sym is ∙ met) }

pub end_by : (told : Option Files) (name bytes buffer : List ℕ) (at count : ℕ) → 0 < length buffer → count ≡ 0 → IfSome told (λ files. IsPiece (files name) at count buffer)
    → IfSome told (λ files. bytes ≡ take at (files name)) → IfSome told (λ files. bytes ≡ files name)
end_by None name bytes buffer at count room none piece begins = tt
end_by (Some files) name bytes buffer at count room none piece begins = begins ∙ take_all at (files name) ((piece.end room).0 none)

-- where no byte comes, the file was read whole
pub ends : (told : Option Files) (name buffer : List ℕ) (at count : ℕ) (took : List ℕ → Type 0) → IsRead told name at took → 0 < length buffer → count ≡ 0
    → IfSome told (λ files. IsPiece (files name) at count buffer) → IsWholeChain told name took
ends told name buffer at count took read room none piece =
    record { bytes = read.bytes; follows = read.follows; whole = end_by told name read.bytes buffer at count room none piece read.front }
