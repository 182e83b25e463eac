-- The shelves and sinks in memory: what they hold, and which of their calls fail.
use Rattle.std.specs.Prelude.{ℕ, ◌||◌, List, [], ◌∷◌, Option, Some, None, bytes_eq, length, min, cond, Bool, true, false, nat_eq, nat_le}
use Rattle.std.specs.List.{list_any}
use Rattle.edge_traits.specs.Causes.{raised}
use Rattle.edge_traits.specs.Shelf.{Files}

-- The bytes of the first file of this name.
abbrev pub held : List (List ℕ × List ℕ) → List ℕ → Option (List ℕ)
held [] name = None
held (file ∷ files) name = cond (bytes_eq file.0 name) (Some file.1) (held files name)

-- The bytes of a file, or no bytes where there is no file.
abbrev pub bytes_or_none : Option (List ℕ) → List ℕ
bytes_or_none None = []
bytes_or_none (Some bytes) = bytes

-- Stored files by their names; the first of two files of one name counts.
abbrev pub files_of : List (List ℕ × List ℕ) → Files
files_of files name = bytes_or_none (held files name)

-- There is no file.
abbrev pub is_missing : Option (List ℕ) → Bool
is_missing None = true
is_missing (Some bytes) = false

-- After so many calls, the number of the next one stands in the list of those that are to fail. Calls are counted from 1.
abbrev pub is_next_listed : List ℕ → ℕ → Bool
is_next_listed fails calls = list_any (nat_eq (raised calls)) fails

-- As many bytes as are asked for, but no more than one call gives or takes, if its calls are bounded.
abbrev pub at_most : Option ℕ → ℕ → ℕ
at_most None size = size
at_most (Some most) size = min most size

-- A shelf in memory: its files with their names, the numbers of the calls that are to fail, how many bytes one call gives at most, how many calls were made with
-- a buffer, and how many of all failed.
pub record MemFiles : Type 0 where
  pub files : List (List ℕ × List ℕ)
  pub fails : List ℕ
  pub most : Option ℕ
  pub calls : ℕ
  pub failed : ℕ

-- A shelf on which no call was made yet.
abbrev pub fresh_files : List (List ℕ × List ℕ) → List ℕ → Option ℕ → MemFiles
fresh_files files fails most = record { files = files; fails = fails; most = most; calls = 0; failed = 0 }

-- The next read of this name fails: it is listed, or the shelf has no such file.
abbrev pub read_fails : MemFiles → List ℕ → Bool
read_fails shelf name = is_next_listed shelf.fails shelf.calls || is_missing (held shelf.files name)

-- A sink in memory: what it took, for how many bytes it has room, the numbers of the calls that are to fail, how many bytes one call takes at most, how many
-- calls were made with bytes, and how many of all failed.
pub record MemBytes : Type 0 where
  pub taken : List ℕ
  pub room : ℕ
  pub fails : List ℕ
  pub most : Option ℕ
  pub calls : ℕ
  pub failed : ℕ

-- A sink on which no call was made yet.
abbrev pub fresh_bytes : ℕ → List ℕ → Option ℕ → MemBytes
fresh_bytes room fails most = record { taken = []; room = room; fails = fails; most = most; calls = 0; failed = 0 }

-- The next write fails: it is listed, or there is no room left.
abbrev pub write_fails : MemBytes → Bool
write_fails sink = is_next_listed sink.fails sink.calls || nat_le sink.room (length sink.taken)
