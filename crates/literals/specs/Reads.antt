-- What a reader answers, against what the grammar says.
use Rattle.std.specs.Prelude.{ℕ, List, Option, Some, None, Result, Ok, Err}
use Rattle.std.specs.declared.vec.Vec.{Vec}
use Rattle.std.specs.declared.alloc.Global.{Global}
use denote.Bor.{Bor}
use Rattle.rel_base.specs.declared.reading.ReadFault.{ReadFault}
pub use Rattle.rel_base.specs.Reading.{Reads, Gives}

-- the bytes of a vector that was read
abbrev pub items_of : Result (Vec ℕ Global × Bor (List ℕ)) ReadFault → Result (List ℕ × Bor (List ℕ)) ReadFault
items_of (Ok found) = Ok (found.0.items, found.1)
items_of (Err fault) = Err fault

-- a number and the bytes after it
abbrev pub found_number : Option (ℕ × Bor (List ℕ)) → Option (ℕ × List ℕ)
found_number None = None
found_number (Some found) = Some (found.0, found.1.now)
