-- The fields of a line.
use Rattle.std.specs.Prelude.{◌≡◌, ℕ, List, length, take, drop, Bool, cond, ◌==◌, Option, Some, None, Result, Ok, Err}
use Rattle.std.specs.List.{before_first, position_or_len}
use Rattle.std.specs.Str.{bytes_eq}
use denote.Bor.{Bor}
use Rattle.rel_base.specs.declared.reading.ReadFault.{ReadFault}
use Rattle.rel_base.specs.declared.reading.ReadFault.TheVariants as fault
use Rattle.rel_base.specs.Text.{has_id_form, has_name_form}

-- ` `
abbrev pub is_space : ℕ → Bool
is_space b = b == 32

-- what follows some bytes, where these stand first
abbrev pub after : List ℕ → List ℕ → Option (List ℕ)
after front bytes = cond (bytes_eq (take (length front) bytes) front) (Some (drop (length front) bytes)) None

-- the bytes before the first space
abbrev pub word : List ℕ → List ℕ
word bytes = before_first is_space bytes

-- and those from it on
abbrev pub past_word : List ℕ → List ℕ
past_word bytes = drop (position_or_len is_space bytes) bytes

-- the id up to the next space, and what follows it
abbrev pub id_at : List ℕ → Option (List ℕ × List ℕ)
id_at bytes = cond (has_id_form (word bytes)) (Some (word bytes, past_word bytes)) None

-- the name up to the next space, and what follows it
abbrev pub name_at : List ℕ → Option (List ℕ × List ℕ)
name_at bytes = cond (has_name_form (word bytes)) (Some (word bytes, past_word bytes)) None

-- the rest of the bytes, as a reader answers it
abbrev pub GivesRest : Result (Bor (List ℕ)) ReadFault → Option (List ℕ) → Type 0
GivesRest (Ok rest) meant = meant ≡ Some rest.now
GivesRest (Err fault.NoMemory) meant = Unit {0}
GivesRest (Err fault.Bad) meant = meant ≡ None
