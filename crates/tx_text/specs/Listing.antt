-- Files of a header and then one item a line, as arrival files and schedules are.
use Rattle.std.specs.Prelude.{ℕ, List, [], ◌∷◌, ◌++◌, ◌+◌, ◌==◌, length, cond, ◌&&◌, nat_le, nat_lt, Option, Some, None, Result, Ok, Err}
use Rattle.std.specs.List.{flat_map}
use Rattle.std.specs.Option.{option_map}
use Rattle.std.specs.Str.{bytes_eq}
use Rattle.tx_text.specs.Parts.{is_long, line_text, parts_of}

-- the first line of a kind of file, and the item that each other line is
pub record Form (A : Type 0) : Type 0 where
  pub header : List ℕ
  pub item : List ℕ → Option A

-- the most items
abbrev pub most_items : ℕ
most_items = 1000000

-- the most lines: the header, and a line for each item
abbrev pub most_lines : ℕ
most_lines = 1000001

-- how far bytes go: the number of the line in which they end, from 1, the items of the lines before it, and what it has so far
pub record Far (A : Type 0) : Type 0 where
  pub line : ℕ
  pub items : List A
  pub rest : List ℕ

-- the first line is the header, which is no item
abbrev pub no_item : {A : Type 0} → Form A → List ℕ → Option (List A)
no_item form line = cond (bytes_eq line form.header) (Some []) None

-- each other one is an item, at most the 1,000,000th
abbrev pub one_item : {A : Type 0} → Form A → ℕ → List ℕ → Option (List A)
one_item form number line = cond (nat_le number most_lines) (option_map (λ item. item ∷ []) (form.item line)) None

-- the items of a line of this number, where it may stand there
abbrev pub items_at : {A : Type 0} → Form A → ℕ → List ℕ → Option (List A)
items_at form number line = cond (is_long line) None (cond (number == 1) (no_item form line) (one_item form number line))

-- items before those that follow
abbrev pub with_items : {A : Type 0} → List A → Result (Far A) ℕ → Result (Far A) ℕ
with_items items (Err line) = Err line
with_items items (Ok far) = Ok (record { line = far.line; items = items ++ far.items; rest = far.rest })

-- the items of a line of this number, and what follows; or the fault of that line
abbrev pub onward : {A : Type 0} → ℕ → Option (List A) → Result (Far A) ℕ → Result (Far A) ℕ
onward number None more = Err number
onward number (Some items) more = with_items items more

-- the bytes of the last line so far
abbrev pub ending : {A : Type 0} → ℕ → List ℕ → Result (Far A) ℕ
ending number rest = cond (is_long rest) (Err number) (Ok (record { line = number; items = []; rest = rest }))

-- the lines from one of this number on, and the bytes after the last newline: how far they go, or the number of the first line with a fault
abbrev pub walk : {A : Type 0} → Form A → ℕ → List (List ℕ) → Result (Far A) ℕ
walk form number [] = ending number []
walk form number (rest ∷ []) = ending number rest
walk form number (line ∷ part ∷ parts) = onward number (items_at form number line) (walk form (number + 1) (part ∷ parts))

-- how far bytes go, or the number of the first line with a fault that no more bytes mend
abbrev pub walked : {A : Type 0} → Form A → List ℕ → Result (Far A) ℕ
walked form bytes = walk form 1 (parts_of bytes)

-- a whole file has its header, and ends with a newline
abbrev pub whole : {A : Type 0} → Result (Far A) ℕ → Result (List A) ℕ
whole (Err line) = Err line
whole (Ok far) = cond (nat_lt 1 far.line && (length far.rest == 0)) (Ok far.items) (Err far.line)

-- the items of a whole file, or the number of the first line with a fault
abbrev pub listed : {A : Type 0} → Form A → List ℕ → Result (List A) ℕ
listed form bytes = whole (walked form bytes)

-- 1,000,001 lines of at most 4,096 bytes and a newline, and a line that has not ended
abbrev pub longest_listing : ℕ
longest_listing = 4097008193

-- a file as it is written, by the text of each item
abbrev pub listing : {A : Type 0} → Form A → (A → List ℕ) → List A → List ℕ
listing form text items = line_text form.header ++ flat_map (λ item. line_text (text item)) items
