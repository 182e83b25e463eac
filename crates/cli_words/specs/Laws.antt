-- What the language of the command line comes to.
use Rattle.std.specs.Prelude.{ℕ, ◌≡◌, List, [], ◌∷◌, Bool, true, false, Some, codes}
use Rattle.std.specs.List.{All, flat_map}
use Rattle.std.specs.List.Sorted.{IsPermutation}
use Rattle.cli_words.specs.Language.{Item, fits, is_line, is_value, made, settings_of, values_in}
use Rattle.cli_words.specs.Table.{command_word, takes_of, word_of}
use Rattle.cli_words.specs.declared.command.Command.{Command}
use Rattle.cli_words.specs.declared.options.Takes.{Takes}
use Rattle.cli_words.specs.declared.options.Takes.TheVariants.{Nothing, Text, Number, Hash}
use Rattle.cli_words.specs.declared.settings.Settings.{Settings}
use Rattle.cli_words.specs.declared.settings.Settings.TheVariants.{Seal}

-- a value that stands for an option that takes this
abbrev pub matches : Takes → List ℕ → Bool
matches Nothing [] = true
matches Nothing (byte ∷ bytes) = false
matches Text value = fits Text value
matches (Number least most) value = fits (Number least most) value
matches Hash value = fits Hash value

-- an option has a value that it takes
abbrev pub IsSound : Item → Type 0
IsSound next = matches (takes_of next.option) next.value ≡ true

-- the words of an option: its own, and its value unless it takes none
abbrev pub words_by : Takes → Item → List (List ℕ)
words_by Nothing next = word_of next.option ∷ []
words_by _ next = word_of next.option ∷ next.value ∷ []

abbrev pub item_words : Item → List (List ℕ)
item_words next = words_by (takes_of next.option) next

-- the words of a command and its options
abbrev pub line_of : Command → List Item → List (List ℕ)
line_of command items = command_word command ∷ flat_map item_words items

-- the options are those of a command: each has a value that it takes, and stands as often as the command takes it
pub record IsLine (command : Command) (items : List Item) : Type 0 where
  pub sound : All IsSound items
  pub taken : is_line command (values_in items) ≡ true

-- the options of a command are read as its settings, in whatever order they stand
abbrev pub OptionsInAnyOrder : Type 0
OptionsInAnyOrder = (command : Command) (items others : List Item) → IsLine command items → IsPermutation items others
    → settings_of (line_of command others) ≡ Some (made command (values_in items))

-- and no other words are read
abbrev pub OnlyLines : Type 0
OnlyLines = (words : List (List ℕ)) (settings : Settings) → settings_of words ≡ Some settings
    → (command : Command) × (items : List Item) × (words ≡ line_of command items) × IsLine command items × (settings ≡ made command (values_in items))

-- the words are those of a seal of this file, and no more
abbrev pub IsSeal : List (List ℕ) → List ℕ → Type 0
IsSeal words blocks = (is_value blocks ≡ true) × (words ≡ codes "seal" ∷ codes "--blocks" ∷ blocks ∷ [])

-- such words are read as a seal, and no other words are
abbrev pub OnlySeals : Type 0
OnlySeals = ((blocks : List ℕ) → is_value blocks ≡ true → settings_of (codes "seal" ∷ codes "--blocks" ∷ blocks ∷ []) ≡ Some (Seal blocks))
    × ((words : List (List ℕ)) (blocks : List ℕ) → settings_of words ≡ Some (Seal blocks) → IsSeal words blocks)
