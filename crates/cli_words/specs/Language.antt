-- The language of the command line.
use Rattle.std.specs.Prelude.{ℕ, ◌≤◌, List, [], ◌∷◌, Bool, true, false, not, ◌&&◌, ◌==◌, cond, length, nat_le, Option, Some, None, is_none, is_some, replicate, unwrap_or}
use Rattle.std.specs.Borrow.{Bor}
use Rattle.std.specs.List.{list_all}
use Rattle.hex_digits.specs.Digits.{hash_of}
use Rattle.literals.specs.Number.{u64_at}
use Rattle.cli_words.specs.Table.{command_of, is_same, option_of, options, takes_of, use_of}
use Rattle.cli_words.specs.declared.command.Command.{Command}
use Rattle.cli_words.specs.declared.command.Command.TheVariants as command
use Rattle.cli_words.specs.declared.flags.Flags.{Flags}
use Rattle.cli_words.specs.declared.given.NextWord.{NextWord}
use Rattle.cli_words.specs.declared.given.NextWord.TheVariants.{Bad, Awaits, Ends}
use Rattle.cli_words.specs.declared.options.CommandOption.{CommandOption}
use Rattle.cli_words.specs.declared.options.CommandOption.TheVariants as option
use Rattle.cli_words.specs.declared.options.Takes.{Takes}
use Rattle.cli_words.specs.declared.options.Takes.TheVariants.{Nothing, Text, Number, Hash}
use Rattle.cli_words.specs.declared.options.Use.{Use}
use Rattle.cli_words.specs.declared.options.Use.TheVariants.{No, May, Must}
use Rattle.cli_words.specs.declared.settings.Settings.{Settings}
use Rattle.cli_words.specs.declared.settings.Settings.TheVariants.{Run, Simulate, Provenance, Seal, Load, Order, Checkpoint, Compare, Prove, Verify, Query}
use Rattle.proc_syntax.specs.Limits.{most_clients, most_executors, most_nodes, most_peers, most_transactions}

-- the words of a `&[&str]`
abbrev pub texts : List (Bor (List ℕ)) → List (List ℕ)
texts [] = []
texts (word ∷ words) = word.now ∷ texts words

-- ---- values

-- a value is a word that is not empty and does not begin with `-`
abbrev pub is_value : List ℕ → Bool
is_value [] = false
is_value (byte ∷ bytes) = not (byte == 45)

-- a number with nothing after it
abbrev pub alone : Option (ℕ × List ℕ) → Option ℕ
alone None = None
alone (Some (number, [])) = Some number
alone (Some (number, byte ∷ bytes)) = None

-- the number below 2 ^ 64 that a word is in canonical decimal
abbrev pub whole_number : List ℕ → Option ℕ
whole_number word = alone (u64_at word)

-- a number from least to most, if there is one
abbrev pub is_within : ℕ → ℕ → Option ℕ → Bool
is_within least most None = false
is_within least most (Some number) = nat_le least number && nat_le number most

-- a word is a value for an option that takes this
abbrev pub fits : Takes → List ℕ → Bool
fits Nothing word = false
fits Text word = is_value word
fits (Number least most) word = is_within least most (whole_number word)
fits Hash word = is_some (hash_of word)

-- ---- the words after the command

-- a word that has to be an option
abbrev pub begun : CommandOption → Takes → NextWord
begun x Nothing = Ends x
begun x _ = Awaits x

abbrev pub begun_by : Option CommandOption → NextWord
begun_by None = Bad
begun_by (Some x) = begun x (takes_of x)

-- one more word: the value of the option that awaits one, or else an option
abbrev pub step : Option CommandOption → List ℕ → NextWord
step None word = begun_by (option_of word)
step (Some x) word = cond (fits (takes_of x) word) (Ends x) Bad

-- an option with its value, which of one that takes none is empty
pub record Item : Type 0 where
  pub option : CommandOption
  pub value : List ℕ

abbrev pub item : CommandOption → List ℕ → Item
item x value = record { option = x; value = value }

-- a word is a value where an option awaits it
abbrev pub value_in : Option CommandOption → List ℕ → List ℕ
value_in None word = []
value_in (Some x) word = word

-- what follows a word: nothing after one that is neither; else what follows with an option that awaits its value, or after one
abbrev pub by_step : {A : Type 0} → NextWord → A → (CommandOption → A) → (CommandOption → A) → A
by_step Bad bad awaits ends = bad
by_step (Awaits x) bad awaits ends = awaits x
by_step (Ends x) bad awaits ends = ends x

-- the options that the words give, up to the first word that is neither an option nor its value
abbrev pub items_from : Option CommandOption → List (List ℕ) → List Item
items_from waiting [] = []
items_from waiting (word ∷ words) =
    by_step (step waiting word) [] (λ x. items_from (Some x) words) (λ x. item x (value_in waiting word) ∷ items_from None words)

-- there is no such word, and the last option has its value
abbrev pub is_read : Option CommandOption → List (List ℕ) → Bool
is_read waiting [] = is_none waiting
is_read waiting (word ∷ words) = by_step (step waiting word) false (λ x. is_read (Some x) words) (λ x. is_read None words)

-- the values of an option among others
abbrev pub values_in : List Item → CommandOption → List (List ℕ)
values_in [] x = []
values_in (next ∷ items) x = cond (is_same next.option x) (next.value ∷ values_in items x) (values_in items x)

-- what the words give each option
abbrev pub given : List (List ℕ) → CommandOption → List (List ℕ)
given words x = values_in (items_from None words) x

-- ---- the settings

-- an option may be given so often
abbrev pub is_allowed : Use → ℕ → Bool
is_allowed No times = times == 0
is_allowed May times = nat_le times 1
is_allowed Must times = times == 1

-- a command takes each of some options as often as it has values
abbrev pub are_taken : Command → List CommandOption → (CommandOption → List (List ℕ)) → Bool
are_taken command listed values = list_all (λ x. is_allowed (use_of command x) (length (values x))) listed

-- so it takes each option
abbrev pub is_line : Command → (CommandOption → List (List ℕ)) → Bool
is_line command values = are_taken command options values

abbrev pub first : List (List ℕ) → Option (List ℕ)
first [] = None
first (value ∷ values) = Some value

abbrev pub text_or_none : List (List ℕ) → List ℕ
text_or_none [] = []
text_or_none (value ∷ values) = value

-- the number that is given, or else this one
abbrev pub number_or : ℕ → List (List ℕ) → ℕ
number_or other [] = other
number_or other (value ∷ values) = unwrap_or (whole_number value) other

-- the hash that is given, or else zeros
abbrev pub hash_or_zeros : List (List ℕ) → List ℕ
hash_or_zeros [] = replicate 32 0
hash_or_zeros (value ∷ values) = unwrap_or (hash_of value) (replicate 32 0)

abbrev pub is_given : List (List ℕ) → Bool
is_given [] = false
is_given (value ∷ values) = true

abbrev pub flags_of : (CommandOption → List (List ℕ)) → Flags
flags_of values = record {
  orders = is_given (values option.Orders);
  digests = is_given (values option.Digests);
  json = is_given (values option.Json);
  trace = is_given (values option.Trace);
}

-- no flag is on
abbrev pub no_flags : Flags
no_flags = record { orders = false; digests = false; json = false; trace = false }

-- the settings of a command, by the values of its options
abbrev pub made : Command → (CommandOption → List (List ℕ)) → Settings
made command.Run values =
    Run (text_or_none (values option.App)) (text_or_none (values option.Blocks)) (first (values option.Arrivals)) (number_or 1 (values option.Nodes))
    (number_or 2 (values option.Executors)) (flags_of values)
made command.Simulate values =
    Simulate (text_or_none (values option.App)) (text_or_none (values option.Blocks)) (text_or_none (values option.Schedule))
    (first (values option.Arrivals)) (flags_of values)
made command.Provenance values = Provenance (text_or_none (values option.App)) (text_or_none (values option.Blocks)) (text_or_none (values option.Query))
made command.Seal values = Seal (text_or_none (values option.Blocks))
made command.Load values = Load (number_or 0 (values option.Number))
made command.Order values = Order (text_or_none (values option.Clients)) (number_or 1 (values option.Count)) (number_or 1 (values option.Most))
made command.Checkpoint values = Checkpoint (text_or_none (values option.App)) (text_or_none (values option.Blocks)) (is_given (values option.Heads))
made command.Compare values = Compare (text_or_none (values option.Files)) (number_or 1 (values option.Count))
made command.Prove values =
    Prove (text_or_none (values option.App)) (text_or_none (values option.Blocks)) (number_or 0 (values option.Block)) (number_or 0 (values option.Write))
made command.Verify values = Verify (text_or_none (values option.Proof)) (hash_or_zeros (values option.Head))
made command.Query values =
    Query (text_or_none (values option.App)) (text_or_none (values option.Blocks)) (number_or 0 (values option.Height)) (text_or_none (values option.Text))

-- what a command and the words after it come to
abbrev pub settled : Option Command → List (List ℕ) → Option Settings
settled None words = None
settled (Some command) words = cond (is_read None words && is_line command (given words)) (Some (made command (given words))) None

-- the settings of a command line: the command's word, and its options in any order; none where it is not in the language
abbrev pub settings_of : List (List ℕ) → Option Settings
settings_of [] = None
settings_of (word ∷ words) = settled (command_of word) words

-- the numbers lie in their ranges: a run has 1 to 8 nodes, and each node at most 16 executors; an order has 1 to 8 clients, and 1 to 1,024
-- transactions a block; a comparison has 1 to 8 peers
abbrev pub AreWithin : Settings → Type 0
AreWithin (Run app blocks arrivals nodes executors flags) = (1 ≤ nodes) × (nodes ≤ most_nodes) × (executors ≤ most_executors)
AreWithin (Order clients count most) = (1 ≤ count) × (count ≤ most_clients) × (1 ≤ most) × (most ≤ most_transactions)
AreWithin (Compare files count) = (1 ≤ count) × (count ≤ most_peers)
AreWithin _ = Unit {0}
