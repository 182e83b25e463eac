-- The commands and the options of the command line, as data.
use Rattle.std.specs.Prelude.{ℕ, ◌-◌, ◌^◌, List, [], ◌∷◌, Bool, cond, Option, codes, bytes_eq}
use Rattle.std.specs.List.{find, list_any}
use Rattle.cli_words.specs.declared.command.Command.{Command}
use Rattle.cli_words.specs.declared.command.Command.TheVariants.{Run, Simulate, Provenance, Seal, Load, Order, Checkpoint, Compare, Prove, Verify, Query}
use Rattle.cli_words.specs.declared.options.CommandOption.{CommandOption}
use Rattle.cli_words.specs.declared.options.CommandOption.TheVariants as option
use Rattle.cli_words.specs.declared.options.Takes.{Takes}
use Rattle.cli_words.specs.declared.options.Takes.TheVariants.{Nothing, Text, Number, Hash}
use Rattle.cli_words.specs.declared.options.Use.{Use}
use Rattle.cli_words.specs.declared.options.Use.TheVariants.{No, May, Must}
use Rattle.proc_syntax.specs.Limits.{most_clients, most_executors, most_nodes, most_transactions}

-- ---- commands

abbrev pub command_word : Command → List ℕ
command_word Run = codes "run"
command_word Simulate = codes "simulate"
command_word Provenance = codes "provenance"
command_word Seal = codes "seal"
command_word Load = codes "load"
command_word Order = codes "order"
command_word Checkpoint = codes "checkpoint"
command_word Compare = codes "compare"
command_word Prove = codes "prove"
command_word Verify = codes "verify"
command_word Query = codes "query"

abbrev pub commands : List Command
commands = Run ∷ Simulate ∷ Provenance ∷ Seal ∷ Load ∷ Order ∷ Checkpoint ∷ Compare ∷ Prove ∷ Verify ∷ Query ∷ []

-- the command that a word names
abbrev pub command_in : List Command → List ℕ → Option Command
command_in listed word = find (λ command. bytes_eq (command_word command) word) listed

abbrev pub command_of : List ℕ → Option Command
command_of word = command_in commands word

-- ---- options

-- an option: its word, what follows it, the commands that need it, and those that may have it
pub record Rule : Type 0 where
  pub word : List ℕ
  pub takes : Takes
  pub needed : List Command
  pub optional : List Command

abbrev rule : List ℕ → Takes → List Command → List Command → Rule
rule word takes needed optional = record { word = word; takes = takes; needed = needed; optional = optional }

abbrev pub rule_of : CommandOption → Rule
rule_of option.App = rule (codes "--app") Text (Run ∷ Simulate ∷ Provenance ∷ Checkpoint ∷ Prove ∷ Query ∷ []) []
rule_of option.Blocks = rule (codes "--blocks") Text (Run ∷ Simulate ∷ Provenance ∷ Seal ∷ Checkpoint ∷ Prove ∷ Query ∷ []) []
rule_of option.Schedule = rule (codes "--schedule") Text (Simulate ∷ []) []
rule_of option.Arrivals = rule (codes "--arrivals") Text [] (Run ∷ Simulate ∷ [])
rule_of option.Query = rule (codes "--query") Text (Provenance ∷ []) []
rule_of option.Number = rule (codes "--number") (Number 0 (2 ^ 64 - 1)) (Load ∷ []) []
rule_of option.Clients = rule (codes "--clients") Text (Order ∷ []) []
rule_of option.Count = rule (codes "--count") (Number 1 most_clients) (Order ∷ Compare ∷ []) []
rule_of option.Most = rule (codes "--most") (Number 1 most_transactions) (Order ∷ []) []
rule_of option.Files = rule (codes "--files") Text (Compare ∷ []) []
rule_of option.Block = rule (codes "--block") (Number 0 (2 ^ 64 - 1)) (Prove ∷ []) []
rule_of option.Write = rule (codes "--write") (Number 0 (2 ^ 64 - 1)) (Prove ∷ []) []
rule_of option.Proof = rule (codes "--proof") Text (Verify ∷ []) []
rule_of option.Head = rule (codes "--head") Hash (Verify ∷ []) []
rule_of option.Height = rule (codes "--height") (Number 0 (2 ^ 64 - 1)) (Query ∷ []) []
rule_of option.Text = rule (codes "--text") Text (Query ∷ []) []
rule_of option.Nodes = rule (codes "--nodes") (Number 1 most_nodes) [] (Run ∷ [])
rule_of option.Executors = rule (codes "--executors") (Number 0 most_executors) [] (Run ∷ [])
rule_of option.Orders = rule (codes "--orders") Nothing [] (Run ∷ Simulate ∷ [])
rule_of option.Digests = rule (codes "--digests") Nothing [] (Run ∷ Simulate ∷ [])
rule_of option.Heads = rule (codes "--heads") Nothing [] (Checkpoint ∷ [])
rule_of option.Json = rule (codes "--json") Nothing [] (Run ∷ Simulate ∷ [])
rule_of option.Trace = rule (codes "--trace") Nothing [] (Run ∷ Simulate ∷ [])

abbrev pub options : List CommandOption
options =
    option.App ∷ option.Blocks ∷ option.Schedule ∷ option.Arrivals ∷ option.Query ∷ option.Number ∷ option.Clients ∷ option.Count ∷ option.Most
    ∷ option.Files ∷ option.Block ∷ option.Write ∷ option.Proof ∷ option.Head ∷ option.Height ∷ option.Text ∷ option.Nodes ∷ option.Executors
    ∷ option.Orders ∷ option.Digests ∷ option.Heads ∷ option.Json ∷ option.Trace ∷ []

abbrev pub word_of : CommandOption → List ℕ
word_of x = (rule_of x).word

abbrev pub takes_of : CommandOption → Takes
takes_of x = (rule_of x).takes

-- the option that a word names
abbrev pub option_in : List CommandOption → List ℕ → Option CommandOption
option_in listed word = find (λ x. bytes_eq (word_of x) word) listed

abbrev pub option_of : List ℕ → Option CommandOption
option_of word = option_in options word

-- two options are one: they have one word
abbrev pub is_same : CommandOption → CommandOption → Bool
is_same x y = bytes_eq (word_of x) (word_of y)

-- a command stands in a list
abbrev pub is_among : List Command → Command → Bool
is_among listed command = list_any (λ other. bytes_eq (command_word other) (command_word command)) listed

-- how often a command takes an option: once, at most once, or never
abbrev pub use_of : Command → CommandOption → Use
use_of command x = cond (is_among (rule_of x).needed command) Must (cond (is_among (rule_of x).optional command) May No)
