-- Commands and options are told apart by their words.
use Rattle.std.proofs.Common.{◌≡◌, ℕ, List, [], ◌∷◌, ◌++◌, Bool, true, false, cond, Some, take, drop, refl, ◌∙◌, sym, ap}
use Rattle.std.specs.Prelude.{bytes_eq}
use Rattle.std.specs.List.{find, list_all}
use Rattle.std.proofs.lemmas.Bool.{and_parts}
use Rattle.std.proofs.lemmas.Slice.Eq.{bytes_eq-Decides}
use Rattle.cli_words.specs.declared.command.Command.{Command}
use Rattle.cli_words.specs.declared.command.Command.TheVariants.{Run, Simulate, Provenance, Seal, Load, Order, Checkpoint, Compare, Prove, Verify, Query}
use Rattle.cli_words.specs.declared.options.CommandOption.{CommandOption}
use Rattle.cli_words.specs.declared.options.CommandOption.TheVariants as option
use Rattle.cli_words.specs.Table.{command_of, command_word, commands, is_same, option_of, options, word_of}
use Rattle.rel_base.proofs.Bytes.{equal_bytes}

-- what is found passes the test
found_by : {A : Type 0} (test : A → Bool) (first : A) (rest : List A) (x : A) (b : Bool) → test first ≡ b → (find test rest ≡ Some x → test x ≡ true) → cond b (Some first) (find test rest) ≡ Some x → test x ≡ true
found_by test first rest x true is more e = let same : first ≡ x = cc in ap test (sym same) ∙ is
found_by test first rest x false is more e = more e

pub find_true : {A : Type 0} (test : A → Bool) (xs : List A) (x : A) → find test xs ≡ Some x → test x ≡ true
find_true test [] x e = absurd (cc)
find_true test (first ∷ rest) x e = found_by test first rest x (test first) refl (find_true test rest x) e

-- a word names the command and the option that has it
pub command_back : (command : Command) → command_of (command_word command) ≡ Some command
command_back Run = refl
command_back Simulate = refl
command_back Provenance = refl
command_back Seal = refl
command_back Load = refl
command_back Order = refl
command_back Checkpoint = refl
command_back Compare = refl
command_back Prove = refl
command_back Verify = refl
command_back Query = refl

pub named_command : (word : List ℕ) (command : Command) → command_of word ≡ Some command → word ≡ command_word command
named_command word command e = sym (equal_bytes (command_word command) word (find_true (λ other. bytes_eq (command_word other) word) commands command e))

pub option_back : (x : CommandOption) → option_of (word_of x) ≡ Some x
option_back option.App = refl
option_back option.Blocks = refl
option_back option.Schedule = refl
option_back option.Arrivals = refl
option_back option.Query = refl
option_back option.Number = refl
option_back option.Clients = refl
option_back option.Count = refl
option_back option.Most = refl
option_back option.Files = refl
option_back option.Block = refl
option_back option.Write = refl
option_back option.Proof = refl
option_back option.Head = refl
option_back option.Height = refl
option_back option.Text = refl
option_back option.Nodes = refl
option_back option.Executors = refl
option_back option.Orders = refl
option_back option.Digests = refl
option_back option.Heads = refl
option_back option.Json = refl
option_back option.Trace = refl

pub named_option : (word : List ℕ) (x : CommandOption) → option_of word ≡ Some x → word ≡ word_of x
named_option word x e = sym (equal_bytes (word_of x) word (find_true (λ other. bytes_eq (word_of other) word) options x e))

-- options with one word are one
pub one_option : (x y : CommandOption) → is_same x y ≡ true → x ≡ y
one_option x y e =
    let same : Some x ≡ Some y = sym (option_back x) ∙ ap option_of (equal_bytes (word_of x) (word_of y) e) ∙ option_back y in
    cc

-- what holds of all options holds of each
in_list : (test : CommandOption → Bool) (front back : List CommandOption) (x : CommandOption) → list_all test (front ++ x ∷ back) ≡ true → test x ≡ true
in_list test [] back x all = (and_parts (test x) (list_all test back) all).0
in_list test (first ∷ front) back x all = in_list test front back x (and_parts (test first) (list_all test (front ++ x ∷ back)) all).1

pub of_each : (test : CommandOption → Bool) → list_all test options ≡ true → (x : CommandOption) → test x ≡ true
of_each test all option.App = in_list test (take 0 options) (drop 1 options) option.App all
of_each test all option.Blocks = in_list test (take 1 options) (drop 2 options) option.Blocks all
of_each test all option.Schedule = in_list test (take 2 options) (drop 3 options) option.Schedule all
of_each test all option.Arrivals = in_list test (take 3 options) (drop 4 options) option.Arrivals all
of_each test all option.Query = in_list test (take 4 options) (drop 5 options) option.Query all
of_each test all option.Number = in_list test (take 5 options) (drop 6 options) option.Number all
of_each test all option.Clients = in_list test (take 6 options) (drop 7 options) option.Clients all
of_each test all option.Count = in_list test (take 7 options) (drop 8 options) option.Count all
of_each test all option.Most = in_list test (take 8 options) (drop 9 options) option.Most all
of_each test all option.Files = in_list test (take 9 options) (drop 10 options) option.Files all
of_each test all option.Block = in_list test (take 10 options) (drop 11 options) option.Block all
of_each test all option.Write = in_list test (take 11 options) (drop 12 options) option.Write all
of_each test all option.Proof = in_list test (take 12 options) (drop 13 options) option.Proof all
of_each test all option.Head = in_list test (take 13 options) (drop 14 options) option.Head all
of_each test all option.Height = in_list test (take 14 options) (drop 15 options) option.Height all
of_each test all option.Text = in_list test (take 15 options) (drop 16 options) option.Text all
of_each test all option.Nodes = in_list test (take 16 options) (drop 17 options) option.Nodes all
of_each test all option.Executors = in_list test (take 17 options) (drop 18 options) option.Executors all
of_each test all option.Orders = in_list test (take 18 options) (drop 19 options) option.Orders all
of_each test all option.Digests = in_list test (take 19 options) (drop 20 options) option.Digests all
of_each test all option.Heads = in_list test (take 20 options) (drop 21 options) option.Heads all
of_each test all option.Json = in_list test (take 21 options) (drop 22 options) option.Json all
of_each test all option.Trace = in_list test (take 22 options) (drop 23 options) option.Trace all
