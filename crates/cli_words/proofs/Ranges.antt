-- Numbers that words give lie in the range of their option.
use Rattle.std.proofs.Common.{◌≡◌, ℕ, ◌≤◌, List, [], ◌∷◌, Bool, true, false, cond, Option, Some, None, refl, ◌∙◌, sym, ap, subst, arith}
use Rattle.std.specs.Prelude.{nat_le, unwrap_or}
use Rattle.std.specs.List.{AllByRecursion}
use Rattle.std.proofs.lemmas.Bool.{and_parts, leb-true}
use Rattle.std.proofs.lemmas.List.Elements.{recursion_from_All}
use Rattle.cli_words.specs.declared.command.Command.{Command}
use Rattle.cli_words.specs.declared.command.Command.TheVariants as command
use Rattle.cli_words.specs.declared.options.CommandOption.{CommandOption}
use Rattle.cli_words.specs.declared.options.CommandOption.TheVariants as option
use Rattle.cli_words.specs.declared.options.Takes.{Takes}
use Rattle.cli_words.specs.declared.options.Takes.TheVariants.{Number}
use Rattle.cli_words.specs.declared.settings.Settings.{Settings}
use Rattle.cli_words.specs.Language.{AreWithin, Item, given, is_within, items_from, made, number_or, settings_of, settled, values_in, whole_number}
use Rattle.cli_words.specs.Laws.{IsSound, matches}
use Rattle.cli_words.specs.Table.{command_word, is_same, takes_of}
use Rattle.cli_words.proofs.Commands.{only_lines}
use Rattle.cli_words.proofs.Names.{command_back, one_option}
use Rattle.cli_words.proofs.Sound.{all_sound}

abbrev IsFrom : ℕ → ℕ → ℕ → Type 0
IsFrom least most number = (least ≤ number) × (number ≤ most)

number_in : (least most other : ℕ) (found : Option ℕ) → is_within least most found ≡ true → IsFrom least most (unwrap_or found other)
number_in least most other None e = absurd (cc)
number_in least most other (Some number) e =
    let both = and_parts (nat_le least number) (nat_le number most) e in
    (leb-true least number both.0, leb-true number most both.1)

-- one more option
next_in : (x : CommandOption) (least most other : ℕ) (next : Item) (values : List (List ℕ)) (same : Bool) → takes_of x ≡ Number least most → IsSound next
    → is_same next.option x ≡ same → IsFrom least most (number_or other values)
    → IsFrom least most (number_or other (cond same (next.value ∷ values) values))
next_in x least most other next values true takes sound e rest =
    let own : takes_of next.option ≡ Number least most = ap takes_of (one_option next.option x e) ∙ takes in
    let mine : matches (Number least most) next.value ≡ true = ap (λ (t : Takes). matches t next.value) (sym own) ∙ sound in
    number_in least most other (whole_number next.value) mine
next_in x least most other next values false takes sound e rest = rest

all_in : (x : CommandOption) (least most other : ℕ) (items : List Item) → takes_of x ≡ Number least most → IsFrom least most other
    → AllByRecursion IsSound items → IsFrom least most (number_or other (values_in items x))
all_in x least most other [] takes own sound = own
all_in x least most other (next ∷ items) takes own sound =
    next_in x least most other next (values_in items x) (is_same next.option x) takes sound.0 refl (all_in x least most other items takes own sound.1)

nodes_in : (items : List Item) → AllByRecursion IsSound items → IsFrom 1 8 (number_or 1 (values_in items option.Nodes))
nodes_in items sound = all_in option.Nodes 1 8 1 items refl (omega arith, omega arith) sound

executors_in : (items : List Item) → AllByRecursion IsSound items → IsFrom 0 16 (number_or 2 (values_in items option.Executors))
executors_in items sound = all_in option.Executors 0 16 2 items refl (omega arith, omega arith) sound

clients_in : (items : List Item) → AllByRecursion IsSound items → IsFrom 1 8 (number_or 1 (values_in items option.Count))
clients_in items sound = all_in option.Count 1 8 1 items refl (omega arith, omega arith) sound

most_in : (items : List Item) → AllByRecursion IsSound items → IsFrom 1 1024 (number_or 1 (values_in items option.Most))
most_in items sound = all_in option.Most 1 1024 1 items refl (omega arith, omega arith) sound

pub few_nodes : (words : List (List ℕ)) → number_or 1 (given words option.Nodes) ≤ 8
few_nodes words = (nodes_in (items_from None words) (all_sound words None)).1

pub few_executors : (words : List (List ℕ)) → number_or 2 (given words option.Executors) ≤ 16
few_executors words = (executors_in (items_from None words) (all_sound words None)).1

pub few_clients : (words : List (List ℕ)) → number_or 1 (given words option.Count) ≤ 8
few_clients words = (clients_in (items_from None words) (all_sound words None)).1

pub few_in_a_block : (words : List (List ℕ)) → number_or 1 (given words option.Most) ≤ 1024
few_in_a_block words = (most_in (items_from None words) (all_sound words None)).1

made_within : (c : Command) (items : List Item) → AllByRecursion IsSound items → AreWithin (made c (values_in items))
made_within command.Run items sound = let nodes = nodes_in items sound in (nodes.0, nodes.1, (executors_in items sound).1)
made_within command.Simulate items sound = tt
made_within command.Provenance items sound = tt
made_within command.Seal items sound = tt
made_within command.Load items sound = tt
made_within command.Order items sound = let clients = clients_in items sound in let most = most_in items sound in (clients.0, clients.1, most.0, most.1)
made_within command.Checkpoint items sound = tt
made_within command.Compare items sound = clients_in items sound
made_within command.Prove items sound = tt
made_within command.Verify items sound = tt
made_within command.Query items sound = tt

-- the settings that words say
pub settings_within : (words : List (List ℕ)) (settings : Settings) → settings_of words ≡ Some settings → AreWithin settings
settings_within words settings e =
    let (c, items, spelled, line, same) = only_lines words settings e in
    subst AreWithin (sym same) (made_within c items (recursion_from_All IsSound items line.sound))

-- and those that a command and the words after it come to
pub settled_within : (c : Command) (words : List (List ℕ)) (settings : Settings) → settled (Some c) words ≡ Some settings → AreWithin settings
settled_within c words settings e = settings_within (command_word c ∷ words) settings (ap (λ named. settled named words) (command_back c) ∙ e)
