-- Words that are read are those of a command and its options.
use Rattle.std.proofs.Common.{◌≡◌, ℕ, ◌≤◌, List, [], ◌∷◌, true, cond, length, Option, Some, None, refl, ◌∙◌, sym, ap, arith}
use Rattle.std.specs.Prelude.{◌&&◌}
use Rattle.std.specs.List.{flat_map}
use Rattle.std.specs.List.Sorted.{IsPermutation}
use Rattle.std.proofs.lemmas.Bool.{and_parts, eqb-true, leb-true}
use Rattle.std.proofs.lemmas.List.Elements.{All-from_recursion, recursion_from_All}
use Rattle.std.proofs.lemmas.List.Sorted.{All-permutation}
use Rattle.std.proofs.lemmas.Option.{cond_some}
use Rattle.cli_words.specs.declared.command.Command.{Command}
use Rattle.cli_words.specs.declared.options.CommandOption.{CommandOption}
use Rattle.cli_words.specs.declared.options.Use.{Use}
use Rattle.cli_words.specs.declared.options.Use.TheVariants.{No, May, Must}
use Rattle.cli_words.specs.declared.settings.Settings.{Settings}
use Rattle.cli_words.specs.Language.{Item, given, is_allowed, is_line, is_read, items_from, made, settings_of, settled, values_in}
use Rattle.cli_words.specs.Laws.{IsLine, IsSound, item_words, line_of}
use Rattle.cli_words.specs.Table.{command_of, command_word, use_of}
use Rattle.cli_words.proofs.Lines.{all_spelled, items_back}
use Rattle.cli_words.proofs.Names.{command_back, named_command, of_each}
use Rattle.cli_words.proofs.Orders.{same_values}
use Rattle.cli_words.proofs.Sound.{all_sound}

-- a command takes no option twice
few_of : (how : Use) (times : ℕ) → is_allowed how times ≡ true → times ≤ 1
few_of No times e = omega (arith, eqb-true times 0 e)
few_of May times e = leb-true times 1 e
few_of Must times e = omega (arith, eqb-true times 1 e)

few_values : (command : Command) (values : CommandOption → List (List ℕ)) (x : CommandOption) → is_line command values ≡ true → length (values x) ≤ 1
few_values command values x taken =
    few_of (use_of command x) (length (values x)) (of_each (λ y. is_allowed (use_of command y) (length (values y))) taken x)

pub any_order : (command : Command) (items others : List Item) → IsLine command items → IsPermutation items others
    → settings_of (line_of command others) ≡ Some (made command (values_in items))
any_order command items others line moved =
    let words : List (List ℕ) = flat_map item_words others in
    let back = items_back others (recursion_from_All IsSound others (All-permutation IsSound items others moved line.sound)) in
    let same : values_in others ≡ values_in items = λ i x. same_values items others x moved (few_values command (values_in items) x line.taken) i in
    ap (λ named. settled named words) (command_back command)
    ∙ ap (λ whole. cond (whole && is_line command (given words)) (Some (made command (given words))) None) back.1
    ∙ ap (λ read. cond (true && is_line command (values_in read)) (Some (made command (values_in read))) None) back.0
    ∙ ap (λ values. cond (true && is_line command values) (Some (made command values)) None) same
    ∙ ap (λ taken. cond (true && taken) (Some (made command (values_in items))) None) line.taken

-- what words are read as
abbrev LineIn : List (List ℕ) → Settings → Type 0
LineIn words settings = (command : Command) × (items : List Item) × (words ≡ line_of command items) × IsLine command items × (settings ≡ made command (values_in items))

line_in : (word : List ℕ) (words : List (List ℕ)) (found : Option Command) (settings : Settings) → command_of word ≡ found → settled found words ≡ Some settings → LineIn (word ∷ words) settings
line_in word words None settings named e = absurd (cc)
line_in word words (Some command) settings named e =
    let items : List Item = items_from None words in
    let parts = cond_some (is_read None words && is_line command (given words)) (made command (given words)) settings e in
    let both = and_parts (is_read None words) (is_line command (given words)) parts.0 in (
      command,
      items,
      ap (λ first. first ∷ words) (named_command word command named) ∙ ap (λ rest. command_word command ∷ rest) (all_spelled words None both.0),
      record { sound = All-from_recursion IsSound items (all_sound words None); taken = both.1 },
      sym parts.1,
    )

pub only_lines : (words : List (List ℕ)) (settings : Settings) → settings_of words ≡ Some settings → LineIn words settings
only_lines [] settings e = absurd (cc)
only_lines (word ∷ words) settings e = line_in word words (command_of word) settings refl e
