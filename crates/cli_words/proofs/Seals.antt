-- Words that are read as a seal.
use Rattle.std.proofs.Common.{◌≡◌, ◌⊎◌, ℕ, List, [], ◌∷◌, Bool, true, false, cond, length, Some, refl, ◌∙◌, sym, ap, subst, inl, inr, arith}
use Rattle.std.specs.Prelude.{◌==◌, codes}
use Rattle.std.specs.List.{AllByRecursion}
use Rattle.std.proofs.lemmas.Bool.{eqb-true}
use Rattle.std.proofs.lemmas.Slice.Eq.{bytes_eq-Decides}
use Rattle.std.proofs.lemmas.List.Elements.{recursion_from_All}
use Rattle.cli_words.specs.declared.command.Command.{Command}
use Rattle.cli_words.specs.declared.command.Command.TheVariants as command
use Rattle.cli_words.specs.declared.options.CommandOption.{CommandOption}
use Rattle.cli_words.specs.declared.options.CommandOption.TheVariants as option
use Rattle.cli_words.specs.declared.options.Use.TheVariants.{No}
use Rattle.cli_words.specs.declared.settings.Settings.TheVariants.{Seal}
use Rattle.cli_words.specs.Language.{Item, is_allowed, is_line, is_value, item, made, settings_of, text_or_none, values_in}
use Rattle.cli_words.specs.Laws.{IsLine, IsSeal, IsSound, line_of}
use Rattle.cli_words.specs.Table.{is_same, use_of, word_of}
use Rattle.cli_words.proofs.Commands.{only_lines}
use Rattle.cli_words.proofs.Names.{of_each}

pub seal_read : (blocks : List ℕ) → is_value blocks ≡ true → settings_of (codes "seal" ∷ codes "--blocks" ∷ blocks ∷ []) ≡ Some (Seal blocks)
seal_read blocks is = rw is refl

-- ---- a seal has the option `--blocks` and no other

other_than : (x : CommandOption) → (use_of command.Seal x ≡ No) ⊎ (x ≡ option.Blocks)
other_than option.App = inl refl
other_than option.Blocks = inr refl
other_than option.Schedule = inl refl
other_than option.Arrivals = inl refl
other_than option.Query = inl refl
other_than option.Number = inl refl
other_than option.Clients = inl refl
other_than option.Count = inl refl
other_than option.Most = inl refl
other_than option.Files = inl refl
other_than option.Block = inl refl
other_than option.Write = inl refl
other_than option.Proof = inl refl
other_than option.Head = inl refl
other_than option.Height = inl refl
other_than option.Text = inl refl
other_than option.Nodes = inl refl
other_than option.Executors = inl refl
other_than option.Orders = inl refl
other_than option.Digests = inl refl
other_than option.Heads = inl refl
other_than option.Json = inl refl
other_than option.Trace = inl refl

-- an option that stands first has a value
first_has : (next : Item) (rest : List Item) → values_in (next ∷ rest) next.option ≡ next.value ∷ values_in rest next.option
first_has next rest = ap (λ same. cond same (next.value ∷ values_in rest next.option) (values_in rest next.option)) ((bytes_eq-Decides (word_of next.option) (word_of next.option)).1 refl)

not_none : (value : List ℕ) (values : List (List ℕ)) → value ∷ values ≡ [] → ⊥
not_none value values e = cc

-- without values there are no options
no_items : (items : List Item) → ((x : CommandOption) → values_in items x ≡ []) → items ≡ []
no_items [] none = refl
no_items (next ∷ rest) none = absurd (not_none next.value (values_in rest next.option) (sym (first_has next rest) ∙ none next.option))

-- what follows an option has no value where all have none
rest_none : (value : List ℕ) (values : List (List ℕ)) (same : Bool) → cond same (value ∷ values) values ≡ [] → values ≡ []
rest_none value values true e = absurd (not_none value values e)
rest_none value values false e = e

abbrev OthersNone : List Item → Type 0
OthersNone items = (x : CommandOption) → use_of command.Seal x ≡ No → values_in items x ≡ []

same_head : (value other : List ℕ) (values others : List (List ℕ)) → value ∷ values ≡ other ∷ others → (value ≡ other) × (values ≡ others)
same_head value other values others e = (cc, cc)

rest_empty : (next : Item) (rest : List Item) → OthersNone (next ∷ rest) → values_in rest option.Blocks ≡ [] → rest ≡ []
rest_empty next rest none no_blocks = no_items rest each
  where
    by_kind : (x : CommandOption) → (use_of command.Seal x ≡ No) ⊎ (x ≡ option.Blocks) → values_in rest x ≡ []
    by_kind x (inl never) = rest_none next.value (values_in rest x) (is_same next.option x) (none x never)
    by_kind x (inr is) = ap (values_in rest) is ∙ no_blocks

    each : (x : CommandOption) → values_in rest x ≡ []
    each x = by_kind x (other_than x)

first_is : (next : Item) (rest : List Item) (value : List ℕ) → OthersNone (next ∷ rest) → values_in (next ∷ rest) option.Blocks ≡ value ∷ []
    → (use_of command.Seal next.option ≡ No) ⊎ (next.option ≡ option.Blocks) → next ∷ rest ≡ item option.Blocks value ∷ []
first_is next rest value none one (inl never) = absurd (not_none next.value (values_in rest next.option) (sym (first_has next rest) ∙ none next.option never))
first_is next rest value none one (inr is) =
    let both = same_head next.value value (values_in rest option.Blocks) [] (sym (ap (λ x. next.value ∷ values_in rest x) is) ∙ sym (first_has next rest) ∙ ap (values_in (next ∷ rest)) is ∙ one) in
    let left : rest ≡ [] = rest_empty next rest none both.1 in
    λ i. record { option = is i; value = both.0 i } ∷ left i

one_item : (items : List Item) (value : List ℕ) → OthersNone items → values_in items option.Blocks ≡ value ∷ [] → items ≡ item option.Blocks value ∷ []
one_item [] value none one = absurd (not_none value [] (sym one))
one_item (next ∷ rest) value none one = first_is next rest value none one (other_than next.option)

-- ---- so its words are known

no_values : (values : List (List ℕ)) → (length values == 0) ≡ true → values ≡ []
no_values [] e = refl
no_values (value ∷ values) e = absurd (omega (arith, eqb-true (length (value ∷ values)) 0 e))

one_value : (values : List (List ℕ)) → (length values == 1) ≡ true → (value : List ℕ) × (values ≡ value ∷ [])
one_value [] e = absurd (omega (arith, eqb-true 0 1 e))
one_value (value ∷ []) e = (value, refl)
one_value (value ∷ other ∷ values) e = absurd (omega (arith, eqb-true (length (value ∷ other ∷ values)) 1 e))

others_none : (items : List Item) → is_line command.Seal (values_in items) ≡ true → OthersNone items
others_none items taken x never =
    no_values (values_in items x)
    (ap (λ how. is_allowed how (length (values_in items x))) (sym never) ∙ of_each (λ y. is_allowed (use_of command.Seal y) (length (values_in items y))) taken x)

seal_of : (words : List (List ℕ)) (items : List Item) (blocks : List ℕ) → words ≡ line_of command.Seal items → IsLine command.Seal items → Seal blocks ≡ made command.Seal (values_in items) → IsSeal words blocks
seal_of words items blocks spelled line same =
    let (value, one) = one_value (values_in items option.Blocks) (of_each (λ y. is_allowed (use_of command.Seal y) (length (values_in items y))) line.taken option.Blocks) in
    let alone : items ≡ item option.Blocks value ∷ [] = one_item items value (others_none items line.taken) one in
    let named : blocks ≡ value = same_name blocks (text_or_none (values_in items option.Blocks)) same ∙ ap text_or_none one in
    let sound : is_value value ≡ true = (subst (AllByRecursion IsSound) alone (recursion_from_All IsSound items line.sound)).0 in
    (ap is_value named ∙ sound, spelled ∙ ap (line_of command.Seal) alone ∙ ap (λ v. codes "seal" ∷ codes "--blocks" ∷ v ∷ []) (sym named))
  where
    same_name : (name other : List ℕ) → Seal name ≡ Seal other → name ≡ other
    same_name name other e = cc

by_command : (words : List (List ℕ)) (c : Command) (items : List Item) (blocks : List ℕ) → words ≡ line_of c items → IsLine c items → Seal blocks ≡ made c (values_in items) → IsSeal words blocks
by_command words command.Run items blocks spelled line same = absurd (cc)
by_command words command.Simulate items blocks spelled line same = absurd (cc)
by_command words command.Provenance items blocks spelled line same = absurd (cc)
by_command words command.Seal items blocks spelled line same = seal_of words items blocks spelled line same
by_command words command.Load items blocks spelled line same = absurd (cc)
by_command words command.Order items blocks spelled line same = absurd (cc)
by_command words command.Checkpoint items blocks spelled line same = absurd (cc)
by_command words command.Compare items blocks spelled line same = absurd (cc)
by_command words command.Prove items blocks spelled line same = absurd (cc)
by_command words command.Verify items blocks spelled line same = absurd (cc)
by_command words command.Query items blocks spelled line same = absurd (cc)

pub only_seals : (words : List (List ℕ)) (blocks : List ℕ) → settings_of words ≡ Some (Seal blocks) → IsSeal words blocks
only_seals words blocks e =
    let (c, items, spelled, line, same) = only_lines words (Seal blocks) e in
    by_command words c items blocks spelled line same
