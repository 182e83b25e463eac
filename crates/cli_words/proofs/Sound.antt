-- The options that words give have values that they take.
use Rattle.std.proofs.Common.{◌≡◌, ℕ, List, [], ◌∷◌, Bool, true, false, cond, Option, Some, None, refl, ap}
use Rattle.std.specs.List.{AllByRecursion}
use Rattle.cli_words.specs.declared.given.NextWord.{NextWord}
use Rattle.cli_words.specs.declared.given.NextWord.TheVariants.{Bad, Awaits, Ends}
use Rattle.cli_words.specs.declared.options.CommandOption.{CommandOption}
use Rattle.cli_words.specs.declared.options.Takes.{Takes}
use Rattle.cli_words.specs.declared.options.Takes.TheVariants.{Nothing, Text, Number, Hash}
use Rattle.cli_words.specs.Language.{begun, begun_by, by_step, fits, item, items_from, step, value_in}
use Rattle.cli_words.specs.Laws.{IsSound, matches}
use Rattle.cli_words.specs.Table.{option_of, takes_of}

-- what fits stands for the option
pub fit_matches : (takes : Takes) (value : List ℕ) → fits takes value ≡ true → matches takes value ≡ true
fit_matches Nothing value e = absurd (cc)
fit_matches Text value e = e
fit_matches (Number least most) value e = e
fit_matches Hash value e = e

-- a word that ends an option gives it a value that it takes
abbrev EndsSound : Option CommandOption → List ℕ → NextWord → Type 0
EndsSound waiting word Bad = Unit {0}
EndsSound waiting word (Awaits x) = Unit {0}
EndsSound waiting word (Ends x) = matches (takes_of x) (value_in waiting word) ≡ true

begun_sound : (word : List ℕ) (x : CommandOption) (takes : Takes) → takes_of x ≡ takes → EndsSound None word (begun x takes)
begun_sound word x Nothing e = ap (λ (t : Takes). matches t []) e
begun_sound word x Text e = tt
begun_sound word x (Number least most) e = tt
begun_sound word x Hash e = tt

named_sound : (word : List ℕ) (found : Option CommandOption) → EndsSound None word (begun_by found)
named_sound word None = tt
named_sound word (Some x) = begun_sound word x (takes_of x) refl

valued_sound : (x : CommandOption) (word : List ℕ) (test : Bool) → fits (takes_of x) word ≡ test → EndsSound (Some x) word (cond test (Ends x) Bad)
valued_sound x word true e = fit_matches (takes_of x) word e
valued_sound x word false e = tt

step_sound : (waiting : Option CommandOption) (word : List ℕ) → EndsSound waiting word (step waiting word)
step_sound None word = named_sound word (option_of word)
step_sound (Some x) word = valued_sound x word (fits (takes_of x) word) refl

next_sound : (waiting : Option CommandOption) (word : List ℕ) (words : List (List ℕ)) (next : NextWord) → EndsSound waiting word next
    → ((others : Option CommandOption) → AllByRecursion IsSound (items_from others words))
    → AllByRecursion IsSound (by_step next [] (λ x. items_from (Some x) words) (λ x. item x (value_in waiting word) ∷ items_from None words))
next_sound waiting word words Bad sound more = tt
next_sound waiting word words (Awaits x) sound more = more (Some x)
next_sound waiting word words (Ends x) sound more = (sound, more None)

pub all_sound : (words : List (List ℕ)) (waiting : Option CommandOption) → AllByRecursion IsSound (items_from waiting words)
all_sound [] waiting = tt
all_sound (word ∷ words) waiting = next_sound waiting word words (step waiting word) (step_sound waiting word) (all_sound words)
