-- The words of options are read as these, and words that are read to their end are those of some.
use Rattle.std.proofs.Common.{◌≡◌, ℕ, List, [], ◌∷◌, ◌++◌, Bool, true, false, cond, Option, Some, None, refl, ◌∙◌, sym, ap}
use Rattle.std.specs.Prelude.{is_none}
use Rattle.std.specs.List.{AllByRecursion, flat_map}
use Rattle.cli_words.specs.declared.given.NextWord.{NextWord}
use Rattle.cli_words.specs.declared.given.NextWord.TheVariants.{Bad, Awaits, Ends}
use Rattle.cli_words.specs.declared.options.CommandOption.{CommandOption}
use Rattle.cli_words.specs.declared.options.Takes.{Takes}
use Rattle.cli_words.specs.declared.options.Takes.TheVariants.{Nothing, Text, Number, Hash}
use Rattle.cli_words.specs.Language.{Item, begun, begun_by, by_step, fits, is_read, item, items_from, step, value_in}
use Rattle.cli_words.specs.Laws.{IsSound, item_words, matches, words_by}
use Rattle.cli_words.specs.Table.{option_of, takes_of, word_of}
use Rattle.cli_words.proofs.Names.{named_option, option_back}

-- ---- words of options

-- the word of an option
word_step : (x : CommandOption) (takes : Takes) → takes_of x ≡ takes → step None (word_of x) ≡ begun x takes
word_step x takes e = ap begun_by (option_back x) ∙ ap (begun x) e

-- its value
value_step : (x : CommandOption) (value : List ℕ) → fits (takes_of x) value ≡ true → step (Some x) value ≡ Ends x
value_step x value e = ap (λ test. cond test (Ends x) Bad) e

abbrev items_by : Option CommandOption → List ℕ → List (List ℕ) → NextWord → List Item
items_by waiting word words next = by_step next [] (λ x. items_from (Some x) words) (λ x. item x (value_in waiting word) ∷ items_from None words)

abbrev read_by : List (List ℕ) → NextWord → Bool
read_by words next = by_step next false (λ x. is_read (Some x) words) (λ x. is_read None words)

-- words are read as an option and what follows it
abbrev ReadAs : List (List ℕ) → Item → List (List ℕ) → Type 0
ReadAs words next rest = (items_from None words ≡ next ∷ items_from None rest) × (is_read None words ≡ is_read None rest)

two_words : (x : CommandOption) (value : List ℕ) (rest : List (List ℕ)) → step None (word_of x) ≡ Awaits x → step (Some x) value ≡ Ends x → ReadAs (word_of x ∷ value ∷ rest) (item x value) rest
two_words x value rest first second = (
  ap (items_by None (word_of x) (value ∷ rest)) first ∙ ap (items_by (Some x) value rest) second,
  ap (read_by (value ∷ rest)) first ∙ ap (read_by rest) second,
)

one_item : (x : CommandOption) (value : List ℕ) (rest : List (List ℕ)) (takes : Takes) → takes_of x ≡ takes → matches takes value ≡ true → ReadAs (words_by takes (item x value) ++ rest) (item x value) rest
one_item x [] rest Nothing e sound = (ap (items_by None (word_of x) rest) (word_step x Nothing e), ap (read_by rest) (word_step x Nothing e))
one_item x (b ∷ bs) rest Nothing e sound = absurd (cc)
one_item x value rest Text e sound = two_words x value rest (word_step x Text e) (value_step x value (ap (λ (t : Takes). fits t value) e ∙ sound))
one_item x value rest (Number least most) e sound = two_words x value rest (word_step x (Number least most) e) (value_step x value (ap (λ (t : Takes). fits t value) e ∙ sound))
one_item x value rest Hash e sound = two_words x value rest (word_step x Hash e) (value_step x value (ap (λ (t : Takes). fits t value) e ∙ sound))

pub items_back : (items : List Item) → AllByRecursion IsSound items → (items_from None (flat_map item_words items) ≡ items) × (is_read None (flat_map item_words items) ≡ true)
items_back [] sound = (refl, refl)
items_back (next ∷ items) sound =
    let read : ReadAs (item_words next ++ flat_map item_words items) next (flat_map item_words items) = one_item next.option next.value (flat_map item_words items) (takes_of next.option) refl sound.0 in
    let more = items_back items sound.1 in
    (read.0 ∙ ap (λ xs. next ∷ xs) more.0, read.1 ∙ more.1)

-- ---- words that are read

-- the word of an option whose value comes next
abbrev open_words : Option CommandOption → List (List ℕ)
open_words None = []
open_words (Some x) = word_of x ∷ []

-- the words that are left are those of the options that they give
abbrev AreSpelled : List (List ℕ) → Type 0
AreSpelled words = (waiting : Option CommandOption) → is_read waiting words ≡ true → open_words waiting ++ words ≡ flat_map item_words (items_from waiting words)

none_left : (waiting : Option CommandOption) → is_none waiting ≡ true → open_words waiting ++ [] ≡ []
none_left None e = refl
none_left (Some x) e = absurd (cc)

begun_spelled : (x : CommandOption) (words : List (List ℕ)) (takes : Takes) → takes_of x ≡ takes → AreSpelled words → read_by words (begun x takes) ≡ true
    → word_of x ∷ words ≡ flat_map item_words (items_by None (word_of x) words (begun x takes))
begun_spelled x words Nothing e more read =
    ap (λ rest. word_of x ∷ rest) (more None read) ∙ ap (λ (t : Takes). words_by t (item x []) ++ flat_map item_words (items_from None words)) (sym e)
begun_spelled x words Text e more read = more (Some x) read
begun_spelled x words (Number least most) e more read = more (Some x) read
begun_spelled x words Hash e more read = more (Some x) read

named_spelled : (word : List ℕ) (words : List (List ℕ)) (found : Option CommandOption) → option_of word ≡ found → AreSpelled words → read_by words (begun_by found) ≡ true
    → word ∷ words ≡ flat_map item_words (items_by None word words (begun_by found))
named_spelled word words None e more read = absurd (cc)
named_spelled word words (Some x) e more read =
    ap (λ first. first ∷ words) (named_option word x e) ∙ begun_spelled x words (takes_of x) refl more read

-- only an option that takes a value has one
with_value : (x : CommandOption) (value : List ℕ) (takes : Takes) → fits takes value ≡ true → words_by takes (item x value) ≡ word_of x ∷ value ∷ []
with_value x value Nothing e = absurd (cc)
with_value x value Text e = refl
with_value x value (Number least most) e = refl
with_value x value Hash e = refl

valued_spelled : (x : CommandOption) (word : List ℕ) (words : List (List ℕ)) (test : Bool) → fits (takes_of x) word ≡ test → AreSpelled words → read_by words (cond test (Ends x) Bad) ≡ true
    → word_of x ∷ word ∷ words ≡ flat_map item_words (items_by (Some x) word words (cond test (Ends x) Bad))
valued_spelled x word words true e more read =
    ap (λ rest. word_of x ∷ word ∷ rest) (more None read) ∙ ap (λ front. front ++ flat_map item_words (items_from None words)) (sym (with_value x word (takes_of x) e))
valued_spelled x word words false e more read = absurd (cc)

word_spelled : (waiting : Option CommandOption) (word : List ℕ) (words : List (List ℕ)) → AreSpelled words → is_read waiting (word ∷ words) ≡ true
    → open_words waiting ++ (word ∷ words) ≡ flat_map item_words (items_from waiting (word ∷ words))
word_spelled None word words more read = named_spelled word words (option_of word) refl more read
word_spelled (Some x) word words more read = valued_spelled x word words (fits (takes_of x) word) refl more read

pub all_spelled : (words : List (List ℕ)) → AreSpelled words
all_spelled [] waiting read = none_left waiting read
all_spelled (word ∷ words) waiting read = word_spelled waiting word words (all_spelled words) read
