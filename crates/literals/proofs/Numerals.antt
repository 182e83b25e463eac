-- `number_after` is what std's `parse` and `decimal` speak of.
use Rattle.std.proofs.Common.{◌≡◌, true, rules}
use Rattle.std.specs.Str.{all_ascii_digits}
use Rattle.std.proofs.lemmas.Str.Parse.{IsNumeralModel, numerals_by_fold, tells_all_ascii_digits}
use Rattle.literals.specs.Number.{number_after}

pub own : IsNumeralModel (λ ds. all_ascii_digits ds ≡ true) (number_after 0)
own = numerals_by_fold _ tells_all_ascii_digits number_after (search rules)
