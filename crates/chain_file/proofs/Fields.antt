-- The fields of a `block` line.
use Rattle.std.proofs.Common.{◌≡◌, ◌<◌, ℕ, List, [], length, sym, ap, arith, ◌∙◌}
use Rattle.std.proofs.lemmas.List.{drop_all, take_all}
use Rattle.chain_file.specs.declared.form.FileKind.{FileKind}
use Rattle.chain_file.specs.declared.form.FileKind.TheVariants as file
use Rattle.chain_file.specs.Steps.{hash_part, time_part}

-- what is too short to hold a hash is taken for one, and no time follows it
pub short_hash : (k : FileKind) (rest : List ℕ) → k ≡ file.Chain → length rest < 65 → rest ≡ hash_part k rest
short_hash k rest e short = sym (ap (λ kind. hash_part kind rest) e ∙ take_all 65 rest (omega (arith, short)))

pub short_time : (k : FileKind) (rest : List ℕ) → k ≡ file.Chain → length rest < 65 → [] ≡ time_part k rest
short_time k rest e short = sym (ap (λ kind. time_part kind rest) e ∙ drop_all 65 rest (omega (arith, short)))
