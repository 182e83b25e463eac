-- The places of variables, by their names.
use Rattle.std.specs.Prelude.{◌≡◌, ℕ, List, Option}
use Rattle.std.specs.BTreeMap.{BTreeMap, get}
use Rattle.std.specs.Cmp.Lexicographic.{slice_cmp}
use Rattle.std.specs.List.{position_from}
use Rattle.std.specs.Ordering.{nat_cmp}
use Rattle.std.specs.Str.{bytes_eq}
use Rattle.proc_check.specs.declared.scope.Variable.{Variable}

-- the place of the first variable of a name, where there is one
abbrev pub place_of_variable : List Variable → List ℕ → Option ℕ
place_of_variable variables name = position_from (λ variable. bytes_eq variable.name name) 0 variables

-- a map has for each name the place of its first variable
abbrev pub HasPlaces : BTreeMap (List ℕ) ℕ → List Variable → Type 0
HasPlaces places variables = (name : List ℕ) → get (slice_cmp nat_cmp) places name ≡ place_of_variable variables name
