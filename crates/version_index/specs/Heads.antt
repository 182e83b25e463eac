-- What a map from keys to their last writes says of a key.
use Rattle.std.specs.Prelude.{ℕ, List, Bool, Option, Some, None, is_some}
use Rattle.std.specs.BTreeMap.{is_at}
use Rattle.std.specs.Map.{lookup}
use Rattle.rel_base.specs.Value.{key_cmp}
use Rattle.rel_base.specs.declared.value.Value.{Value}

-- the last write of a key that may be held
abbrev pub noted : Option (Option ℕ) → Option ℕ
noted None = None
noted (Some head) = head

-- the number of the last write on a key
abbrev pub head_of : List (List Value × Option ℕ) → List Value → Option ℕ
head_of heads key = noted (lookup (is_at (key_cmp key)) heads)

-- whether a key is held
abbrev pub holds_key : List (List Value × Option ℕ) → List Value → Bool
holds_key heads key = is_some (lookup (is_at (key_cmp key)) heads)
