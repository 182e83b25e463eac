-- The tokens of a value's compact text, which the code writes one after another.
use Rattle.std.specs.Prelude.{ℕ, List, [], ◌∷◌, Bool, cond}
use Rattle.json.specs.Token.{Token, key}
use Rattle.json.specs.Tree.{json_tokens, items_tokens}
use Rattle.serde_json.specs.Data.{Data, Items}
use Rattle.serde_json.specs.Written.{outline, items_outline}

-- a value
abbrev pub tokens_of : Data → List Token
tokens_of value = json_tokens (outline value)

-- the rest of an array, from some item on, and the bracket that closes it
abbrev pub rest_of_array : Items → List Token
rest_of_array items = items_tokens (items_outline items)

-- a member
abbrev pub member_tokens : List ℕ → Data → List Token
member_tokens name value = key name ∷ tokens_of value

-- a member that is shown only where it is asked for
abbrev pub tokens_if : Bool → List Token → List Token
tokens_if asked tokens = cond asked tokens []
