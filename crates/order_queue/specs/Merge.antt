-- A merge of lists, in which each item has the number of the list that it is from. Lists are counted from 1.
use Rattle.std.specs.Prelude.{◌≡◌, ℕ, ◌==◌, ◌+◌, ◌<◌, ◌≤◌, cond, List, [], ◌∷◌, length, All, slice_index_or}

-- the items whose number is k, in their order
abbrev pub of_client : {Item : Type 0} → ℕ → List ℕ → List Item → List Item
of_client k [] items = []
of_client k (client ∷ from) [] = []
of_client k (client ∷ from) (item ∷ items) = cond (client == k) (item ∷ of_client k from items) (of_client k from items)

-- each item has the number of a list, and those with the number of one list are the items of that list, in its order
pub record IsMerge {Item : Type 0} (lists : List (List Item)) (from : List ℕ) (items : List Item) : Type 0 where
  pub equally_long : length from ≡ length items
  pub clients : All (λ client. (1 ≤ client) × (client ≤ length lists)) from
  pub each : (k : ℕ) → k < length lists → of_client (k + 1) from items ≡ slice_index_or lists k []
