-- The least path from a transaction T back to T, among those that committed before it in its block: the cycle that T would close.
-- (A history is serializable where its serialization graph has no cycle: Bernstein, Hadzilacos and Goodman, 1987. That a refusal names
-- the shortest cycle, and of these the first by position, is this project's own.)
use Rattle.std.specs.Bool.{nat_eq}
use Rattle.std.specs.List.{flat_map, list_all}
use Rattle.std.specs.Option.{option_or}
use Rattle.std.specs.Prelude.{All, Bool, Contains, List, None, Option, false, find, length, map, nat_lt, not, suc, true, zero, [], ◌&&◌, ◌||◌, ◌∷◌, ◌≡◌, ◌≤◌, ℕ}

-- members of any kind with their positions and the edges among them, and those to which T has an edge and which have one to T
module _ {M : Type 0} (pos : M → ℕ) (edge : M → M → Bool) (out into : M → Bool) where
  -- an edge leads from a member to the first of a list, from each to the next, and from the last to T
  abbrev pub leads_back : M → List M → Bool
  leads_back member [] = into member
  leads_back member (next ∷ rest) = edge member next && leads_back next rest

  -- an edge leads from T to the first of a list, from each to the next, and from the last to T
  abbrev pub closes : List M → Bool
  closes [] = false
  closes (first ∷ rest) = out first && leads_back first rest

  -- no two stand at one position
  abbrev pub are_different : List M → Bool
  are_different [] = true
  are_different (first ∷ rest) = list_all (λ other. not (nat_eq (pos first) (pos other))) rest && are_different rest

  abbrev pub is_path : List M → Bool
  is_path list = closes list && are_different list

  -- the lists of so many of the members, in the order of the first place at which they differ
  abbrev pub lists : List M → ℕ → List (List M)
  lists members zero = [] ∷ []
  lists members (suc number) = flat_map (λ first. map (λ rest. first ∷ rest) (lists members number)) members

  -- the first path among the lists of one member, then of two, and so on up to a number
  abbrev pub least_path_upto : List M → ℕ → Option (List M)
  least_path_upto members zero = None
  least_path_upto members (suc number) = option_or (least_path_upto members number) (find is_path (lists members (suc number)))

  -- the first path of all
  abbrev pub least_path : List M → Option (List M)
  least_path members = least_path_upto members (length members)

  -- ---- what this comes to, in words

  -- a list of members that is a path
  abbrev pub IsPathAmong : List M → List M → Type 0
  IsPathAmong members list = All (Contains members) list × (is_path list ≡ true)

  -- at the first place where two lists differ, the one has the lower position
  abbrev pub is_not_after : List M → List M → Bool
  is_not_after [] other = true
  is_not_after (first ∷ rest) [] = true
  is_not_after (first ∷ rest) (other ∷ others) = nat_lt (pos first) (pos other) || (nat_eq (pos first) (pos other) && is_not_after rest others)

  -- a path of least length, and of these the least by position
  pub record IsLeastPath (members path : List M) : Type 0 where
    pub among : IsPathAmong members path
    pub shortest : (other : List M) → IsPathAmong members other → length path ≤ length other
    pub first : (other : List M) → IsPathAmong members other → length other ≡ length path → is_not_after path other ≡ true
