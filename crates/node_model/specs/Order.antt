-- The serial order of the committed transactions of a block: again and again the earliest of those not placed yet to which no edge
-- comes from one not placed yet.
use Rattle.node_model.specs.Edges.{edge}
use Rattle.node_model.specs.declared.result.Committed.{Committed}
use Rattle.rel_base.specs.declared.schema.TableDef.{TableDef}
use Rattle.std.specs.List.{list_all}
use Rattle.std.specs.Option.{option_map}
use Rattle.std.specs.Prelude.{AllPairs, Bool, IsPermutation, List, None, Option, Some, cond, false, length, map, not, suc, zero, [], ◌≡◌, ◌∷◌, ℕ}

-- the first member that passes a test, and the others
abbrev pub take_first : {M : Type 0} → (M → Bool) → List M → Option (M × List M)
take_first test [] = None
take_first test (member ∷ rest) = cond (test member) (Some (member, rest)) (option_map (λ taken. (taken.0, member ∷ taken.1)) (take_first test rest))

abbrev pub place : {M : Type 0} → (List M → List M) → Option (M × List M) → List M
place others None = []
place others (Some taken) = taken.0 ∷ others taken.1

-- members of any kind, and the edges between different ones
module _ {M : Type 0} (edge : M → M → Bool) where
  -- no edge comes to a member from one of some members
  abbrev pub is_free : List M → M → Bool
  is_free members to = list_all (λ from. not (edge from to)) members

  -- so many times the first member that is free among those that are left
  abbrev pub order_from : ℕ → List M → List M
  order_from zero members = []
  order_from (suc times) members = place (order_from times) (take_first (is_free members) members)

  abbrev pub order : List M → List M
  order members = order_from (length members) members

  -- a list has each member once, and no edge from a later one to an earlier one
  pub record IsSerialOrder (members list : List M) : Type 0 where
    pub permutation : IsPermutation members list
    pub forward : AllPairs (λ earlier later. edge later earlier ≡ false) list

-- the positions of committed transactions in serial order
abbrev pub serial_order : List TableDef → List Committed → List ℕ
serial_order tables committed = map (λ done. done.pos) (order (edge tables) committed)
