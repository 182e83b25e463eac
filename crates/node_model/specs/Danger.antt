-- The danger in which a transaction T stands among those that committed before it in its block: two edges in a row as each cycle
-- of edges has them at its earliest member, or, with exact isolation, a cycle. Where T is refused for it, no cycle comes about.
-- (Two such edges are the dangerous structure of Fekete and others, TODS 30(2), 2005, and Cahill and others, SIGMOD 2008; the two
-- forms, by position in the block, are this project's own.)
use Rattle.node_model.specs.Edges.{edge, touches}
use Rattle.node_model.specs.Paths.{least_path}
use Rattle.node_model.specs.declared.danger.Danger.TheVariants.{Cycle, One, Two}
use Rattle.node_model.specs.declared.danger.Danger.{Danger}
use Rattle.node_model.specs.declared.result.Committed.{Committed}
use Rattle.rel_base.specs.declared.access.Made.{Made}
use Rattle.rel_base.specs.declared.access.Write.{Write}
use Rattle.rel_base.specs.declared.schema.TableDef.{TableDef}
use Rattle.std.specs.List.{list_any}
use Rattle.std.specs.Option.{option_and_then, option_map, option_or}
use Rattle.std.specs.Prelude.{Bool, List, Option, cond, find, map, nat_le, nat_lt, ◌&&◌, ℕ}

-- the first member that is related to some member, and the first to which it is: the least ones, where members stand by position
abbrev pub first_pair : {M : Type 0} → (M → M → Bool) → List M → Option (M × M)
first_pair related members =
    option_and_then (λ first. option_map (λ second. (first, second)) (find (related first) members)) (find (λ first. list_any (related first) members) members)

-- the same by the first member, as proofs have it
abbrev pub with_partner : {M : Type 0} → (M → M → Bool) → List M → Option M → Option (M × M)
with_partner related members found = option_and_then (λ first. option_map (λ second. (first, second)) (find (related first) members)) found

-- members of any kind with their positions and the edges among them, and those to which T has an edge and which have one to T
module _ {M : Type 0} (pos : M → ℕ) (edge : M → M → Bool) (out into : M → Bool) where
  -- form one: T has an edge to Z, and X to T, and Z does not stand after X
  abbrev pub is_form_one : M → M → Bool
  is_form_one z x = out z && (into x && nat_le (pos z) (pos x))

  -- form two: T has an edge to Y, and Y to Z, and Z stands before Y
  abbrev pub is_form_two : M → M → Bool
  is_form_two y z = out y && (edge y z && nat_lt (pos z) (pos y))

  -- form one with the least Z and then the least X, and where it fails form two with the least Y and then the least Z
  abbrev pub danger_among : List M → Option Danger
  danger_among members =
      option_or (option_map (λ pair. One (pos pair.0) (pos pair.1)) (first_pair is_form_one members))
      (option_map (λ pair. Two (pos pair.0) (pos pair.1)) (first_pair is_form_two members))

  -- with exact isolation a cycle, which is told by the positions on the least path, and else one of the two forms
  abbrev pub danger_by : Bool → List M → Option Danger
  danger_by exact members = cond exact (option_map (λ path. Cycle (map pos path)) (least_path pos edge out into members)) (danger_among members)

-- the danger of a transaction, by its reads and its writes, with exact isolation or without
abbrev pub danger : Bool → List TableDef → List Committed → List Made → List Write → Option Danger
danger exact tables committed reads writes =
    danger_by (λ done. done.pos) (edge tables) (λ done. touches tables reads done.writes) (λ done. touches tables done.reads writes) exact committed
