-- Committed transactions that were admitted one by one, each where it met no danger, with exact isolation or without.
use Rattle.node_model.specs.Danger.{danger}
use Rattle.node_model.specs.declared.result.Committed.{Committed}
use Rattle.rel_base.specs.declared.schema.TableDef.{TableDef}
use Rattle.std.specs.Prelude.{AllPairs, Bool, List, None, [], ◌++◌, ◌<◌, ◌≡◌, ◌∷◌}

-- each met no danger among those before it, where some stand before the first
abbrev pub MeetNoDanger : Bool → List TableDef → List Committed → List Committed → Type 0
MeetNoDanger exact tables before [] = Unit {0}
MeetNoDanger exact tables before (done ∷ rest) = (danger exact tables before done.reads done.writes ≡ None) × MeetNoDanger exact tables (before ++ done ∷ []) rest

-- transactions that stand by position, none of which met a danger
pub record AreAdmitted (exact : Bool) (tables : List TableDef) (committed : List Committed) : Type 0 where
  pub rise : AllPairs (λ earlier later. earlier.pos < later.pos) committed
  pub safe : MeetNoDanger exact tables [] committed
