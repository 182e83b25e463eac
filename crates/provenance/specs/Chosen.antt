-- Which versions of a key or a table are chosen, as they are reported one by one; and the keys that a transaction wrote.
use Rattle.node_model.specs.declared.result.BlockResult.{BlockResult}
use Rattle.node_model.specs.declared.version.Version.{Version}
use Rattle.provenance.specs.Answer.{is_place_of, is_written_by, was_visible}
use Rattle.provenance.specs.Versions.{history_of, told_at, version_of}
use Rattle.provenance.specs.declared.chosen.Choice.TheVariants.{Each, Visible, WrittenBy}
use Rattle.provenance.specs.declared.chosen.Choice.{Choice}
use Rattle.rel_base.specs.Tables.{Stamped, place_of, ref_cmp, write_ref}
use Rattle.rel_base.specs.declared.value.Value.{Value}
use Rattle.row_sets.specs.Lifespans.{is_of_key, lifespans}
use Rattle.rel_base.specs.declared.schema.TableDef.{TableDef}
use Rattle.row_sets.specs.declared.versions.Lifespan.{Lifespan}
use Rattle.std.specs.BTreeSet.{insert_key}
use Rattle.rel_base.specs.declared.access.Place.{Place}
use Rattle.std.specs.List.{filter}
use Rattle.std.specs.Prelude.{Bool, IfSome, IsSome, List, Option, Some, [], cond, length, map, nat_lt, true, ◌≤◌, ◌∷◌, ℕ}

-- whether a version is chosen that was made and ended so
abbrev pub is_chosen : List BlockResult → Choice → Place → Option Place → Bool
is_chosen blocks Each made ended = true
is_chosen blocks (Visible from to) made ended = was_visible from to made ended
is_chosen blocks (WrittenBy id) made ended = is_written_by blocks id.now made ended

-- those of some versions that are chosen
abbrev pub chosen : List BlockResult → Choice → List Version → List Version
chosen blocks choice versions = filter (λ version. is_chosen blocks choice version.made version.ended) versions

-- a range is not empty
abbrev pub IsRange : Choice → Type 0
IsRange (Visible from to) = from ≤ to
IsRange _ = Unit {0}

-- transactions made a version and ended it
pub record IsTold (blocks : List BlockResult) (span : Lifespan) : Type 0 where
  pub made : IsSome (told_at blocks span.made)
  pub ended : IfSome span.ended (λ place. IsSome (told_at blocks place))

-- a write is of the transaction that committed under an id
abbrev pub is_writer : List BlockResult → List ℕ → Stamped → Bool
is_writer blocks id stamped = is_place_of blocks id (Some (place_of stamped))

-- keys in order, and those of some writes put among them
abbrev pub put_keys : List (ℕ × List Value) → List Stamped → List (ℕ × List Value)
put_keys keys [] = keys
put_keys keys (stamped ∷ later) = put_keys (insert_key ref_cmp keys (write_ref stamped.1.write)) later

-- the versions of a key, of a table that is declared
abbrev pub declared_spans : List TableDef → List Stamped → ℕ × List Value → List Lifespan
declared_spans tables history ref = cond (nat_lt ref.0 (length tables)) (lifespans (is_of_key ref.0 ref.1) history) []

-- those of them that the transaction that committed under an id made or ended
abbrev pub written_on : List TableDef → List BlockResult → List ℕ → ℕ × List Value → List Version
written_on tables blocks id ref =
    filter (λ version. is_written_by blocks id version.made version.ended) (map (version_of blocks ref.0) (declared_spans tables (history_of blocks) ref))
