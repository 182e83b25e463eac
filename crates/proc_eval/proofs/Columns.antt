-- The kind of a column, by a look at the columns.
use Rattle.std.proofs.Common.{◌≡◌, ℕ, map, sym, ap, ◌∙◌}
use Rattle.std.specs.Prelude.{slice_get}
use Rattle.std.specs.Option.{option_map, unwrap_or}
use Rattle.std.proofs.lemmas.Option.{unwrap_or-slice_get, slice_get-map}
use Rattle.rel_base.specs.Schema.{kind_at}
use Rattle.rel_base.specs.declared.schema.TableDef.{TableDef}
use Rattle.rel_base.specs.declared.value.Kind.TheVariants as kind

pub kind_at_get : (def : TableDef) (column : ℕ) → kind_at def column ≡ unwrap_or (option_map (λ c. c.kind) (slice_get def.columns column)) kind.Int
kind_at_get def column = sym (unwrap_or-slice_get (map (λ c. c.kind) def.columns) column kind.Int) ∙ ap (λ k. unwrap_or k kind.Int) (slice_get-map (λ c. c.kind) def.columns column)
