-- What is reported of the first late read is reported of the late read of the definition.
use Rattle.std.proofs.Common.{List, None, Option, Some, [], map, refl, ◌+◌, ◌≡◌, ◌∷◌, ℕ}
use Rattle.std.specs.Option.{option_map, option_or}
use Rattle.conflict_rules.specs.Late.{Overtaken, overtaken, overtaken_from}
use Rattle.rel_base.specs.Late.{LateRead, late_at, late_from, least_hit}
use Rattle.rel_base.specs.Tables.{Stamped}
use Rattle.rel_base.specs.declared.access.Made.{Made}
use Rattle.rel_base.specs.declared.access.Read.{Read}
use Rattle.rel_base.specs.declared.schema.TableDef.{TableDef}
use Rattle.row_sets.specs.Versions.{hit_by}
use Rattle.rel_base.specs.Access.{read_table}

told_at : (tables : List TableDef) (number : ℕ) (read : Read) (found : Option Stamped) (later : Option LateRead) (told : Option Overtaken) → told ≡ option_map (overtaken tables) later
    → option_or (option_map (λ stamped. record { read = number; table = read_table read; hit = hit_by tables read stamped }) found) told ≡ option_map (overtaken tables) (late_at number read found later)
told_at tables number read None later told is = is
told_at tables number read (Some stamped) later told is = refl

pub told_from : (tables : List TableDef) (number : ℕ) (reads : List Made) (since : List Stamped)
    → overtaken_from tables number reads since ≡ option_map (overtaken tables) (late_from number tables (map (λ made. made.read) reads) since)
told_from tables number [] since = refl
told_from tables number (made ∷ rest) since = told_at tables number made.read (least_hit tables made.read since) _ _ (told_from tables (number + 1) rest since)
