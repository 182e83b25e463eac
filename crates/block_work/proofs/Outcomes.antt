-- The outcome of a late read.
use Rattle.std.proofs.Common.{List, None, Option, Some, ap, refl, ◌∙◌, ◌≡◌}
use Rattle.std.specs.Option.{option_map}
use Rattle.block_work.specs.Causes.{outcome_of_late}
use Rattle.conflict_rules.specs.Late.{Overtaken, overtaken}
use Rattle.node_model.specs.Decide.{late_outcome}
use Rattle.rel_base.specs.Late.{LateRead}
use Rattle.rel_base.specs.declared.schema.TableDef.{TableDef}

of_late : (tables : List TableDef) (found : Option LateRead) → option_map outcome_of_late (option_map (overtaken tables) found) ≡ late_outcome tables found
of_late tables None = refl
of_late tables (Some found) = refl

pub late_is : (tables : List TableDef) (found : Option LateRead) (answer : Option Overtaken) → answer ≡ option_map (overtaken tables) found
    → option_map outcome_of_late answer ≡ late_outcome tables found
late_is tables found answer is = ap (option_map outcome_of_late) is ∙ of_late tables found
