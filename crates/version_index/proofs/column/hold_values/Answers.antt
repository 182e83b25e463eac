use Rattle.std.specs.Option.{option_copied}
use Rattle.row_sets.proofs.Endings.{on_ok_then}
use Rattle.version_index.specs.Columns.{IsRoomy}
use Rattle.version_index.proofs.Cells.{roomy_unless}
use Rattle.version_index.proofs.column.hold_values.Goals as goal

-- what was held first is held still
pub returns-clause-found : goal.returns-clause-found
returns-clause-found c =
    on_ok_then c.hold_value-3.result (λ third v there. c.hold_value-3.ensures.kept v (c.in_ok-hold_value-2.ensures.kept v (c.in_ok-hold_value.ensures.room v there))) c.hold_value-3.ensures.room

pub returns-clause-before : goal.returns-clause-before
returns-clause-before c =
    let touched = c.hold_value-3.new.touched in
    let first : IsRoomy touched (option_copied c.args.found) = λ v there. c.hold_value-3.ensures.kept v (c.in_ok-hold_value-2.ensures.kept v (c.in_ok-hold_value.ensures.room v there)) in
    let second : IsRoomy touched (option_copied c.unless.result) = λ v there. c.hold_value-3.ensures.kept v (c.in_ok-hold_value-2.ensures.room v there) in
    on_ok_then c.hold_value-3.result (λ third. roomy_unless touched (option_copied c.args.before) (option_copied c.args.found) (option_copied c.unless.result) c.unless.ensures first second) c.hold_value-3.ensures.room

pub returns-clause-other : goal.returns-clause-other
returns-clause-other c =
    let touched = c.hold_value-3.new.touched in
    let found = option_copied c.args.found in
    let before = option_copied c.args.before in
    let first : IsRoomy touched found = λ v there. c.hold_value-3.ensures.kept v (c.in_ok-hold_value-2.ensures.kept v (c.in_ok-hold_value.ensures.room v there)) in
    let second : IsRoomy touched (option_copied c.unless.result) = λ v there. c.hold_value-3.ensures.kept v (c.in_ok-hold_value-2.ensures.room v there) in
    on_ok_then c.hold_value-3.result (λ third.
    roomy_unless touched (option_copied c.args.other) before (option_copied c.unless-2.result) c.unless-2.ensures (roomy_unless touched before found (option_copied c.unless.result) c.unless.ensures first second) third)
    c.hold_value-3.ensures.room
