use Rattle.std.proofs.Common.{◌≡◌, ◌<◌, ◌∙◌, ap, length, map, refl, rules}
use Rattle.std.specs.List.{flat_map}
use Rattle.std.specs.Prelude.{slice_index_or}
use Rattle.proc_code.specs.Numbers.{column_names, with_names}
use Rattle.proc_code.proofs.Walked.{walked}
use Rattle.proc_code.proofs.places.column_names.Goals as goal

pub loop-def-preserved : goal.loop-def-preserved
loop-def-preserved c =
    let within : c.loop-def.def-index < length c.args.tables.now = search rules in
    let here : slice_index_or c.args.tables.now c.loop-def.def-index c.def-item.result ≡ c.def-item.result = search rules in
    walked (flat_map (λ def. map (λ column. column.name) def.columns)) (λ def. map (λ column. column.name) def.columns) (λ def rest. refl)
    c.args.tables.now c.loop-def.def-index c.def-item.result c.loop-def.names c.add_columns.new.names (column_names c.args.tables.now)
    within here c.loop-def.invariant
    (c.in_ok-add_columns.ensures ∙ ap (λ columns. with_names c.loop-def.names (map (λ column. column.name) columns)) c.as_slice.ensures)
