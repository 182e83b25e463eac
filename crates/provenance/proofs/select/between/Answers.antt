use Rattle.provenance.proofs.Spans.{spans_told}
use Rattle.provenance.proofs.select.between.Goals as goal
use Rattle.row_sets.specs.Lifespans.{is_of_table}

pub told-requires-clause-told : goal.told-requires-clause-told
told-requires-clause-told g c =
    spans_told c.args.blocks.now (is_of_table c.args.table) (g.V.Versions.history c.args.versions.now) c.in_ok-spans.spans c.in_ok-spans.ensures c.requires.history c.requires.told
