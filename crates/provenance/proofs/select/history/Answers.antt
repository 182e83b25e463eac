use Rattle.std.proofs.Common.{arith}
use Rattle.std.proofs.lemmas.Grind.{elements}
use Rattle.std.proofs.Common.{rules}
use Rattle.provenance.proofs.Choosing.{history_found}
use Rattle.provenance.proofs.Spans.{spans_told}
use Rattle.provenance.proofs.select.history.Goals as goal
use Rattle.row_sets.specs.Lifespans.{is_of_key}

pub told-requires-clause-told : goal.told-requires-clause-told
told-requires-clause-told g c =
    spans_told c.args.blocks.now (is_of_key c.args.table c.args.key.now) (g.V.Versions.history c.args.versions.now) c.in_ok-spans.spans c.in_ok-spans.ensures c.requires.history c.requires.told

pub returns : goal.returns
returns g c =
    history_found c.args.tables.now c.args.blocks.now c.args.key.now c.args.table (g.V.Versions.history c.args.versions.now) c.in_ok-spans.spans c.in_ok-told.told
    (search rules) c.requires.history c.in_ok-spans.ensures c.in_ok-told.ensures

pub chain_of-requires : goal.chain_of-requires
chain_of-requires g c = grind (arith, elements)
