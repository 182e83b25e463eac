use Rattle.std.proofs.Common.{All, subst, sym}
use Rattle.provenance.proofs.Spans.{declared_told}
use Rattle.provenance.proofs.Writers.{written_end}
use Rattle.provenance.proofs.select.written.Goals as goal
use Rattle.provenance.specs.Chosen.{IsTold}

pub push_chosen-requires-clause-told : goal.push_chosen-requires-clause-told
push_chosen-requires-clause-told g c =
    subst (λ blocks. All (IsTold blocks) c.in_ok-spans.spans) (sym c.as_slice-in-loop-table.ensures)
    (declared_told c.args.blocks.now c.args.tables.now (c.in-Some.table, c.in-Some.key) (g.V.Versions.history c.args.versions.now) c.in_ok-spans.spans c.in_ok-spans.ensures c.requires.history c.requires.told)

pub returns : goal.returns
returns g c =
    written_end c.args.blocks.now c.args.id.now c.args.tables.now c.loop-table.told c.loop-table.table-iterator c.in-None.ensures.steps.0 c.loop-table.invariant.2
