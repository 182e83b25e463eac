use Rattle.std.proofs.Common.{ap, sym, ◌∙◌, map}
use Rattle.std.specs.Option.{option_copied}
use Rattle.rel_base.specs.OwnWrites.{keyed, merged}
use Rattle.rel_base.specs.declared.access.Read.TheVariants.{Span}
use Rattle.row_sets.specs.Overlay.{own_of}
use Rattle.row_sets.proofs.Filling.{keyed_rows}
use Rattle.row_sets.proofs.Laid.{lay_in, merged_span}
use Rattle.row_sets.proofs.by_table.WritesByTable.has_written.Goals as goal

-- the table was not written
pub returns-in-None : goal.returns-in-None
returns-in-None c never def column low high seens =
    let span = Span c.args.table column low high in
    ap (λ writes. merged def span (own_of writes) seens) (sym c.self.view_is) ∙ merged_span def c.self.inside.tables.entries c.self.invariant.ordered c.args.table column low high seens
    ∙ ap (λ own. map (λ e. e.1) (lay_in def span (keyed def seens) own)) (sym c.get.ensures.value ∙ ap option_copied c.in-None.is) ∙ keyed_rows def seens
