use Rattle.std.proofs.Common.{◌≡◌, ◌∙◌, ◌==◌, ap, false, map, sym}
use Rattle.std.specs.List.{list_any}
use Rattle.rel_base.specs.OwnWrites.{keyed, lay_all, merged}
use Rattle.rel_base.specs.declared.access.Read.TheVariants.{Span}
use Rattle.row_sets.specs.Overlay.{own_of}
use Rattle.row_sets.proofs.Filling.{keyed_rows}
use Rattle.row_sets.proofs.Listing.{none_laid, own_listed}
use Rattle.row_sets.proofs.listed.ListedWrites.has_written.Goals as goal

-- none is of the table
pub returns : goal.returns
returns c never def column low high seens =
    let writes = c.self.inside.writes.items in
    let span = Span c.args.table column low high in
    let none : list_any (λ write. c.args.table == write.table) writes ≡ false = ap (list_any (λ write. c.args.table == write.table)) (sym c.as_slice.ensures.value) ∙ sym c.has_table.ensures ∙ never in
    ap (λ own. merged def span (own_of own) seens) (sym c.self.view_is)
    ∙ ap (λ es. map (λ e. e.1) (lay_all def span (keyed def seens) es)) (own_listed writes c.self.invariant)
    ∙ ap (map (λ e. e.1)) (none_laid def c.args.table column low high (keyed def seens) writes none)
    ∙ keyed_rows def seens
