use Rattle.std.proofs.Common.{◌≡◌, ap, sym, ◌∙◌}
use Rattle.rel_base.specs.OwnWrites.{merged}
use Rattle.rel_base.specs.declared.access.Read.TheVariants.{Span}
use Rattle.row_sets.specs.Forms.{written_in}
use Rattle.row_sets.specs.Overlay.{own_of}
use Rattle.row_sets.specs.declared.overlay.Writes.TheVariants.{Few, Many}
use Rattle.row_sets.proofs.overlay.Overlay.has_written.Goals as goal

pub returns-in-Few : goal.returns-in-Few
returns-in-Few c never def column low high seens =
    let same : written_in (Few c.in-Few.own) ≡ c.args.self.now = ap written_in (sym c.in-Few.is) ∙ c.self.view_is in
    ap (λ own. merged def (Span c.args.table column low high) (own_of own) seens) (sym same) ∙ c.has_written.ensures never def column low high seens

pub returns-in-Many : goal.returns-in-Many
returns-in-Many c never def column low high seens =
    let same : written_in (Many c.in-Many.own) ≡ c.args.self.now = ap written_in (sym c.in-Many.is) ∙ c.self.view_is in
    ap (λ own. merged def (Span c.args.table column low high) (own_of own) seens) (sym same) ∙ c.has_written-in-Many.ensures never def column low high seens
