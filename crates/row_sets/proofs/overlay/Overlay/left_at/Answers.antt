use Rattle.std.proofs.Common.{◌≡◌, ap, sym, ◌∙◌}
use Rattle.std.specs.FinMap.{get}
use Rattle.row_sets.specs.Forms.{written_in}
use Rattle.row_sets.specs.Overlay.{own_of}
use Rattle.row_sets.specs.declared.overlay.Writes.TheVariants.{Few, Many}
use Rattle.row_sets.proofs.Listing.{Ref}
use Rattle.row_sets.proofs.overlay.Overlay.left_at.Goals as goal

pub returns-in-Few : goal.returns-in-Few
returns-in-Few c =
    let ref : Ref = (c.args.table, c.args.key.now) in
    let same : written_in (Few c.in-Few.own) ≡ c.args.self.now = ap written_in (sym c.in-Few.is) ∙ c.self.view_is in
    c.left_at.ensures ∙ ap (λ own. get (own_of own) ref) same

pub returns-in-Many : goal.returns-in-Many
returns-in-Many c =
    let ref : Ref = (c.args.table, c.args.key.now) in
    let same : written_in (Many c.in-Many.own) ≡ c.args.self.now = ap written_in (sym c.in-Many.is) ∙ c.self.view_is in
    c.left_at-in-Many.ensures ∙ ap (λ own. get (own_of own) ref) same
