use Rattle.std.proofs.Common.{◌∙◌, ap, sym}
use Rattle.rel_base.specs.Access.{read_table}
use Rattle.rel_base.specs.declared.access.Read.TheVariants.{Point}
use Rattle.version_index.specs.View.{history_in}
use Rattle.version_index.proofs.Watching.{nothing_between, point_watched}
use Rattle.version_index.proofs.reading.hit_at.Goals as goal

-- the first late write on the key of a point is the first that it hits
pub returns-in-Point : goal.returns-in-Point
returns-in-Point c =
    let view = c.args.view.now in
    let watch = c.args.watch.now in
    let asked = c.requires.watch in
    point_watched asked.defs watch view.table c.in-Point.key (history_in view) c.first_late.result asked.declared asked.history
    (c.in-Point.is ∙ ap (λ t. Point t c.in-Point.key) (sym (asked.table ∙ ap read_table c.in-Point.is))) c.first_late.ensures

-- between a height and one that is not above it no write stands
pub returns-then-watch : goal.returns-then-watch
returns-then-watch c = nothing_between c.args.watch.now (history_in c.args.view.now) c.if-watch.true
