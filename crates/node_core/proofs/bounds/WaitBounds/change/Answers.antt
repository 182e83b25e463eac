use Rattle.std.proofs.Common.{Some, refl, rules, sym, ◌<◌, ◌∙◌, ◌≡◌, ◌≤◌}
use Rattle.std.specs.Prelude.{slice_get}
use Rattle.node_core.proofs.Quiet.{bounds_back, bounds_ended, bounds_high}
use Rattle.node_core.proofs.Walks.{here_of}
use Rattle.node_core.proofs.bounds.WaitBounds.change.Goals as goal

pub returns-then-deref-self : goal.returns-then-deref-self
returns-then-deref-self c before now is was =
    let fewer : c.min-self.result ≤ c.args.self.now.quiet = search rules in
    let behind : c.min-self.result ≤ c.args.place = search rules in
    let less : c.min-self-then-deref-self.result ≤ c.args.self.now.passed = search rules in
    let back : c.min-self-then-deref-self.result ≤ c.args.place = search rules in
    bounds_back c.args.self.now (record { quiet = c.min-self.result; passed = c.min-self-then-deref-self.result; above = c.args.self.now.above }) before c.args.rows.now c.args.place now is
    fewer behind less back refl was

pub returns-else-deref-self : goal.returns-else-deref-self
returns-else-deref-self c before now is was =
    let row = c.index-rows-place.result in
    let here : slice_get c.args.rows.now c.args.place ≡ Some row = here_of c.args.rows.now c.args.place row row c.requires c.index-rows-place.is in
    let fewer : c.min-self.result ≤ c.args.self.now.quiet = search rules in
    let behind : c.min-self.result ≤ c.args.place = search rules in
    let high : c.args.self.now.above < row.tx.value.height = search rules in
    bounds_high c.args.self.now (record { quiet = c.min-self.result; passed = c.args.self.now.passed; above = c.args.self.now.above }) before c.args.rows.now c.args.place now row is here
    fewer behind refl refl (λ waits. high) was

pub returns-else-is_waiting : goal.returns-else-is_waiting
returns-else-is_waiting c before now is was =
    let row = c.index-rows-place.result in
    let here : slice_get c.args.rows.now c.args.place ≡ Some row = here_of c.args.rows.now c.args.place row row c.requires c.index-rows-place.is in
    bounds_ended c.args.self.now before c.args.rows.now c.args.place now row is here (sym c.is_waiting.ensures ∙ c.if-is_waiting.false) was
