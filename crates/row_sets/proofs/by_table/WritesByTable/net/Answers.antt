use Rattle.std.proofs.Common.{◌++◌, List, ap, sym, ◌∙◌}
use Rattle.std.specs.FinMap.{entries}
use Rattle.rel_base.specs.declared.access.Write.{Write}
use Rattle.row_sets.specs.Overlay.{flat, net_writes}
use Rattle.row_sets.proofs.Flat.{entries_flat}
use Rattle.row_sets.proofs.by_table.WritesByTable.net.Goals as goal

pub returns : goal.returns
returns c =
    let tables = c.self.inside.tables.entries in
    c.from_vec.ensures ∙ c.push_tables.ensures ∙ ap (λ (writes : List Write). writes ++ net_writes (flat tables)) c.self.invariant.empty.0
    ∙ ap net_writes (sym (ap entries (sym c.self.view_is) ∙ entries_flat tables c.self.invariant.ordered))
