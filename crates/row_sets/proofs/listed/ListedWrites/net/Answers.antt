use Rattle.std.proofs.Common.{◌∙◌, ap, sym}
use Rattle.std.specs.FinMap.{entries}
use Rattle.rel_base.specs.Tables.{ref_cmp, ref_cmp-total, ref_cmp-exact}
use Rattle.row_sets.specs.Listed.{listed}
use Rattle.row_sets.specs.Overlay.{net_writes}
use Rattle.row_sets.proofs.Entries.{entries_of_sorted}
use Rattle.row_sets.proofs.listed.ListedWrites.net.Goals as goal

pub returns : goal.returns
returns c =
    let writes = listed c.self.inside.writes.items in
    c.from_vec.ensures ∙ c.keep_net.ensures ∙ ap net_writes (sym (ap entries (sym c.self.view_is) ∙ entries_of_sorted ref_cmp ref_cmp-total ref_cmp-exact writes c.self.invariant))
