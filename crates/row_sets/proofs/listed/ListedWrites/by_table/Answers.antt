use Rattle.std.proofs.Common.{◌∙◌}
use Rattle.row_sets.specs.Listed.{listed, put_each}
use Rattle.row_sets.proofs.Listing.{put_all}
use Rattle.row_sets.proofs.listed.ListedWrites.by_table.Goals as goal

pub returns : goal.returns
returns c =
    c.in_ok-put_copies.ensures ∙ (λ i. put_each (c.new-own.ensures i) (listed (c.as_slice.ensures.value i))) ∙ put_all (listed c.self.inside.writes.items) c.self.invariant ∙ c.self.view_is
