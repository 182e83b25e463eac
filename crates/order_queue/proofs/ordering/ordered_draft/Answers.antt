use Rattle.std.proofs.Common.{subst, sym}
use Rattle.std.specs.Prelude.{◌≤◌, ℕ}
use Rattle.order_queue.proofs.Merged.{few_submitted, lines_merged}
use Rattle.order_queue.proofs.ordering.ordered_draft.Goals as goal

pub order_all-requires-clause-few : goal.order_all-requires-clause-few
order_all-requires-clause-few g c κs within = few_submitted c.args.clients c.requires.submissions

pub draft-requires-clause-few : goal.draft-requires-clause-few
draft-requires-clause-few g c = subst (λ (n : ℕ). n ≤ 1000000) (sym c.in_ok-ordered.ensures.count) c.requires.blocks

pub draft-requires-clause-lines : goal.draft-requires-clause-lines
draft-requires-clause-lines g c = lines_merged c.args.clients c.in_ok-ordered.ordered.from c.in_ok-ordered.ordered.blocks c.requires.submissions c.in_ok-ordered.ensures.merge

pub returns : goal.returns
returns g c = record {
  ordered = record {
    blocks = c.in_ok-ordered.ordered.blocks;
    from = c.in_ok-ordered.ordered.from;
    merge = c.in_ok-ordered.ensures.merge;
    numbered = c.in_ok-ordered.ensures.numbered;
    filled = c.in_ok-ordered.ensures.filled;
    text = c.in_ok-text.ensures.text;
    again = c.in_ok-text.ensures.again;
  };
}
