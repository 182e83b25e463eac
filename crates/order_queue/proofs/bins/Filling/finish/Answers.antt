use Rattle.std.proofs.Common.{ap, sym, ◌∙◌, subst, rules}
use Rattle.chain_file.specs.Numbered.{HaveNoTimes, NumberedFrom}
use Rattle.order_queue.specs.Blocks.{FilledBy}
use Rattle.order_queue.proofs.Filled.{numbered_end, times_end, filled_all, filled_end}
use Rattle.order_queue.proofs.bins.Filling.finish.Goals.{then-not-is_empty+in_ok-close, else-not-is_empty}
use Rattle.order_queue.proofs.bins.Filling.finish.Goals as goal

pub returns-clause-numbered : goal.returns-clause-numbered
returns-clause-numbered c = elim c.if-not-is_empty.branch [
  | then-not-is_empty+in_ok-close w ↦
      let block = w.in_ok-close.ensures.full.0 in
      let all = c.from_vec.ensures ∙ (ap (λ s. s.full.items) w.self-is ∙ w.in_ok-close.ensures.full.1) in
      subst (NumberedFrom 1) (sym all) (numbered_end 1 c.args.self.full.items block c.requires.filling.numbered (search rules))
  | else-not-is_empty w ↦ subst (NumberedFrom 1) (sym (c.from_vec.ensures ∙ ap (λ s. s.full.items) w.self-is)) c.requires.filling.numbered
]

pub returns-clause-times : goal.returns-clause-times
returns-clause-times c = elim c.if-not-is_empty.branch [
  | then-not-is_empty+in_ok-close w ↦
      let block = w.in_ok-close.ensures.full.0 in
      let all = c.from_vec.ensures ∙ (ap (λ s. s.full.items) w.self-is ∙ w.in_ok-close.ensures.full.1) in
      subst HaveNoTimes (sym all) (times_end c.args.self.full.items block c.requires.filling.times w.in_ok-close.ensures.full.3)
  | else-not-is_empty w ↦ subst HaveNoTimes (sym (c.from_vec.ensures ∙ ap (λ s. s.full.items) w.self-is)) c.requires.filling.times
]

pub returns-clause-filled : goal.returns-clause-filled
returns-clause-filled c = elim c.if-not-is_empty.branch [
  | then-not-is_empty+in_ok-close w ↦
      let block = w.in_ok-close.ensures.full.0 in
      let all = c.from_vec.ensures ∙ (ap (λ s. s.full.items) w.self-is ∙ w.in_ok-close.ensures.full.1) in
      subst (FilledBy c.args.most) (sym all) (filled_end c.args.most c.args.self.full.items block c.requires.filling.full (search rules) (search rules))
  | else-not-is_empty w ↦ subst (FilledBy c.args.most) (sym (c.from_vec.ensures ∙ ap (λ s. s.full.items) w.self-is)) (filled_all c.args.most c.args.self.full.items c.requires.most.0 c.requires.filling.full)
]
