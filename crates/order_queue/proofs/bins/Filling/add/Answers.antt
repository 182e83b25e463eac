use Rattle.std.proofs.Common.{◌≡◌, ◌∷◌, [], length, ap, sym, subst, rules, arith, length-append}
use Rattle.chain_file.specs.Numbered.{HaveNoTimes, NumberedFrom}
use Rattle.order_queue.specs.Filled.{AllFull}
use Rattle.order_queue.proofs.Filled.{numbered_end, times_end, full_end}
use Rattle.order_queue.proofs.bins.Filling.add.Goals as goal

pub returns-clause-filling : goal.returns-clause-filling
returns-clause-filling c =
    let old = c.args.self.now.full.items in
    let block = c.in_ok-close.ensures.full.0 in
    let grown = c.in_ok-close.ensures.full.1 in
    let few = c.requires.filling.few in
    let size = ap length c.in_ok-close.ensures.full.4 in
    let more = ap length c.in_ok-push.ensures.ok in
    let here = c.len.ensures in
    let many = c.if-len-most.false in
    let long : length block.txs ≡ c.args.most = omega (arith, length-append c.args.self.now.next (c.args.tx ∷ [])) in
    record {
      numbered = subst (NumberedFrom 1) (sym grown) (numbered_end 1 old block c.requires.filling.numbered (search rules));
      times = subst HaveNoTimes (sym grown) (times_end old block c.requires.filling.times c.in_ok-close.ensures.full.3);
      full = subst (AllFull c.args.most) (sym grown) (full_end c.args.most old block c.requires.filling.full long);
      few = search rules;
    }
