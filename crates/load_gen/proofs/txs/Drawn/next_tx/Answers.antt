use Rattle.std.proofs.Common.{ap, arith, ◌∙◌}
use Rattle.load_gen.proofs.Stepping.{load_tx_is, state_next}
use Rattle.load_gen.specs.Drawing.{steps}
use Rattle.load_gen.specs.Transactions.{draws_of, drawn_tx}
use Rattle.load_gen.proofs.txs.Drawn.next_tx.Goals as goal

pub invariant_of-self : goal.invariant_of-self
invariant_of-self c =
    let from = c.args.self.now.from in
    record {
      from = omega (arith, from);
      in_step = c.in_ok-tx.ensures.moved ∙ ap (λ state. steps (draws_of state) state) c.args.self.now.in_step ∙ state_next c.args.self.now.load c.args.self.now.next from;
    }

pub returns-clause-tx : goal.returns-clause-tx
returns-clause-tx c = c.in_ok-tx.ensures.tx ∙ ap (drawn_tx c.args.self.now.next) c.args.self.now.in_step ∙ load_tx_is c.args.self.now.load c.args.self.now.next
