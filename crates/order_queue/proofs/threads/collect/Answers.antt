use Rattle.std.proofs.Common.{◌==◌, ◌+◌, ◌≤◌, All, ap, length, sym, subst, ◌∙◌}
use Rattle.std.specs.List.{count_by}
use Rattle.order_queue.proofs.Counted.{counts_are, clients_are}
use Rattle.order_queue.proofs.threads.collect.Goals as goal

pub returns-clause-counts : goal.returns-clause-counts
returns-clause-counts g c = λ k below. ap (count_by (λ client. client == k + 1)) c.in_ok-from.ensures.noted.1 ∙ counts_are _ _ _ _ k (c.run_clients-caller.ensures.all c.in_ok-from.ensures.noted.0) below

pub returns-clause-clients : goal.returns-clause-clients
returns-clause-clients g c = subst (All (λ client. (1 ≤ client) × (client ≤ length c.args.counts.now))) (sym c.in_ok-from.ensures.noted.1) (clients_are _ _ _ (c.run_clients-caller.ensures.all c.in_ok-from.ensures.noted.0))
