use Rattle.std.specs.Prelude.{◌≡◌, All, vec_items, vec_len}
use Rattle.order_queue.specs.Orders.{IsSubmission}
use Rattle.order_tests.proofs.drafts.clients_of.Given as goal

abbrev pub invariant-loop-file : goal.invariant-loop-file
invariant-loop-file l = (vec_len l.clients ≡ l.file-index) × All IsSubmission (vec_items l.clients)
