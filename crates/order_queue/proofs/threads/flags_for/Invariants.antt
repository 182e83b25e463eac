use Rattle.std.specs.Prelude.{◌≡◌, vec_len}
use Rattle.order_queue.proofs.threads.flags_for.Given as goal

abbrev pub invariant-loop : goal.invariant-loop
invariant-loop l = vec_len l.flags ≡ l.counter
