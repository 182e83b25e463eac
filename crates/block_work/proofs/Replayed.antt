-- The orders that a chain tells.
use Rattle.std.proofs.Common.{subst, sym}
use Rattle.block_work.specs.Laws.{ResultsRunAgain}
use Rattle.serial_laws.proofs.Results.{results_run}
use Rattle.serial_laws.specs.InOrder.{EachInOrder}

pub results_run_again : ResultsRunAgain
results_run_again app blocks history results numbered holds = subst (EachInOrder app blocks) (sym holds.results) (results_run app blocks numbered)
