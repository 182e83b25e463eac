use Rattle.schedule_laws.proofs.Asking.{fold_of_own, own_deliveries}
use Rattle.schedule_laws.proofs.laws.fold_of_own.Goals as goal

pub returns-clause-own : goal.returns-clause-own
returns-clause-own c = own_deliveries

pub returns-clause-fold : goal.returns-clause-fold
returns-clause-fold c = fold_of_own
