use Rattle.std.proofs.Common.{rules}
use Rattle.edge_traits.proofs.whole.add_piece.Goals as goal

pub returns-in_err-extend_from_slice-in-Ok-clause-counted : goal.returns-in_err-extend_from_slice-in-Ok-clause-counted
returns-in_err-extend_from_slice-in-Ok-clause-counted g c = search rules

pub returns-in_ok-extend_from_slice-in-Ok-clause-counted : goal.returns-in_ok-extend_from_slice-in-Ok-clause-counted
returns-in_ok-extend_from_slice-in-Ok-clause-counted g c = search rules
