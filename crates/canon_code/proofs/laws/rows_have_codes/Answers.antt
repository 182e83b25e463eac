use Rattle.canon_code.specs.Rows.{row_code, HasRowCode, row_at}
use Rattle.canon_code.proofs.Exact.{one_to_one, prefix_free}
use Rattle.canon_code.proofs.Things.{row_exact}
use Rattle.canon_code.proofs.laws.rows_have_codes.Goals as goal

pub returns-clause-one_to_one : goal.returns-clause-one_to_one
returns-clause-one_to_one c = one_to_one row_code HasRowCode row_at row_exact

pub returns-clause-prefix_free : goal.returns-clause-prefix_free
returns-clause-prefix_free c = prefix_free row_code HasRowCode row_at row_exact

pub returns-clause-comes_back : goal.returns-clause-comes_back
returns-clause-comes_back c = row_exact.back

pub returns-clause-was_written : goal.returns-clause-was_written
returns-clause-was_written c = row_exact.written
