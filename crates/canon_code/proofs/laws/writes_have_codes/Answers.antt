use Rattle.canon_code.specs.Writes.{write_code, HasWriteCode, write_at}
use Rattle.canon_code.proofs.Exact.{one_to_one, prefix_free}
use Rattle.canon_code.proofs.Things.{write_exact}
use Rattle.canon_code.proofs.laws.writes_have_codes.Goals as goal

pub returns-clause-one_to_one : goal.returns-clause-one_to_one
returns-clause-one_to_one c = one_to_one write_code HasWriteCode write_at write_exact

pub returns-clause-prefix_free : goal.returns-clause-prefix_free
returns-clause-prefix_free c = prefix_free write_code HasWriteCode write_at write_exact

pub returns-clause-comes_back : goal.returns-clause-comes_back
returns-clause-comes_back c = write_exact.back

pub returns-clause-was_written : goal.returns-clause-was_written
returns-clause-was_written c = write_exact.written
