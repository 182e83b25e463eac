use Rattle.std.proofs.Common.{subst}
use Rattle.std.specs.Prelude.{decimal}
use Rattle.literals.proofs.Takes.{IsLiteral, IsU64, u64_takes}
use Rattle.literals.proofs.laws.numbers_have_one_spelling.Goals as goal

pub returns : goal.returns
returns c bytes found rest e = (subst (IsLiteral decimal IsU64 bytes) e (u64_takes bytes)).0
