use Rattle.std.proofs.Common.{subst}
use Rattle.literals.specs.Bytes.{bytes_literal}
use Rattle.literals.proofs.Takes.{IsLiteral, IsShort, bytes_takes}
use Rattle.literals.proofs.laws.bytes_have_one_spelling.Goals as goal

pub returns : goal.returns
returns c bytes found rest e = (subst (IsLiteral bytes_literal IsShort bytes) e (bytes_takes bytes)).0
