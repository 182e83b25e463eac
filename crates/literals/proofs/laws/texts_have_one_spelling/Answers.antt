use Rattle.std.proofs.Common.{subst}
use Rattle.literals.specs.Text.{text_literal}
use Rattle.literals.proofs.Takes.{IsLiteral, IsText, text_takes}
use Rattle.literals.proofs.laws.texts_have_one_spelling.Goals as goal

pub returns : goal.returns
returns c bytes found rest e = (subst (IsLiteral text_literal IsText bytes) e (text_takes bytes)).0
