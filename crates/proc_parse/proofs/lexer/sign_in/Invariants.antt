use Rattle.std.proofs.Common.{◌≡◌, drop}
use Rattle.proc_parse.specs.Tokens.{sign_in}
use Rattle.proc_parse.proofs.lexer.sign_in.Given as goal

abbrev pub invariant-loop-sign : goal.invariant-loop-sign
invariant-loop-sign l = sign_in (drop l.sign-index l.signs) l.bytes ≡ sign_in l.signs l.bytes
