use Rattle.std.proofs.Common.{length}
use Rattle.proc_parse.specs.Tokens.{tokens_of}
use Rattle.proc_parse.proofs.Pieces.{GoesOn}
use Rattle.proc_parse.proofs.lexer.tokens.Given as goal

abbrev pub invariant-loop-tokens : goal.invariant-loop-tokens
invariant-loop-tokens l = GoesOn l.tokens (tokens_of l.text) (length l.text) l.place l.rest

abbrev pub decreases-loop-tokens : goal.decreases-loop-tokens
decreases-loop-tokens l = length l.rest
