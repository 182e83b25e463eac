use Rattle.std.proofs.Common.{◌≡◌, ◌+◌, drop}
use Rattle.std.specs.List.{prefix_len}
use Rattle.proc_parse.specs.Tokens.{is_comment}
use Rattle.proc_parse.proofs.lexer.comment_len.Given as goal

abbrev pub invariant-loop-at : goal.invariant-loop-at
invariant-loop-at l = prefix_len is_comment l.bytes ≡ l.at + prefix_len is_comment (drop l.at l.bytes)
