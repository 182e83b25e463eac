use Rattle.std.proofs.Common.{◌≡◌, drop}
use Rattle.proc_parse.specs.Spans.{before, spans_among}
use Rattle.proc_parse.proofs.spans.spans_among.Given as goal

abbrev pub invariant-loop-token : goal.invariant-loop-token
invariant-loop-token l = before l.tokens (spans_among (drop l.token-index l.lexed)) ≡ spans_among l.lexed
