use Rattle.std.proofs.Common.{◌≡◌, drop}
use Rattle.proc_parse.specs.Tokens.{word_in}
use Rattle.proc_parse.proofs.runs.word_in.Given as goal

abbrev pub invariant-loop-word : goal.invariant-loop-word
invariant-loop-word l = word_in (drop l.word-index l.words) l.bytes ≡ word_in l.words l.bytes
