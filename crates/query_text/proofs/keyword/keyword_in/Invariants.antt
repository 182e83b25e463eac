use Rattle.std.proofs.Common.{◌≡◌, drop}
use Rattle.query_text.specs.Keywords.{keyword_in}
use Rattle.query_text.proofs.keyword.keyword_in.Given as goal

abbrev pub invariant-loop-word : goal.invariant-loop-word
invariant-loop-word l = keyword_in (drop l.word-index l.words) l.bytes ≡ keyword_in l.words l.bytes
