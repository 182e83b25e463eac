use Rattle.std.proofs.Common.{◌≡◌, None, drop}
use Rattle.std.specs.Option.{option_copied}
use Rattle.version_index.specs.Span.{are_rising, keys_in}
use Rattle.version_index.proofs.span.are_rising.Given as goal

-- all rise where those that are left do
abbrev pub invariant-loop-key : goal.invariant-loop-key
invariant-loop-key l = are_rising (option_copied l.last) (keys_in (drop l.key-index l.found)) ≡ are_rising None (keys_in l.found)
