use Rattle.std.proofs.Common.{◌≡◌, [], drop, take}
use Rattle.query_text.specs.Walk.{walk_sources, with_made}
use Rattle.query_text.proofs.walk.walk_sources.Given as goal

abbrev pub invariant-loop-i : goal.invariant-loop-i
invariant-loop-i l = with_made l.numbers (walk_sources l.tables (take l.i l.sources) (drop l.i l.sources)) ≡ walk_sources l.tables [] l.sources
