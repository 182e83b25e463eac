use Rattle.std.proofs.Common.{◌≡◌, ◌++◌, drop, map}
use Rattle.proc_syntax.specs.Scope.{column_in}
use Rattle.proc_code.proofs.places.places_of.Given as goal

-- the places so far, and the rest
abbrev pub invariant-loop-def : goal.invariant-loop-def
invariant-loop-def l = l.places ++ map (λ def. column_in def l.name) (drop l.def-index l.tables) ≡ map (λ def. column_in def l.name) l.tables
