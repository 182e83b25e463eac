use Rattle.std.proofs.Common.{◌≡◌, ◌++◌, drop, map}
use Rattle.proc_syntax.specs.Scope.{column_in}
use Rattle.proc_code.proofs.places.column_places.Given as goal

-- the columns so far, and the rest
abbrev pub invariant-loop-name : goal.invariant-loop-name
invariant-loop-name l = l.columns ++ map (λ name. map (λ def. column_in def name) l.tables) (drop l.name-index l.names) ≡ map (λ name. map (λ def. column_in def name) l.tables) l.names
