use Rattle.std.proofs.Common.{◌≡◌, drop}
use Rattle.proc_check.specs.Statements.{each_fits}
use Rattle.proc_check.proofs.statements.each_fits.Given as goal

-- what is left decides the whole
abbrev pub invariant-loop-i : goal.invariant-loop-i
invariant-loop-i g l =
    each_fits (λ place. g.T.ColumnRef.kind_among place l.columns) l.tables l.scope (drop l.i l.places) (drop l.i l.values)
    ≡ each_fits (λ place. g.T.ColumnRef.kind_among place l.columns) l.tables l.scope l.places l.values
