use Rattle.std.proofs.Common.{◌≡◌, All, take}
use Rattle.version_index.proofs.span.column_of.Given as goal

-- none of the indexes so far is by the column
abbrev pub invariant-loop-own : goal.invariant-loop-own
invariant-loop-own l = All (λ own. own.column ≡ l.column → ⊥) (take l.own-index l.columns)
