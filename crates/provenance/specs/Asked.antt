-- What a query is read as, and what it is answered, but where memory ran out.
use Rattle.provenance.specs.declared.query.Query.{Query}
use Rattle.provenance.specs.declared.query.QueryFault.TheVariants as fault
use Rattle.provenance.specs.declared.query.QueryFault.{QueryFault}
use Rattle.std.specs.Prelude.{Err, None, Ok, Option, Result, Some, ◌≡◌}

-- the query that is meant; and none is meant exactly where the query is bad
abbrev pub Asks : Result Query QueryFault → Option Query → Type 0
Asks (Ok query) meant = meant ≡ Some query
Asks (Err fault.NoMemory) meant = Unit {0}
Asks (Err fault.BadQuery) meant = meant ≡ None
Asks (Err _) meant = ⊥

-- the answer that is meant, or the fault, which is not that of a text
abbrev pub Answers : {A : Type 0} → Result A QueryFault → Result A QueryFault → Type 0
Answers (Ok answer) meant = meant ≡ Ok answer
Answers (Err fault.NoMemory) meant = Unit {0}
Answers (Err fault.BadQuery) meant = ⊥
Answers (Err fault) meant = meant ≡ Err fault
