-- The versions that a query selects among those that blocks make.
use Rattle.std.specs.Prelude.{Err, List, None, Ok, Option, Result, Some, ◌≡◌}
use Rattle.node_model.specs.Fold.{fold, results_of}
use Rattle.node_model.specs.declared.version.Version.{Version}
use Rattle.proc_syntax.specs.Declaring.{tables_of}
use Rattle.proc_syntax.specs.declared.call.Block.{Block}
use Rattle.proc_syntax.specs.declared.tree.App.{App}
use Rattle.provenance.specs.Answer.{answer}
use Rattle.provenance.specs.declared.query.Query.{Query}
use Rattle.provenance.specs.declared.query.QueryFault.{QueryFault}
use Rattle.provenance.specs.declared.query.QueryFault.TheVariants as fault

-- the versions that a query selects in the results of the fold of the blocks; a text that is no query is a bad one
abbrev pub selected : App → List Block → Option Query → Result (List Version) QueryFault
selected app blocks None = Err fault.BadQuery
selected app blocks (Some query) = answer (tables_of app) (results_of (tables_of app) (fold app blocks)) query

-- what is reported is what is meant, but where memory ran out
abbrev pub Tells : Result (List Version) QueryFault → Result (List Version) QueryFault → Type 0
Tells (Ok versions) meant = meant ≡ Ok versions
Tells (Err fault.NoMemory) meant = Unit {0}
Tells (Err other) meant = meant ≡ Err other
