-- The lines that say why an application, what arrives, a schedule, a query, an order, digests or a proof is refused.
use Rattle.std.specs.Prelude.{List, codes, decimal, ◌++◌, ℕ}
use Rattle.bcdb.specs.declared.refusal.BadArrivals.{BadArrivals}
use Rattle.bcdb.specs.declared.refusal.BadDigests.{BadDigests}
use Rattle.bcdb.specs.declared.refusal.Refusal.{Refusal}
use Rattle.bcdb.specs.declared.refusal.RefusalKind.TheVariants.{Bad, Syntax, TooLong}
use Rattle.bcdb.specs.declared.refusal.RefusalKind.{RefusalKind}
use Rattle.proc_check.specs.declared.fault.BadKind.TheVariants.{KeySet, Limit, NameTwice, NoIndex, UnknownName, WrongCount, WrongKind}
use Rattle.provenance.specs.declared.query.QueryFault.{QueryFault}
use Rattle.provenance.specs.declared.query.QueryFault.TheVariants as fault

-- what is wrong, by its name
abbrev pub kind_text : RefusalKind → List ℕ
kind_text TooLong = codes "TooLong"
kind_text Syntax = codes "Syntax"
kind_text (Bad UnknownName) = codes "UnknownName"
kind_text (Bad NameTwice) = codes "NameTwice"
kind_text (Bad WrongKind) = codes "WrongKind"
kind_text (Bad WrongCount) = codes "WrongCount"
kind_text (Bad KeySet) = codes "KeySet"
kind_text (Bad NoIndex) = codes "NoIndex"
kind_text (Bad Limit) = codes "Limit"

-- ` LINE KIND`
abbrev pub place_text : Refusal → List ℕ
place_text refusal = codes " " ++ decimal refusal.line ++ codes " " ++ kind_text refusal.kind ++ codes "\n"

-- `refused application LINE KIND`
abbrev pub refusal_line : Refusal → List ℕ
refusal_line refusal = codes "refused application" ++ place_text refusal

-- why a query is refused, by its name; out of memory has a name too, and refuses none
abbrev pub fault_text : QueryFault → List ℕ
fault_text fault.NoMemory = codes "NoMemory"
fault_text fault.BadQuery = codes "BadQuery"
fault_text fault.UnknownTable = codes "UnknownTable"
fault_text fault.BadKey = codes "BadKey"
fault_text fault.BadRange = codes "BadRange"

-- `refused query KIND`
abbrev pub query_refusal : QueryFault → List ℕ
query_refusal fault = codes "refused query " ++ fault_text fault ++ codes "\n"

-- `refused`, what is refused, and a number
abbrev pub numbered_refusal : List ℕ → ℕ → List ℕ
numbered_refusal what number = codes "refused " ++ what ++ codes " " ++ decimal number ++ codes "\n"

-- `refused arrivals NODE LINE`, and of an order `refused arrivals CLIENT LINE`
abbrev pub arrivals_refusal : BadArrivals → List ℕ
arrivals_refusal bad = numbered_refusal (codes "arrivals " ++ decimal bad.node) bad.line

-- `refused schedule line LINE`
abbrev pub schedule_refusal : ℕ → List ℕ
schedule_refusal line = numbered_refusal (codes "schedule line") line

-- `refused schedule short SEALED`: so many blocks are sealed
abbrev pub short_refusal : ℕ → List ℕ
short_refusal sealed = numbered_refusal (codes "schedule short") sealed

-- `refused order BLOCKS`: so many blocks are needed
abbrev pub order_refusal : ℕ → List ℕ
order_refusal needed = numbered_refusal (codes "order") needed

-- `refused digests PEER LINE`
abbrev pub digests_refusal : BadDigests → List ℕ
digests_refusal bad = numbered_refusal (codes "digests " ++ decimal bad.peer) bad.line

-- `refused proof LINE`
abbrev pub proof_refusal : ℕ → List ℕ
proof_refusal line = numbered_refusal (codes "proof") line
