-- What a step of a run gives.
use Rattle.std.specs.Prelude.{◌≡◌, Result, Ok, Err}
use Rattle.proc_syntax.specs.declared.run.Stop.{Stop}
use Rattle.proc_eval.specs.declared.halt.Halt.{Halt}
use Rattle.proc_eval.specs.declared.halt.Halt.TheVariants as halt

-- what was computed is what is meant, but where memory runs out
abbrev pub Gives : {A : Type 0} → Result A Halt → Result A Stop → Type 0
Gives (Ok v) meant = meant ≡ Ok v
Gives (Err halt.NoMemory) meant = Unit {0}
Gives (Err (halt.Stop why)) meant = meant ≡ Err why
