-- Values that are computed or lent.
use Rattle.std.specs.Prelude.{◌≡◌, Result, Ok, Err}
use Rattle.std.specs.Borrow.{Bor}
use Rattle.rel_base.specs.declared.value.Value.{Value}
use Rattle.rel_base.specs.declared.value.Value.TheVariants as value
use Rattle.proc_syntax.specs.declared.run.Stop.{Stop}
use Rattle.proc_syntax.specs.declared.tree.Op.{Op}
use Rattle.proc_syntax.specs.Values.{◌>>=◌, apply, flag_of}
use Rattle.proc_eval.specs.declared.halt.Halt.{Halt}
use Rattle.proc_eval.specs.declared.halt.Halt.TheVariants as halt
use Rattle.proc_code.specs.declared.values.Worth.{Worth}
use Rattle.proc_code.specs.declared.values.Worth.TheVariants as worth

-- the value
abbrev pub weight : Worth → Value
weight (worth.Made v) = v
weight (worth.Lent v) = v.now

-- a truth value alone
abbrev pub truth_of : Value → Result Value Stop
truth_of v = flag_of v >>= λ holds. Ok (value.Bool holds)

-- an operator of what its sides give
abbrev pub applied : Op → Result Value Stop → Result Value Stop → Result Value Stop
applied o left right = left >>= λ v. apply o v right

-- the value that is lent
abbrev pub lent : Result (Bor Value) Stop → Result Value Stop
lent (Ok v) = Ok v.now
lent (Err why) = Err why

-- what was computed is what is meant, but where memory runs out
abbrev pub Weighs : Result Worth Halt → Result Value Stop → Type 0
Weighs (Ok w) meant = meant ≡ Ok (weight w)
Weighs (Err halt.NoMemory) meant = Unit {0}
Weighs (Err (halt.Stop why)) meant = meant ≡ Err why
