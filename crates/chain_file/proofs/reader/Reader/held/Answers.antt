use Rattle.std.proofs.Common.{arith, subst}
use Rattle.chain_file.proofs.Held.{few_held}
use Rattle.chain_file.proofs.reader.Reader.held.Goals as goal
use Rattle.chain_file.specs.Chain.{walked}
use Rattle.chain_file.specs.Following.{KeepsChain}
use Rattle.chain_file.specs.declared.reader.State.TheVariants as state

pub returns-in-Open-clause-most : goal.returns-in-Open-clause-most
returns-in-Open-clause-most c = λ bytes follows.
    let keeps : KeepsChain (state.Open c.in-Open.standing c.in-Open.held) (walked bytes).1 = subst (λ s. KeepsChain s (walked bytes).1) c.in-Open.is follows.keeps in
    let few = few_held c.in-Open.standing c.in-Open.held bytes keeps in
    let same = c.len.ensures in
    omega (arith, few, same)
