use Rattle.std.proofs.Common.{arith}
use Rattle.tx_text.proofs.Fed.{few_held}
use Rattle.tx_text.proofs.arrival_reader.ArrivalReader.held.Goals as goal

pub returns-in-Open-clause-most : goal.returns-in-Open-clause-most
returns-in-Open-clause-most c = λ bytes follows.
    let few = few_held c.args.self.now.state c.in-Open.line c.in-Open.held bytes c.in-Open.is follows in
    let same = c.len.ensures in
    omega (arith, few, same)
