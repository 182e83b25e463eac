use Rattle.std.proofs.Common.{ap, rules, w64, ◌∙◌}
use Rattle.std.proofs.lemmas.Int.{to_z-of_z}
use mir.Val.{SFits}
use Rattle.block_work.proofs.Times.{times_are}
use Rattle.block_work.proofs.chain.Chain.time_of.Goals as goal
use Rattle.block_work.specs.Chain.{time_of_result}
use Rattle.proc_syntax.specs.Declaring.{tables_of}

pub returns : goal.returns
returns g c = λ chain holds.
    let fits : SFits w64 c.time_in.result = search rules in
    to_z-of_z w64 c.time_in.result fits ∙ c.time_in.ensures ∙ ap (time_of_result c.args.height) c.as_slice.ensures
    ∙ times_are (tables_of c.args.self.now.app.value.app) c.args.height chain c.args.self.now.blocks holds.results
