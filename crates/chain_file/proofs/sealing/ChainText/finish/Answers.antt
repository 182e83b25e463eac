use Rattle.std.proofs.Common.{◌∙◌}
use Rattle.chain_file.proofs.Written.{spells_all}
use Rattle.chain_file.proofs.sealing.ChainText.finish.Goals as goal

pub returns : goal.returns
returns c = λ v blocks spells. c.from_vec.ensures ∙ spells_all c.args.self.text.items c.args.self.digits v blocks spells.1
