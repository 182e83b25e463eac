use Rattle.std.proofs.Common.{◌≡◌, ◌∙◌, None, Some, arith, slice_get}
use Rattle.std.proofs.lemmas.Grind.{elements}
use Rattle.version_index.specs.Chains.{lists_of}
use Rattle.version_index.proofs.LastNumbers.{last_told}
use Rattle.version_index.proofs.chains.Chains.last.Goals as goal

pub returns-in-None : goal.returns-in-None
returns-in-None c are =
    let chains = c.args.self.now in
    let told : None ≡ slice_get chains.lasts.items c.args.slot = grind (arith, elements) in
    told ∙ last_told chains.lasts.items (lists_of chains) c.args.slot are

pub returns-in-Some : goal.returns-in-Some
returns-in-Some c are =
    let chains = c.args.self.now in
    let told : Some c.in-Some.number.now ≡ slice_get chains.lasts.items c.args.slot = grind (arith, elements) in
    told ∙ last_told chains.lasts.items (lists_of chains) c.args.slot are
