use Rattle.std.proofs.Common.{ap, mul_comm, ◌%◌, ◌*◌, ◌+◌, ◌^◌, ◌∙◌}
use Rattle.std.proofs.Math.Nat.{mod-add-mod}
use Rattle.load_gen.specs.Drawing.{step}
use Rattle.load_gen.proofs.draws.step.Goals as goal

pub returns : goal.returns
unfolding step
returns c =
    mod-add-mod (c.args.state * 6364136223846793005) (2 ^ 64) 1442695040888963407
    ∙ ap (λ n. (n + 1442695040888963407) % (2 ^ 64)) (mul_comm c.args.state 6364136223846793005)
