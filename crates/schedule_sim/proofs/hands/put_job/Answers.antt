use Rattle.std.proofs.Common.{Some, subst, sym}
use Rattle.schedule_sim.proofs.Keeping.{put_at}
use Rattle.schedule_sim.specs.InHands.{IsPut}
use Rattle.schedule_sim.proofs.hands.put_job.Goals as goal

pub returns : goal.returns
returns c = subst (IsPut c.args.hands.now c.args.actor (Some c.args.work)) (sym c.replace.ensures.now) (put_at c.args.hands.now c.args.actor (Some c.args.work) c.requires)
