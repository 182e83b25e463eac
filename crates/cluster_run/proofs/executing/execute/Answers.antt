use Rattle.std.proofs.Common.{None}
use Rattle.cluster_run.proofs.Following.{comes_then, comes_self}
use Rattle.cluster_run.proofs.executing.execute.Goals as goal

pub loop-init : goal.loop-init
loop-init g c = comes_self c.args.pass None c.requires.stands.no_turn c.requires.stands.hand

pub loop-preserved-in-Ok-true : goal.loop-preserved-in-Ok-true
loop-preserved-in-Ok-true g c = comes_then c.loop.invariant c.run_first.ensures.comes

pub loop-preserved : goal.loop-preserved
loop-preserved g c = comes_then c.loop.invariant c.run_first.ensures.comes

pub returns-then-load : goal.returns-then-load
returns-then-load g c = record { comes = c.loop.invariant }

pub returns-in-Err : goal.returns-in-Err
returns-in-Err g c = record { comes = comes_then c.loop.invariant c.run_first.ensures.comes }
