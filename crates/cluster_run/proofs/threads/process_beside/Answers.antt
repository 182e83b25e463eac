use Rattle.std.proofs.Common.{◌∙◌}
use Rattle.cluster_run.proofs.Arriving.{same_joined}
use Rattle.cluster_run.proofs.Following.{stands_kept, stands_then}
use Rattle.cluster_run.proofs.threads.process_beside.Goals as goal

pub join_all-requires-clause-stands : goal.join_all-requires-clause-stands
join_all-requires-clause-stands g c κs within = stands_then c.requires.stands c.process_all-processed.ensures.comes

pub join_all-requires-clause-processor : goal.join_all-requires-clause-processor
join_all-requires-clause-processor g c κs within = c.process_all-processed.ensures.comes.same.same_number ∙ c.requires.processor

pub join_all-requires-clause-left : goal.join_all-requires-clause-left
join_all-requires-clause-left g c κs within = c.process_all-processed.ensures.comes.same.same_left ∙ c.requires.left

pub join_all-requires-clause-promised : goal.join_all-requires-clause-promised
join_all-requires-clause-promised g c κs within = c.requires.promised

pub join_all-requires-clause-brings : goal.join_all-requires-clause-brings
join_all-requires-clause-brings g c κs within = same_joined c.args.crew.now.executors c.args.crew.now.arrivals.now c.args.pass c.process_all-processed.new.pass c.process_all-processed.ensures.comes.same.same_joined c.requires.brings

pub returns-clause-processed : goal.returns-clause-processed
returns-clause-processed g c = record {
  stands = stands_kept (stands_then c.requires.stands c.process_all-processed.ensures.comes) c.join_all.ensures.keeps;
  processor = c.join_all.ensures.keeps.same.same_number ∙ (c.process_all-processed.ensures.comes.same.same_number ∙ c.requires.processor);
  alone = c.join_all.ensures.left;
  base = c.join_all.ensures.keeps.same.same_base ∙ c.process_all-processed.ensures.comes.same.same_base;
  rests = c.join_all.ensures.keeps.blocks.in_work_same ∙ c.in_ok-processed.ensures.rests;
  delivers = c.join_all.ensures.keeps.blocks.delivered_same ∙ c.in_ok-processed.ensures.delivers;
}

pub returns-clause-brings : goal.returns-clause-brings
returns-clause-brings g c = c.join_all.ensures.brings
