use Rattle.order_queue.proofs.Submitted.{files_are_submissions}
use Rattle.order_queue.proofs.laws.files_are_submissions.Goals as goal

pub returns : goal.returns
returns c = files_are_submissions
