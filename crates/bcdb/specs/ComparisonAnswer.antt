-- What a comparison of peers answers.
use Rattle.std.specs.Prelude.{Err, List, Ok, Result, ℕ}
use Rattle.bcdb.specs.ProgramAnswer.{ProgramAnswer, says}
use Rattle.bcdb.specs.Refusals.{digests_refusal}
use Rattle.bcdb.specs.declared.refusal.BadDigests.{BadDigests}
use Rattle.bcdb.specs.declared.status.Status.TheVariants.{DigestRefused, Done}
use Rattle.checkpoint.specs.Printed.{comparison}

-- where the peers differ; or which of their files is refused
abbrev pub over_comparison : Result (List (List (List ℕ))) BadDigests → ProgramAnswer
over_comparison (Err bad) = says DigestRefused (digests_refusal bad)
over_comparison (Ok peers) = says Done (comparison peers)
