-- The answers of the calls, as answers of a step.
use Rattle.node_core.specs.InHand.{InHand}
use Rattle.node_core.specs.declared.answers.Arrived.TheVariants as arrived
use Rattle.node_core.specs.declared.answers.Arrived.{Arrived}
use Rattle.node_core.specs.declared.answers.Decided.TheVariants as decided
use Rattle.node_core.specs.declared.answers.Decided.{Decided}
use Rattle.node_core.specs.declared.answers.Delivered.TheVariants as delivered
use Rattle.node_core.specs.declared.answers.Delivered.{Delivered}
use Rattle.node_core.specs.declared.answers.Finished.TheVariants as finished
use Rattle.node_core.specs.declared.answers.Finished.{Finished}
use Rattle.node_core.specs.declared.answers.Got.TheVariants as got
use Rattle.node_core.specs.declared.answers.Got.{Got}
use Rattle.node_core.specs.declared.answers.Sealed.TheVariants as sealed
use Rattle.node_core.specs.declared.answers.Sealed.{Sealed}
use Rattle.node_model.specs.Steps as answer
use Rattle.node_model.specs.Steps.{Answer}
use Rattle.rel_base.specs.declared.access.Place.{Place}
use Rattle.std.specs.Prelude.{Bool, None, Option, Some, false, true, ℕ}

abbrev pub arrived_as : Arrived → Answer
arrived_as arrived.Queued = answer.Queued
arrived_as arrived.Known = answer.Known
arrived_as arrived.Invalid = answer.Invalid

abbrev pub claimed_as : Option InHand → Answer
claimed_as None = answer.NoJob
claimed_as (Some work) = answer.Claimed work.job

abbrev pub got_as : Got → Answer
got_as got.Rows = answer.Rows
got_as (got.Doomed place) = answer.Doomed place
got_as (got.Gone number) = answer.Gone number

abbrev pub finished_as : Finished → Answer
finished_as finished.Kept = answer.Kept
finished_as (finished.Gone number) = answer.Gone number

abbrev pub delivered_as : Delivered → Answer
delivered_as delivered.Taken = answer.Taken
delivered_as (delivered.InWork number) = answer.InWork number
delivered_as (delivered.NotNext expected) = answer.NotNext expected

abbrev pub decided_as : Decided → Answer
decided_as (decided.Outcome pos) = answer.Decided pos
decided_as (decided.NotReady pos holder) = answer.NotReady pos holder
decided_as (decided.AllDecided number) = answer.AllDecided number
decided_as (decided.NoBlock sealed) = answer.NoBlock sealed

abbrev pub sealed_as : Sealed → Answer
sealed_as (sealed.Digest number digest) = answer.Digest number digest
sealed_as (sealed.NotAll pos) = answer.NotAll pos
sealed_as (sealed.NoBlock height) = answer.NoBlock height

-- the answer to a read that may be hit by a write at a place
abbrev pub got_of : Option Place → Got
got_of None = got.Rows
got_of (Some place) = got.Doomed place

-- whether a read found the id settled
abbrev pub is_gone : Got → Bool
is_gone got.Rows = false
is_gone (got.Doomed place) = false
is_gone (got.Gone number) = true

-- the answer to the end of a run whose id may be settled in the block of a number
abbrev pub finished_of : Option ℕ → Finished
finished_of None = finished.Kept
finished_of (Some number) = finished.Gone number
