-- The seal of the block in work, by what a node keeps.
use Rattle.block_work.specs.Block.{IsConsistent}
use Rattle.block_work.specs.Ids.{place_of_id}
use Rattle.block_work.specs.declared.ids.IdIndex.{IdIndex}
use Rattle.node_core.specs.Kept.{shown_work}
use Rattle.node_core.specs.Rows.{at_stage, is_open}
use Rattle.node_core.specs.declared.answers.Sealed.TheVariants as sealed
use Rattle.node_core.specs.declared.answers.Sealed.{Sealed}
use Rattle.node_core.specs.declared.jobs.JobRow.{JobRow}
use Rattle.node_core.specs.declared.jobs.Stage.TheVariants as stage
use Rattle.node_core.specs.declared.delivered_block.DeliveredBlock.{DeliveredBlock}
use Rattle.node_model.specs.World.{decided, due}
use Rattle.proc_syntax.specs.declared.call.Tx.{Tx}
use Rattle.rel_base.specs.declared.schema.TableDef.{TableDef}
use Rattle.std.specs.List.{list_any}
use Rattle.std.specs.Option.{is_some, option_map}
use Rattle.std.specs.Prelude.{List, None, Option, Some, cond, length, ◌&&◌, ◌+◌, ◌≡◌, ◌≤◌, ℕ}
use Rattle.std.specs.Str.{bytes_eq}
use Rattle.proc_syntax.specs.Limits.{most_transactions}

-- why no block is sealed, after so many that are: none is in work, or a transaction of it is not decided, of which the first is named
abbrev pub not_sealed : ℕ → Option DeliveredBlock → Option Sealed
not_sealed height None = Some (sealed.NoBlock height)
not_sealed height (Some working) = option_map (λ (tx : Tx). sealed.NotAll (decided (shown_work working) + 1)) (due (shown_work working))

-- a block in work can join so many that are sealed
pub record CanJoin (tables : List TableDef) (height : ℕ) (working : DeliveredBlock) : Type 0 where
  pub next : working.done.number ≡ height + 1
  pub few : length working.done.outcomes.items ≤ most_transactions
  pub consistent : IsConsistent tables working.done

-- a job that waits or is done is dropped
abbrev pub drop_open : JobRow → JobRow
drop_open row = cond (is_open row.stage) (at_stage stage.Dropped row) row

-- and where its id is among some
abbrev pub drop_among : List (List ℕ) → JobRow → JobRow
drop_among ids row = cond (is_open row.stage && list_any (bytes_eq row.tx.value.id) ids) (at_stage stage.Dropped row) row

-- and where its id is settled: it has a place
abbrev pub drop_settled : IdIndex → JobRow → JobRow
drop_settled ids row = cond (is_open row.stage && is_some (place_of_id ids row.tx.value.id)) (at_stage stage.Dropped row) row
