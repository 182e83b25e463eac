-- The blocks of rows are among those of the history.
use Rattle.std.proofs.Common.{◌<◌, ◌≤◌, ◌^◌, ℕ, List, All, IfSome, Option, Some, None, arith}
use Rattle.std.specs.FinMap as finite
use Rattle.std.proofs.lemmas.List.Elements.{All-weaker}
use Rattle.rel_base.proofs.KeyOrder.{All-tables_at}
use Rattle.rel_base.specs.Tables.{Stamped, seen_at, tables_at}
use Rattle.rel_base.specs.declared.value.Value.{Value}
use Rattle.query_plan.specs.Cells.{IsEarly}

early_after : (block pos : ℕ) (after : Option (List Value)) → block < 2 ^ 63 → IfSome (seen_at block pos after) IsEarly
early_after block pos None early = tt
early_after block pos (Some row) early = record { block = early }

pub all_early : (sealed height : ℕ) (history : List Stamped) → sealed < 2 ^ 63 → All (λ stamped. stamped.0 ≤ sealed) history → All (λ entry. IsEarly entry.1) (finite.entries (tables_at height history))
all_early sealed height history small upto =
    All-tables_at (λ entry. IsEarly entry.1) height history
    (All-weaker (λ stamped. stamped.0 ≤ sealed) (λ stamped. IfSome (seen_at stamped.0 stamped.1.pos stamped.1.write.after) IsEarly)
    (λ stamped low. early_after stamped.0 stamped.1.pos stamped.1.write.after (omega (arith, low, small))) history upto)
