-- What a record tells of the run of its transaction.
use Rattle.node_model.specs.Decide.{run_at}
use Rattle.node_model.specs.Events.{hit_since}
use Rattle.node_model.specs.History.{SealedBlock}
use Rattle.node_model.specs.World.{Record}
use Rattle.proc_syntax.specs.declared.call.Tx.{Tx}
use Rattle.proc_syntax.specs.declared.tree.App.{App}
use Rattle.rel_base.specs.declared.access.Made.{Made}
use Rattle.std.specs.Prelude.{IsSome, List, [], false, true, ◌++◌, ◌≡◌, ◌∷◌}
use mathlib.Core.List.{IsPrefix}

-- Reads that were cut short: they are the first of the run, and a write of the blocks since the height hits the last of them.
-- (An early abort, which stops work that is bound to be refused, is of Nathan and others, PVLDB 12(11), 2019.)
pub record IsCut (app : App) (sealed : List SealedBlock) (tx : Tx) (reads : List Made) : Type 0 where
  pub before : List Made
  pub last : Made
  pub ends : reads ≡ before ++ last ∷ []
  pub front : IsPrefix reads (run_at app sealed tx).reads
  pub hit : IsSome (hit_since app sealed tx last.read)

-- what a transaction may be decided by: its whole run, or one that was cut short
pub record TellsRun (app : App) (sealed : List SealedBlock) (tx : Tx) (recorded : Record) : Type 0 where
  pub if_whole : recorded.cut ≡ false → recorded.ran ≡ run_at app sealed tx
  pub if_cut : recorded.cut ≡ true → IsCut app sealed tx recorded.ran.reads
