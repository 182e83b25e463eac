-- The laws, each the contract of a function of the module `laws`.
use Rattle.node_model.specs.Journals.{world}
use Rattle.node_model.specs.declared.journal.Entry.{Entry}
use Rattle.node_shared.specs.Turn.{IsFound}
use Rattle.proc_syntax.specs.declared.tree.App.{App}
use Rattle.schedule_laws.specs.Stable.{IsLater, entries_by}
use Rattle.std.specs.Prelude.{List, ◌≡◌, ℕ}

-- In the journal that a turn finds, a pass finds what it left: the jobs that it holds with their records, what each sealed height showed,
-- and pass 0 the sealed blocks and the block in work.
abbrev pub TurnsFindOwn : Type 0
TurnsFindOwn = (app : App) (number : ℕ) (seen mine journal : List Entry) → entries_by number seen ≡ mine → IsFound app number seen mine journal
    → IsLater app number (world app seen) (world app journal)
