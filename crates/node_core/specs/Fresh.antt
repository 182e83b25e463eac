-- Which transactions of a block get a new job, by what a node keeps.
use Rattle.block_work.specs.Causes.{early_by}
use Rattle.block_work.specs.Ids.{place_of_id}
use Rattle.block_work.specs.declared.ids.IdIndex.{IdIndex}
use Rattle.node_core.specs.Rows.{shown_all}
use Rattle.node_core.specs.declared.jobs.JobRow.{JobRow}
use Rattle.node_model.specs.World.{number_of_job}
use Rattle.proc_syntax.specs.declared.call.Tx.{Tx}
use Rattle.proc_syntax.specs.declared.tree.App.{App}
use Rattle.std.specs.BTreeSet.{BTreeSet, contains}
use Rattle.std.specs.Cmp.Lexicographic.{slice_cmp}
use Rattle.std.specs.List.{list_any}
use Rattle.std.specs.Option.{is_some}
use Rattle.std.specs.Ordering.{nat_cmp}
use Rattle.std.specs.Prelude.{Bool, List, [], cond, map, take, ◌+◌, ◌||◌, ◌≡◌, ◌∷◌, ℕ}
use Rattle.std.specs.Str.{bytes_eq}

-- a set has the ids of some transactions, and no other
abbrev pub HasIds : BTreeSet (List ℕ) → List Tx → Type 0
HasIds ids txs = (id : List ℕ) → contains (slice_cmp nat_cmp) ids id ≡ list_any (bytes_eq id) (map (λ tx. tx.id) txs)

-- a transaction of the block of a number, with some before it, has a cause that is known without a run, or a job
abbrev pub needs_none : App → IdIndex → List JobRow → ℕ → List Tx → Tx → Bool
needs_none app ids rows number before tx =
    is_some (early_by (is_some (place_of_id ids tx.id) || list_any (bytes_eq tx.id) (map (λ tx. tx.id) before)) app number tx) || is_some (number_of_job tx (shown_all rows))

-- those of the last transactions of a block, from a place on, that need a job
abbrev pub fresh_in : App → IdIndex → List JobRow → ℕ → List Tx → ℕ → List Tx → List Tx
fresh_in app ids rows number all place [] = []
fresh_in app ids rows number all place (tx ∷ rest) =
    cond (needs_none app ids rows number (take place all) tx) (fresh_in app ids rows number all (place + 1) rest) (tx ∷ fresh_in app ids rows number all (place + 1) rest)
