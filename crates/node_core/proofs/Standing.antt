-- What stands in memory of the jobs, after each change.
use Rattle.std.proofs.Common.{List, [], ap, map, refl, subst, suc, sym, zero, ◌++◌, ◌∙◌, ◌≡◌, ◌∷◌, ℕ}
use Rattle.node_core.proofs.Dropped_rows.{count_dropped, ids_dropped}
use Rattle.node_core.proofs.Quiet.{bounds_dropped, bounds_more}
use Rattle.node_core.proofs.Table.{count_many}
use Rattle.node_core.specs.ById.{Indexes, SameJobs, ids_of}
use Rattle.node_core.specs.JobTable.{IsTable}
use Rattle.node_core.specs.Over.{drop_among}
use Rattle.node_core.specs.Rows.{count_held, new_row, put_at, put_row}
use Rattle.node_core.specs.Waiting.{BoundsHold}
use Rattle.node_core.specs.declared.bounds.WaitBounds.{WaitBounds}
use Rattle.node_core.specs.declared.index.JobIndex.{JobIndex}
use Rattle.node_core.specs.declared.jobs.JobRow.{JobRow}
use Rattle.node_core.specs.declared.jobs.Stage.{Stage}
use Rattle.node_model.specs.Steps.{Shared}
use Rattle.proc_syntax.specs.declared.call.Tx.{Tx}

-- ---- ids stay

ids_put_at : (rows : List JobRow) (place : ℕ) (now : Stage) → ids_of (put_at rows place now) ≡ ids_of rows
ids_put_at [] place now = refl
ids_put_at (row ∷ rows) zero now = refl
ids_put_at (row ∷ rows) (suc place) now = ap (λ ids. row.tx.value.id ∷ ids) (ids_put_at rows place now)

ids_put : (rows : List JobRow) (number : ℕ) (now : Stage) → ids_of (put_row rows number now) ≡ ids_of rows
ids_put rows zero now = refl
ids_put rows (suc place) now = ids_put_at rows place now

-- ---- the table

-- the index is another one of the same jobs
pub table_same : (rows now : List JobRow) (held : ℕ) (bounds : WaitBounds) (index new : JobIndex) → IsTable rows held bounds index → now ≡ rows → SameJobs index new → IsTable now held bounds new
table_same rows now held bounds index new was is same =
    subst (λ all. IsTable all held bounds new) (sym is) (record { count = was.count; waits = was.waits; by_id = same (ids_of rows) was.by_id })

-- jobs come after
pub table_more : (rows before now : List JobRow) (held : ℕ) (bounds : WaitBounds) (index mid new : JobIndex) (txs : List (Shared Tx)) → IsTable rows held bounds index → before ≡ rows
    → now ≡ before ++ map new_row txs → SameJobs index mid → (Indexes mid (ids_of before) → Indexes new (ids_of now))
    → IsTable now held bounds new
table_more rows before now held bounds index mid new txs was is are same noted =
    let all : now ≡ rows ++ map new_row txs = are ∙ ap (λ front. front ++ map new_row txs) is in
    record {
      count = was.count ∙ sym (ap count_held all ∙ count_many rows txs);
      waits = subst (BoundsHold bounds) (sym all) (bounds_more bounds rows (map new_row txs) was.waits);
      by_id = noted (subst (λ all. Indexes mid (ids_of all)) (sym is) (same (ids_of rows) was.by_id));
    }

-- a job has another stage
pub table_put : (rows after : List JobRow) (held more : ℕ) (bounds new : WaitBounds) (index : JobIndex) (number : ℕ) (now : Stage) → IsTable rows held bounds index
    → after ≡ put_row rows number now → more ≡ count_held (put_row rows number now) → (BoundsHold bounds rows → BoundsHold new after) → IsTable after more new index
table_put rows after held more bounds new index number now was is counted keeps =
    subst (λ all. IsTable all more new index) (sym is) (record {
      count = counted;
      waits = subst (BoundsHold new) is (keeps was.waits);
      by_id = subst (Indexes index) (sym (ids_put rows number now)) was.by_id;
    })

-- a seal drops jobs
pub table_dropped : (ids : List (List ℕ)) (rows after : List JobRow) (held : ℕ) (bounds : WaitBounds) (index : JobIndex) → IsTable rows held bounds index → after ≡ map (drop_among ids) rows → IsTable after held bounds index
table_dropped ids rows after held bounds index was is = record {
  count = was.count ∙ sym (ap count_held is ∙ count_dropped ids rows);
  waits = subst (BoundsHold bounds) (sym is) (bounds_dropped ids bounds rows was.waits);
  by_id = subst (Indexes index) (sym (ap ids_of is ∙ ids_dropped ids rows)) was.by_id;
}
