use Rattle.std.proofs.Common.{◌≡◌, drop}
use Rattle.std.specs.Vec.Iter.{into_iter_items}
use Rattle.rel_base.specs.Lent.{lent_rows}
use Rattle.row_sets.specs.Overlay.{AreFound}
use Rattle.proc_syntax.specs.Steps.{each_held}
use Rattle.proc_code.specs.Coded.{do_all, hold}
use Rattle.direct_run.specs.Runs.{state_of}
use Rattle.direct_run.proofs.looking.Ground.+perform.Given as goal

-- what is left of the block comes to what the block comes to
abbrev pub invariant-perform_all-loop-action : goal.invariant-perform_all-loop-action
invariant-perform_all-loop-action g l =
    (do_all l.self.tables.now l.self.columns.now (g.S.Snapshot.tables l.self.source.now) (drop l.action-index l.block) (state_of l.run)
    ≡ do_all l.self.tables.now l.self.columns.now (g.S.Snapshot.tables l.self.source.now) l.block (state_of l.fn.run))
    × AreFound l.self.tables.now (g.S.Snapshot.tables l.self.source.now) l.run.own

-- the rows that are left come to what all come to
abbrev pub invariant-visit_lent-loop-row : goal.invariant-visit_lent-loop-row
invariant-visit_lent-loop-row g l =
    (each_held (hold l.slot l.table) (do_all l.self.tables.now l.self.columns.now (g.S.Snapshot.tables l.self.source.now) l.body) (lent_rows (drop l.row-index l.rows)) (state_of l.run)
    ≡ each_held (hold l.slot l.table) (do_all l.self.tables.now l.self.columns.now (g.S.Snapshot.tables l.self.source.now) l.body) (lent_rows l.rows) (state_of l.fn.run))
    × AreFound l.self.tables.now (g.S.Snapshot.tables l.self.source.now) l.run.own

abbrev pub invariant-visit_owned-loop-row : goal.invariant-visit_owned-loop-row
invariant-visit_owned-loop-row g l =
    (goal.iterator-visit_owned-loop-row g).can_next l.row-iterator
    × (goal.iterator-visit_owned-loop-row g).is_finite l.row-iterator
    × (each_held (hold l.slot l.table) (do_all l.self.tables.now l.self.columns.now (g.S.Snapshot.tables l.self.source.now) l.body) (into_iter_items l.row-iterator) (state_of l.run)
    ≡ each_held (hold l.slot l.table) (do_all l.self.tables.now l.self.columns.now (g.S.Snapshot.tables l.self.source.now) l.body) l.fn.rows (state_of l.fn.run))
    × AreFound l.self.tables.now (g.S.Snapshot.tables l.self.source.now) l.run.own

abbrev pub invariant-perform_from-loop-place : goal.invariant-perform_from-loop-place
invariant-perform_from-loop-place g l =
    (do_all l.self.tables.now l.self.columns.now (g.S.Snapshot.tables l.self.source.now) (drop l.place l.block) (state_of l.run)
    ≡ do_all l.self.tables.now l.self.columns.now (g.S.Snapshot.tables l.self.source.now) (drop l.from l.block) (state_of l.fn.run))
    × AreFound l.self.tables.now (g.S.Snapshot.tables l.self.source.now) l.run.own
