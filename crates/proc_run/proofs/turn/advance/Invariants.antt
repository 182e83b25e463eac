use Rattle.std.proofs.Common.{◌≡◌, ◌≤◌, ◌+◌, ◌*◌, ◌-◌, vec_len}
use Rattle.rel_base.specs.Tables.{Tables}
use Rattle.proc_run.specs.Path.{frames_of}
use Rattle.proc_run.specs.Remains.{state, run_frames}
use Rattle.proc_run.proofs.turn.advance.Given as goal

-- what remains is what remained
abbrev pub invariant-loop-spots : goal.invariant-loop-spots
invariant-loop-spots l =
    (l.run.steps ≤ 100000) × (l.run.made ≡ l.fn.run.made) × (l.run.own ≡ l.fn.run.own)
    × ((S : Tables) → run_frames l.program.tables.now l.program.columns.now S (frames_of l.program.root.now l.spots.items) (state l.run) ≡ run_frames l.program.tables.now l.program.columns.now S (frames_of l.program.root.now l.fn.spots.items) (state l.fn.run))

-- each turn counts a step, or takes a spot off the path
abbrev pub decreases-loop-spots : goal.decreases-loop-spots
decreases-loop-spots l = 2 * (100000 - l.run.steps) + vec_len l.spots
