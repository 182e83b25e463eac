-- The files that the words of a command name, where it runs blocks on an application.
use Rattle.std.specs.Prelude.{List, None, Ok, Option, Result, Some, [], ℕ}
use Rattle.bcdb.specs.declared.sources.Sources.{Sources}
use Rattle.edge_traits.specs.Shelf.{Files}
use Rattle.schedule_sim.specs.Schedules.{schedule_of}
use Rattle.schedule_sim.specs.declared.step.Step.{Step}

-- of a run: the application, what arrives at each node, and the blocks
abbrev pub run_sources : (app blocks : List ℕ) → Option (List ℕ) → (nodes : ℕ) → Sources
run_sources app blocks arrivals nodes = record { app = app; arrivals = arrivals; nodes = nodes; schedule = None; blocks = blocks }

-- of a simulation: the application, what arrives at the first node, the schedule, and the blocks
abbrev pub simulation_sources : (app blocks schedule : List ℕ) → Option (List ℕ) → Sources
simulation_sources app blocks schedule arrivals = record { app = app; arrivals = arrivals; nodes = 1; schedule = Some schedule; blocks = blocks }

-- of a query: the application and the blocks
abbrev pub query_sources : (app blocks : List ℕ) → Sources
query_sources app blocks = record { app = app; arrivals = None; nodes = 0; schedule = None; blocks = blocks }

-- the steps of a schedule, if one is named; or its first bad line
abbrev pub steps_in : Option (List ℕ) → Files → Result (List Step) ℕ
steps_in None files = Ok []
steps_in (Some name) files = schedule_of (files name)
