-- A journal with one entry more, and a node after a step.
use Rattle.std.proofs.Common.{List, None, Option, Some, [], ap, append-nil, subst, sym, ◌++◌, ◌∙◌, ◌≡◌, ◌∷◌, ℕ}
use Rattle.block_work.specs.Chain.{HoldsChain}
use Rattle.block_work.specs.Ids.{HasFirstPlaces}
use Rattle.node_core.specs.Core.{Core, Steps, entries_for}
use Rattle.node_core.specs.Kept.{AreRowsOf, IsNode, Kept, number_of_work, outcomes_of, told_in, world_in}
use Rattle.node_core.specs.declared.jobs.JobRow.{JobRow}
use Rattle.node_model.specs.Events.{after}
use Rattle.node_model.specs.Journals.{IsLegal, world}
use Rattle.node_model.specs.Steps.{Answer, Ask, May, Reply, noted, reply}
use Rattle.node_model.specs.World.{World, empty}
use Rattle.node_model.specs.declared.journal.Entry.{Entry}
use Rattle.node_model.specs.declared.journal.Event.{Event}
use Rattle.proc_syntax.specs.Declaring.{tables_of}
use Rattle.proc_syntax.specs.declared.tree.App.{App}
use Rattle.schedule_laws.proofs.Facts.{facts_always_hold}
use Rattle.schedule_laws.specs.Facts.{FactsHold}
use Rattle.schedule_laws.proofs.Lasting.{legal_more, world-more}

-- the state after what was noted of a call
pub world_grown : (app : App) (journal : List Entry) (actor : ℕ) (o : Option Event) → world app (journal ++ entries_for actor o) ≡ noted app (world app journal) actor o
world_grown app journal actor None = ap (world app) (append-nil journal)
world_grown app journal actor (Some event) = world-more app empty journal (record { actor = actor; event = event })

-- the node as its callers see it
abbrev pub core_of : Kept → Core
core_of kept = record { app = kept.app; journal = kept.journal }

module _ (kept : Kept) (node : IsNode kept) where
  pub facts : FactsHold kept.app (world_in kept)
  facts = facts_always_hold kept.app kept.journal node.legal

  -- an answer that changes nothing
  pub stays : (actor : ℕ) (ask : Ask) (answer : Answer) → reply kept.app (world_in kept) ask ≡ (answer, None) → Steps (core_of kept) actor ask answer (core_of kept)
  stays actor ask answer is = ap same (sym (append-nil kept.journal)) ∙ ap step (sym is)
    where
      same : List Entry → Answer × Core
      same journal = (answer, record { app = kept.app; journal = journal })

      step : Reply → Answer × Core
      step r = (r.0, record { app = kept.app; journal = kept.journal ++ entries_for actor r.1 })

  module _ (actor : ℕ) (ask : Ask) (answer : Answer) (event : Event) (may : May kept.app (world_in kept) actor ask) (told : reply kept.app (world_in kept) ask ≡ (answer, Some event)) (journal' : List Entry)
      (noted : journal' ≡ kept.journal ++ record { actor = actor; event = event } ∷ []) where
    abbrev pub later : World
    later = after kept.app (world_in kept) (record { actor = actor; event = event })

    -- the call is a step
    pub steps : Steps (core_of kept) actor ask answer (record { app = kept.app; journal = journal' })
    steps =
        ap (λ j. (answer, record { app = kept.app; journal = j })) noted
        ∙ ap (λ (r : Reply). (r.0, record { app = kept.app; journal = kept.journal ++ entries_for actor r.1 })) (sym told)

    pub world_noted : world kept.app journal' ≡ later
    world_noted = ap (world kept.app) noted ∙ world-more kept.app empty kept.journal (record { actor = actor; event = event })

    pub legal_noted : IsLegal kept.app journal'
    legal_noted = subst (IsLegal kept.app) (sym noted)
        (legal_more kept.app empty kept.journal (record { actor = actor; event = event }) node.legal (record { ask = ask; may = may; told = ap (λ (r : Reply). r.1) told }))

    -- a step of which only the jobs and the journal change
    pub quiet : later.sealed ≡ (world_in kept).sealed → later.work ≡ (world_in kept).work → (rows' : List JobRow) → AreRowsOf (tables_of kept.app) (told_in kept.work) rows' later.jobs
        → IsNode (record kept { rows = rows'; journal = journal' })
    quiet same_sealed same_work rows' are = record {
      legal = legal_noted;
      sound = node.sound;
      holds = subst (λ sealed. HoldsChain (tables_of kept.app) sealed kept.history kept.results) (sym sealed_is) node.holds;
      ids = subst (λ sealed. HasFirstPlaces kept.ids sealed (number_of_work kept.work) (outcomes_of kept.work)) (sym sealed_is) node.ids;
      work = node.work ∙ sym (ap (λ (w : World). w.work) world_noted ∙ same_work);
      working = node.working;
      rows = subst (λ (w : World). AreRowsOf (tables_of kept.app) (told_in kept.work) rows' w.jobs) (sym world_noted) are;
    }
      where
        sealed_is : (world kept.app journal').sealed ≡ (world_in kept).sealed
        sealed_is = ap (λ (w : World). w.sealed) world_noted ∙ same_sealed
