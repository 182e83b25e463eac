-- What a simulation answers, by what was read.
use Rattle.std.proofs.Common.{IfOk, IfSome, List, None, Option, Some, [], ap, length, refl, slice_index_or, subst, sym, ◌++◌, ◌∙◌, ◌∷◌, ◌≡◌, ℕ}
use Rattle.std.specs.List.{flat_map}
use Rattle.std.specs.Prelude.{Err, Ok, Result, codes, decimal}
use Rattle.std.specs.Result.{IsOk}
use Rattle.bcdb.specs.Accepted.{accepted}
use Rattle.bcdb.specs.ArrivalFiles.{all_arrived, arrived_before, arrived_in, file_at}
use Rattle.bcdb.specs.Given.{AreGiven}
use Rattle.bcdb.specs.ProgramAnswer.{says, status_of}
use Rattle.bcdb.specs.Refusals.{arrivals_refusal, refusal_line, schedule_refusal, short_refusal}
use Rattle.bcdb.specs.Reply.{Means}
use Rattle.bcdb.specs.SimulationAnswer.{over_arrivals, over_node, over_schedule, over_simulation}
use Rattle.bcdb.specs.Sources.{steps_in}
use Rattle.bcdb.specs.declared.given.BadSource.TheVariants as bad
use Rattle.bcdb.specs.declared.given.BadSource.{BadSource}
use Rattle.bcdb.specs.declared.given.Given.{Given}
use Rattle.bcdb.specs.declared.refusal.BadArrivals.{BadArrivals}
use Rattle.bcdb.specs.declared.refusal.Refusal.{Refusal}
use Rattle.bcdb.specs.declared.reply.Reply.{Reply}
use Rattle.bcdb.specs.declared.sources.Sources.{Sources}
use Rattle.bcdb.specs.declared.status.Status.TheVariants.{AppRefused, ArrivalRefused, ScheduleRefused}
use Rattle.edge_traits.specs.Shelf.{Files}
use Rattle.node_model.specs.declared.journal.Entry.{Entry}
use Rattle.node_model.specs.declared.journal.Event.TheVariants.{Arrive, Claim, Commit, Deliver, Finish, Read, Release, Seal}
use Rattle.node_model.specs.declared.journal.Event.{Event}
use Rattle.node_model.specs.declared.result.NodeResult.{NodeResult}
use Rattle.proc_syntax.specs.Declaring.{tables_of}
use Rattle.proc_syntax.specs.declared.call.Block.{Block}
use Rattle.proc_syntax.specs.declared.call.Tx.{Tx}
use Rattle.proc_syntax.specs.declared.chain_fault.ChainFault.{ChainFault}
use Rattle.proc_syntax.specs.declared.tree.App.{App}
use Rattle.rel_base.specs.declared.memory.NoMemory.{NoMemory}
use Rattle.rel_base.specs.declared.schema.TableDef.{TableDef}
use Rattle.report_text.specs.Journal.{event_text}
use Rattle.report_text.specs.Report.{entry_line, journal_line, line, report_lines, report_text, shown_if}
use Rattle.report_text.specs.declared.look.Look.{Look}
use Rattle.schedule_sim.specs.Bare.{Tells, bare_event, bare_journal}
use Rattle.schedule_sim.specs.Running.{simulated}
use Rattle.schedule_sim.specs.declared.simulation.SimFault.TheVariants as fault
use Rattle.schedule_sim.specs.declared.step.Step.{Step}

-- ---- a report shows no place in memory

event_same : (event : Event) → event_text (bare_event event) ≡ event_text event
event_same (Arrive number tx) = refl
event_same (Claim number) = refl
event_same (Read number) = refl
event_same (Finish number) = refl
event_same (Release number) = refl
event_same (Deliver block) = refl
event_same (Commit pos) = refl
event_same (Seal number) = refl

entries_same : (journal : List Entry) → flat_map entry_line (bare_journal journal) ≡ flat_map entry_line journal
entries_same [] = refl
entries_same (entry ∷ rest) =
    ap (λ text. line (decimal entry.actor ++ codes " " ++ text) ++ flat_map entry_line (bare_journal rest)) (event_same entry.event)
    ∙ ap (λ lines. entry_line entry ++ lines) (entries_same rest)

abbrev bared : NodeResult → NodeResult
bared made = record made { journal = bare_journal made.journal }

report_same : (look : Look) (tables : List TableDef) (made : NodeResult) (stop : Option ChainFault) → report_text look tables (bared made ∷ []) stop ≡ report_text look tables (made ∷ []) stop
report_same look tables made stop =
    ap (λ lines. report_lines look tables (made ∷ []) stop ++ shown_if look.trace ((journal_line 1 ++ lines) ++ [])) (entries_same made.journal)

pub reported : (look : Look) (app : App) (stop : Option ChainFault) (made : NodeResult) (meant : Result NodeResult ℕ) (result : Result Reply NoMemory) → Tells (Ok made) meant
    → IfOk result (λ reply. Means (says (status_of stop) (report_text look (tables_of app) (made ∷ []) stop)) reply) → IfOk result (λ reply. Means (over_node look app stop meant) reply)
reported look app stop made meant result told means =
    subst (λ found. IfOk result (λ reply. Means (over_node look app stop found) reply)) (sym told)
    (subst (λ text. IfOk result (λ reply. Means (says (status_of stop) text) reply)) (sym (report_same look (tables_of app) made stop)) means)

pub falls_short : (look : Look) (app : App) (stop : Option ChainFault) (sealed : ℕ) (meant : Result NodeResult ℕ) (reply : Reply) → Tells (Err (fault.Short sealed)) meant
    → Means (says ScheduleRefused (short_refusal sealed)) reply → Means (over_node look app stop meant) reply
falls_short look app stop sealed meant reply told means = subst (λ found. Means (over_node look app stop found) reply) (sym told) means

-- ---- what was read of the files decides

-- what arrives at one node is what the first file has
first_given : (node : ℕ) (found : Result (List Tx) ℕ) (txs : List (List Tx)) (other : List Tx) → arrived_before node found (Ok []) ≡ Ok txs → found ≡ Ok (slice_index_or txs 0 other)
first_given node (Ok one) txs other is = cc
first_given node (Err line) txs other is = absurd (cc)

first_bad : (node : ℕ) (found : Result (List Tx) ℕ) (why : BadArrivals) → arrived_before node found (Ok []) ≡ Err why → (found ≡ Err why.line) × (why.node ≡ node)
first_bad node (Ok one) why is = absurd (cc)
first_bad node (Err line) why is = (cc, cc)

first_ok : (node : ℕ) (found : Result (List Tx) ℕ) → IsOk (arrived_before node found (Ok [])) → IsOk found
first_ok node (Ok one) ok = refl
first_ok node (Err line) ok = absurd (cc)

at_one : (prefix : Option (List ℕ)) (nodes : ℕ) (files : Files) → nodes ≡ 1 → all_arrived prefix 1 nodes files ≡ arrived_before 1 (arrived_in (file_at prefix 1) files) (Ok [])
at_one prefix nodes files one = ap (λ count. all_arrived prefix 1 count files) one

module _ (look : Look) (asked : Sources) (files : Files) (one : asked.nodes ≡ 1) where
  abbrev arrives : Result (List Tx) ℕ
  arrives = arrived_in (file_at asked.arrivals 1) files

  over_app : (found : Result App Refusal) (app : App) (reply : Reply) → found ≡ Ok app → Means (over_arrivals look app arrives (steps_in asked.schedule files) (files asked.blocks)) reply
      → Means (over_simulation look asked found files) reply
  over_app found app reply is means = subst (λ (f : Result App Refusal). Means (over_simulation look asked f files) reply) (sym is) means

  over_txs : (app : App) (txs : List Tx) (reply : Reply) → arrives ≡ Ok txs → Means (over_schedule look app txs (steps_in asked.schedule files) (files asked.blocks)) reply
      → Means (over_arrivals look app arrives (steps_in asked.schedule files) (files asked.blocks)) reply
  over_txs app txs reply is means =
      subst (λ (f : Result (List Tx) ℕ). Means (over_arrivals look app f (steps_in asked.schedule files) (files asked.blocks)) reply) (sym is) means

  given_means : (given : Given) (other : List Tx) (reply : Reply) → AreGiven (Ok given) asked files
      → Means (over_node look given.app.app given.read.fault
      (simulated (record { app = given.app.app; blocks = given.read.blocks; arrivals = slice_index_or given.arrivals 0 other }) given.schedule.steps)) reply
      → Means (over_simulation look asked (accepted (files asked.app)) files) reply
  given_means given other reply are means =
      let app : App = given.app.app in
      let txs : List Tx = slice_index_or given.arrivals 0 other in
      let came : arrives ≡ Ok txs = first_given 1 arrives given.arrivals other (sym (at_one asked.arrivals asked.nodes files one) ∙ are.1) in
      over_app (accepted (files asked.app)) app reply are.0
      (over_txs app txs reply came
      (subst (λ (f : Result (List Step) ℕ). Means (over_schedule look app txs f (files asked.blocks)) reply) (sym are.2)
      (subst (λ (read : List Block × Option ChainFault). Means (over_node look app read.1 (simulated (record { app = app; blocks = read.0; arrivals = txs }) given.schedule.steps)) reply) (sym are.3) means)))

  by_app : (refusal : Refusal) (reply : Reply) → AreGiven (Err (bad.App refusal)) asked files → Means (says AppRefused (refusal_line refusal)) reply
      → Means (over_simulation look asked (accepted (files asked.app)) files) reply
  by_app refusal reply is means = subst (λ (f : Result App Refusal). Means (over_simulation look asked f files) reply) (sym is) means

  by_arrivals : (why : BadArrivals) (found : Result App Refusal) (reply : Reply) → IsOk found → all_arrived asked.arrivals 1 asked.nodes files ≡ Err why
      → Means (says ArrivalRefused (arrivals_refusal why)) reply → Means (over_simulation look asked found files) reply
  by_arrivals why (Ok app) reply ok is means =
      let both = first_bad 1 arrives why (sym (at_one asked.arrivals asked.nodes files one) ∙ is) in
      let named : why ≡ record { node = 1; line = why.line } = ap (λ node. record { node = node; line = why.line }) both.1 in
      subst (λ (f : Result (List Tx) ℕ). Means (over_arrivals look app f (steps_in asked.schedule files) (files asked.blocks)) reply) (sym both.0)
      (subst (λ (w : BadArrivals). Means (says ArrivalRefused (arrivals_refusal w)) reply) named means)
  by_arrivals why (Err refusal) reply ok is means = absurd (cc)

  by_schedule : (line : ℕ) (found : Result App Refusal) (reply : Reply) → IsOk found → IsOk (all_arrived asked.arrivals 1 asked.nodes files) → steps_in asked.schedule files ≡ Err line
      → Means (says ScheduleRefused (schedule_refusal line)) reply → Means (over_simulation look asked found files) reply
  by_schedule line (Ok app) reply ok came is means =
      by arrives (first_ok 1 arrives (subst (λ (f : Result (List (List Tx)) BadArrivals). IsOk f) (at_one asked.arrivals asked.nodes files one) came))
    where
      by : (found : Result (List Tx) ℕ) → IsOk found → Means (over_arrivals look app found (steps_in asked.schedule files) (files asked.blocks)) reply
      by (Ok txs) fine = subst (λ (f : Result (List Step) ℕ). Means (over_schedule look app txs f (files asked.blocks)) reply) (sym is) means
      by (Err bad) fine = absurd (cc)
  by_schedule line (Err refusal) reply ok came is means = absurd (cc)

-- the first of one list of calls
pub at_first : (txs : List (List Tx)) (first : List Tx) → length txs ≡ 1 → slice_index_or txs 0 first ≡ first → slice_index_or txs 0 [] ≡ first
at_first [] first counted is = absurd (cc)
at_first (one ∷ rest) first counted is = is

-- the same of a reply that memory may be missing for
pub simulation_means : (look : Look) (given : Given) (other : List Tx) (result : Result Reply NoMemory)
    → IfOk result (λ reply. Means (over_node look given.app.app given.read.fault
    (simulated (record { app = given.app.app; blocks = given.read.blocks; arrivals = slice_index_or given.arrivals 0 other }) given.schedule.steps)) reply)
    → IfOk result (λ reply. (asked : Sources) (files : Files) → asked.nodes ≡ 1 → AreGiven (Ok given) asked files → Means (over_simulation look asked (accepted (files asked.app)) files) reply)
simulation_means look given other (Ok reply) means = λ asked files one are. given_means look asked files one given other reply are means
simulation_means look given other (Err e) means = tt

pub app_means : (look : Look) (refusal : Refusal) (result : Result Reply NoMemory) → IfOk result (λ reply. Means (says AppRefused (refusal_line refusal)) reply)
    → IfOk result (λ reply. (asked : Sources) (files : Files) → asked.nodes ≡ 1 → AreGiven (Err (bad.App refusal)) asked files
    → Means (over_simulation look asked (accepted (files asked.app)) files) reply)
app_means look refusal (Ok reply) means = λ asked files one is. by_app look asked files one refusal reply is means
app_means look refusal (Err e) means = tt

pub arrivals_mean : (look : Look) (why : BadArrivals) (result : Result Reply NoMemory) → IfOk result (λ reply. Means (says ArrivalRefused (arrivals_refusal why)) reply)
    → IfOk result (λ reply. (asked : Sources) (files : Files) → asked.nodes ≡ 1 → AreGiven (Err (bad.Arrivals why)) asked files
    → Means (over_simulation look asked (accepted (files asked.app)) files) reply)
arrivals_mean look why (Ok reply) means = λ asked files one is. by_arrivals look asked files one why (accepted (files asked.app)) reply is.0 is.1 means
arrivals_mean look why (Err e) means = tt

pub schedule_means : (look : Look) (line : ℕ) (result : Result Reply NoMemory) → IfOk result (λ reply. Means (says ScheduleRefused (schedule_refusal line)) reply)
    → IfOk result (λ reply. (asked : Sources) (files : Files) → asked.nodes ≡ 1 → AreGiven (Err (bad.Schedule line)) asked files
    → Means (over_simulation look asked (accepted (files asked.app)) files) reply)
schedule_means look line (Ok reply) means = λ asked files one is. by_schedule look asked files one line (accepted (files asked.app)) reply is.0 is.1 is.2 means
schedule_means look line (Err e) means = tt

-- over a shelf that tells its files
pub means_told : (told : Option Files) (look : Look) (asked : Sources) (read : Result Given BadSource) (reply : Reply) → asked.nodes ≡ 1
    → ((asked : Sources) (files : Files) → asked.nodes ≡ 1 → AreGiven read asked files → Means (over_simulation look asked (accepted (files asked.app)) files) reply)
    → IfSome told (λ files. AreGiven read asked files) → IfSome told (λ files. Means (over_simulation look asked (accepted (files asked.app)) files) reply)
means_told None look asked read reply one gives are = tt
means_told (Some files) look asked read reply one gives are = gives asked files one are
