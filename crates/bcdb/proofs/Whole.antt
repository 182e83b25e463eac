-- The answer is whole exactly where nothing is refused.
use Rattle.std.proofs.Common.{Bool, IfSome, List, None, Option, Some, [], ap, cond, false, inl, inr, refl, subst, suc, sym, true, zero, ◌+◌, ◌∙◌, ◌≡◌, ◌≤◌, ◌⊎◌, ℕ}
use Rattle.std.proofs.lemmas.Bool.{le-leb, leb-true}
use Rattle.std.specs.Prelude.{Err, IsOk, IsSome, Ok, Result}
use Rattle.std.specs.Result.{is_ok}
use Rattle.bcdb.proofs.Ends.{ends_refused, ends_short}
use Rattle.bcdb.proofs.Loads.{load_accepted}
use Rattle.bcdb.proofs.Planning.{all_sound, both_sound, first_sound, rest_sound, sound_all}
use Rattle.bcdb.specs.Accepted.{accepted}
use Rattle.bcdb.specs.Answer.{Writes, over_settings, read_refused, usage_refused}
use Rattle.bcdb.specs.ArrivalFiles.{all_arrived, arrived_before, arrived_in, file_at, node_file}
use Rattle.bcdb.specs.ComparisonAnswer.{over_comparison}
use Rattle.bcdb.specs.ExtractAnswer.{extracted, folded, over_extract, over_file}
use Rattle.bcdb.specs.LoadAnswer.{over_load}
use Rattle.bcdb.specs.OrderAnswer.{IsFew, blocks_needed, is_few, over_order}
use Rattle.bcdb.specs.PeerFiles.{all_digests, digests_before, digests_read}
use Rattle.bcdb.specs.Plan.{AppFile, AreSound, BlocksFile, RoseAt, RoseIn, ScheduleFile, arrivals_plan, digests_plan, plan_from_arrivals, plan_from_schedule, plan_of, planned, planned_if, sources_plan}
use Rattle.bcdb.specs.ProgramAnswer.{ProgramAnswer, look_of, says, status_of}
use Rattle.bcdb.specs.Refusals.{order_refusal}
use Rattle.bcdb.specs.RowsAnswer.{rows_asked, over_ask, over_rows}
use Rattle.bcdb.specs.RunAnswer.{over_nodes, over_run}
use Rattle.bcdb.specs.SealAnswer.{sealed}
use Rattle.bcdb.specs.Selected.{selected}
use Rattle.bcdb.specs.SimulationAnswer.{over_arrivals, over_node, over_simulation}
use Rattle.bcdb.specs.Sources.{query_sources, run_sources, simulation_sources, steps_in}
use Rattle.bcdb.specs.Traced.{EndsTraced, followed_by}
use Rattle.bcdb.specs.VerificationAnswer.{over_shown, proof_read}
use Rattle.bcdb.specs.VersionsAnswer.{over_query, over_versions}
use Rattle.bcdb.specs.Whole.{Extracts, IsAnswered, IsWhole, SealsAll, Selects}
use Rattle.bcdb.specs.declared.extract.Extract.TheVariants as extract
use Rattle.bcdb.specs.declared.extract.Extract.TheVariants.{Hashes}
use Rattle.bcdb.specs.declared.extract.Extract.{Extract}
use Rattle.bcdb.specs.declared.refusal.BadArrivals.{BadArrivals}
use Rattle.bcdb.specs.declared.refusal.BadDigests.{BadDigests}
use Rattle.bcdb.specs.declared.refusal.Refusal.{Refusal}
use Rattle.bcdb.specs.declared.sources.Sources.{Sources}
use Rattle.bcdb.specs.declared.status.Status.TheVariants.{AppRefused, ArrivalRefused, ChainRefused, DigestRefused, Done, NoMemory, OrderRefused, ProofRefused, QueryRefused, ReadFault, ScheduleRefused, Usage, WriteFault}
use Rattle.bcdb.specs.declared.status.Status.{Status}
use Rattle.chain_file.specs.Chain.{chain}
use Rattle.chain_file.specs.Headers.{version_of}
use Rattle.chain_file.specs.declared.form.ChainVersion.{ChainVersion}
use Rattle.cli_words.specs.declared.settings.WordsFault.TheVariants as fault
use Rattle.cli_words.specs.declared.settings.WordsFault.{WordsFault}
use Rattle.cli_words.specs.declared.settings.Settings.TheVariants.{Checkpoint, Compare, Load, Order, Provenance, Prove, Query, Run, Seal, Simulate, Verify}
use Rattle.cli_words.specs.declared.settings.Settings.{Settings}
use Rattle.edge_traits.specs.Causes.{Counts}
use Rattle.edge_traits.specs.Shelf.{Files}
use Rattle.load_gen.specs.Application.{app_text}
use Rattle.merkle_proof.specs.Blocks.{verified_of}
use Rattle.merkle_proof.specs.declared.proof.Proof.{Proof}
use Rattle.node_model.specs.declared.result.NodeResult.{NodeResult}
use Rattle.node_model.specs.declared.version.Version.{Version}
use Rattle.proc_syntax.specs.declared.call.Block.{Block}
use Rattle.proc_syntax.specs.declared.call.Tx.{Tx}
use Rattle.proc_syntax.specs.declared.chain_fault.ChainFault.{ChainFault}
use Rattle.proc_syntax.specs.declared.tree.App.{App}
use Rattle.provenance.specs.Grammar.{query_of}
use Rattle.provenance.specs.declared.query.QueryFault.{QueryFault}
use Rattle.query_plan.specs.declared.fault.AskFault.{AskFault}
use Rattle.rel_base.specs.declared.access.Placed.{Placed}
use Rattle.rel_base.specs.declared.schema.TableDef.{TableDef}
use Rattle.rel_base.specs.declared.value.Value.{Value}
use Rattle.report_text.specs.declared.look.Look.{Look}
use Rattle.schedule_sim.specs.Running.{simulated}
use Rattle.schedule_sim.specs.declared.step.Step.{Step}

-- ---- the files of a plan are what they must be exactly where each is

-- of the files that a command reads: the application, what arrives, the schedule and the blocks
pub record AllSound (asked : Sources) (files : Files) : Type 0 where
  pub app : IsOk (accepted (files asked.app))
  pub arrivals : IsOk (all_arrived asked.arrivals 1 asked.nodes files)
  pub schedule : IsOk (steps_in asked.schedule files)
  pub blocks : (chain (files asked.blocks)).1 ≡ None

steps_ok : (name : Option (List ℕ)) (files : Files) → AreSound (planned_if ScheduleFile name) files → IsOk (steps_in name files)
steps_ok None files sound = refl
steps_ok (Some name) files sound = sound.0

ok_steps : (name : Option (List ℕ)) (files : Files) → IsOk (steps_in name files) → AreSound (planned_if ScheduleFile name) files
ok_steps None files ok = tt
ok_steps (Some name) files ok = (ok, tt)

all_of : (asked : Sources) (files : Files) → AreSound (sources_plan asked) files → AllSound asked files
all_of asked files sound =
    let app : AreSound (planned AppFile asked.app) files = first_sound (planned AppFile asked.app) (plan_from_arrivals asked) files sound in
    let later : AreSound (plan_from_arrivals asked) files = rest_sound (planned AppFile asked.app) (plan_from_arrivals asked) files sound in
    let arrivals = first_sound (arrivals_plan asked.arrivals 1 asked.nodes) (plan_from_schedule asked) files later in
    let last : AreSound (plan_from_schedule asked) files = rest_sound (arrivals_plan asked.arrivals 1 asked.nodes) (plan_from_schedule asked) files later in
    let schedule = first_sound (planned_if ScheduleFile asked.schedule) (planned BlocksFile asked.blocks) files last in
    let blocks : AreSound (planned BlocksFile asked.blocks) files = rest_sound (planned_if ScheduleFile asked.schedule) (planned BlocksFile asked.blocks) files last in
    record {
      app = app.0;
      arrivals = sound_all asked.arrivals 1 asked.nodes files arrivals;
      schedule = steps_ok asked.schedule files schedule;
      blocks = blocks.0;
    }

of_all : (asked : Sources) (files : Files) → AllSound asked files → AreSound (sources_plan asked) files
of_all asked files all =
    both_sound (planned AppFile asked.app) (plan_from_arrivals asked) files (all.app, tt)
    (both_sound (arrivals_plan asked.arrivals 1 asked.nodes) (plan_from_schedule asked) files (all_sound asked.arrivals 1 asked.nodes files all.arrivals)
    (both_sound (planned_if ScheduleFile asked.schedule) (planned BlocksFile asked.blocks) files (ok_steps asked.schedule files all.schedule) (all.blocks, tt)))

-- what arrives at one node
one_ok : (prefix : Option (List ℕ)) (files : Files) → IsOk (all_arrived prefix 1 1 files) → IsOk (arrived_in (file_at prefix 1) files)
one_ok prefix files ok = by (arrived_in (file_at prefix 1) files) ok
  where
    by : (found : Result (List Tx) ℕ) → IsOk (arrived_before 1 found (Ok [])) → IsOk found
    by (Ok txs) fine = refl
    by (Err line) fine = absurd (cc)

ok_one : (prefix : Option (List ℕ)) (files : Files) → IsOk (arrived_in (file_at prefix 1) files) → IsOk (all_arrived prefix 1 1 files)
ok_one prefix files ok = by (arrived_in (file_at prefix 1) files) ok
  where
    by : (found : Result (List Tx) ℕ) → IsOk found → IsOk (arrived_before 1 found (Ok []))
    by (Ok txs) fine = refl
    by (Err line) fine = absurd (cc)

-- ---- where nothing is refused, the answer's status is that of a whole one

nodes_done : (look : Look) (nodes : ℕ) (app : App) (txs : Result (List (List Tx)) BadArrivals) (bytes : List ℕ) → IsOk txs → (chain bytes).1 ≡ None → (over_nodes look nodes app txs bytes).status ≡ Done
nodes_done look nodes app (Err bad) bytes ok faultless = absurd (cc)
nodes_done look nodes app (Ok txs) bytes ok faultless = ap status_of faultless

run_done : (look : Look) (asked : Sources) (found : Result App Refusal) (files : Files) → IsOk found → AllSound asked files → (over_run look asked found files).status ≡ Done
run_done look asked (Err refusal) files ok all = absurd (cc)
run_done look asked (Ok app) files ok all = nodes_done look asked.nodes app (all_arrived asked.arrivals 1 asked.nodes files) (files asked.blocks) all.arrivals all.blocks

node_done : (look : Look) (app : App) (stop : Option ChainFault) (node : Result NodeResult ℕ) → stop ≡ None → IsOk node → (over_node look app stop node).status ≡ Done
node_done look app stop (Err count) faultless ok = absurd (cc)
node_done look app stop (Ok node) faultless ok = ap status_of faultless

simulation_done : (look : Look) (found : Result App Refusal) (asked : Sources) (files : Files) → (chain (files asked.blocks)).1 ≡ None
    → SealsAll found (arrived_in (file_at asked.arrivals 1) files) (steps_in asked.schedule files) (files asked.blocks) → (over_simulation look asked found files).status ≡ Done
simulation_done look (Err refusal) asked files faultless seals = absurd seals
simulation_done look (Ok app) asked files faultless seals = by (arrived_in (file_at asked.arrivals 1) files) (steps_in asked.schedule files) seals
  where
    by : (txs : Result (List Tx) ℕ) (steps : Result (List Step) ℕ) → SealsAll (Ok app) txs steps (files asked.blocks) → (over_arrivals look app txs steps (files asked.blocks)).status ≡ Done
    by (Err line) steps all = absurd all
    by (Ok txs) (Err line) all = absurd all
    by (Ok txs) (Ok steps) all =
        node_done look app (chain (files asked.blocks)).1 (simulated (record { app = app; blocks = (chain (files asked.blocks)).0; arrivals = txs }) steps) faultless all

versions_done : (tables : List TableDef) (stop : Option ChainFault) (versions : Result (List Version) QueryFault) → stop ≡ None → IsOk versions
    → (over_versions tables stop versions).status ≡ Done
versions_done tables stop (Err fault) faultless ok = absurd (cc)
versions_done tables stop (Ok versions) faultless ok = ap status_of faultless

query_done : (query : List ℕ) (found : Result App Refusal) (bytes : List ℕ) → (chain bytes).1 ≡ None → Selects query found bytes → (over_query query found bytes).status ≡ Done
query_done query (Err refusal) bytes faultless selects = absurd selects
query_done query (Ok app) bytes faultless selects = versions_done _ (chain bytes).1 (selected app (chain bytes).0 (query_of query)) faultless selects

sealed_done : (version : Option ChainVersion) (blocks : List Block) (stop : Option ChainFault) → stop ≡ None → (sealed version blocks stop).status ≡ Done
sealed_done version blocks None faultless = refl
sealed_done version blocks (Some fault) faultless = absurd (cc)

load_done : (number : ℕ) (found : Result App Refusal) → IsOk found → (over_load number found).status ≡ Done
load_done number (Err refusal) ok = absurd (cc)
load_done number (Ok app) ok = refl

order_done : (most : ℕ) (found : Result (List (List Tx)) BadArrivals) → IsFew most found → (over_order most found).status ≡ Done
order_done most (Err bad) few = absurd few
order_done most (Ok clients) few = ap (λ b. (cond b (says Done []) (says OrderRefused (order_refusal (blocks_needed clients most)))).status) (le-leb (blocks_needed clients most) 1000000 few)

-- the digests of peers are read exactly where each file is what it must be
split_digests : (peer : ℕ) (found : Result (List (List ℕ)) ℕ) (others : Result (List (List (List ℕ))) BadDigests) → IsOk (digests_before peer found others) → IsOk found × IsOk others
split_digests peer (Ok digests) (Ok others) ok = (refl, refl)
split_digests peer (Ok digests) (Err bad) ok = absurd (cc)
split_digests peer (Err line) others ok = absurd (cc)

joined_digests : (peer : ℕ) (found : Result (List (List ℕ)) ℕ) (others : Result (List (List (List ℕ))) BadDigests) → IsOk found → IsOk others → IsOk (digests_before peer found others)
joined_digests peer (Ok digests) (Ok others) one other = refl
joined_digests peer (Ok digests) (Err bad) one other = absurd (cc)
joined_digests peer (Err line) others one other = absurd (cc)

sound_digests : (prefix : List ℕ) (peer count : ℕ) (files : Files) → AreSound (digests_plan prefix peer count) files → IsOk (all_digests prefix peer count files)
sound_digests prefix peer zero files sound = refl
sound_digests prefix peer (suc count) files sound =
    joined_digests peer (digests_read (files (node_file prefix peer))) (all_digests prefix (peer + 1) count files) sound.0 (sound_digests prefix (peer + 1) count files sound.1)

digests_sound : (prefix : List ℕ) (peer count : ℕ) (files : Files) → IsOk (all_digests prefix peer count files) → AreSound (digests_plan prefix peer count) files
digests_sound prefix peer zero files ok = tt
digests_sound prefix peer (suc count) files ok =
    let both = split_digests peer (digests_read (files (node_file prefix peer))) (all_digests prefix (peer + 1) count files) ok in
    (both.0, digests_sound prefix (peer + 1) count files both.1)

comparison_done : (found : Result (List (List (List ℕ))) BadDigests) → IsOk found → (over_comparison found).status ≡ Done
comparison_done (Err bad) ok = absurd (cc)
comparison_done (Ok peers) ok = refl

file_done : (stop : Option ChainFault) (file : Option (List ℕ)) → stop ≡ None → IsSome file → (over_file stop file).status ≡ Done
file_done stop None faultless some = absurd (cc)
file_done stop (Some file) faultless some = ap status_of faultless

extract_done : (wanted : Extract) (found : Result App Refusal) (bytes : List ℕ) → (chain bytes).1 ≡ None → Extracts wanted found bytes → (over_extract wanted found bytes).status ≡ Done
extract_done wanted (Err refusal) bytes faultless extracts = absurd extracts
extract_done wanted (Ok app) bytes faultless extracts = file_done (chain bytes).1 (extracted wanted (folded app (chain bytes).0)) faultless extracts

verification_done : (head : List ℕ) (found : Result (Placed × Proof) ℕ) → IsOk found → (over_shown (verified_of head found)).status ≡ Done
verification_done head (Err line) ok = absurd (cc)
verification_done head (Ok said) ok = refl

rows_done : (stop : Option ChainFault) (rows : Result (List (List Value)) AskFault) → stop ≡ None → IsOk rows → (over_rows stop rows).status ≡ Done
rows_done stop (Err fault) faultless ok = absurd (cc)
rows_done stop (Ok rows) faultless ok = ap status_of faultless

ask_done : (height : ℕ) (text : List ℕ) (found : Result App Refusal) (bytes : List ℕ) → (chain bytes).1 ≡ None → IsAnswered height text found bytes → (over_ask height text found bytes).status ≡ Done
ask_done height text (Err refusal) bytes faultless is = absurd is
ask_done height text (Ok app) bytes faultless is = rows_done (chain bytes).1 (rows_asked height text app (chain bytes).0) faultless is

pub whole_done : (settings : Option Settings) (files : Files) → IsWhole settings files → (over_settings settings files).status ≡ Done
whole_done None files whole = absurd whole.1
whole_done (Some (Run app blocks arrivals nodes executors flags)) files whole =
    let asked : Sources = run_sources app blocks arrivals nodes in
    let all = all_of asked files whole.0 in
    run_done (look_of flags) asked (accepted (files app)) files all.app all
whole_done (Some (Simulate app blocks schedule arrivals flags)) files whole =
    let asked : Sources = simulation_sources app blocks schedule arrivals in
    let all = all_of asked files whole.0 in
    simulation_done (look_of flags) (accepted (files app)) asked files all.blocks whole.1
whole_done (Some (Provenance app blocks query)) files whole =
    let all = all_of (query_sources app blocks) files whole.0 in
    query_done query (accepted (files app)) (files blocks) all.blocks whole.1
whole_done (Some (Seal blocks)) files whole = sealed_done (version_of (files blocks)) (chain (files blocks)).0 (chain (files blocks)).1 whole.0.0
whole_done (Some (Load number)) files whole = load_done number (accepted app_text) (ap is_ok load_accepted)
whole_done (Some (Order clients count most)) files whole = order_done most (all_arrived (Some clients) 1 count files) whole.1
whole_done (Some (Checkpoint app blocks heads)) files whole =
    let all = all_of (query_sources app blocks) files whole.0 in
    extract_done (Hashes heads) (accepted (files app)) (files blocks) all.blocks whole.1
whole_done (Some (Compare prefix count)) files whole = comparison_done (all_digests prefix 1 count files) (sound_digests prefix 1 count files whole.0)
whole_done (Some (Prove app blocks block write)) files whole =
    let all = all_of (query_sources app blocks) files whole.0 in
    extract_done (extract.Proof block write) (accepted (files app)) (files blocks) all.blocks whole.1
whole_done (Some (Verify proof head)) files whole = verification_done head (proof_read (files proof)) whole.0.0
whole_done (Some (Query app blocks height text)) files whole =
    let all = all_of (query_sources app blocks) files whole.0 in
    ask_done height text (accepted (files app)) (files blocks) all.blocks whole.1

-- ---- and only there

no_stop : (stop : Option ChainFault) → status_of stop ≡ Done → stop ≡ None
no_stop None is = refl
no_stop (Some fault) is = absurd (cc)

done_nodes : (look : Look) (nodes : ℕ) (app : App) (txs : Result (List (List Tx)) BadArrivals) (bytes : List ℕ) → (over_nodes look nodes app txs bytes).status ≡ Done
    → IsOk txs × ((chain bytes).1 ≡ None)
done_nodes look nodes app (Err bad) bytes is = absurd (cc)
done_nodes look nodes app (Ok txs) bytes is = (refl, no_stop (chain bytes).1 is)

done_run : (look : Look) (asked : Sources) (found : Result App Refusal) (files : Files) → (over_run look asked found files).status ≡ Done
    → IsOk found × (IsOk (all_arrived asked.arrivals 1 asked.nodes files) × ((chain (files asked.blocks)).1 ≡ None))
done_run look asked (Err refusal) files is = absurd (cc)
done_run look asked (Ok app) files is = (refl, done_nodes look asked.nodes app (all_arrived asked.arrivals 1 asked.nodes files) (files asked.blocks) is)

done_node : (look : Look) (app : App) (stop : Option ChainFault) (node : Result NodeResult ℕ) → (over_node look app stop node).status ≡ Done → (stop ≡ None) × IsOk node
done_node look app stop (Err count) is = absurd (cc)
done_node look app stop (Ok node) is = (no_stop stop is, refl)

-- what a simulation reads and comes to
pub record Simulates (found : Result App Refusal) (txs : Result (List Tx) ℕ) (steps : Result (List Step) ℕ) (bytes : List ℕ) : Type 0 where
  pub app : IsOk found
  pub arrivals : IsOk txs
  pub schedule : IsOk steps
  pub blocks : (chain bytes).1 ≡ None
  pub seals : SealsAll found txs steps bytes

done_arrivals : (look : Look) (app : App) (txs : Result (List Tx) ℕ) (steps : Result (List Step) ℕ) (bytes : List ℕ) → (over_arrivals look app txs steps bytes).status ≡ Done
    → Simulates (Ok app) txs steps bytes
done_arrivals look app (Err line) steps bytes is = absurd (cc)
done_arrivals look app (Ok txs) (Err line) bytes is = absurd (cc)
done_arrivals look app (Ok txs) (Ok steps) bytes is =
    let both = done_node look app (chain bytes).1 (simulated (record { app = app; blocks = (chain bytes).0; arrivals = txs }) steps) is in
    record { app = refl; arrivals = refl; schedule = refl; blocks = both.0; seals = both.1 }

done_simulation : (look : Look) (asked : Sources) (found : Result App Refusal) (files : Files) → (over_simulation look asked found files).status ≡ Done
    → Simulates found (arrived_in (file_at asked.arrivals 1) files) (steps_in asked.schedule files) (files asked.blocks)
done_simulation look asked (Err refusal) files is = absurd (cc)
done_simulation look asked (Ok app) files is = done_arrivals look app (arrived_in (file_at asked.arrivals 1) files) (steps_in asked.schedule files) (files asked.blocks) is

done_versions : (tables : List TableDef) (stop : Option ChainFault) (versions : Result (List Version) QueryFault) → (over_versions tables stop versions).status ≡ Done
    → (stop ≡ None) × IsOk versions
done_versions tables stop (Err fault) is = absurd (cc)
done_versions tables stop (Ok versions) is = (no_stop stop is, refl)

done_query : (query : List ℕ) (found : Result App Refusal) (bytes : List ℕ) → (over_query query found bytes).status ≡ Done
    → IsOk found × (((chain bytes).1 ≡ None) × Selects query found bytes)
done_query query (Err refusal) bytes is = absurd (cc)
done_query query (Ok app) bytes is = (refl, done_versions _ (chain bytes).1 (selected app (chain bytes).0 (query_of query)) is)

done_sealed : (version : Option ChainVersion) (blocks : List Block) (stop : Option ChainFault) → (sealed version blocks stop).status ≡ Done → stop ≡ None
done_sealed version blocks None is = refl
done_sealed version blocks (Some fault) is = absurd (cc)

few_done : (clients : List (List Tx)) (most : ℕ) (few : Bool) → is_few clients most ≡ few → (cond few (says Done []) (says OrderRefused (order_refusal (blocks_needed clients most)))).status ≡ Done
    → blocks_needed clients most ≤ 1000000
few_done clients most true e is = leb-true (blocks_needed clients most) 1000000 e
few_done clients most false e is = absurd (cc)

done_order : (most : ℕ) (found : Result (List (List Tx)) BadArrivals) → (over_order most found).status ≡ Done → IsOk found × IsFew most found
done_order most (Err bad) is = absurd (cc)
done_order most (Ok clients) is = (refl, few_done clients most (is_few clients most) refl is)

done_comparison : (found : Result (List (List (List ℕ))) BadDigests) → (over_comparison found).status ≡ Done → IsOk found
done_comparison (Err bad) is = absurd (cc)
done_comparison (Ok peers) is = refl

done_file : (stop : Option ChainFault) (file : Option (List ℕ)) → (over_file stop file).status ≡ Done → (stop ≡ None) × IsSome file
done_file stop None is = absurd (cc)
done_file stop (Some file) is = (no_stop stop is, refl)

done_extract : (wanted : Extract) (found : Result App Refusal) (bytes : List ℕ) → (over_extract wanted found bytes).status ≡ Done
    → IsOk found × (((chain bytes).1 ≡ None) × Extracts wanted found bytes)
done_extract wanted (Err refusal) bytes is = absurd (cc)
done_extract wanted (Ok app) bytes is = (refl, done_file (chain bytes).1 (extracted wanted (folded app (chain bytes).0)) is)

done_verification : (head : List ℕ) (found : Result (Placed × Proof) ℕ) → (over_shown (verified_of head found)).status ≡ Done → IsOk found
done_verification head (Err line) is = absurd (cc)
done_verification head (Ok said) is = refl

extract_whole : (wanted : Extract) (app blocks : List ℕ) (files : Files) → (over_extract wanted (accepted (files app)) (files blocks)).status ≡ Done
    → AreSound (sources_plan (query_sources app blocks)) files × Extracts wanted (accepted (files app)) (files blocks)
extract_whole wanted app blocks files is =
    let done = done_extract wanted (accepted (files app)) (files blocks) is in
    (of_all (query_sources app blocks) files (record { app = done.0; arrivals = refl; schedule = refl; blocks = done.1.0 }), done.1.1)

done_rows : (stop : Option ChainFault) (rows : Result (List (List Value)) AskFault) → (over_rows stop rows).status ≡ Done → (stop ≡ None) × IsOk rows
done_rows stop (Err fault) is = absurd (cc)
done_rows stop (Ok rows) is = (no_stop stop is, refl)

done_ask : (height : ℕ) (text : List ℕ) (found : Result App Refusal) (bytes : List ℕ) → (over_ask height text found bytes).status ≡ Done
    → IsOk found × (((chain bytes).1 ≡ None) × IsAnswered height text found bytes)
done_ask height text (Err refusal) bytes is = absurd (cc)
done_ask height text (Ok app) bytes is = (refl, done_rows (chain bytes).1 (rows_asked height text app (chain bytes).0) is)

pub done_whole : (settings : Option Settings) (files : Files) → (over_settings settings files).status ≡ Done → IsWhole settings files
done_whole None files is = absurd (cc)
done_whole (Some (Run app blocks arrivals nodes executors flags)) files is =
    let asked : Sources = run_sources app blocks arrivals nodes in
    let done = done_run (look_of flags) asked (accepted (files app)) files is in
    (of_all asked files (record { app = done.0; arrivals = done.1.0; schedule = refl; blocks = done.1.1 }), tt)
done_whole (Some (Simulate app blocks schedule arrivals flags)) files is =
    let asked : Sources = simulation_sources app blocks schedule arrivals in
    let done = done_simulation (look_of flags) asked (accepted (files app)) files is in
    (of_all asked files (record { app = done.app; arrivals = ok_one arrivals files done.arrivals; schedule = done.schedule; blocks = done.blocks }), done.seals)
done_whole (Some (Provenance app blocks query)) files is =
    let done = done_query query (accepted (files app)) (files blocks) is in
    (of_all (query_sources app blocks) files (record { app = done.0; arrivals = refl; schedule = refl; blocks = done.1.0 }), done.1.1)
done_whole (Some (Seal blocks)) files is = ((done_sealed (version_of (files blocks)) (chain (files blocks)).0 (chain (files blocks)).1 is, tt), tt)
done_whole (Some (Load number)) files is = (tt, tt)
done_whole (Some (Order clients count most)) files is =
    let done = done_order most (all_arrived (Some clients) 1 count files) is in
    (all_sound (Some clients) 1 count files done.0, done.1)
done_whole (Some (Checkpoint app blocks heads)) files is = extract_whole (Hashes heads) app blocks files is
done_whole (Some (Compare prefix count)) files is = (digests_sound prefix 1 count files (done_comparison (all_digests prefix 1 count files) is), tt)
done_whole (Some (Prove app blocks block write)) files is = extract_whole (extract.Proof block write) app blocks files is
done_whole (Some (Verify proof head)) files is = ((done_verification head (proof_read (files proof)) is, tt), tt)
done_whole (Some (Query app blocks height text)) files is =
    let done = done_ask height text (accepted (files app)) (files blocks) is in
    (of_all (query_sources app blocks) files (record { app = done.0; arrivals = refl; schedule = refl; blocks = done.1.0 }), done.1.1)

-- ---- how a call ends

-- what is written has the status that was meant, unless a write failed
writes_status : (meant : ProgramAnswer) (status : Status) (before now : Option (List ℕ)) → Writes meant status before now → (status ≡ WriteFault) ⊎ (status ≡ meant.status)
writes_status meant Done before now wrote = inr wrote.0
writes_status meant Usage before now wrote = inr wrote.0
writes_status meant ReadFault before now wrote = inr wrote.0
writes_status meant AppRefused before now wrote = inr wrote.0
writes_status meant ChainRefused before now wrote = inr wrote.0
writes_status meant ArrivalRefused before now wrote = inr wrote.0
writes_status meant ScheduleRefused before now wrote = inr wrote.0
writes_status meant QueryRefused before now wrote = inr wrote.0
writes_status meant OrderRefused before now wrote = inr wrote.0
writes_status meant DigestRefused before now wrote = inr wrote.0
writes_status meant ProofRefused before now wrote = inr wrote.0
writes_status meant NoMemory before now wrote = inr wrote.0
writes_status meant WriteFault before now wrote = inl refl

-- how the call ends over files, by the clause that says it
abbrev pub EndsOver : Option Settings → Files → Status → (before now : Option (List ℕ)) → (was is : Counts) → Type 0
EndsOver settings files status before now was is =
    (EndsTraced settings files status before now × (is ≡ was)) ⊎ (Writes read_refused status before now × RoseIn (plan_of settings) files was is)

-- by the answer's status, or short of memory, or by a call that failed
status_ended : (settings : Option Settings) (files : Files) (status : Status) (before now : Option (List ℕ)) (was is : Counts) → EndsOver settings files status before now was is
    → ((status ≡ (over_settings settings files).status) ⊎ (status ≡ NoMemory)) ⊎ ((status ≡ WriteFault) ⊎ (status ≡ ReadFault))
status_ended settings files status before now was is (inl (inl short, same)) = inl (inr short.0)
status_ended settings files status before now was is (inl (inr (lines, (follows, writes)), same)) = by (writes_status (followed_by lines (over_settings settings files)) status before now writes)
  where
    by : (status ≡ WriteFault) ⊎ (status ≡ (over_settings settings files).status)
        → ((status ≡ (over_settings settings files).status) ⊎ (status ≡ NoMemory)) ⊎ ((status ≡ WriteFault) ⊎ (status ≡ ReadFault))
    by (inl failed) = inr (inl failed)
    by (inr meant) = inl (inl meant)
status_ended settings files status before now was is (inr (writes, rose)) = inr (writes_status read_refused status before now writes)

-- where nothing is refused and no call fails, the answer is whole or memory runs out
pub completed : (settings : Option Settings) (files : Files) (status : Status) (before now : Option (List ℕ)) (was is : Counts) (wrote : Type 0)
    → EndsOver settings files status before now was is → (status ≡ ReadFault → RoseAt (plan_of settings) was is) → (status ≡ WriteFault → wrote)
    → IsWhole settings files → (RoseAt (plan_of settings) was is → ⊥) → (wrote → ⊥) → (status ≡ Done) ⊎ (status ≡ NoMemory)
completed settings files status before now was is wrote ends read write whole no_read no_write = by (status_ended settings files status before now was is ends)
  where
    by : ((status ≡ (over_settings settings files).status) ⊎ (status ≡ NoMemory)) ⊎ ((status ≡ WriteFault) ⊎ (status ≡ ReadFault)) → (status ≡ Done) ⊎ (status ≡ NoMemory)
    by (inl (inl meant)) = inl (meant ∙ whole_done settings files whole)
    by (inl (inr short)) = inr short
    by (inr (inl failed)) = absurd (no_write (write failed))
    by (inr (inr failed)) = absurd (no_read (read failed))

-- a whole answer is one where nothing is refused
pub is_whole : (settings : Option Settings) (files : Files) (status : Status) (before now : Option (List ℕ)) (was is : Counts) → EndsOver settings files status before now was is
    → status ≡ Done → IsWhole settings files
is_whole settings files status before now was is ends done = by (status_ended settings files status before now was is ends)
  where
    by : ((status ≡ (over_settings settings files).status) ⊎ (status ≡ NoMemory)) ⊎ ((status ≡ WriteFault) ⊎ (status ≡ ReadFault)) → IsWhole settings files
    by (inl (inl meant)) = done_whole settings files (sym meant ∙ done)
    by (inl (inr short)) = absurd (cc)
    by (inr (inl failed)) = absurd (cc)
    by (inr (inr failed)) = absurd (cc)

-- the same over a shelf that tells its files
pub completed_told : (settings : Option Settings) (told : Option Files) (status : Status) (before now : Option (List ℕ)) (was is : Counts) (wrote : Type 0)
    → IfSome told (λ files. EndsOver settings files status before now was is) → (status ≡ ReadFault → RoseAt (plan_of settings) was is) → (status ≡ WriteFault → wrote)
    → IfSome told (λ files. IsWhole settings files → (RoseAt (plan_of settings) was is → ⊥) → (wrote → ⊥) → (status ≡ Done) ⊎ (status ≡ NoMemory))
completed_told settings None status before now was is wrote ends read write = tt
completed_told settings (Some files) status before now was is wrote ends read write = completed settings files status before now was is wrote ends read write

pub whole_told : (settings : Option Settings) (told : Option Files) (status : Status) (before now : Option (List ℕ)) (was is : Counts)
    → IfSome told (λ files. EndsOver settings files status before now was is) → status ≡ Done → IfSome told (IsWhole settings)
whole_told settings None status before now was is ends done = tt
whole_told settings (Some files) status before now was is ends done = is_whole settings files status before now was is ends done

-- and where there are no settings
pub completed_refused : (settings : Option Settings) (told : Option Files) (why : WordsFault) (status : Status) (read wrote : Type 0) → (why ≡ fault.Usage → settings ≡ None)
    → (why ≡ fault.NoMemory → status ≡ NoMemory) → IfSome told (λ files. IsWhole settings files → (read → ⊥) → (wrote → ⊥) → (status ≡ Done) ⊎ (status ≡ NoMemory))
completed_refused settings None why status read wrote usage memory = tt
completed_refused settings (Some files) fault.Usage status read wrote usage memory = λ whole _ _. absurd (subst (λ (found : Option Settings). IsWhole found files) (usage refl) whole).1
completed_refused settings (Some files) fault.NoMemory status read wrote usage memory = λ whole _ _. inr (memory refl)

refused_status : (status : Status) → (status ≡ WriteFault) ⊎ (status ≡ Usage) → status ≡ Done → ⊥
refused_status status (inl failed) done = absurd (cc)
refused_status status (inr usage) done = absurd (cc)

not_done : (why : WordsFault) (status : Status) (before now : Option (List ℕ)) → (why ≡ fault.Usage → Writes usage_refused status before now)
    → (why ≡ fault.NoMemory → status ≡ NoMemory) → status ≡ Done → ⊥
not_done fault.Usage status before now usage memory done = refused_status status (writes_status usage_refused status before now (usage refl)) done
not_done fault.NoMemory status before now usage memory done = short (memory refl) done
  where
    short : status ≡ NoMemory → status ≡ Done → ⊥
    short one other = absurd (cc)

pub whole_refused : (settings : Option Settings) (told : Option Files) (why : WordsFault) (status : Status) (before now : Option (List ℕ))
    → (why ≡ fault.Usage → Writes usage_refused status before now) → (why ≡ fault.NoMemory → status ≡ NoMemory) → status ≡ Done → IfSome told (IsWhole settings)
whole_refused settings told why status before now usage memory done = absurd (not_done why status before now usage memory done)

-- how a call ends that was given no settings
pub ends_by_words : (settings : Option Settings) (told : Option Files) (why : WordsFault) (status : Status) (before now : Option (List ℕ)) (same : Type 0) (other : Files → Type 0)
    → (why ≡ fault.Usage → settings ≡ None) → (why ≡ fault.Usage → Writes usage_refused status before now) → (why ≡ fault.NoMemory → (status ≡ NoMemory) × (now ≡ before)) → same
    → IfSome told (λ files. (EndsTraced settings files status before now × same) ⊎ other files)
ends_by_words settings None why status before now same other none usage memory is = tt
ends_by_words settings (Some files) fault.Usage status before now same other none usage memory is = inl (ends_refused settings files status before now (none refl) (usage refl), is)
ends_by_words settings (Some files) fault.NoMemory status before now same other none usage memory is =
    let short = memory refl in
    inl (subst (λ (ended : Status). EndsTraced settings files ended before now) (sym short.0) (ends_short settings files before now short.1), is)
