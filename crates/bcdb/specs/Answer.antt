-- What the program means to answer, over whole files: by its words, and for each command by a file of its own.
use Rattle.std.specs.Prelude.{List, None, Option, Some, codes, ◌≡◌, ℕ}
use Rattle.bcdb.specs.Accepted.{accepted}
use Rattle.bcdb.specs.ArrivalFiles.{all_arrived}
use Rattle.bcdb.specs.ComparisonAnswer.{over_comparison}
use Rattle.bcdb.specs.ExtractAnswer.{over_extract}
use Rattle.bcdb.specs.LoadAnswer.{over_load}
use Rattle.bcdb.specs.OrderAnswer.{over_order}
use Rattle.bcdb.specs.PeerFiles.{all_digests}
use Rattle.bcdb.specs.ProgramAnswer.{ProgramAnswer, look_of, says}
use Rattle.bcdb.specs.RowsAnswer.{over_ask}
use Rattle.bcdb.specs.RunAnswer.{over_run}
use Rattle.bcdb.specs.SealAnswer.{sealed}
use Rattle.bcdb.specs.SimulationAnswer.{over_simulation}
use Rattle.bcdb.specs.Sources.{run_sources, simulation_sources}
use Rattle.bcdb.specs.VerificationAnswer.{over_verification}
use Rattle.bcdb.specs.VersionsAnswer.{over_query}
use Rattle.bcdb.specs.declared.extract.Extract.TheVariants.{Hashes, Proof}
use Rattle.bcdb.specs.declared.status.Status.TheVariants.{NoMemory, ReadFault, Usage, WriteFault}
use Rattle.bcdb.specs.declared.status.Status.{Status}
use Rattle.chain_file.specs.Chain.{chain}
use Rattle.chain_file.specs.Headers.{version_of}
use Rattle.cli_words.specs.Language.{settings_of}
use Rattle.cli_words.specs.declared.settings.Settings.TheVariants.{Checkpoint, Compare, Load, Order, Provenance, Prove, Query, Run, Seal, Simulate, Verify}
use Rattle.cli_words.specs.declared.settings.Settings.{Settings}
use Rattle.edge_traits.specs.Shelf.{Files}
use Rattle.edge_traits.specs.Sink.{WroteFront, appended}
use Rattle.load_gen.specs.Application.{app_text}

-- words that are not in the language
abbrev pub usage_refused : ProgramAnswer
usage_refused = says Usage (codes "refused usage\n")

-- the words decide first
abbrev pub over_settings : Option Settings → Files → ProgramAnswer
over_settings None files = usage_refused
over_settings (Some (Run app blocks arrivals nodes executors flags)) files = over_run (look_of flags) (run_sources app blocks arrivals nodes) (accepted (files app)) files
over_settings (Some (Simulate app blocks schedule arrivals flags)) files =
    over_simulation (look_of flags) (simulation_sources app blocks schedule arrivals) (accepted (files app)) files
over_settings (Some (Provenance app blocks query)) files = over_query query (accepted (files app)) (files blocks)
over_settings (Some (Seal blocks)) files = sealed (version_of (files blocks)) (chain (files blocks)).0 (chain (files blocks)).1
over_settings (Some (Load number)) files = over_load number (accepted app_text)
over_settings (Some (Order clients count most)) files = over_order most (all_arrived (Some clients) 1 count files)
over_settings (Some (Checkpoint app blocks heads)) files = over_extract (Hashes heads) (accepted (files app)) (files blocks)
over_settings (Some (Compare prefix count)) files = over_comparison (all_digests prefix 1 count files)
over_settings (Some (Prove app blocks block write)) files = over_extract (Proof block write) (accepted (files app)) (files blocks)
over_settings (Some (Verify proof head)) files = over_verification head (files proof)
over_settings (Some (Query app blocks height text)) files = over_ask height text (accepted (files app)) (files blocks)

-- what the words mean over files
abbrev pub answer : List (List ℕ) → Files → ProgramAnswer
answer words files = over_settings (settings_of words) files

abbrev pub read_refused : ProgramAnswer
read_refused = says ReadFault (codes "refused read\n")

-- What was meant is written: with its status and all of its bytes, or short of a write with a prefix of them.
abbrev pub Writes : ProgramAnswer → Status → Option (List ℕ) → Option (List ℕ) → Type 0
Writes meant WriteFault before now = WroteFront before now meant.bytes
Writes meant status before now = (status ≡ meant.status) × (now ≡ appended before meant.bytes)

-- The call ends as it was meant to, or short of memory with a prefix of the bytes.
abbrev pub Ends : ProgramAnswer → Status → Option (List ℕ) → Option (List ℕ) → Type 0
Ends meant NoMemory before now = WroteFront before now meant.bytes
Ends meant status before now = Writes meant status before now
