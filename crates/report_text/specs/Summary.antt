-- The summary of a load: how many of its transactions came to what.
use Rattle.std.specs.Prelude.{List, None, Option, Some, [], codes, decimal, flat_map, length, map, slice_get, ◌++◌, ◌-◌, ◌∷◌, ℕ}
use Rattle.std.specs.List.{count_by}
use Rattle.node_model.specs.Kinds.{is_same, kind_of, kind_word}
use Rattle.node_model.specs.declared.kind.OutcomeKind.TheVariants.{BadArguments, Committed, Danger, DuplicateId, Fault, FutureHeight, Phantom, Stale, UnknownProcedure, WriteConflict}
use Rattle.node_model.specs.declared.kind.OutcomeKind.{OutcomeKind}
use Rattle.node_model.specs.declared.result.BlockResult.{BlockResult}
use Rattle.report_text.specs.Report.{digest_line, line}

-- all kinds, in the order of a summary
abbrev pub kinds : List OutcomeKind
kinds =
    Committed ∷ DuplicateId ∷ FutureHeight ∷ UnknownProcedure ∷ BadArguments ∷ Stale ∷ Phantom ∷ Fault ∷ WriteConflict ∷ Danger ∷ []

-- the kinds of all outcomes of blocks, in their order
abbrev pub kinds_in : List BlockResult → List OutcomeKind
kinds_in blocks = flat_map (λ block. map (λ told. kind_of told.outcome) block.outcomes) blocks

-- a word, a space and a number
abbrev pub number_line : List ℕ → ℕ → List ℕ
number_line word number = line (word ++ codes " " ++ decimal number)

-- a kind, and how many of some outcomes are of it
abbrev pub count_line : List OutcomeKind → OutcomeKind → List ℕ
count_line found kind = number_line (kind_word kind) (count_by (is_same kind) found)

-- of each kind, how many of some outcomes are of it
unfoldable pub counts_text : List OutcomeKind → List ℕ
counts_text found = flat_map (count_line found) kinds

-- the digest of a block, if there is one
abbrev pub last_digest_line : Option BlockResult → List ℕ
last_digest_line None = []
last_digest_line (Some block) = digest_line block

-- the number of a load, how many blocks it has, how many of their outcomes are of each kind, and the digest of the last block
abbrev pub summary_text : ℕ → List BlockResult → List ℕ
summary_text number blocks =
    number_line (codes "load") number ++ number_line (codes "blocks") (length blocks) ++ counts_text (kinds_in blocks)
    ++ last_digest_line (slice_get blocks (length blocks - 1)) ++ codes "done\n"
