-- A piece that goes on with a block that began before it.
use Rattle.std.specs.Prelude.{◌≡◌, ◌≤◌, ◌<◌, ◌+◌, ℕ, List, [], ◌∷◌, ◌++◌, length, Ok, Err}
use Rattle.proc_syntax.specs.declared.call.Tx.{Tx}
use Rattle.proc_syntax.specs.declared.call.Block.{Block}
use Rattle.tx_text.specs.Parts.{parts_of}
use Rattle.chain_file.specs.declared.section.Section.{Section}
use Rattle.chain_file.specs.declared.section.Section.TheVariants as place
use Rattle.chain_file.specs.declared.going.Going.{Going}
use Rattle.chain_file.specs.declared.resume.Before.{Before}
use Rattle.chain_file.specs.declared.resume.Before.TheVariants as before
use Rattle.chain_file.specs.declared.resume.More.{More}
use Rattle.chain_file.specs.declared.resume.More.TheVariants as more
use Rattle.chain_file.specs.Blocks.{block_of}
use Rattle.chain_file.specs.Steps.{most_time}
use Rattle.chain_file.specs.Chain.{Position, Walked, ended_blocks, hash_digits, with_blocks}
use Rattle.chain_file.specs.Following.{KeepsChain, Knows, StandsAt}
use Rattle.proc_syntax.specs.Limits.{most_transactions}

-- the transactions of the block that has begun
abbrev pub txs_in : Section → List Tx
txs_in place.Start = []
txs_in (place.Between f count time) = []
txs_in (place.Within f count time txs) = txs

-- before a line of a block that had these transactions before the piece, and these bytes so far, after a block whose hash has
-- these digits
abbrev pub going_at : List Tx → Going → List ℕ → List ℕ → Position
going_at kept g digits bytes = record { line = g.line; place = place.Within g.form g.count g.time (kept ++ g.txs); digits = digits; bytes = bytes }

-- after the line that ends it, which is the last of these bytes
abbrev pub behind_end : Going → List ℕ → Position
behind_end g bytes = record { line = g.line + 1; place = place.Between g.form (g.count + 1) g.time; digits = hash_digits bytes; bytes = [] }

-- what the lines of a piece go on with, where the block that has begun has these transactions
abbrev pub Begins : List Tx → Before → Position → Type 0
Begins kept (before.Between s) at = StandsAt s at
Begins kept (before.Within g) at = (at ≡ going_at kept g at.digits at.bytes) × Knows g.form.kind g.hashes at.digits at.bytes

-- as many transactions stand before as these
abbrev pub Counts : List Tx → Before → Type 0
Counts kept (before.Between s) = Unit {0}
Counts kept (before.Within g) = g.before ≡ length kept

-- what the lines of the piece give, where the block that has begun had these transactions before it
abbrev pub Resumes : List Tx → More → Walked → Type 0
Resumes kept (more.Goes g held) meant =
    (digits : List ℕ) × (bytes : List ℕ) × Knows g.form.kind g.hashes digits bytes × (parts_of held ≡ held ∷ []) × (meant ≡ ([], Ok (going_at kept g digits bytes, held)))
Resumes kept (more.Ends number time txs blocks s) meant =
    (blank : Block) × (rest : Walked) × (blocks ≡ blank ∷ rest.0) × KeepsChain s rest.1 × (meant ≡ with_blocks (ended_blocks (block_of number time (kept ++ txs))) rest)
Resumes kept (more.Stopped found) meant = meant ≡ ([], Err found)

-- the transactions before and those of the piece are few enough for a block, for which there is a place before, and its time is an i64
abbrev pub Fits : List Tx → More → Type 0
Fits kept (more.Goes g held) = g.before ≡ length kept
Fits kept (more.Ends number time txs blocks s) = (length (kept ++ txs) ≤ most_transactions) × (0 < length blocks) × (time ≤ most_time)
Fits kept (more.Stopped found) = Unit {0}
