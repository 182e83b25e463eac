use Rattle.std.proofs.Common.{◌≡◌, ℕ, List, [], length}
use Rattle.proc_syntax.specs.declared.call.Tx.{Tx}
use Rattle.tx_text.specs.Parts.{parts_of}
use Rattle.chain_file.specs.Chain.{walk, with_blocks}
use Rattle.chain_file.specs.Following.{Knows}
use Rattle.chain_file.specs.Resumed.{going_at}
use Rattle.chain_file.proofs.resume.read_more.Given as goal

abbrev pub invariant-loop-line : goal.invariant-loop-line
invariant-loop-line l =
    (l.block.before ≡ l.fn.going.before)
    × ((kept : List Tx) (digits known : List ℕ) → l.fn.going.before ≡ length kept → Knows l.fn.going.form.kind l.fn.going.hashes digits known
    → (now : List ℕ) × Knows l.block.form.kind l.block.hashes digits now
    × (walk (going_at kept l.fn.going digits known) (parts_of l.bytes) ≡ with_blocks [] (walk (going_at kept l.block digits now) (parts_of l.rest))))

abbrev pub decreases-loop-line : goal.decreases-loop-line
decreases-loop-line l = length l.rest
