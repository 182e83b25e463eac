-- How far a line can stand from the start of its file.
use Rattle.std.specs.Prelude.{ℕ, ◌+◌, ◌*◌, length, Bool, ◌&&◌, nat_le, nat_lt}
use Rattle.chain_file.specs.declared.section.Section.{Section}
use Rattle.chain_file.specs.declared.section.Section.TheVariants as place
use Rattle.chain_file.specs.Steps.{most_time}
use Rattle.proc_syntax.specs.Limits.{most_blocks, most_transactions}

-- in the block that follows so many, and has so many transactions so far, a line has at most this number; its time is an i64
abbrev pub is_within_near : ℕ → ℕ → ℕ → ℕ → Bool
is_within_near line count time txs = nat_lt count most_blocks && nat_le txs most_transactions && nat_le line (count * 1026 + txs + 3) && nat_le time most_time

-- a line has at most this number, since a block has at most 1,026 lines, and a file at most 1,000,000 blocks
abbrev pub is_near : ℕ → Section → Bool
is_near line place.Start = nat_le line 1
is_near line (place.Between f count time) = nat_le count most_blocks && nat_le line (count * 1026 + 2)
is_near line (place.Within f count time txs) = is_within_near line count time (length txs)
