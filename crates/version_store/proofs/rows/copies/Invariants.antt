use Rattle.std.proofs.Common.{◌≡◌, ◌++◌, drop, map}
use Rattle.rel_base.specs.Lent.{seen_lent}
use Rattle.version_store.proofs.rows.copies.Given as goal

-- the copies so far, and those that are left
abbrev pub invariant-loop-seen : goal.invariant-loop-seen
invariant-loop-seen l = l.seens ++ map seen_lent (drop l.seen-index l.lent) ≡ map seen_lent l.lent
