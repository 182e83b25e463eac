use Rattle.std.proofs.Common.{◌≡◌, ◌∙◌, ◌+◌, ◌++◌, ◌∷◌, [], Some, ap, append_assoc, append-nil, arith, drop, rules, slice_get, suc, sym}
use Rattle.row_sets.proofs.BlockWrites.{from_other, from_own}
use Rattle.row_sets.proofs.block_writes.block_from.Goals as goal
use Rattle.row_sets.specs.BlockWrites.{writes_from}
use Rattle.row_sets.specs.Versions.{write_of}

-- the next write is of another block
pub returns-then-write-number : goal.returns-then-write-number
returns-then-write-number g c =
    let history = g.V.Versions.history c.args.versions.now in
    let there : slice_get history c.loop-at.at ≡ Some (write_of c.in-Some.write) = search rules in
    sym (append-nil c.loop-at.writes) ∙ ap (λ rest. c.loop-at.writes ++ rest) (sym (from_other c.args.number c.loop-at.at history (write_of c.in-Some.write) there (search rules))) ∙ c.loop-at.invariant.0

pub loop-at-preserved : goal.loop-at-preserved
loop-at-preserved g c =
    let history = g.V.Versions.history c.args.versions.now in
    let at = c.loop-at.at in
    let write = write_of c.in-Some.write in
    let next : at + 1 ≡ suc at = omega arith in
    let there : slice_get history at ≡ Some write = search rules in
    let own = from_own c.args.number at history write there (search rules) in
    let rest = writes_from c.args.number (drop (suc at) history) in
    let pushed : c.push.new.self ≡ c.loop-at.writes ++ write.1 ∷ [] = search rules in (
      ap (λ n. c.push.new.self ++ writes_from c.args.number (drop n history)) next ∙ ap (λ ws. ws ++ rest) pushed ∙ append_assoc c.loop-at.writes (write.1 ∷ []) rest ∙ ap (λ ws. c.loop-at.writes ++ ws) (sym own) ∙ c.loop-at.invariant.0,
      c.loop-at.invariant.1,
    )
