use Rattle.std.proofs.Common.{subst, sym}
use Rattle.std.specs.BTreeMap.Range.{IsLeBy, IsLtBy}
use Rattle.std.specs.Range.Bound.{IsForward}
use Rattle.rel_base.specs.Value.{key_cmp}
use Rattle.version_index.specs.Candidates.{key_end_of}
use Rattle.version_index.proofs.Ranges.{forward_keys}
use Rattle.version_index.proofs.key_spans.key_ends.Goals as goal

-- they are in order, as those of the values
pub returns-clause-forward : goal.returns-clause-forward
returns-clause-forward c =
    subst (λ low. IsForward (IsLeBy key_cmp) (IsLtBy key_cmp) low c.in_ok-high.high) (sym c.in_ok-low.ensures)
    (subst (IsForward (IsLeBy key_cmp) (IsLtBy key_cmp) (key_end_of c.args.low.now)) (sym c.in_ok-high.ensures) (forward_keys c.args.low.now c.args.high.now c.requires))
