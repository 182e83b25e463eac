use Rattle.std.proofs.Common.{length, subst, sym, true, ◌∙◌, ◌≡◌, ◌≤◌}
use Rattle.load_gen.proofs.Spelled.{plain_owner, short_owner}
use Rattle.rel_base.specs.Text.{has_no_control}
use Rattle.load_gen.proofs.calls.owner.Goals as goal

pub text-requires-clause-short : goal.text-requires-clause-short
text-requires-clause-short c =
    subst (λ bytes. length bytes ≤ 255) (sym (c.as_str.ensures.value ∙ c.in_ok-name.ensures.ok)) (short_owner c.args.drawn c.ranges.drawn.fits)

pub text-requires-clause-plain : goal.text-requires-clause-plain
text-requires-clause-plain c =
    subst (λ bytes. has_no_control bytes ≡ true) (sym (c.as_str.ensures.value ∙ c.in_ok-name.ensures.ok)) (plain_owner c.args.drawn c.ranges.drawn.fits)
