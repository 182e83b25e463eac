use Rattle.std.proofs.Common.{ap, subst, sym, ◌++◌, ◌∙◌}
use Rattle.chain_file.specs.declared.sealer.Sealed.{Sealed}
use Rattle.chain_file.specs.declared.sealer.Sealed.TheVariants as sealed
use Rattle.chain_file.specs.Chain.{chain}
use Rattle.chain_file.specs.Headers.{chain_form}
use Rattle.chain_file.specs.Sealed.{Holds, Spells}
use Rattle.chain_file.proofs.Forms.{form_stays, version_stays}
use Rattle.chain_file.proofs.sealer.keep.Goals as goal

pub returns-in_ok-extend-in-Same : goal.returns-in_ok-extend-in-Same
returns-in_ok-extend-in-Same c = λ bytes holds said more.
    let kept : Holds (sealed.Same c.in-Same.text) bytes = subst (λ (s : Sealed). Holds s bytes) c.in-Same.is holds in
    let v = kept.1.0 in
    (c.in_ok-extend-in-Same.ensures.ok ∙ ap (λ text. text ++ c.args.piece.now) kept.0, (v, form_stays bytes c.args.piece.now (chain_form v) kept.1.1))

pub returns-in_ok-push_all-in-Anew : goal.returns-in_ok-push_all-in-Anew
returns-in_ok-push_all-in-Anew c = λ bytes holds said more.
    let kept : Holds (sealed.Anew c.in-Anew.chain) bytes = subst (λ (s : Sealed). Holds s bytes) c.in-Anew.is holds in
    let v = kept.0 in (
      v,
      version_stays bytes c.args.piece.now v kept.1,
      subst (λ blocks. Spells c.push_all.new.self v blocks) (ap (λ blocks. (chain bytes).0 ++ blocks) c.as_slice.ensures ∙ sym more) (c.in_ok-push_all-in-Anew.ensures v (chain bytes).0 kept.2),
    )
