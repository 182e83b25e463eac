use Rattle.std.proofs.Common.{[], subst, sym, ◌∙◌}
use Rattle.chain_file.specs.declared.form.ChainVersion.{ChainVersion}
use Rattle.chain_file.specs.Sealed.{Spells}
use Rattle.chain_file.proofs.Written.{version_is}
use Rattle.chain_file.proofs.sealer.begun.Goals as goal

pub returns-in_ok-push_all-in-Draft : goal.returns-in_ok-push_all-in-Draft
returns-in_ok-push_all-in-Draft c = λ said same.
    let v : ChainVersion = c.in-Some.form.version in (
      v,
      version_is c.args.text c.in-Some.form (sym said ∙ c.in-Some.is),
      subst (λ blocks. Spells c.push_all.new.self v blocks) (c.as_slice.ensures ∙ sym same) (c.in_ok-push_all-in-Draft.ensures v [] c.in_ok-chain-in-Draft.ensures),
    )
