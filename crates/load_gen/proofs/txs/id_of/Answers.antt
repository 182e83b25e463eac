use Rattle.std.proofs.Common.{subst, sym, true, ◌∙◌, ◌≡◌}
use Rattle.load_gen.proofs.Spelled.{id_form}
use Rattle.rel_base.specs.Text.{has_id_form}
use Rattle.load_gen.proofs.txs.id_of.Goals as goal

pub id_from-requires : goal.id_from-requires
id_from-requires c = subst (λ bytes. has_id_form bytes ≡ true) (sym (c.as_str.ensures.value ∙ c.in_ok-text.ensures.ok)) (id_form c.args.number c.requires)
