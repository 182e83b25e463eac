use Rattle.std.proofs.lemmas.Grind.{common_steps}
use Rattle.std.proofs.Common.{arith}
use Rattle.canon_code.specs.Values.{value_code, HasValueCode, value_at}
use Rattle.canon_code.proofs.Exact.{rest_within, is_front}
use Rattle.canon_code.proofs.Things.{value_exact}
use Rattle.canon_code.proofs.value.get_value.Goals as goal

pub overflow_sub-result : goal.overflow_sub-result
overflow_sub-result c =
    rest_within value_code HasValueCode value_at value_exact c.args.bytes.now c.in_ok-value.value c.in_ok-value.rest.now (λ i. omega (arith, c.type_inv.bytes i)) c.in_ok-value.ensures

pub returns : goal.returns
returns c =
    is_front value_code HasValueCode value_at value_exact c.args.bytes.now c.in_ok-value.value c.in_ok-value.rest.now (λ i. omega (arith, c.type_inv.bytes i)) c.in_ok-value.ensures

pub returns-in_err-value : goal.returns-in_err-value
returns-in_err-value c = grind (arith, common_steps)
