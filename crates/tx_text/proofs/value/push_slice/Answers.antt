use Rattle.std.proofs.Common.{arith}
use Rattle.tx_text.proofs.Sound.{bytes_sound}
use Rattle.tx_text.proofs.value.push_slice.Goals as goal

pub returns-clause-low : goal.returns-clause-low
returns-clause-low c = bytes_sound c.args.bytes.now (λ i. omega (arith, c.type_inv.bytes i))
