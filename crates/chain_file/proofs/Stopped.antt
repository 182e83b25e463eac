-- After a fault more bytes change nothing.
use Rattle.std.proofs.Common.{◌≡◌, ℕ, List, ◌++◌, Some, ◌∙◌, ap}
use Rattle.std.specs.Prelude.{Result, Ok, Err}
use Rattle.proc_syntax.specs.declared.chain_fault.ChainFault.{ChainFault}
use Rattle.chain_file.specs.Chain.{Position, Walked, chain, fault_at_end, lasting, walked}
use Rattle.chain_file.proofs.Lasting.{fault_so_far, so_far_lasts}
use Rattle.chain_file.proofs.Walking.{walked_stopped}

met : (read : Result (Position × List ℕ) ChainFault) (found : ChainFault) → fault_so_far read ≡ Some found → read ≡ Err found
met (Err other) found e = cc
met (Ok known) found e = absurd (cc)

pub fault_lasts : (bytes more : List ℕ) (found : ChainFault) → lasting (chain bytes).1 ≡ Some found → chain (bytes ++ more) ≡ ((chain bytes).0, Some found)
fault_lasts bytes more found e =
    let stopped : (walked bytes).1 ≡ Err found = met (walked bytes).1 found (so_far_lasts bytes ∙ e) in
    ap (λ (w : Walked). (w.0, fault_at_end w.1)) (walked_stopped bytes more found stopped)
    ∙ ap (λ fault. ((walked bytes).0, fault)) (ap fault_at_end stopped)
