-- Net writes one after the other.
use Rattle.std.proofs.Common.{◌≡◌, ℕ, List, [], ◌∷◌, ◌++◌, Option, Some, None, refl, ap, sym, ◌∙◌, append_assoc}
use Rattle.rel_base.specs.declared.access.Write.{Write}
use Rattle.rel_base.specs.declared.value.Value.{Value}
use Rattle.rel_base.specs.NetWrites.{write_before}
use Rattle.row_sets.specs.Overlay.{net_writes}
use Rattle.row_sets.specs.declared.table_writes.OwnWrite.{OwnWrite}

-- a write that is put before others stands before them
pub write_apart : (ref : ℕ × List Value) (before after : Option (List Value)) (rest : List Write) → write_before ref before after rest ≡ write_before ref before after [] ++ rest
write_apart ref None None rest = refl
write_apart ref None (Some row) rest = refl
write_apart ref (Some row) None rest = refl
write_apart ref (Some row) (Some new) rest = refl

-- the net writes of entries that stand before others
pub net_append : (es fs : List ((ℕ × List Value) × OwnWrite)) → net_writes (es ++ fs) ≡ net_writes es ++ net_writes fs
net_append [] fs = refl
net_append (e ∷ es) fs =
    ap (write_before e.0 e.1.before e.1.after) (net_append es fs) ∙ write_apart e.0 e.1.before e.1.after (net_writes es ++ net_writes fs)
    ∙ sym (append_assoc (write_before e.0 e.1.before e.1.after []) (net_writes es) (net_writes fs)) ∙ ap (λ ws. ws ++ net_writes fs) (sym (write_apart e.0 e.1.before e.1.after (net_writes es)))
