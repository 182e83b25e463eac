use Rattle.std.proofs.Common.{IfSome, List, None, Option, Some, ℕ}
use Rattle.std.specs.Prelude.{Result}
use Rattle.bcdb.proofs.sealing.seal_file.Goals as goal
use Rattle.bcdb.specs.SealAnswer.{sealed}
use Rattle.bcdb.specs.Reply.{Means}
use Rattle.bcdb.specs.declared.reply.Reply.{Reply}
use Rattle.chain_file.specs.Chain.{chain}
use Rattle.chain_file.specs.Headers.{version_of}
use Rattle.chain_file.specs.declared.form.ChainVersion.{ChainVersion}
use Rattle.chain_file.specs.Sealed.{SealsAs}
use Rattle.edge_traits.specs.Shelf.{Files}
use Rattle.proc_syntax.specs.declared.call.Block.{Block}
use Rattle.proc_syntax.specs.declared.chain_fault.ChainFault.{ChainFault}

means_told : (told : Option Files) (name : List ℕ) (text : Result (List ℕ) ChainFault) (reply : Reply) → IfSome told (λ files. SealsAs text (version_of (files name)) (chain (files name)))
    → ((version : Option ChainVersion) (blocks : List Block) (fault : Option ChainFault) → SealsAs text version (blocks, fault) → Means (sealed version blocks fault) reply)
    → IfSome told (λ files. Means (sealed (version_of (files name)) (chain (files name)).0 (chain (files name)).1) reply)
means_told None name text reply seals means = tt
means_told (Some files) name text reply seals means = means (version_of (files name)) (chain (files name)).0 (chain (files name)).1 seals

pub returns-in_ok-reply-in-Ok-clause-told : goal.returns-in_ok-reply-in-Ok-clause-told
returns-in_ok-reply-in-Ok-clause-told g c =
    let told = g.S.Shelf.told c.args.shelf.now in
    let name = c.args.name.now in
    means_told told name c.end_seal.result c.in_ok-reply-in-Ok.reply (c.end_seal.ensures told name c.in-Ok.ensures.told) c.in_ok-reply-in-Ok.ensures.means
