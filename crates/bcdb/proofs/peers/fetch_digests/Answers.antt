use Rattle.std.proofs.Common.{IfSome, arith, length, rules, ◌≡◌, ◌≤◌}
use Rattle.std.proofs.lemmas.Grind.{common_steps}
use Rattle.bcdb.proofs.Digests.{short_told}
use Rattle.bcdb.proofs.peers.fetch_digests.Goals as goal
use Rattle.checkpoint.specs.Files.{digests_of}

pub returns-in_ok-read-in-Ok-clause-told : goal.returns-in_ok-read-in-Ok-clause-told
returns-in_ok-read-in-Ok-clause-told g c =
    let same : IfSome (g.S.Shelf.told c.args.shelf.now) (λ files. c.in-Ok.bytes ≡ files c.args.name.now) = search rules in
    let short : length c.in-Ok.bytes ≤ 73000010 = search rules in
    let is : digests_of c.in-Ok.bytes ≡ c.in_ok-read-in-Ok.read = search rules in
    short_told (g.S.Shelf.told c.args.shelf.now) c.args.name.now c.in-Ok.bytes c.in_ok-read-in-Ok.read same short is

pub returns-in-Err-TooLong-clause-told : goal.returns-in-Err-TooLong-clause-told
returns-in-Err-TooLong-clause-told g c = grind (arith, common_steps)
