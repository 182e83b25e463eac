use Rattle.std.proofs.Common.{IfSome, Option, arith, refl, rules, subst, sym, ◌+◌, ◌-◌, ◌≡◌, ◌≤◌}
use Rattle.std.specs.Prelude.{Ok}
use Rattle.bcdb.proofs.Digests.{may_read_rest, more_all, rest_turn}
use Rattle.bcdb.proofs.peers.+read_from.Goals as goal
use Rattle.bcdb.specs.ArrivalFiles.{node_file}
use Rattle.bcdb.specs.PeerFiles.{digests_read}
use Rattle.bcdb.specs.Plan.{AllowsPlan, RoseIn, digests_plan}
use Rattle.edge_traits.specs.Shelf.{Files}

pub read_from-requires : goal.read_from-requires
read_from-requires g t c κs within =
    let told = g.S.Shelf.told c.args.shelf.now in
    let new = g.S.Shelf.may_read c.read_peer.new.shelf in
    let some : 1 ≤ c.args.left = omega (arith, c.if-left-eq0.false) in
    let is : IfSome told (λ files. digests_read (files (node_file c.args.prefix.now c.args.peer)) ≡ Ok c.in-Ok-Ok.digests) = search rules in
    let allowed : AllowsPlan (digests_plan c.args.prefix.now c.args.peer c.args.left) told (g.S.Shelf.may_read c.args.shelf.now) = search rules in
    let rest : AllowsPlan (digests_plan c.args.prefix.now (c.args.peer + 1) (c.args.left - 1)) (g.S.Shelf.told c.read_peer.new.shelf) new =
    subst (λ (shown : Option Files). AllowsPlan (digests_plan c.args.prefix.now (c.args.peer + 1) (c.args.left - 1)) shown new) (sym c.in-Ok-Ok.ensures.same)
    (may_read_rest c.args.prefix.now c.args.peer c.args.left (c.args.left - 1) told (g.S.Shelf.may_read c.args.shelf.now) new c.in-Ok-Ok.digests some refl allowed c.in-Ok-Ok.ensures.allowed is) in
    let counted : c.args.left ≡ t = search rules in
    let few : c.args.peer + c.args.left ≤ 9 = search rules in
    (omega (arith, counted, some), (within, (omega (arith, few, some), rest)))

pub returns-in_ok-push-in-Ok-Ok-clause-told : goal.returns-in_ok-push-in-Ok-Ok-clause-told
returns-in_ok-push-in-Ok-Ok-clause-told g t c =
    let told = g.S.Shelf.told c.args.shelf.now in
    let some : 1 ≤ c.args.left = omega (arith, c.if-left-eq0.false) in
    let is : IfSome told (λ files. digests_read (files (node_file c.args.prefix.now c.args.peer)) ≡ Ok c.in-Ok-Ok.digests) = search rules in
    more_all told (g.S.Shelf.told c.read_peer.new.shelf) c.args.prefix.now c.args.peer c.args.left (c.args.left - 1) c.args.others c.push.new.self c.in-Ok-Ok.digests c.read_from.result
    c.in-Ok-Ok.ensures.same some refl c.in_ok-push-in-Ok-Ok.ensures.ok is c.read_from.ensures.told

pub returns-in_ok-push-in-Ok-Ok-clause-turn : goal.returns-in_ok-push-in-Ok-Ok-clause-turn
returns-in_ok-push-in-Ok-Ok-clause-turn g t c =
    let told = g.S.Shelf.told c.args.shelf.now in
    let middle = g.S.Shelf.faults c.read_peer.new.shelf in
    let now = g.S.Shelf.faults c.read_from.new.shelf in
    let some : 1 ≤ c.args.left = omega (arith, c.if-left-eq0.false) in
    let is : IfSome told (λ files. digests_read (files (node_file c.args.prefix.now c.args.peer)) ≡ Ok c.in-Ok-Ok.digests) = search rules in
    λ failed.
    rest_turn told c.args.prefix.now c.args.peer c.args.left (c.args.left - 1) c.in-Ok-Ok.digests (g.S.Shelf.faults c.args.shelf.now) middle now some refl c.in-Ok-Ok.ensures.counted is
    (subst (λ (shown : Option Files). IfSome shown (λ files. RoseIn (digests_plan c.args.prefix.now (c.args.peer + 1) (c.args.left - 1)) files middle now)) c.in-Ok-Ok.ensures.same
    (c.read_from.ensures.turn failed))
