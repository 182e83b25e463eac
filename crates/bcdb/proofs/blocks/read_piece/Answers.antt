use Rattle.std.proofs.Common.{arith}
use Rattle.std.proofs.lemmas.Grind.{common_steps}
use Rattle.std.specs.Prelude.{IfOk, OnOk}
use Rattle.std.proofs.Common.{List, rules, subst, take, ◌++◌, ◌<◌, ◌≡◌, ℕ}
use Rattle.bcdb.proofs.Taken.{goes_on, stops, within}
use Rattle.bcdb.proofs.blocks.read_piece.Goals as goal
use Rattle.chain_file.specs.Chain.{chain, lasting}

pub returns-in-None-clause-goes : goal.returns-in-None-clause-goes
returns-in-None-clause-goes g c =
    let told = g.S.Shelf.told c.args.shelf.now in
    let read = c.requires.read in
    let both : List ℕ = read.bytes ++ take c.in-Ok.count c.read_at.new.buf in
    let some : 0 < c.in-Ok.count = search rules in
    let took : g.I.Intake.took c.take.new.self both = subst (λ r. OnOk r (g.I.Intake.took c.take.new.self both)) c.in_ok-take.was (c.take.ensures.follows read.bytes read.follows) in
    let is : c.in_ok-take.field-0 ≡ lasting (chain both).1 = subst (λ r. IfOk r (λ fault. fault ≡ lasting (chain both).1)) c.in_ok-take.was (c.take.ensures.fault read.bytes read.follows) in (
      some,
      within told c.args.name.now c.read_at.new.buf c.args.at c.in-Ok.count (g.I.Intake.took c.args.intake.now) (g.I.Intake.took c.take.new.self) read c.in-Ok.ensures.bound c.in-Ok.ensures.bytes c.requires.bounded _ is
          c.in-None.is,
      goes_on told c.args.name.now c.read_at.new.buf c.args.at c.in-Ok.count (g.I.Intake.took c.args.intake.now) (g.I.Intake.took c.take.new.self) read c.in-Ok.ensures.bound c.in-Ok.ensures.bytes _ took is c.in-None.is,
    )

pub returns-in-Some-clause-goes : goal.returns-in-Some-clause-goes
returns-in-Some-clause-goes g c =
    let told = g.S.Shelf.told c.args.shelf.now in
    let read = c.requires.read in
    let both : List ℕ = read.bytes ++ take c.in-Ok.count c.read_at.new.buf in
    let took : g.I.Intake.took c.take.new.self both = subst (λ r. OnOk r (g.I.Intake.took c.take.new.self both)) c.in_ok-take.was (c.take.ensures.follows read.bytes read.follows) in
    let is : c.in_ok-take.field-0 ≡ lasting (chain both).1 = subst (λ r. IfOk r (λ fault. fault ≡ lasting (chain both).1)) c.in_ok-take.was (c.take.ensures.fault read.bytes read.follows) in
    stops told c.args.name.now c.read_at.new.buf c.args.at c.in-Ok.count (g.I.Intake.took c.args.intake.now) (g.I.Intake.took c.take.new.self) read c.in-Ok.ensures.bound c.in-Ok.ensures.bytes c.requires.lasting _ _ took is
    c.in-Some.is

pub returns-then-count-eq0-clause-goes : goal.returns-then-count-eq0-clause-goes
returns-then-count-eq0-clause-goes g c = grind (arith, common_steps)

pub take-requires : goal.take-requires
take-requires g c = record { took = (c.requires.read.bytes, c.requires.read.follows) }
