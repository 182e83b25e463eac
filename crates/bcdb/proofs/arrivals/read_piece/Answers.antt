use Rattle.std.proofs.Common.{arith}
use Rattle.std.proofs.lemmas.Grind.{common_steps}
use Rattle.std.proofs.Common.{IfOk, List, rules, subst, take, ◌++◌, ◌<◌, ℕ}
use Rattle.bcdb.proofs.Arriving.{goes_on, stops, within}
use Rattle.bcdb.proofs.arrivals.read_piece.Goals as goal
use Rattle.bcdb.specs.ArrivalReading.{HasRead, TakesLines}

pub returns-in-None-clause-goes : goal.returns-in-None-clause-goes
returns-in-None-clause-goes g c =
    let told = g.S.Shelf.told c.args.shelf.now in
    let read = c.requires.read in
    let both : List ℕ = read.bytes ++ take c.in-Ok.count c.read_at.new.buf in
    let some : 0 < c.in-Ok.count = search rules in
    let takes : TakesLines both c.take_piece.new.reader c.take_piece.new.txs c.in_ok-take_piece.field-0 =
    subst (λ r. IfOk r (TakesLines both c.take_piece.new.reader c.take_piece.new.txs)) c.in_ok-take_piece.was (c.take_piece.ensures read.bytes read.has) in
    let has : HasRead both c.take_piece.new.reader c.take_piece.new.txs = subst (TakesLines both c.take_piece.new.reader c.take_piece.new.txs) c.in-None.is takes in (
      some,
      within told c.args.name.now c.read_at.new.buf c.args.at c.in-Ok.count c.args.reader.now c.args.txs.now read c.in-Ok.ensures.bound c.in-Ok.ensures.bytes c.requires.bounded _ _ has,
      goes_on told c.args.name.now c.read_at.new.buf c.args.at c.in-Ok.count c.args.reader.now c.args.txs.now read c.in-Ok.ensures.bound c.in-Ok.ensures.bytes _ _ has,
    )

pub returns-in-Some-clause-goes : goal.returns-in-Some-clause-goes
returns-in-Some-clause-goes g c =
    let told = g.S.Shelf.told c.args.shelf.now in
    let read = c.requires.read in
    let both : List ℕ = read.bytes ++ take c.in-Ok.count c.read_at.new.buf in
    let takes : TakesLines both c.take_piece.new.reader c.take_piece.new.txs c.in_ok-take_piece.field-0 =
    subst (λ r. IfOk r (TakesLines both c.take_piece.new.reader c.take_piece.new.txs)) c.in_ok-take_piece.was (c.take_piece.ensures read.bytes read.has) in
    stops told c.args.name.now c.read_at.new.buf c.args.at c.in-Ok.count c.args.reader.now c.args.txs.now read c.in-Ok.ensures.bound c.in-Ok.ensures.bytes c.requires.lasting c.in-Some.line
    (subst (TakesLines both c.take_piece.new.reader c.take_piece.new.txs) c.in-Some.is takes)

pub returns-then-count-eq0-clause-goes : goal.returns-then-count-eq0-clause-goes
returns-then-count-eq0-clause-goes g c = grind (arith, common_steps)
