use Rattle.std.proofs.Common.{Err, List, rules, subst, take, ◌++◌, ◌<◌, ◌≡◌, ℕ}
use Rattle.bcdb.proofs.Scheduling.{goes_on, stops, within}
use Rattle.bcdb.proofs.schedule.read_piece.Goals as goal
use Rattle.schedule_sim.specs.Reading.{GivesReader, WasFed}
use Rattle.schedule_sim.specs.Schedules.{schedule_so_far}
use Rattle.schedule_sim.specs.declared.parse.ScheduleFault.{ScheduleFault}

pub returns-in-Ok-feed-clause-goes : goal.returns-in-Ok-feed-clause-goes
returns-in-Ok-feed-clause-goes g c =
    let told = g.S.Shelf.told c.args.shelf.now in
    let read = c.requires.read in
    let both : List ℕ = read.bytes ++ take c.in-Ok.count c.read_at.new.buf in
    let some : 0 < c.in-Ok.count = search rules in
    let fed : WasFed c.in-Ok-feed.reader both = c.in-Ok-feed.ensures read.bytes read.fed in (
      some,
      within told c.args.name.now c.read_at.new.buf c.args.at c.in-Ok.count c.args.reader read c.in-Ok.ensures.bound c.in-Ok.ensures.bytes c.requires.bounded c.in-Ok-feed.reader fed,
      goes_on told c.args.name.now c.read_at.new.buf c.args.at c.in-Ok.count c.args.reader read c.in-Ok.ensures.bound c.in-Ok.ensures.bytes c.in-Ok-feed.reader fed,
    )

pub returns-in-Err-BadLine-clause-goes : goal.returns-in-Err-BadLine-clause-goes
returns-in-Err-BadLine-clause-goes g c =
    let told = g.S.Shelf.told c.args.shelf.now in
    let read = c.requires.read in
    let both : List ℕ = read.bytes ++ take c.in-Ok.count c.read_at.new.buf in
    let bad : schedule_so_far both ≡ Err c.in-Err-BadLine.line =
    subst (λ (found : ScheduleFault). GivesReader (Err found) (schedule_so_far both)) c.in-Err-BadLine.field-0-is (c.in-Err-BadLine.ensures read.bytes read.fed) in
    (stops told c.args.name.now c.read_at.new.buf c.args.at c.in-Ok.count c.args.reader read c.in-Ok.ensures.bound c.in-Ok.ensures.bytes c.requires.lasting c.in-Err-BadLine.line bad, tt)
