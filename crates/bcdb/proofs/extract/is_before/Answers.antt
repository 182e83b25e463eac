use Rattle.std.proofs.Common.{ap, sym, ◌∙◌}
use Rattle.std.specs.Option.{option_map}
use Rattle.bcdb.proofs.HistoryParts.{from_high, from_low, from_none}
use Rattle.bcdb.proofs.extract.is_before.Goals as goal
use Rattle.row_sets.specs.Versions.{write_of}

pub returns-in-None-clause-other : goal.returns-in-None-clause-other
returns-in-None-clause-other g c = λ other.
    from_none c.args.number c.args.at (g.V.Versions.history c.args.versions.now) (sym c.write_at.ensures ∙ ap (option_map write_of) c.in-None.is)

pub returns-in-Some-clause-before : goal.returns-in-Some-clause-before
returns-in-Some-clause-before g c = λ low.
    from_low c.args.number c.args.at (g.V.Versions.history c.args.versions.now) (write_of c.in-Some.write) (sym c.write_at.ensures ∙ ap (option_map write_of) c.in-Some.is) low

pub returns-in-Some-clause-other : goal.returns-in-Some-clause-other
returns-in-Some-clause-other g c = λ high.
    from_high c.args.number c.args.at (g.V.Versions.history c.args.versions.now) (write_of c.in-Some.write) (sym c.write_at.ensures ∙ ap (option_map write_of) c.in-Some.is) high
