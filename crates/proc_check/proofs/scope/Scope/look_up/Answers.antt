use Rattle.std.proofs.Common.{ap, length, refl, rules, sym, ◌∙◌}
use Rattle.std.proofs.lemmas.Option.{slice_get_read}
use Rattle.proc_check.specs.Scope.{look_up}
use Rattle.proc_check.proofs.Places.{found_at, found_sort, not_found}
use Rattle.proc_check.proofs.scope.Scope.look_up.Goals as goal

pub index-requires : goal.index-requires
index-requires c = let within = (found_at c.self.inside.places c.self.inside.variables.items c.args.name.now c.in-Some.place c.self.invariant (sym c.in-Some.ensures)).0 in search (rules, within)

pub returns-in-None : goal.returns-in-None
returns-in-None c =
    sym (not_found c.self.inside.places c.self.inside.variables.items c.args.name.now c.self.invariant (sym c.in-None.ensures)) ∙ ap (λ variables. look_up variables c.args.name.now) c.self.view_is

-- the variable at the place is the first of the name
pub returns-in-Some : goal.returns-in-Some
returns-in-Some c =
    let variables = c.self.inside.variables.items in
    let within = (found_at c.self.inside.places variables c.args.name.now c.in-Some.place c.self.invariant (sym c.in-Some.ensures)).0 in
    let there = slice_get_read variables (length variables) c.in-Some.place c.index.result.now refl within c.index.ensures in
    found_sort c.self.inside.places variables c.args.name.now c.in-Some.place c.index.result.now c.self.invariant (sym c.in-Some.ensures) there
    ∙ ap (λ variables. look_up variables c.args.name.now) c.self.view_is
