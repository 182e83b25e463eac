use Rattle.std.proofs.Common.{◌≡◌, ◌∙◌, Option, Some, None, ap, slice_get, sym}
use Rattle.std.proofs.lemmas.Option.{slice_get_within}
use Rattle.std.specs.Option.{option_copied, unwrap_or}
use Rattle.query_plan.proofs.Nexts.{next_none, next_put, next_same}
use Rattle.query_plan.specs.Tallies.{next_tally}
use Rattle.query_plan.specs.declared.tally.Tally.{Tally}
use Rattle.query_plan.proofs.tally.next_at.Goals as goal

pub returns-in_default : goal.returns-in_default
returns-in_default c =
    let none : slice_get c.args.tallies.now c.args.at ≡ None = sym c.get.ensures ∙ ap option_copied c.in_default.is in
    next_none c.args.tuple.now c.args.item c.args.at c.args.tallies.now none

pub replace-requires : goal.replace-requires
replace-requires c =
    let found : slice_get c.args.tallies.now c.args.at ≡ Some c.in-Some.tally.now = sym c.get.ensures ∙ ap option_copied c.in-Some.is in
    slice_get_within c.args.tallies.now c.args.at c.in-Some.tally.now found

pub returns-in-Some-2 : goal.returns-in-Some-2
returns-in-Some-2 c =
    let found : slice_get c.args.tallies.now c.args.at ≡ Some c.in-Some.tally.now = sym c.get.ensures ∙ ap option_copied c.in-Some.is in
    let is : c.in-Some-2.next ≡ next_tally c.args.tuple.now c.in-Some.tally.now c.args.item = ap (λ (next : Option Tally). unwrap_or next c.in-Some.tally.now) (sym c.in-Some-2.is) ∙ c.in_ok-next.ensures in
    c.replace.ensures.now ∙ next_put c.args.tuple.now c.args.item c.args.at c.args.tallies.now c.in-Some.tally.now c.in-Some-2.next found is

pub returns-in_default-2 : goal.returns-in_default-2
returns-in_default-2 c =
    let found : slice_get c.args.tallies.now c.args.at ≡ Some c.in-Some.tally.now = sym c.get.ensures ∙ ap option_copied c.in-Some.is in
    let is : c.in-Some.tally.now ≡ next_tally c.args.tuple.now c.in-Some.tally.now c.args.item = ap (λ (next : Option Tally). unwrap_or next c.in-Some.tally.now) (sym c.in_default-2.is) ∙ c.in_ok-next.ensures in
    next_same c.args.tuple.now c.args.item c.args.at c.args.tallies.now c.in-Some.tally.now found is
