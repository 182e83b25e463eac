use Rattle.std.proofs.Common.{arith, ◌≡◌, ◌∙◌, Some, ap, slice_get, sym}
use Rattle.std.proofs.lemmas.Grind.{elements}
use Rattle.version_index.proofs.AtValues.{same_value}
use Rattle.version_index.proofs.touched.is_at.Goals as goal

-- values that are one are one
pub returns-in-Some : goal.returns-in-Some
returns-in-Some c tied =
    let there : slice_get c.args.values.now c.args.place ≡ Some c.in-Some.other.now = grind (arith, elements) in
    there ∙ ap Some (sym (same_value c.args.value.now c.in-Some.other.now (sym c.eq.ensures ∙ tied)))
