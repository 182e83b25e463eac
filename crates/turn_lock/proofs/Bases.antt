-- The base of a pass that was not joined.
use Rattle.std.proofs.Common.{◌≡◌, Option, Some, None, sym, refl, ◌∙◌, true≢false}
use Rattle.std.specs.Prelude.{IsSome}
use Rattle.turn_lock.specs.Passes.{the_base}

pub some_base : {Base : Type 0} (o : Option Base) (is : IsSome o) → o ≡ Some (the_base o is)
some_base (Some base) is = refl
some_base None is = absurd (true≢false (sym is))

pub base_some : {Base : Type 0} (o : Option Base) (is : IsSome o) (base : Base) → o ≡ Some base → base ≡ the_base o is
base_some (Some other) is base e = cc (e)
base_some None is base e = absurd (true≢false (sym is))

pub same_base : {Base : Type 0} (o o' : Option Base) (is : IsSome o) (is' : IsSome o') → o ≡ o' → the_base o is ≡ the_base o' is'
same_base o o' is is' e = base_some o' is' (the_base o is) (sym e ∙ some_base o is)
