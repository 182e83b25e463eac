use Rattle.std.proofs.Common.{◌≡◌, ◌++◌, List, true, ℕ}
use Rattle.rel_base.specs.declared.value.Value.{Value}
use Rattle.version_index.specs.Hashing.{may_be_in}
use Rattle.version_index.proofs.PutIn.{AreAllOf}
use Rattle.version_index.proofs.guesses.Guesses.put_all.Given as goal

-- the keys before those that are left were put in, and what was in stays in
abbrev pub invariant-loop-key : goal.invariant-loop-key
invariant-loop-key l =
    (done : List (List Value × ℕ)) × (done ++ l.key-iterator ≡ l.initial.key-iterator) × AreAllOf done l.self.marks.items
    × ((h : ℕ) → may_be_in l.fn.self.marks.items h ≡ true → may_be_in l.self.marks.items h ≡ true)
