-- Readings that are made of others.
use Rattle.canon_code.specs.Parts.{◌>>=◌}
use Rattle.std.specs.Prelude.{Bool, List, None, Option, Some, cond, ℕ}

-- a way to read a thing at the start of some bytes: the thing, and the bytes after it
abbrev pub Reading : Type 0 → Type 0
Reading A = List ℕ → Option (A × List ℕ)

-- one thing after another, where the first may say how the second is read
abbrev pub then_by : {A B : Type 0} → Reading A → (A → Reading B) → Reading (A × B)
then_by first second bytes = do
  a ← first bytes
  b ← second a.0 a.1
  Some ((a.0, b.0), b.1)

-- one thing after another
abbrev pub then_at : {A B : Type 0} → Reading A → Reading B → Reading (A × B)
then_at first second = then_by first (λ a. second)

-- a thing that is made of what is read
abbrev pub made_at : {A B : Type 0} → (A → B) → Reading A → Reading B
made_at make reading bytes = do
  a ← reading bytes
  Some (make a.0, a.1)

-- a thing that passes a test
abbrev pub tested_at : {A : Type 0} → (A → Bool) → Reading A → Reading A
tested_at test reading bytes = do
  a ← reading bytes
  cond (test a.0) (Some a) None
