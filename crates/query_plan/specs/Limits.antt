-- The limit of an answer. It is this project's own.
use Rattle.std.specs.Prelude.{ℕ}

-- the most tuples that a query may select
abbrev pub most_tuples : ℕ
most_tuples = 1000000
