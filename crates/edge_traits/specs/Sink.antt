-- What a sink tells after it took some bytes.
use Rattle.std.specs.Prelude.{ℕ, ◌≡◌, List, ◌++◌, take, Option, Some, None}

-- What a sink tells after a piece: the piece stands at the end of what it reported before. A sink that tells nothing goes on so.
abbrev pub appended : Option (List ℕ) → List ℕ → Option (List ℕ)
appended None piece = None
appended (Some written) piece = Some (written ++ piece)

-- A prefix of the bytes was written, maybe none or all of them, and nothing else.
pub record WroteFront (before now : Option (List ℕ)) (bytes : List ℕ) : Type 0 where
  pub count : ℕ
  pub written : now ≡ appended before (take count bytes)
