-- What the functions on operators answer, without where it lies.
use Rattle.std.specs.Prelude.{List, Option, Some, None}
use denote.Bor.{Bor}
use Rattle.proc_syntax.specs.declared.tree.Op.{Op}
use Rattle.proc_parse.specs.declared.token.Token.{Token}

-- an operator and the tokens after it
abbrev pub found_op : Option (Op × Bor (List Token)) → Option (Op × List Token)
found_op None = None
found_op (Some found) = Some (found.0, found.1.now)
