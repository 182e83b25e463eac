-- The application of a load as a tree, with the lines of its names.
use Rattle.std.proofs.Common.{List, [], ◌∷◌, ℕ}
use Rattle.std.specs.Prelude.{codes, ◌+◌}
use Rattle.load_gen.proofs.Checking.{Assign, Delete, End, Fail, Field, For, Forms, Get, If, IfElse, Insert, Let, Number, Procedure, Term, Two, Update, Var}
use Rattle.proc_syntax.specs.declared.tree.ColumnText.{ColumnText}
use Rattle.proc_syntax.specs.declared.tree.Named.{Named}
use Rattle.proc_syntax.specs.declared.tree.Op.TheVariants as op
use Rattle.proc_syntax.specs.declared.tree.TableText.{TableText}
use Rattle.rel_base.specs.declared.value.Kind.{Kind}
use Rattle.rel_base.specs.declared.value.Kind.TheVariants as kind

abbrev at : List ℕ → ℕ → Named
at name line = record { name = name; line = line }

abbrev column : List ℕ → Kind → ℕ → ColumnText
column name kind line = record { name = at name line; kind = kind }

abbrev int : List ℕ → ℕ → ColumnText
int name line = column name kind.Int line

abbrev text : List ℕ → ℕ → ColumnText
text name line = column name kind.Text line

abbrev var : List ℕ → ℕ → Term
var name line = Var (at name line)

abbrev field : List ℕ → List ℕ → ℕ → Term
field row name line = Field (at row line) (at name line)

abbrev acct : ℕ → Named
acct line = at (codes "acct") line

abbrev id : ℕ → Named
id line = at (codes "id") line

abbrev update : Term → Term → ℕ → Forms → Forms
update key term line rest = Update (acct line) key (at (codes "bal") line) term rest

abbrev get : List ℕ → Term → ℕ → Forms → Forms → Forms → Forms
get name key line found absent rest = Get (at name line) (acct line) key found absent rest

-- a walk over the accounts from 1 to a parameter
abbrev up_to : List ℕ → List ℕ → ℕ → Forms → Forms
up_to name last line body = For (at name line) (acct line) (id line) (Number 1 line) (var last line) body End

abbrev pub tables : List TableText
tables = record {
  name = acct 1;
  columns = int (codes "id") 1 ∷ text (codes "owner") 1 ∷ int (codes "bal") 1 ∷ [];
  key = id 1 ∷ [];
  index = at (codes "owner") 1 ∷ [];
} ∷ []

abbrev add : Procedure
add = record {
  name = at (codes "add") 2;
  params = int (codes "i") 2 ∷ text (codes "o") 2 ∷ int (codes "b") 2 ∷ [];
  forms = Insert (acct 2) (var (codes "i") 2 ∷ var (codes "o") 2 ∷ var (codes "b") 2 ∷ []) End;
}

abbrev remove : Procedure
remove = record {
  name = at (codes "remove") 3;
  params = int (codes "i") 3 ∷ [];
  forms = Delete (acct 3) (var (codes "i") 3) End;
}

abbrev pay : Procedure
pay = record {
  name = at (codes "pay") 4;
  params = int (codes "f") 4 ∷ int (codes "t") 4 ∷ int (codes "n") 4 ∷ [];
  forms = get (codes "a") (var (codes "f") 5) 5
      (get (codes "b") (var (codes "t") 6) 6
      (If (Two op.Lt (field (codes "a") (codes "bal") 7) (var (codes "n") 7)) (Fail (codes "funds") End)
      (update (var (codes "f") 8) (Two op.Sub (field (codes "a") (codes "bal") 8) (var (codes "n") 8)) 8
      (update (var (codes "t") 9) (Two op.Add (field (codes "b") (codes "bal") 9) (var (codes "n") 9)) 9 End)))
      (Fail (codes "no payee") End) End)
      (Fail (codes "no payer") End) End;
}

abbrev sweep : Procedure
sweep = record {
  name = at (codes "sweep") 13;
  params = text (codes "o") 13 ∷ int (codes "t") 13 ∷ [];
  forms = Let (at (codes "sum") 14) (Number 0 14)
      (For (at (codes "r") 15) (acct 15) (at (codes "owner") 15) (var (codes "o") 15) (var (codes "o") 15)
      (Assign (at (codes "sum") 15) (Two op.Add (var (codes "sum") 15) (field (codes "r") (codes "bal") 15)) End)
      (update (var (codes "t") 16) (var (codes "sum") 16) 16 End));
}

abbrev both : Procedure
both = record {
  name = at (codes "both") 18;
  params = int (codes "a") 18 ∷ int (codes "b") 18 ∷ int (codes "n") 18 ∷ [];
  forms = get (codes "v") (var (codes "a") 19) 19
      (get (codes "w") (var (codes "b") 20) 20
      (IfElse (Two op.Ge (Two op.Add (field (codes "v") (codes "bal") 21) (field (codes "w") (codes "bal") 21)) (var (codes "n") 21))
      (update (var (codes "a") 21) (Two op.Sub (field (codes "v") (codes "bal") 21) (var (codes "n") 21)) 21 End)
      (Fail (codes "low") End) End)
      (Fail (codes "no second") End) End)
      (Fail (codes "no first") End) End;
}

abbrev trio : Procedure
trio = record {
  name = at (codes "trio") 26;
  params = int (codes "a") 26 ∷ int (codes "b") 26 ∷ int (codes "c") 26 ∷ [];
  forms = get (codes "u") (var (codes "a") 27) 27 End End (get (codes "v") (var (codes "b") 28) 28 End End (get (codes "w") (var (codes "c") 29) 29 End End End));
}

-- four walks, one within the other
abbrev walks_from : ℕ → Forms
walks_from line = up_to (codes "p") (codes "a") (line + 1) (up_to (codes "q") (codes "b") (line + 2) (up_to (codes "r") (codes "c") (line + 3) (up_to (codes "s") (codes "d") (line + 4) End)))

abbrev four : ℕ → List ColumnText
four line = int (codes "a") line ∷ int (codes "b") line ∷ int (codes "c") line ∷ int (codes "d") line ∷ []

abbrev spin : Procedure
spin = record { name = at (codes "spin") 31; params = four 31; forms = walks_from 31 }

abbrev spinmore : Procedure
spinmore = record {
  name = at (codes "spinmore") 40;
  params = four 40;
  forms = For (at (codes "p") 41) (acct 41) (id 41) (Number 1 41) (var (codes "a") 41)
      (up_to (codes "q") (codes "b") 42 (up_to (codes "r") (codes "c") 43 (up_to (codes "s") (codes "d") 44 End)))
      (Let (at (codes "last") 48) (Number 0 48) End);
}

abbrev pub procedures : List Procedure
procedures = add ∷ remove ∷ pay ∷ sweep ∷ both ∷ trio ∷ spin ∷ spinmore ∷ []
