-- What the bytes of a file are read as is what the file is.
use Rattle.std.proofs.Common.{Bool, IfSome, List, None, Option, Some, arith, cond, false, length, refl, subst, true, ◌<◌, ◌≡◌, ℕ}
use Rattle.std.specs.Prelude.{Err, Result, nat_le}
use Rattle.bcdb.specs.Accepted.{accepted, too_long, typed}
use Rattle.bcdb.specs.Taking.{GivesApp}
use Rattle.edge_traits.specs.Shelf.{Files}
use Rattle.bcdb.specs.declared.refusal.Refusal.{Refusal}
use Rattle.proc_check.specs.declared.checked.Checked.{Checked}
use Rattle.proc_parse.specs.Grammar.{application}
use Rattle.proc_parse.specs.Tokens.{tokens_of}
use Rattle.proc_syntax.specs.declared.tree.App.{App}

refused : (b : Bool) (found : Result App Refusal) → b ≡ false → cond b found (Err too_long) ≡ Err too_long
refused true found is = absurd (not_both is)
  where
    not_both : true ≡ false → ⊥
    not_both is = cc
refused false found is = refl

not_short : (most count : ℕ) → most < count → nat_le count most ≡ false
not_short most count lt = grind (arith, lt)

-- a text above the limit is no application
pub too_long_told : (told : Option Files) (name : List ℕ) → IfSome told (λ files. 1048576 < length (files name)) → IfSome told (λ files. accepted (files name) ≡ Err too_long)
too_long_told None name long = tt
too_long_told (Some files) name long = refused (nat_le (length (files name)) 1048576) (typed (application (tokens_of (files name)))) (not_short 1048576 (length (files name)) long)

-- what the bytes of a file are read as is what the file is
pub given_told : (told : Option Files) (name bytes : List ℕ) (read : Result Checked Refusal) → IfSome told (λ files. bytes ≡ files name) → GivesApp read (accepted bytes)
    → IfSome told (λ files. GivesApp read (accepted (files name)))
given_told None name bytes read same gives = tt
given_told (Some files) name bytes read same gives = subst (λ found. GivesApp read (accepted found)) same gives
