-- What is read and checked is accepted.
use Rattle.std.proofs.Common.{Bool, List, None, Some, ap, arith, cond, false, length, refl, true, ◌∙◌, ◌≡◌, ◌≤◌, ℕ}
use Rattle.std.specs.Prelude.{Err, Ok, Result, nat_le}
use Rattle.bcdb.specs.Accepted.{accepted, sound, too_long, typed}
use Rattle.bcdb.specs.declared.refusal.Refusal.{Refusal}
use Rattle.proc_check.specs.Apps.{first_fault}
use Rattle.proc_parse.specs.Grammar.{app_of, application, tree_of}
use Rattle.proc_parse.specs.Reading.{Read}
use Rattle.proc_parse.specs.Tokens.{tokens_of}
use Rattle.proc_syntax.specs.declared.tree.App.{App}

within : (b : Bool) (found : Result App Refusal) → b ≡ true → cond b found (Err too_long) ≡ found
within true found is = refl
within false found is = absurd (not_both is)
  where
    not_both : false ≡ true → ⊥
    not_both is = cc

short : (most count : ℕ) → count ≤ most → nat_le count most ≡ true
short most count le = grind (arith, le)

one_tree : (a b : App) → Some a ≡ Some b → a ≡ b
one_tree a b is = cc

no_tree : (app : App) → None ≡ Some app → ⊥
no_tree app is = cc

read_is : (read : Read App) (app : App) → tree_of read ≡ Some app → typed read ≡ sound app (first_fault app)
read_is (Ok x) app is = ap (λ a. sound a (first_fault a)) (one_tree x.0 app is)
read_is (Err rest) app is = absurd (no_tree app is)

-- what is in the grammar is accepted by the check
pub checked_is : (bytes : List ℕ) (app : App) → length bytes ≤ 1048576 → app_of bytes ≡ Some app → accepted bytes ≡ sound app (first_fault app)
checked_is bytes app few is = within _ _ (short 1048576 (length bytes) few) ∙ read_is (application (tokens_of bytes)) app is
