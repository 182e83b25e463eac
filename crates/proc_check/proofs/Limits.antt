-- A walk that met no fault passed no limit.
use Rattle.std.proofs.Common.{◌≡◌, ℕ, ◌+◌, ◌^◌, ◌<◌, ◌≤◌, refl, List, [], ◌∷◌, ◌++◌, length, length-append, Bool, true, false, Result, Ok, Err, arith, All}
use Rattle.std.specs.List.{AllByRecursion}
use Rattle.std.proofs.lemmas.Bool.{leb-false}
use Rattle.std.proofs.lemmas.List.Elements.{All-from_recursion}
use Rattle.proc_syntax.specs.declared.tree.Named.{Named}
use Rattle.proc_syntax.specs.declared.tree.TableText.{TableText}
use Rattle.proc_check.specs.declared.fault.Bad.{Bad}
use Rattle.proc_check.specs.declared.fault.BadKind.{BadKind}
use Rattle.proc_check.specs.declared.fault.BadKind.TheVariants.{Limit, NameTwice}
use Rattle.proc_check.specs.Walk.{◌>>=◌, refuse, in_order, fresh, has_name}
use Rattle.proc_check.specs.Tables.{walk_table}

pub first : (step : Result (Unit {0}) Bad) (go : Unit {0} → Result (Unit {0}) Bad) → (step >>= go) ≡ Ok tt → step ≡ Ok tt
first (Ok walked) go ok = refl
first (Err bad) go ok = cc

pub second : (step : Result (Unit {0}) Bad) (go : Unit {0} → Result (Unit {0}) Bad) → (step >>= go) ≡ Ok tt → go tt ≡ Ok tt
second (Ok walked) go ok = ok
second (Err bad) go ok = cc

pub not_refused : (test : Bool) (line : ℕ) (kind : BadKind) → refuse test line kind ≡ Ok tt → test ≡ false
not_refused true line kind ok = cc
not_refused false line kind ok = refl

-- no more items than there may be
within : {A : Type 0} (named : A → Named) (most : ℕ) (before items : List A) → in_order (fresh named most) before items ≡ Ok tt → length before ≤ most → length before + length items ≤ most
within named most before [] ok le = omega (arith, le)
within named most before (item ∷ items) ok le =
    let is_fresh : fresh named most before item ≡ Ok tt = first (fresh named most before item) (λ _. in_order (fresh named most) (before ++ item ∷ []) items) ok in
    let few : length before < most = leb-false most (length before) (not_refused _ (named item).line Limit (first _ (λ _. refuse (has_name named before (named item).name) (named item).line NameTwice) is_fresh)) in
    let one_more : length (before ++ item ∷ []) ≡ length before + 1 = length-append before (item ∷ []) in
    let rest : length (before ++ item ∷ []) + length items ≤ most = within named most (before ++ item ∷ []) items (second (fresh named most before item) (λ _. in_order (fresh named most) (before ++ item ∷ []) items) ok) (omega (arith, few, one_more)) in
    omega (arith, rest, one_more)

numbered : (count : ℕ) → length {A = ℕ} [] + count ≤ 32 → count < 2 ^ 32
numbered count le = omega (arith, le)

-- the tables have no more columns than they may, so that these can be numbered
columns_within : (before tables : List TableText) → in_order walk_table before tables ≡ Ok tt → AllByRecursion (λ table. length table.columns < 2 ^ 32) tables
columns_within before [] ok = tt
columns_within before (table ∷ tables) ok =
    let fine : walk_table before table ≡ Ok tt = first (walk_table before table) (λ _. in_order walk_table (before ++ table ∷ []) tables) ok in
    let fresh_columns = first (in_order (fresh (λ column. column.name) 32) [] table.columns) _ (second (fresh (λ other. other.name) 64 before table) _ fine) in (
      numbered (length table.columns) (within (λ column. column.name) 32 [] table.columns fresh_columns (omega arith)),
      columns_within (before ++ table ∷ []) tables (second (walk_table before table) (λ _. in_order walk_table (before ++ table ∷ []) tables) ok),
    )

pub tables_within : (tables : List TableText) → in_order walk_table [] tables ≡ Ok tt → All (λ table. length table.columns < 2 ^ 32) tables
tables_within tables ok = All-from_recursion (λ table. length table.columns < 2 ^ 32) tables (columns_within [] tables ok)
