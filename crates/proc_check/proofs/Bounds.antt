-- An application in which the walk meets no fault has few tables, and these have few columns.
use Rattle.std.proofs.Common.{All, Bool, List, None, Option, Some, [], arith, false, length, map, refl, true, ◌++◌, ◌+◌, ◌<◌, ◌≡◌, ◌≤◌, ◌∷◌, ℕ, ◌^◌}
use Rattle.std.proofs.lemmas.List.Elements.{All-cons, All-nil}
use Rattle.std.proofs.lemmas.List.{length-append, length-map}
use Rattle.std.specs.List.{cons_option}
use Rattle.std.specs.Prelude.{Err, Ok, Result, nat_le}
use Rattle.proc_check.specs.Apps.{walk_app}
use Rattle.proc_check.specs.Sizes.{IsSmall}
use Rattle.proc_check.specs.Tables.{listed, walk_table}
use Rattle.proc_check.specs.Walk.{fresh, in_order, refuse, ◌>>=◌}
use Rattle.proc_check.specs.declared.fault.Bad.{Bad}
use Rattle.proc_check.specs.declared.fault.BadKind.TheVariants.{Limit}
use Rattle.proc_syntax.specs.Declaring.{column_number, column_of, declare, known_columns, tables_of}
use Rattle.proc_syntax.specs.declared.tree.App.{App}
use Rattle.proc_syntax.specs.declared.tree.ColumnText.{ColumnText}
use Rattle.proc_syntax.specs.declared.tree.Named.{Named}
use Rattle.proc_syntax.specs.declared.tree.TableText.{TableText}

-- what a walk went through before
first_ok : {A B : Type 0} (step : Result A Bad) (go : A → Result B Bad) (end : B) → (step >>= go) ≡ Ok end → (a : A) × (step ≡ Ok a)
first_ok (Ok a) go end is = (a, refl)
first_ok (Err bad) go end is = cc

-- and what it went through then
then_ok : {A B : Type 0} (step : Result A Bad) (go : A → Result B Bad) (end : B) → (step >>= go) ≡ Ok end → (a : A) × (go a ≡ Ok end)
then_ok (Ok a) go end is = (a, is)
then_ok (Err bad) go end is = cc

not_refused : (b : Bool) (line : ℕ) (end : Unit {0}) → refuse b line Limit ≡ Ok end → b ≡ false
not_refused true line end is = cc
not_refused false line end is = refl

below_most : (most count : ℕ) → nat_le most count ≡ false → count < most
below_most most count is = grind (arith, is)

-- where each step of a walk asks that fewer than so many stand before it, so many are walked at most
few_from : {A : Type 0} (check : List A → A → Result (Unit {0}) Bad) (most : ℕ) → ((before : List A) (item : A) (end : Unit {0}) → check before item ≡ Ok end → length before < most)
    → (before items : List A) (end : Unit {0}) → length before ≤ most → in_order check before items ≡ Ok end → length before + length items ≤ most
few_from check most asks before [] end le is = omega (arith, le)
few_from check most asks before (item ∷ items) end le is =
    let first = first_ok (check before item) _ end is in
    let room : length before < most = asks before item first.0 first.1 in
    let longer : length (before ++ item ∷ []) ≡ length before + 1 = length-append before (item ∷ []) in
    let rest = few_from check most asks (before ++ item ∷ []) items end (omega (arith, longer, room)) (then_ok (check before item) _ end is).1 in
    omega (arith, rest, longer)

-- a declaration asks for it
room_for : {A : Type 0} (named : A → Named) (most : ℕ) (before : List A) (item : A) (end : Unit {0}) → fresh named most before item ≡ Ok end → length before < most
room_for named most before item end is =
    let refused = first_ok (refuse (nat_le most (length before)) (named item).line Limit) _ end is in
    below_most most (length before) (not_refused (nat_le most (length before)) (named item).line refused.0 refused.1)

-- and so do a table and a name in a key
room_for_table : (before : List TableText) (table : TableText) (end : Unit {0}) → walk_table before table ≡ Ok end → length before < 64
room_for_table before table end is =
    let named = first_ok (fresh (λ (other : TableText). other.name) 64 before table) _ end is in
    room_for (λ (other : TableText). other.name) 64 before table named.0 named.1

room_in_key : (columns : List ColumnText) (before : List Named) (name : Named) (end : Unit {0}) → listed columns before name ≡ Ok end → length before < 8
room_in_key columns before name end is =
    let refused = first_ok (refuse (nat_le 8 (length before)) name.line Limit) _ end is in
    below_most 8 (length before) (not_refused (nat_le 8 (length before)) name.line refused.0 refused.1)

pub few_tables : (app : App) → walk_app app ≡ Ok tt → length (tables_of app) ≤ 64
few_tables app is =
    let first = first_ok (in_order walk_table [] app.tables) _ tt is in
    let few = few_from walk_table 64 room_for_table [] app.tables first.0 (omega arith) first.1 in
    omega (arith, few, length-map app.tables declare)

pub few_enough : (app : App) → walk_app app ≡ Ok tt → length (tables_of app) < 2 ^ 32
few_enough app is = omega (arith, few_tables app is)

-- ---- each table

with_one : (found : Option ℕ) (numbers : List ℕ) → length (cons_option found numbers) ≤ length numbers + 1
with_one None numbers = omega arith
with_one (Some number) numbers = omega arith

known_few : (columns : List ColumnText) (names : List Named) → length (known_columns columns names) ≤ length names
known_few columns [] = omega arith
known_few columns (named ∷ rest) =
    let one = with_one (column_number columns named.name) (known_columns columns rest) in
    let others = known_few columns rest in
    omega (arith, one, others)

small_table : (before : List TableText) (table : TableText) (end : Unit {0}) → walk_table before table ≡ Ok end → IsSmall (declare table)
small_table before table end is =
    let named = then_ok (fresh (λ (other : TableText). other.name) 64 before table) _ end is in
    let columns = first_ok (in_order (fresh (λ (column : ColumnText). column.name) 32) [] table.columns) _ end named.1 in
    let rest = then_ok (in_order (fresh (λ (column : ColumnText). column.name) 32) [] table.columns) _ end named.1 in
    let key = first_ok (in_order (listed table.columns) [] table.key) _ end rest.1 in
    let few_columns = few_from (fresh (λ (column : ColumnText). column.name) 32) 32 (room_for (λ (column : ColumnText). column.name) 32) [] table.columns columns.0 (omega arith) columns.1 in
    let few_key = few_from (listed table.columns) 8 (room_in_key table.columns) [] table.key key.0 (omega arith) key.1 in
    let known = known_few table.columns table.key in
    record {
      columns = omega (arith, few_columns, length-map table.columns column_of);
      key = omega (arith, known, few_key);
    }

small_from : (before tables : List TableText) (end : Unit {0}) → in_order walk_table before tables ≡ Ok end → All IsSmall (map declare tables)
small_from before [] end is = All-nil IsSmall
small_from before (table ∷ tables) end is =
    let first = first_ok (walk_table before table) _ end is in
    All-cons IsSmall (declare table) (map declare tables) (small_table before table first.0 first.1) (small_from (before ++ table ∷ []) tables end (then_ok (walk_table before table) _ end is).1)

pub small_tables : (app : App) → walk_app app ≡ Ok tt → All IsSmall (tables_of app)
small_tables app is =
    let first = first_ok (in_order walk_table [] app.tables) _ tt is in
    small_from [] app.tables first.0 first.1
