-- A query that the walk makes may be asked of its tables.
use Rattle.std.proofs.Common.{◌≡◌, ◌<◌, ◌+◌, ℕ, zero, suc, List, [], ◌∷◌, ◌++◌, map, length, Bool, true, false, cond, not, ◌||◌, nat_lt, All, Option, Some, None, Ok, Err, slice_get, refl, ap, subst, sym, ◌∙◌, arith}
use Rattle.std.specs.List.{list_all, list_any, position_from}
use Rattle.std.specs.Prelude.{IfOk, IsSome}
use Rattle.std.specs.Str.{bytes_eq}
use Rattle.std.proofs.lemmas.Bool.{and_from, lt-ltb}
use Rattle.std.proofs.lemmas.List.Elements.{All-cons, All-nil}
use Rattle.proc_parse.specs.declared.lexer.Position.{Position}
use Rattle.rel_base.specs.declared.schema.TableDef.{TableDef}
use Rattle.query_plan.proofs.Plainly.{none_aggregate}
use Rattle.query_plan.specs.Answer.{is_some_col}
use Rattle.query_plan.specs.Answer as plan
use Rattle.query_plan.specs.Fits.{IsSelectOver}
use Rattle.query_plan.specs.Ready.{is_ready, is_side_ready}
use Rattle.query_plan.specs.declared.fault.AskFault.{AskFault}
use Rattle.query_plan.specs.declared.select.Col.{Col}
use Rattle.query_plan.specs.declared.select.Comparison.{Comparison}
use Rattle.query_plan.specs.declared.select.Field.{Field}
use Rattle.query_plan.specs.declared.select.Item.{Item}
use Rattle.query_plan.specs.declared.select.Item.TheVariants as item
use Rattle.query_plan.specs.declared.select.Select.{Select}
use Rattle.query_plan.specs.declared.select.Side.{Side}
use Rattle.query_plan.specs.declared.select.Side.TheVariants as side
use Rattle.query_text.proofs.Trees.{IsTree, OneWhere}
use Rattle.query_text.specs.Walk.{Met, Scope, allowed, col_kind, each, is_named, known, same_kind, side_kind, side_place, table_of, twice, ◌>>=◌, walk, walk_col, walk_comparison, walk_field, walk_number, walk_rest, walk_selected, walk_side, walk_source, walk_sources, wrong}
use Rattle.query_text.specs.declared.tree.ColText.{ColText}
use Rattle.query_text.specs.declared.tree.ComparisonText.{ComparisonText}
use Rattle.query_text.specs.declared.tree.SelectText.{SelectText}
use Rattle.query_text.specs.declared.tree.SelectedText.{SelectedText}
use Rattle.query_text.specs.declared.tree.SelectedText.TheVariants as selected
use Rattle.query_text.specs.declared.tree.SideText.{SideText}
use Rattle.query_text.specs.declared.tree.SideText.TheVariants as side_text
use Rattle.query_text.specs.declared.tree.SourceText.{SourceText}

-- what was met by one part after another
record Both {A B : Type 0} (m : Met A) (f : A → Met B) (y : B) : Type 0 where
  first : A
  met : m ≡ Ok first
  then_met : f first ≡ Ok y

both : {A B : Type 0} → (m : Met A) (f : A → Met B) (y : B) → m >>= f ≡ Ok y → Both m f y
both (Ok x) f y e = record { first = x; met = refl; then_met = e }
both (Err fault) f y e = absurd cc

was_known : {A : Type 0} → (at : Position) (o : Option A) (x : A) → known at o ≡ Ok x → o ≡ Some x
was_known at None x e = absurd cc
was_known at (Some y) x e = cc

was_allowed : {A : Type 0} → (fault : AskFault) (may : Bool) (x y : A) → allowed fault may x ≡ Ok y → y ≡ x
was_allowed fault true x y e = cc
was_allowed fault false x y e = absurd cc

position_within : {X : Type 0} → (p : X → Bool) (n : ℕ) (xs : List X) (i : ℕ) → position_from p n xs ≡ Some i → i < n + length xs
position_within p n [] i e = absurd cc
position_within p n (x ∷ xs) i e =
    elim (p x) as (λ b. cond b (Some n) (position_from p (n + 1) xs) ≡ Some i → i < n + length (x ∷ xs)) [
      | true ↦ λ h. let same : n ≡ i = cc in omega (arith, same)
      | false ↦ λ h. let rest = position_within p (n + 1) xs i h in omega (arith, rest)
    ] e

some_within : {X : Type 0} → (xs : List X) (i : ℕ) → i < length xs → IsSome (slice_get xs i)
some_within [] i h = absurd (omega (arith, h))
some_within (x ∷ xs) zero h = refl
some_within (x ∷ xs) (suc i) h = some_within xs i (omega (arith, h))

-- ---- sources

source_declared : (tables : List TableDef) (earlier : List SourceText) (s : SourceText) (number : ℕ) → walk_source tables earlier s ≡ Ok number → IsSome (slice_get tables number)
source_declared tables earlier s number e =
    let b = both (known s.table.at (position_from (λ def. bytes_eq def.name s.table.name) 0 tables)) (λ table. allowed (twice s.name.at) (not (list_any (is_named s.name.name) earlier)) table) number e in
    let found = position_within (λ (def : TableDef). bytes_eq def.name s.table.name) 0 tables b.first (was_known s.table.at _ b.first b.met) in
    subst (λ n. IsSome (slice_get tables n)) (sym (was_allowed (twice s.name.at) _ b.first number b.then_met)) (some_within tables b.first (omega (arith, found)))

record AreDeclared (tables : List TableDef) (sources : List SourceText) (numbers : List ℕ) : Type 0 where
  declared : All (λ number. IsSome (slice_get tables number)) numbers
  many : length numbers ≡ length sources

sources_declared : (tables : List TableDef) (earlier sources : List SourceText) (numbers : List ℕ) → walk_sources tables earlier sources ≡ Ok numbers → AreDeclared tables sources numbers
sources_declared tables earlier [] numbers e =
    let none : numbers ≡ [] = cc in
    subst (AreDeclared tables []) (sym none) record { declared = All-nil (λ number. IsSome (slice_get tables number)); many = refl }
sources_declared tables earlier (s ∷ ss) numbers e =
    let b = both (walk_source tables earlier s) (λ number. walk_sources tables (earlier ++ s ∷ []) ss >>= λ numbers. Ok (number ∷ numbers)) numbers e in
    let c = both (walk_sources tables (earlier ++ s ∷ []) ss) (λ numbers. Ok (b.first ∷ numbers)) numbers b.then_met in
    let is : b.first ∷ c.first ≡ numbers = cc in
    let rest = sources_declared tables (earlier ++ s ∷ []) ss c.first c.met in
    subst (AreDeclared tables (s ∷ ss)) is record {
      declared = All-cons (λ number. IsSome (slice_get tables number)) b.first c.first (source_declared tables earlier s b.first b.met) rest.declared;
      many = ap suc rest.many;
    }

-- ---- comparisons

module _ (scope : Scope) where
  col_within : (text : ColText) (col : Col) → walk_col scope text ≡ Ok col → col.source < length scope.names
  col_within text col e =
      let b = both (known text.source.at (position_from (is_named text.source.name) 0 scope.names))
      (λ source. walk_field (table_of scope source) text.field >>= λ field. Ok (record { source = source; field = field })) col e in
      let c = both (walk_field (table_of scope b.first) text.field) (λ field. Ok (record { source = b.first; field = field })) col b.then_met in
      let is : record { source = b.first; field = c.first } ≡ col = cc in
      let found = position_within (is_named text.source.name) 0 scope.names b.first (was_known text.source.at _ b.first b.met) in
      omega (arith, found, ap (λ (c : Col). c.source) is)

  side_ready : (text : SideText) (s : Side) → walk_side scope text ≡ Ok s → is_side_ready (length scope.names) s ≡ true
  side_ready (side_text.Field text) s e =
      let b = both (walk_col scope text) (λ col. Ok (side.Field col)) s e in
      let is : side.Field b.first ≡ s = cc in
      subst (λ s. is_side_ready (length scope.names) s ≡ true) is (lt-ltb b.first.source (length scope.names) (col_within text b.first b.met))
  side_ready (side_text.Given v at) s e =
      let is : side.Given v ≡ s = cc in
      subst (λ s. is_side_ready (length scope.names) s ≡ true) is refl

  comparison_ready : (text : ComparisonText) (c : Comparison) → walk_comparison scope text ≡ Ok c → is_ready (length scope.names) c ≡ true
  comparison_ready text c e =
      let l = both (walk_col scope text.left) (λ left. walk_side scope text.right >>= λ right.
      allowed (wrong (side_place text.right)) (same_kind (col_kind scope left) (side_kind scope right)) (record { left = left; relation = text.relation; right = right })) c e in
      let r = both (walk_side scope text.right) (λ right.
      allowed (wrong (side_place text.right)) (same_kind (col_kind scope l.first) (side_kind scope right)) (record { left = l.first; relation = text.relation; right = right })) c l.then_met in
      subst (λ c. is_ready (length scope.names) c ≡ true) (sym (was_allowed (wrong (side_place text.right)) _ _ c r.then_met))
      (and_from (nat_lt l.first.source (length scope.names)) (is_side_ready (length scope.names) r.first)
      (lt-ltb l.first.source (length scope.names) (col_within text.left l.first l.met)) (side_ready text.right r.first r.met))

  all_ready : (texts : List ComparisonText) (cs : List Comparison) → each (walk_comparison scope) texts ≡ Ok cs → list_all (is_ready (length scope.names)) cs ≡ true
  all_ready [] cs e = let none : [] ≡ cs = cc in subst (λ cs. list_all (is_ready (length scope.names)) cs ≡ true) none refl
  all_ready (text ∷ texts) cs e =
      let b = both (walk_comparison scope text) (λ c. each (walk_comparison scope) texts >>= λ cs. Ok (c ∷ cs)) cs e in
      let r = both (each (walk_comparison scope) texts) (λ cs. Ok (b.first ∷ cs)) cs b.then_met in
      let is : b.first ∷ r.first ≡ cs = cc in
      subst (λ cs. list_all (is_ready (length scope.names)) cs ≡ true) is
      (and_from (is_ready (length scope.names) b.first) (list_all (is_ready (length scope.names)) r.first) (comparison_ready text b.first b.met) (all_ready texts r.first r.met))

  -- ---- groups and aggregates

  grouped_one : (s : SelectedText) (n : ℕ) (chosen : List Col × List Item) → OneWhere s n → walk_selected scope s ≡ Ok chosen → (is_some_col chosen.0 || list_any plan.is_aggregate chosen.1) ≡ true → n ≡ 1
  grouped_one (selected.Items groups items) n chosen one e h = one
  grouped_one (selected.Columns columns) n chosen one e h =
      let b = both (each (walk_col scope) columns) (λ columns. Ok ([], map item.Plain columns)) chosen e in
      let is : ([], map item.Plain b.first) ≡ chosen = cc in
      let plain : list_any plan.is_aggregate (map item.Plain b.first) ≡ true = subst (λ (c : List Col × List Item). (is_some_col c.0 || list_any plan.is_aggregate c.1) ≡ true) (sym is) h in
      absurd (let never : true ≡ false = sym plain ∙ none_aggregate b.first in cc)

-- ---- a query

pub walked_over : (tables : List TableDef) (text : SelectText) (select : Select) → IsTree text → walk tables text ≡ Ok select → IsSelectOver tables select
walked_over tables text select tree e =
    let n = both (walk_sources tables [] text.sources) (λ numbers. walk_rest (record { tables = tables; names = text.sources; numbers = numbers }) text) select e in
    let scope : Scope = record { tables = tables; names = text.sources; numbers = n.first } in
    let c = both (each (walk_comparison scope) text.comparisons) (λ comparisons. walk_selected scope text.selected >>= λ chosen. each (walk_number (length chosen.1)) text.order >>= λ order.
    Ok (record { sources = n.first; comparisons = comparisons; groups = chosen.0; items = chosen.1; order = order })) select n.then_met in
    let s = both (walk_selected scope text.selected) (λ chosen. each (walk_number (length chosen.1)) text.order >>= λ order.
    Ok (record { sources = n.first; comparisons = c.first; groups = chosen.0; items = chosen.1; order = order })) select c.then_met in
    let o = both (each (walk_number (length s.first.1)) text.order) (λ order.
    Ok (record { sources = n.first; comparisons = c.first; groups = s.first.0; items = s.first.1; order = order })) select s.then_met in
    let is : record { sources = n.first; comparisons = c.first; groups = s.first.0; items = s.first.1; order = o.first } ≡ select = cc in
    let are = sources_declared tables [] text.sources n.first n.met in
    subst (IsSelectOver tables) is record {
      declared = are.declared;
      few = omega (arith, are.many, tree.few);
      ready = ap (λ m. list_all (is_ready m) c.first) are.many ∙ all_ready scope text.comparisons c.first c.met;
      one = λ grouped. are.many ∙ grouped_one scope text.selected (length text.sources) s.first tree.one s.met grouped;
    }

pub over_if : (tables : List TableDef) (text : SelectText) (result : Met Select) → IsTree text → plan.Answers result (walk tables text) → IfOk result (IsSelectOver tables)
over_if tables text (Ok select) tree e = walked_over tables text select tree e
over_if tables text (Err fault) tree e = tt
