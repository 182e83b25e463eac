-- The answers to reads are those of the definitions.
use Rattle.std.proofs.Common.{◌≡◌, ◌∙◌, ℕ, List, ◌∷◌, ◌++◌, ◌&&◌, option_to_list, true, Option, Some, None, refl, ap, append_assoc, sym, subst, slice_get, slice_index_or, nat_lt, nat_le}
use Rattle.std.specs.Borrow.{Bor}
use Rattle.std.specs.List.Sorted.{IsStrictlySortedBy}
use Rattle.std.specs.FinMap.{get}
use Rattle.std.specs.Option.{IsSomeAnd, option_map}
use Rattle.rel_base.specs.declared.access.Read.{Read}
use Rattle.rel_base.specs.declared.access.Read.TheVariants.{Point, Span}
use Rattle.rel_base.specs.declared.access.Seen.{Seen}
use Rattle.rel_base.specs.declared.schema.TableDef.{TableDef}
use Rattle.rel_base.specs.declared.value.Value.{Value}
use Rattle.rel_base.specs.Access.{ReadFits, covers_some, hits_write, read_table}
use Rattle.rel_base.specs.Among.{rows_by, rows_in}
use Rattle.rel_base.specs.Late.{where_declared, hits_in, least_hit}
use Rattle.rel_base.specs.Tables.{Tables, Stamped, rows, tables_at, writes_between}
use Rattle.rel_base.specs.Value.{key_cmp}
use Rattle.row_sets.proofs.PointRows.{point_got}
use Rattle.row_sets.specs.Versions.{Hit, hit_by}
use Rattle.row_sets.specs.Watched.{is_hit_between}
use Rattle.row_sets.specs.declared.hits.Watch.{Watch}
use Rattle.version_index.specs.Candidates.{has_key}
use Rattle.version_index.specs.Chain.{IsFirst}
use Rattle.version_index.specs.Hits.{TellsFirst}
use Rattle.version_index.specs.Log.{InOrder}
use Rattle.version_index.specs.Rows.{covered_row, rows_of_keys, write_of}
use Rattle.version_index.specs.Span.{IsWantedBy, keys_in}
use Rattle.version_index.specs.View.{IsAsked, history_in, hit_told}
use Rattle.version_index.specs.declared.view.TableView.{TableView}
use Rattle.version_index.proofs.Distinct.{found_among}
use Rattle.version_index.proofs.KeyRows.{AllAmong, among_keys, rows_of_all}
use Rattle.version_index.proofs.LeastHits.{first_agrees, least_from_first}
use Rattle.version_index.proofs.Wanted.{wanted}

-- the rows of a read of a declared table
pub rows_declared : (defs : List TableDef) (def : TableDef) (read : Read) (tables : Tables) → slice_get defs (read_table read) ≡ Some def → rows_in defs read tables ≡ rows def read tables
rows_declared defs def read tables declared = ap (λ found. rows_by found read tables) declared

-- ---- a point

-- the row at the key of a point, where there is one, is all that it gets
pub point_row : (def : TableDef) (view : TableView) (key : List Value) (height : ℕ) (read : Read) → read ≡ Point view.table key → IsAsked def read view
    → option_to_list (get (tables_at height (history_in view)) (view.table, key)) ≡ rows def read (tables_at height (history_in view))
point_row def view key height read is asked =
    let point = Point view.table key in
    let tables = tables_at height (history_in view) in
    let fits = subst (λ found. IsSomeAnd found (λ d. ReadFits d point)) (sym asked.declared) (subst (ReadFits def) is asked.fits) in
    point_got asked.defs view.table key height (history_in view) asked.history fits ∙ rows_declared asked.defs def point tables asked.declared ∙ ap (λ r. rows def r tables) (sym is)

-- ---- a span

-- the rows of keys among which are all that a span wants are what it gets
pub span_rows : (def : TableDef) (view : TableView) (column : ℕ) (low high : Option Value) (height : ℕ) (read : Read) (found : List (Bor (List Value) × Option ℕ)) → read ≡ Span view.table column low high → IsAsked def read view
    → IsStrictlySortedBy key_cmp (keys_in found) → ((key : List Value) → IsWantedBy view column low high height key → has_key found key ≡ true)
    → rows_of_keys def read (tables_at height (history_in view)) view.table (keys_in found) ≡ rows def read (tables_at height (history_in view))
span_rows def view column low high height read found is asked rise all =
    let tables = tables_at height (history_in view) in
    subst (λ r. rows_of_keys def r tables view.table (keys_in found) ≡ rows def r tables) (sym is)
    (rows_of_all def (Span view.table column low high) tables (keys_in found) rise among)
  where
    among : AllAmong def (Span view.table column low high) (tables_at height (history_in view)) (keys_in found)
    among q seen there read_it =
        let want = wanted def view column low high (subst (λ r. IsAsked def r view) is asked) height q seen there read_it in
        let inside = found_among def (Span view.table column low high) (tables_at height (history_in view)) q.1 found (all q.1 want.1) in
        let back : view.table ≡ q.0 = sym want.0 in
        ap (λ t. among_keys def (Span view.table column low high) (tables_at height (history_in view)) (t, q.1) (keys_in found)) (sym back) ∙ inside

-- ---- rows of keys that are gone through

-- one more key has its row
pub gather : (def : TableDef) (read : Read) (tables : Tables) (table : ℕ) (made new whole : List Seen) (key : List Value) (keys : List (List Value)) → new ≡ made ++ covered_row def read (get tables (table, key))
    → made ++ rows_of_keys def read tables table (key ∷ keys) ≡ whole → new ++ rows_of_keys def read tables table keys ≡ whole
gather def read tables table made new whole key keys more is =
    ap (λ xs. xs ++ rows_of_keys def read tables table keys) more ∙ append_assoc made (covered_row def read (get tables (table, key))) (rows_of_keys def read tables table keys) ∙ is

-- ---- hits

-- the first write that a read of a declared table hits is the least
least_of_read : (defs : List TableDef) (def : TableDef) (read : Read) (after upto : ℕ) (history : List Stamped) (found : Option ℕ) → slice_get defs (read_table read) ≡ Some def → InOrder history
    → IsFirst (is_hit_between def read after upto) history found → least_hit defs read (writes_between after upto history) ≡ write_of history found
least_of_read defs def read after upto history found declared ordered first =
    least_from_first defs read after upto history found ordered
    (first_agrees (is_hit_between def read after upto) (λ s. hits_in defs read s.1.write && (nat_lt after s.0 && nat_le s.0 upto)) history found (λ k d below. agree (slice_index_or history k d)) first)
  where
    agree : (s : Stamped) → is_hit_between def read after upto s ≡ (hits_in defs read s.1.write && (nat_lt after s.0 && nat_le s.0 upto))
    agree s = ap (λ b. b && (nat_lt after s.0 && nat_le s.0 upto)) (sym (ap (λ found. where_declared found (λ d. hits_write d read s.1.write)) declared))

-- what is reported of a write is what the definition says
told_by : (defs : List TableDef) (def : TableDef) (read : Read) (stamped : Stamped) → slice_get defs (read_table read) ≡ Some def → hit_told def read stamped ≡ hit_by defs read stamped
told_by defs def read stamped declared =
    ap (λ found. record { place = record { block = stamped.0; pos = stamped.1.pos }; key = stamped.1.write.key; stale = where_declared found (λ d. covers_some d read stamped.1.write.before) }) (sym declared)

pub told_least : (defs : List TableDef) (watch : Watch) (history : List Stamped) (hit : Option Hit) → slice_get defs (read_table watch.read.now) ≡ Some watch.def.now → InOrder history → TellsFirst watch history hit
    → hit ≡ option_map (hit_by defs watch.read.now) (least_hit defs watch.read.now (writes_between watch.after watch.upto history))
told_least defs watch history hit declared ordered (number, first, is) =
    is ∙ same (write_of history number) ∙ ap (option_map (hit_by defs watch.read.now)) (sym (least_of_read defs watch.def.now watch.read.now watch.after watch.upto history number declared ordered first))
  where
    same : (found : Option Stamped) → option_map (hit_told watch.def.now watch.read.now) found ≡ option_map (hit_by defs watch.read.now) found
    same None = refl
    same (Some stamped) = ap Some (told_by defs watch.def.now watch.read.now stamped declared)
