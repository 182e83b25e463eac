-- Own writes in one list, as a finite map.
use Rattle.std.proofs.Common.{◌≡◌, ◌∙◌, ◌++◌, ◌&&◌, ◌==◌, ◌<◌, arith, ℕ, zero, suc, length, List, [], ◌∷◌, Option, Some, None, refl, ap, sym, subst, T, cond, true, false, map, take, drop}
use Rattle.std.specs.Prelude.{is_none, slice_index_or, slice_set}
use Rattle.std.specs.List.{AllByRecursion, insert, list_any, remove}
use Rattle.std.specs.Option.{option_map}
use Rattle.std.specs.Ordering.{eq_by_cmp, is_eq, is_lt, ordering_reverse}
use Rattle.std.specs.FinMap.{empty, entries, from_entries, get, get-empty, get-from_entries, get-insert, same_map}
use Rattle.std.specs.FinMap.Entries.{below_all, find, is_sorted, put}
use Rattle.std.proofs.Math.ListN.{get_or-map}
use Rattle.std.proofs.lemmas.List.{map-append, map-set}
use Rattle.rel_base.specs.declared.access.Read.TheVariants.{Span}
use Rattle.rel_base.specs.declared.access.Write.{Write}
use Rattle.rel_base.specs.declared.schema.TableDef.{TableDef}
use Rattle.rel_base.specs.declared.value.Value.{Value}
use Rattle.rel_base.specs.NetWrites.{write_before}
use Rattle.rel_base.specs.OwnWrites.{Keyed, covered, lay_all, set_row}
use Rattle.rel_base.specs.Tables.{ref_cmp, ref_cmp-total, ref_cmp-exact, write_ref}
use Rattle.rel_base.proofs.Bits.{first, is_Equal, is_Less, or_first, or_second, second}
use Rattle.row_sets.specs.Few.{put_over}
use Rattle.row_sets.specs.Listed.{done_by, is_nothing, listed, put_each}
use Rattle.row_sets.specs.Overlay.{Written, first_before, left, net_writes, own_of, put_own}
use Rattle.row_sets.specs.declared.table_writes.OwnWrite.{OwnWrite}
use Rattle.row_sets.proofs.Entries.{entries_of_sorted, not_found}
use Rattle.row_sets.proofs.Owns.{entries_own, get_own}
use Rattle.row_sets.proofs.Places.{BelongsAt, StandsAt}

abbrev pub Ref : Type 0
Ref = ℕ × List Value

-- ---- what was left at a key, and at all keys

pub left_listed : (writes : List Write) (ref : Ref) → get (own_of (from_entries {R = ref_cmp} (listed writes))) ref ≡ option_map (λ own. own.after) (find ref_cmp ref (listed writes))
left_listed writes ref = get_own (from_entries {R = ref_cmp} (listed writes)) ref ∙ ap (option_map (λ own. own.after)) (get-from_entries ref_cmp-total (listed writes) ref)

pub own_listed : (writes : List Write) → T (is_sorted ref_cmp (listed writes)) → entries (own_of (from_entries {R = ref_cmp} (listed writes))) ≡ map left (listed writes)
own_listed writes up = entries_own (from_entries {R = ref_cmp} (listed writes)) ∙ ap (map left) (entries_of_sorted ref_cmp ref_cmp-total ref_cmp-exact (listed writes) up)

-- where none is of a table, the rows of a span of the table stay
pub none_laid : (def : TableDef) (table column : ℕ) (low high : Option Value) (rows : Keyed) (writes : List Write) → list_any (λ write. table == write.table) writes ≡ false
    → lay_all def (Span table column low high) rows (map left (listed writes)) ≡ rows
none_laid def table column low high rows [] none = refl
none_laid def table column low high rows (write ∷ writes) none =
    ap (λ b. lay_all def (Span table column low high) (cond b (set_row rows write.key (covered def (Span table column low high) write.after)) rows) (map left (listed writes))) (or_first (table == write.table) _ none)
    ∙ none_laid def table column low high rows writes (or_second (table == write.table) _ none)

-- ---- one write more

pub listed_set : (writes : List Write) (place : ℕ) (write : Write) → listed (slice_set writes place write) ≡ slice_set (listed writes) place (write_ref write, done_by write)
listed_set writes place write = map-set (λ write. (write_ref write, done_by write)) writes place write

listed_take : (n : ℕ) (writes : List Write) → listed (take n writes) ≡ take n (listed writes)
listed_take zero writes = refl
listed_take (suc n) [] = refl
listed_take (suc n) (write ∷ writes) = ap (λ es. (write_ref write, done_by write) ∷ es) (listed_take n writes)

listed_drop : (n : ℕ) (writes : List Write) → listed (drop n writes) ≡ drop n (listed writes)
listed_drop zero writes = refl
listed_drop (suc n) [] = refl
listed_drop (suc n) (write ∷ writes) = listed_drop n writes

pub listed_insert : (writes : List Write) (place : ℕ) (write : Write) → listed (insert writes place write) ≡ insert (listed writes) place (write_ref write, done_by write)
listed_insert writes place write =
    map-append (λ write. (write_ref write, done_by write)) (take place writes) (write ∷ drop place writes)
    ∙ (λ i. listed_take place writes i ++ (write_ref write, done_by write) ∷ listed_drop place writes i)

abbrev pub entry : Write → Ref × OwnWrite
entry write = (write_ref write, done_by write)

-- a write that stands there gets another row after
pub set_listed : (writes : List Write) (place : ℕ) (held : Write) (ref : Ref) (before after : Option (List Value)) → slice_index_or writes place held ≡ held → StandsAt ref_cmp ref (listed writes) place
    → listed (slice_set writes place (record held { after = after })) ≡ put ref_cmp ref (put_over before after (find ref_cmp ref (listed writes))) (listed writes)
set_listed writes place held ref before after here there =
    let at : slice_index_or (listed writes) place (entry held) ≡ entry held = get_or-map entry writes place held ∙ ap entry here in
    let new : put_over before after (find ref_cmp ref (listed writes)) ≡ put_over before after (Some (done_by held)) = ap (put_over before after) (there.found (entry held) ∙ ap (λ (e : Ref × OwnWrite). Some e.1) at) in
    listed_set writes place (record held { after = after })
    ∙ sym (there.puts (entry held) (put_over before after (find ref_cmp ref (listed writes))) ∙ (λ i. slice_set (listed writes) place ((at i).0, new i)))

-- and one that does not is put there
pub insert_listed : (writes : List Write) (place table : ℕ) (key : List Value) (before after : Option (List Value)) → BelongsAt ref_cmp (table, key) (listed writes) place
    → listed (insert writes place (record { table = table; key = key; before = before; after = after })) ≡ put ref_cmp (table, key) (put_over before after (find ref_cmp (table, key) (listed writes))) (listed writes)
insert_listed writes place table key before after there =
    listed_insert writes place (record { table = table; key = key; before = before; after = after })
    ∙ sym (there.puts (put_over before after None))
    ∙ ap (λ own. put ref_cmp (table, key) (put_over before after own) (listed writes)) (sym there.missing)

-- ---- all of them, put one after the other

-- none of them was written
abbrev Free : Written → List (Ref × OwnWrite) → Type 0
Free own es = AllByRecursion (λ e. get own e.0 ≡ None) es

free_after : (own : Written) (ref : Ref) (before after : Option (List Value)) (es : List (Ref × OwnWrite)) → T (below_all ref_cmp ref es) → Free own es → Free (put_own own ref before after) es
free_after own ref before after [] below free = tt
free_after own ref before after (e ∷ es) below free =
    let new : OwnWrite = record { before = first_before before (get own ref); after = after } in
    let apart = ref_cmp-total.antisymm e.0 ref ∙ ap ordering_reverse (is_Less _ (first _ _ below)) in (
      get-insert ref_cmp-total own ref new e.0 ∙ ap (λ o. cond (is_eq o) (Some new) (get own e.0)) apart ∙ free.0,
      free_after own ref before after es (second (is_lt (ref_cmp ref e.0)) _ below) free.1,
    )

abbrev or_else : {X : Type 0} → Option X → Option X → Option X
or_else None other = other
or_else (Some x) other = Some x

get_each : (own : Written) (es : List (Ref × OwnWrite)) → T (is_sorted ref_cmp es) → Free own es → (q : Ref) → get (put_each own es) q ≡ or_else (find ref_cmp q es) (get own q)
get_each own [] up free q = refl
get_each own (e ∷ es) up free q =
    let new : OwnWrite = record { before = first_before e.1.before (get own e.0); after = e.1.after } in
    let same : new ≡ e.1 = ap (λ (got : Option OwnWrite). record { before = first_before e.1.before got; after = e.1.after }) free.0 in
    get_each (put_own own e.0 e.1.before e.1.after) es (second (below_all ref_cmp e.0 es) _ up) (free_after own e.0 e.1.before e.1.after es (first _ _ up) free.1) q
    ∙ ap (or_else (find ref_cmp q es)) (get-insert ref_cmp-total own e.0 new q ∙ ap (λ own_write. cond (eq_by_cmp ref_cmp q e.0) (Some own_write) (get own q)) same)
    ∙ elim (eq_by_cmp ref_cmp q e.0)
    as (λ b. eq_by_cmp ref_cmp q e.0 ≡ b → or_else (find ref_cmp q es) (cond b (Some e.1) (get own q)) ≡ or_else (cond b (Some e.1) (find ref_cmp q es)) (get own q)) [
      | true ↦ λ tied.
          let here : q ≡ e.0 = ref_cmp-exact q e.0 (is_Equal (ref_cmp q e.0) tied) in
          ap (λ found. or_else found (Some e.1)) (not_found ref_cmp q es (subst (λ k. T (below_all ref_cmp k es)) (sym here) (first _ _ up)))
      | false ↦ λ apart. refl
    ] refl

free_none : (es : List (Ref × OwnWrite)) → Free empty es
free_none [] = tt
free_none (e ∷ es) = (get-empty ref_cmp e.0, free_none es)

or_none : {X : Type 0} (found : Option X) → or_else found None ≡ found
or_none None = refl
or_none (Some x) = refl

-- entries in order that are put one after the other make the map that they make at once
pub put_all : (es : List (Ref × OwnWrite)) → T (is_sorted ref_cmp es) → put_each empty es ≡ from_entries {R = ref_cmp} es
put_all es up = same_map ref_cmp-total ref_cmp-exact _ _ (λ q.
    get_each empty es up (free_none es) q ∙ ap (or_else (find ref_cmp q es)) (get-empty ref_cmp q) ∙ or_none (find ref_cmp q es) ∙ sym (get-from_entries ref_cmp-total es q))

-- ---- those that come to nothing are taken out, the last first

nothing_is : (write : Write) (rest : List Write) → is_nothing write ≡ true → write_before (write_ref write) write.before write.after rest ≡ rest
nothing_is write rest = of write.before write.after
  where
    of : (before after : Option (List Value)) → (is_none before && is_none after) ≡ true → write_before (write_ref write) before after rest ≡ rest
    of None None is = refl
    of None (Some row) is = cc
    of (Some row) None is = cc
    of (Some row) (Some new) is = cc

kept_is : (write : Write) (rest : List Write) → is_nothing write ≡ false → write_before (write_ref write) write.before write.after rest ≡ write ∷ rest
kept_is write rest = of write.before write.after
  where
    of : (before after : Option (List Value)) → (is_none before && is_none after) ≡ false → write_before (write_ref write) before after rest ≡ record { table = write.table; key = write.key; before = before; after = after } ∷ rest
    of None None is = cc
    of None (Some row) is = refl
    of (Some row) None is = refl
    of (Some row) (Some new) is = refl

-- the writes where those from a place on are net
abbrev pub net_from : ℕ → List Write → List Write
net_from n writes = take n writes ++ net_writes (listed (drop n writes))

pub taken_out : (writes : List Write) (n : ℕ) (d : Write) → n < length writes → is_nothing (slice_index_or writes n d) ≡ true → remove (net_from (suc n) writes) n ≡ net_from n writes
taken_out [] n d low is = absurd (omega (arith, low))
taken_out (write ∷ writes) zero d low is = sym (nothing_is write (net_writes (listed writes)) is)
taken_out (write ∷ writes) (suc n) d low is = ap (λ ws. write ∷ ws) (taken_out writes n d (omega (arith, low)) is)

pub left_there : (writes : List Write) (n : ℕ) (d : Write) → n < length writes → is_nothing (slice_index_or writes n d) ≡ false → net_from (suc n) writes ≡ net_from n writes
left_there [] n d low is = absurd (omega (arith, low))
left_there (write ∷ writes) zero d low is = sym (kept_is write (net_writes (listed writes)) is)
left_there (write ∷ writes) (suc n) d low is = ap (λ ws. write ∷ ws) (left_there writes n d (omega (arith, low)) is)

pub still_there : (writes more : List Write) (n : ℕ) (d : Write) → n < length writes → slice_index_or (take (suc n) writes ++ more) n d ≡ slice_index_or writes n d
still_there [] more n d low = absurd (omega (arith, low))
still_there (write ∷ writes) more zero d low = refl
still_there (write ∷ writes) more (suc n) d low = still_there writes more n d (omega (arith, low))
