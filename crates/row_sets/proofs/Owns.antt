-- What was left at each table and key.
use Rattle.std.proofs.Common.{◌≡◌, ◌∙◌, ℕ, List, [], ◌∷◌, true, false, cond, Option, Some, None, IfSome, refl, ap, sym, subst, T, map}
use Rattle.std.specs.Cmp.{tied_itself}
use Rattle.std.specs.Option.{option_map}
use Rattle.std.specs.BTreeMap.{is_at}
use Rattle.std.specs.Map.{lookup}
use Rattle.std.specs.Ordering.{is_eq, eq_by_cmp, nat_cmp}
use Rattle.std.specs.FinMap.{FinMap, entries, entries_sorted, get, get-entries, get-from_entries, get-insert, get-empty, insert, empty, from_entries, same_map}
use Rattle.std.specs.FinMap.Entries.{find, is_sorted, below_all}
use Rattle.rel_base.specs.declared.schema.TableDef.{TableDef}
use Rattle.rel_base.specs.declared.value.Value.{Value}
use Rattle.rel_base.specs.NetWrites.{row_in, write_before, net, net_from}
use Rattle.rel_base.specs.Tables.{Tables, ref_cmp, ref_cmp-total, ref_cmp-exact}
use Rattle.rel_base.specs.Value.{key_cmp}
use Rattle.rel_base.proofs.Bits.{both, first, second, is_Equal}
use Rattle.row_sets.specs.Overlay.{Written, AreFound, first_before, flat, left, net_writes, own_of, put_own}
use Rattle.row_sets.specs.declared.table_writes.OwnWrite.{OwnWrite}
use Rattle.row_sets.proofs.Entries.{entries_of_sorted, not_found}
use Rattle.row_sets.proofs.Flat.{Rising, get_flat, get_in}

abbrev Ref : Type 0
Ref = ℕ × List Value

-- ---- they have the keys that were written

below_left : (ref : Ref) (es : List (Ref × OwnWrite)) → T (below_all ref_cmp ref es) → T (below_all ref_cmp ref (map left es))
below_left ref [] below = tt
below_left ref (e ∷ es) below = both _ _ (first _ _ below) (below_left ref es (second _ _ below))

sorted_left : (es : List (Ref × OwnWrite)) → T (is_sorted ref_cmp es) → T (is_sorted ref_cmp (map left es))
sorted_left [] up = tt
sorted_left (e ∷ es) up = both _ _ (below_left e.0 es (first _ _ up)) (sorted_left es (second _ _ up))

pub entries_own : (writes : Written) → entries (own_of writes) ≡ map left (entries writes)
entries_own writes = entries_of_sorted ref_cmp ref_cmp-total ref_cmp-exact (map left (entries writes)) (sorted_left (entries writes) (entries_sorted writes))

find_left : (ref : Ref) (es : List (Ref × OwnWrite)) → find ref_cmp ref (map left es) ≡ option_map (λ own. own.after) (find ref_cmp ref es)
find_left ref [] = refl
find_left ref (e ∷ es) =
    elim (eq_by_cmp ref_cmp ref e.0) as (λ b. cond b (Some e.1.after) (find ref_cmp ref (map left es)) ≡ option_map (λ own. own.after) (cond b (Some e.1) (find ref_cmp ref es)))
    [ true ↦ refl | false ↦ find_left ref es ]

pub get_own : (writes : Written) (ref : Ref) → get (own_of writes) ref ≡ option_map (λ own. own.after) (get writes ref)
get_own writes ref =
    get-from_entries ref_cmp-total (map left (entries writes)) ref ∙ find_left ref (entries writes) ∙ ap (option_map (λ own. own.after)) (sym (get-entries writes ref))

-- by the own writes of each table
pub own_in : (tables : List (ℕ × FinMap key_cmp OwnWrite)) → Rising tables → (table : ℕ) (key : List Value)
    → get (own_of (from_entries {R = ref_cmp} (flat tables))) (table, key) ≡ option_map (λ own. own.after) (get_in (lookup (is_at (nat_cmp table)) tables) key)
own_in tables rise table key = get_own (from_entries {R = ref_cmp} (flat tables)) (table, key) ∙ ap (option_map (λ own. own.after)) (get_flat tables rise (table, key))

-- ---- none, and one more

pub own_of_none : own_of empty ≡ empty
own_of_none = same_map ref_cmp-total ref_cmp-exact _ _ (λ ref. get_own empty ref ∙ ap (option_map (λ (own : OwnWrite). own.after)) (get-empty ref_cmp ref) ∙ sym (get-empty ref_cmp ref))

pub own_of_put : (writes : Written) (ref : Ref) (before after : Option (List Value)) → own_of (put_own writes ref before after) ≡ insert (own_of writes) ref after
own_of_put writes ref before after = same_map ref_cmp-total ref_cmp-exact _ _ (λ q.
    let new : OwnWrite = record { before = first_before before (get writes ref); after = after } in
    get_own (put_own writes ref before after) q ∙ ap (option_map (λ own. own.after)) (get-insert ref_cmp-total writes ref new q)
    ∙ elim (eq_by_cmp ref_cmp q ref) as (λ b. option_map (λ own. own.after) (cond b (Some new) (get writes q)) ≡ cond b (Some after) (get (own_of writes) q)) [ true ↦ refl | false ↦ sym (get_own writes q) ]
    ∙ sym (get-insert ref_cmp-total (own_of writes) ref after q))

-- ---- rows before that are found in tables

module _ (declared : List TableDef) (tables : Tables) where
  pub found_none : AreFound declared tables empty
  found_none ref = subst (λ found. IfSome found (λ (own : OwnWrite). own.before ≡ row_in declared tables ref)) (sym (get-empty ref_cmp ref)) tt

  pub found_put : (writes : Written) (ref : Ref) (before after : Option (List Value)) → before ≡ row_in declared tables ref → AreFound declared tables writes → AreFound declared tables (put_own writes ref before after)
  found_put writes ref before after is found q =
      let new : OwnWrite = record { before = first_before before (get writes ref); after = after } in
      subst (λ got. IfSome got (λ own. own.before ≡ row_in declared tables q)) (sym (get-insert ref_cmp-total writes ref new q))
      (elim (eq_by_cmp ref_cmp q ref) as (λ b. eq_by_cmp ref_cmp q ref ≡ b → IfSome (cond b (Some new) (get writes q)) (λ own. own.before ≡ row_in declared tables q)) [
        | true ↦ λ tied.
            let same : q ≡ ref = ref_cmp-exact q ref (is_Equal (ref_cmp q ref) tied) in
            by_first (get writes ref) (found ref) ∙ ap (row_in declared tables) (sym same)
        | false ↦ λ apart. found q
      ] refl)
    where
      by_first : (got : Option OwnWrite) → IfSome got (λ own. own.before ≡ row_in declared tables ref) → first_before before got ≡ row_in declared tables ref
      by_first None held = is
      by_first (Some own) held = held

  -- ---- their net writes

  abbrev Holds : List (Ref × OwnWrite) → Type 0
  Holds es = (ref : Ref) → IfSome (find ref_cmp ref es) (λ own. own.before ≡ row_in declared tables ref)

  holds_first : (e : Ref × OwnWrite) (es : List (Ref × OwnWrite)) → Holds (e ∷ es) → e.1.before ≡ row_in declared tables e.0
  holds_first e es holds =
      subst (λ o. IfSome (cond (is_eq o) (Some e.1) (find ref_cmp e.0 es)) (λ own. own.before ≡ row_in declared tables e.0)) (tied_itself ref_cmp-total e.0) (holds e.0)

  holds_rest : (e : Ref × OwnWrite) (es : List (Ref × OwnWrite)) → T (below_all ref_cmp e.0 es) → Holds (e ∷ es) → Holds es
  holds_rest e es below holds ref =
      elim (eq_by_cmp ref_cmp ref e.0)
      as (λ b. eq_by_cmp ref_cmp ref e.0 ≡ b → IfSome (cond b (Some e.1) (find ref_cmp ref es)) (λ own. own.before ≡ row_in declared tables ref) → IfSome (find ref_cmp ref es) (λ own. own.before ≡ row_in declared tables ref)) [
        | true ↦ λ tied held.
            let same : ref ≡ e.0 = ref_cmp-exact ref e.0 (is_Equal (ref_cmp ref e.0) tied) in
            subst (λ found. IfSome found (λ (own : OwnWrite). own.before ≡ row_in declared tables ref)) (sym (not_found ref_cmp ref es (subst (λ k. T (below_all ref_cmp k es)) (sym same) below))) tt
        | false ↦ λ apart held. held
      ] refl (holds ref)

  net_of_entries : (es : List (Ref × OwnWrite)) → T (is_sorted ref_cmp es) → Holds es → net_writes es ≡ net_from declared tables (map left es)
  net_of_entries [] up holds = refl
  net_of_entries (e ∷ es) up holds = λ i.
      write_before e.0 (holds_first e es holds i) e.1.after (net_of_entries es (second _ _ up) (holds_rest e es (first _ _ up) holds) i)

  -- where the rows before are those of the tables, the net writes are those against the tables
  pub net_of_found : (writes : Written) → AreFound declared tables writes → net_writes (entries writes) ≡ net declared tables (own_of writes)
  net_of_found writes found =
      net_of_entries (entries writes) (entries_sorted writes) (λ ref. subst (λ got. IfSome got (λ (own : OwnWrite). own.before ≡ row_in declared tables ref)) (get-entries writes ref) (found ref))
      ∙ ap (net_from declared tables) (sym (entries_own writes))
