-- The least write that a read hits, from the last write back.
use Rattle.std.proofs.Common.{◌≡◌, ◌∙◌, ℕ, suc, zero, ◌<◌, arith, List, [], ◌∷◌, Bool, true, false, ◌&&◌, ◌==◌, cond, Option, Some, None, refl, ap, sym, subst, All, slice_get, drop, length, nat_le, nat_lt, ◌⊎◌, inl, inr}
use Rattle.std.specs.List.{filter}
use Rattle.std.specs.Option.{IfSome, IsSomeAnd, option_map}
use Rattle.std.specs.Ordering.{is_gt}
use Rattle.std.proofs.lemmas.List.Elements.{All-head, All-tail}
use Rattle.std.proofs.lemmas.Bool.Decides.{Decides-eqb}
use Rattle.rel_base.specs.declared.access.Read.{Read}
use Rattle.rel_base.specs.declared.schema.TableDef.{TableDef}
use Rattle.rel_base.specs.Access.{read_table, hits_write}
use Rattle.rel_base.specs.Late.{least, least_hit, lesser, stamp_cmp, where_declared}
use Rattle.rel_base.specs.Tables.{Stamped, writes_between}
use Rattle.rel_base.proofs.Bits.{first_true}
use Rattle.rel_base.proofs.Lists.{drop_next}
use Rattle.row_sets.proofs.Histories.{unwrapped}
use Rattle.row_sets.specs.declared.entry.LogEntry.{LogEntry}
use Rattle.row_sets.specs.Log.{history_of, stamped_of}
use Rattle.row_sets.specs.Watched.{is_watched}
use Rattle.row_sets.specs.declared.hits.Watch.{Watch}
use Rattle.version_store.specs.Hits.{least_of, lesser_hit}
use Rattle.version_store.specs.Log.{IsOfTable, write_of}

-- the committed write of a number
pub get_history : (log : List LogEntry) (number : ℕ) (entry : LogEntry) → slice_get log number ≡ Some entry → slice_get (history_of log) number ≡ Some (stamped_of entry)
get_history [] number entry there = cc
get_history (c ∷ cs) zero entry there = ap (λ found. option_map stamped_of found) there
get_history (c ∷ cs) (suc number) entry there = get_history cs number entry there

-- what holds of all holds of one that was item_of
pub all_got : {X : Type 0} (P : X → Type 0) (xs : List X) (number : ℕ) (x : X) → slice_get xs number ≡ Some x → All P xs → P x
all_got P [] number x there all = cc
all_got P (y ∷ ys) zero x there all = subst P (unwrapped y x there) (All-head P y ys all)
all_got P (y ∷ ys) (suc number) x there all = all_got P ys number x there (All-tail P y ys all)

-- the write of a number of a table
pub of_table_below : (log : List LogEntry) (table number : ℕ) → IsOfTable log table number → number < length log
of_table_below [] table number there = absurd there
of_table_below (c ∷ cs) table zero there = omega arith
of_table_below (c ∷ cs) table (suc number) there = let below = of_table_below cs table number there in omega (arith, below)

pub all_below : (log : List LogEntry) (table : ℕ) (least : Option ℕ) → IfSome least (IsOfTable log table) → IfSome least (λ n. n < length log)
all_below log table None there = tt
all_below log table (Some number) there = of_table_below log table number there

-- a write that is hit is of the table of the read
pub hit_table : (watch : Watch) (entry : LogEntry) → is_watched watch (stamped_of entry) ≡ true → entry.placed.write.table ≡ read_table watch.read.now
hit_table watch entry hit =
    let write = entry.placed.write in
    let between = nat_lt watch.after entry.block && nat_le entry.block watch.upto in
    sym ((Decides-eqb (read_table watch.read.now) write.table).0 (first_true (read_table watch.read.now == write.table) _ (first_true (hits_write watch.def.now watch.read.now write) between hit)))

-- one of two is of the table, where both are
pub either_of_table : (log : List LogEntry) (table number result : ℕ) (other : Option ℕ) (entry : LogEntry) → slice_get log number ≡ Some entry → entry.placed.write.table ≡ table
    → IfSome other (IsOfTable log table) → (result ≡ number) ⊎ (Some result ≡ other) → IsOfTable log table result
either_of_table log table number result other entry there same others (inl is) =
    subst (IsOfTable log table) (sym is) (subst (λ found. IsSomeAnd found (λ (c : LogEntry). c.placed.write.table ≡ table)) (sym there) same)
either_of_table log table number result other entry there same others (inr is) = subst (λ found. IfSome found (IsOfTable log table)) (sym is) others

-- the write of a number of a table is of it
pub table_of_got : (log : List LogEntry) (table number : ℕ) (entry : LogEntry) → slice_get log number ≡ Some entry → IsOfTable log table number → entry.placed.write.table ≡ table
table_of_got log table number entry there of_table = subst (λ found. IsSomeAnd found (λ (c : LogEntry). c.placed.write.table ≡ table)) there of_table

-- ---- the lesser of two

module _ (history : List Stamped) (x : Stamped) (other : Option ℕ) where
  pub lesser_none : (number : ℕ) → slice_get history number ≡ Some x → other ≡ None → slice_get history number ≡ Some (lesser stamp_cmp x (write_of history other))
  lesser_none number here is = here ∙ ap (λ found. Some (lesser stamp_cmp x (write_of history found))) (sym is)

  pub lesser_other : (y : Stamped) (second : ℕ) → other ≡ Some second → slice_get history second ≡ Some y → is_gt (stamp_cmp x y) ≡ true
      → slice_get history second ≡ Some (lesser stamp_cmp x (write_of history other))
  lesser_other y second is there greater =
      there ∙ ap (λ b. Some (cond b y x)) (sym greater) ∙ ap (λ found. Some (lesser stamp_cmp x found)) (sym there) ∙ ap (λ found. Some (lesser stamp_cmp x (write_of history found))) (sym is)

  pub lesser_same : (y : Stamped) (number second : ℕ) → slice_get history number ≡ Some x → other ≡ Some second → slice_get history second ≡ Some y → is_gt (stamp_cmp x y) ≡ false
      → slice_get history number ≡ Some (lesser stamp_cmp x (write_of history other))
  lesser_same y number second here is there lower =
      here ∙ ap (λ b. Some (cond b y x)) (sym lower) ∙ ap (λ found. Some (lesser stamp_cmp x found)) (sym there) ∙ ap (λ found. Some (lesser stamp_cmp x (write_of history found))) (sym is)

module _ (watch : Watch) where
  -- the least of the writes between two heights that a read hits
  abbrev pub least_between : List Stamped → Option Stamped
  least_between xs = least_of watch.def.now watch.read.now (writes_between watch.after watch.upto xs)

  -- one write more
  least_more : (x : Stamped) (xs : List Stamped) → least_between (x ∷ xs) ≡ lesser_hit watch x (least_between xs)
  least_more x xs =
      elim (nat_lt watch.after x.0 && nat_le x.0 watch.upto) as (λ b. least_of watch.def.now watch.read.now (cond b (x ∷ writes_between watch.after watch.upto xs) (writes_between watch.after watch.upto xs))
      ≡ cond (hits_write watch.def.now watch.read.now x.1.write && b) (Some (lesser stamp_cmp x (least_between xs))) (least_between xs)) [
        | true ↦ passes (hits_write watch.def.now watch.read.now x.1.write)
        | false ↦ fails (hits_write watch.def.now watch.read.now x.1.write)
      ]
    where
      rest : List Stamped
      rest = filter (λ s. hits_write watch.def.now watch.read.now s.1.write) (writes_between watch.after watch.upto xs)

      passes : (b : Bool) → least stamp_cmp (cond b (x ∷ rest) rest) ≡ cond (b && true) (Some (lesser stamp_cmp x (least stamp_cmp rest))) (least stamp_cmp rest)
      passes true = refl
      passes false = refl

      fails : (b : Bool) → least stamp_cmp rest ≡ cond (b && false) (Some (lesser stamp_cmp x (least stamp_cmp rest))) (least stamp_cmp rest)
      fails true = refl
      fails false = refl

  -- the same from a number of the history on
  pub least_from : (history : List Stamped) (number : ℕ) (x : Stamped) → slice_get history number ≡ Some x → lesser_hit watch x (least_between (drop (suc number) history)) ≡ least_between (drop number history)
  least_from history number x there = sym (ap least_between (drop_next history number x there) ∙ least_more x (drop (suc number) history))

-- the least that a read of a declared table hits
pub least_declared : (defs : List TableDef) (def : TableDef) (read : Read) (writes : List Stamped) → slice_get defs (read_table read) ≡ Some def → least_hit defs read writes ≡ least_of def read writes
least_declared defs def read writes declared = ap (λ found. least stamp_cmp (filter (λ s. where_declared found (λ d. hits_write d read s.1.write)) writes)) declared
