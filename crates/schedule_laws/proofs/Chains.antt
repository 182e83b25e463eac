-- Sealed blocks that stand in order, and what more of them change.
use Rattle.std.proofs.Common.{Bool, IsSome, List, Some, [], ap, ap₂, append_assoc, arith, bytes_eq, cond, false, filter, find, length, map, refl, subst, sym, true, ◌&&◌, ◌+◌, ◌++◌, ◌<◌, ◌==◌, ◌||◌, ◌∙◌, ◌≡◌, ◌≤◌, ◌∷◌, ℕ}
use Rattle.node_model.specs.Events.{has_told, hit_since, is_settled}
use Rattle.node_model.specs.History.{SealedBlock, history_of, ids_of, ids_told, placed_of, snapshot, stamped_of, time_at}
use Rattle.proc_syntax.specs.Declaring.{tables_of}
use Rattle.proc_syntax.specs.Run.{run}
use Rattle.proc_syntax.specs.declared.call.Tx.{Tx}
use Rattle.proc_syntax.specs.declared.tree.App.{App}
use Rattle.rel_base.specs.Late.{hits_in, least, least_hit, stamp_cmp}
use Rattle.rel_base.specs.Tables.{Stamped, no_tables, set_stamped, writes_between, writes_up_to}
use Rattle.rel_base.specs.declared.access.Placed.{Placed}
use Rattle.rel_base.specs.declared.access.Read.{Read}
use Rattle.rel_base.specs.declared.schema.TableDef.{TableDef}
use Rattle.schedule_laws.specs.Facts.{AreCounted}
use Rattle.schedule_laws.specs.Stable.{ShowsSame}
use Rattle.std.proofs.lemmas.Bool.{and_from, and_parts, eqb-true, false≢true, le-leb, leb-true, lt-leb}
use Rattle.std.proofs.lemmas.List.Elements.{filter-append}
use Rattle.std.proofs.lemmas.List.Folds.{list_any-append}
use Rattle.std.proofs.lemmas.List.{append-nil}
use Rattle.std.specs.List.{list_any}
use Rattle.std.specs.Option.{is_some, option_map}
use Rattle.std.proofs.Common.{length-append}
use Rattle.std.specs.Prelude.{nat_le, nat_lt}

-- ---- blocks in a row

pub counted-append : (n : ℕ) (xs ys : List SealedBlock) → AreCounted n xs → AreCounted (n + length xs) ys → AreCounted n (xs ++ ys)
counted-append n [] ys c d = subst (λ k. AreCounted k ys) (omega arith) d
counted-append n (x ∷ xs) ys c d = (c.0, counted-append (n + 1) xs ys c.1 (subst (λ k. AreCounted k ys) (omega arith) d))

counted-back : (n : ℕ) (xs ys : List SealedBlock) → AreCounted n (xs ++ ys) → AreCounted (n + length xs) ys
counted-back n [] ys c = subst (λ k. AreCounted k ys) (omega arith) c
counted-back n (x ∷ xs) ys c = subst (λ k. AreCounted k ys) (omega arith) (counted-back (n + 1) xs ys c.1)

pub history-append : (xs ys : List SealedBlock) → history_of (xs ++ ys) ≡ history_of xs ++ history_of ys
history-append [] ys = refl
history-append (x ∷ xs) ys = ap (λ rest. stamped_of x ++ rest) (history-append xs ys) ∙ sym (append_assoc (stamped_of x) (history_of xs) (history_of ys))

-- ---- what a height shows

-- no write of a later block is one of the blocks up to a height
none_low : (height number : ℕ) (placed : List Placed) (rest : List Stamped) → height < number → writes_up_to height rest ≡ [] → writes_up_to height (map (λ placed. (number, placed)) placed ++ rest) ≡ []
none_low height number [] rest low none = none
none_low height number (p ∷ ps) rest low none =
    ap (λ b. cond b ((number, p) ∷ writes_up_to height (map (λ placed. (number, placed)) ps ++ rest)) (writes_up_to height (map (λ placed. (number, placed)) ps ++ rest))) (lt-leb number height low)
    ∙ none_low height number ps rest low none

later_none : (height n : ℕ) (xs : List SealedBlock) → height < n → AreCounted n xs → writes_up_to height (history_of xs) ≡ []
later_none height n [] low c = refl
later_none height n (x ∷ xs) low c =
    let number = c.0 in
    none_low height x.number (placed_of x.committed) (history_of xs) (omega (arith, number)) (later_none height (n + 1) xs (omega arith) c.1)

no_time : (height n : ℕ) (xs : List SealedBlock) → height < n → AreCounted n xs → time_at height xs ≡ time_at height []
no_time height n [] low c = refl
no_time height n (x ∷ xs) low c = by (x.number == height) refl (no_time height (n + 1) xs (omega arith) c.1) where
  by : (b : Bool) → (x.number == height) ≡ b → time_at height xs ≡ time_at height [] → cond b x.time (time_at height xs) ≡ time_at height []
  by true e none = let same = eqb-true x.number height e in let number = c.0 in absurd (omega (arith, same, number))
  by false e none = none

same_time : (height n : ℕ) (xs ys : List SealedBlock) → height < n + length xs → AreCounted n (xs ++ ys) → time_at height (xs ++ ys) ≡ time_at height xs
same_time height n [] ys low c = no_time height n ys (omega arith) c
same_time height n (x ∷ xs) ys low c = by (x.number == height) (same_time height (n + 1) xs ys (omega arith) c.1) where
  by : (b : Bool) → time_at height (xs ++ ys) ≡ time_at height xs → cond b x.time (time_at height (xs ++ ys)) ≡ cond b x.time (time_at height xs)
  by true e = refl
  by false e = e

-- what a height showed it shows still
pub shows-more : (app : App) (sealed more : List SealedBlock) → AreCounted 1 (sealed ++ more) → ShowsSame app sealed (sealed ++ more)
shows-more app sealed more counted = record { tables = tables; times = times; runs = λ tx low. ap₂ (run app tx) (times tx.height low) (tables tx.height low) } where
  tables : (height : ℕ) → height ≤ length sealed → snapshot height (sealed ++ more) ≡ snapshot height sealed
  tables height low =
      ap (λ history. set_stamped no_tables (writes_up_to height history)) (history-append sealed more)
      ∙ ap (set_stamped no_tables) (filter-append (λ stamped. nat_le stamped.0 height) (history_of sealed) (history_of more)
      ∙ (ap (λ rest. writes_up_to height (history_of sealed) ++ rest) (later_none height (1 + length sealed) more (omega arith) (counted-back 1 sealed more counted))
      ∙ append-nil (writes_up_to height (history_of sealed))))

  times : (height : ℕ) → height ≤ length sealed → time_at height (sealed ++ more) ≡ time_at height sealed
  times height low = same_time height 1 sealed more (omega arith) counted

-- ---- what a read is hit by

module _ (tables : List TableDef) (read : Read) where
  some_more : (write : Stamped) (writes : List Stamped) → IsSome (least_hit tables read writes) → IsSome (least_hit tables read (write ∷ writes))
  some_more write writes some = by (hits_in tables read write.1.write) where
    by : (b : Bool) → IsSome (least stamp_cmp (cond b (write ∷ filter (λ stamped. hits_in tables read stamped.1.write) writes) (filter (λ stamped. hits_in tables read stamped.1.write) writes)))
    by true = refl
    by false = some

  -- a read that some of the writes hit is hit by some of more writes
  some_hit : (few many : Stamped → Bool) (xs ys : List Stamped) → ((s : Stamped) → few s ≡ true → many s ≡ true)
      → IsSome (least_hit tables read (filter few xs)) → IsSome (least_hit tables read (filter many (xs ++ ys)))
  some_hit few many [] ys more some = absurd (false≢true some)
  some_hit few many (x ∷ xs) ys more some = by (few x) (many x) (more x) (some_hit few many xs ys more) some where
    Rest : Type 0
    Rest = IsSome (least_hit tables read (filter few xs)) → IsSome (least_hit tables read (filter many (xs ++ ys)))

    by_hit : (b : Bool) → Rest → IsSome (least stamp_cmp (cond b (x ∷ filter (λ stamped. hits_in tables read stamped.1.write) (filter few xs)) (filter (λ stamped. hits_in tables read stamped.1.write) (filter few xs))))
        → IsSome (least stamp_cmp (cond b (x ∷ filter (λ stamped. hits_in tables read stamped.1.write) (filter many (xs ++ ys))) (filter (λ stamped. hits_in tables read stamped.1.write) (filter many (xs ++ ys)))))
    by_hit true rest some = refl
    by_hit false rest some = rest some

    by : (b c : Bool) → (b ≡ true → c ≡ true) → Rest → IsSome (least_hit tables read (cond b (x ∷ filter few xs) (filter few xs)))
        → IsSome (least_hit tables read (cond c (x ∷ filter many (xs ++ ys)) (filter many (xs ++ ys))))
    by true true too rest some = by_hit (hits_in tables read x.1.write) rest some
    by true false too rest some = absurd (false≢true (too refl))
    by false true too rest some = some_more x (filter many (xs ++ ys)) (rest some)
    by false false too rest some = rest some

pub hit-more : (app : App) (sealed more : List SealedBlock) (tx : Tx) (read : Read) → IsSome (hit_since app sealed tx read) → IsSome (hit_since app (sealed ++ more) tx read)
hit-more app sealed more tx read some =
    subst (λ history. IsSome (least_hit (tables_of app) read (writes_between tx.height (length (sealed ++ more)) history))) (sym (history-append sealed more))
    (some_hit (tables_of app) read _ _ (history_of sealed) (history_of more) wider some)
  where
    wider : (s : Stamped) → (nat_lt tx.height s.0 && nat_le s.0 (length sealed)) ≡ true → (nat_lt tx.height s.0 && nat_le s.0 (length (sealed ++ more))) ≡ true
    wider s e =
        let parts = and_parts (nat_lt tx.height s.0) (nat_le s.0 (length sealed)) e in
        let upto = leb-true s.0 (length sealed) parts.1 in
        let longer = length-append sealed more in
        and_from _ _ parts.0 (le-leb s.0 (length (sealed ++ more)) (omega (arith, upto, longer)))

-- ---- ids

-- an id is settled exactly where it stands among the ids of the chain
pub settled-known : (id : List ℕ) (sealed : List SealedBlock) → is_settled id sealed ≡ list_any (bytes_eq id) (ids_of sealed)
settled-known id [] = refl
settled-known id (x ∷ xs) = by (has_told id x) refl (settled-known id xs) ∙ sym (list_any-append (bytes_eq id) (ids_told x.outcomes) (ids_of xs)) where
  by : (b : Bool) → has_told id x ≡ b → is_settled id xs ≡ list_any (bytes_eq id) (ids_of xs) → is_some (option_map (λ (block : SealedBlock). block.number) (cond b (Some x) (find (has_told id) xs))) ≡ (list_any (bytes_eq id) (ids_told x.outcomes) || list_any (bytes_eq id) (ids_of xs))
  by true e rest = sym (ap (λ b. b || list_any (bytes_eq id) (ids_of xs)) e)
  by false e rest = rest ∙ sym (ap (λ b. b || list_any (bytes_eq id) (ids_of xs)) e)
