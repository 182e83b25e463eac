-- What every state of a run has: its reads fit and have their rows, there are no more of them than steps, and what it wrote fits and was read.
use Rattle.std.proofs.Common.{◌≡◌, ℕ, ℤ, ◌+◌, ◌<◌, ◌≤◌, refl, ap, subst, sym, ◌∙◌, List, [], ◌∷◌, ◌++◌, length, true, map, Option, Some, arith, Contains, length-append}
use Rattle.std.specs.Prelude.{nat_lt, slice_get, IsSomeAnd, IfSome, None}
use Rattle.std.specs.List.{AllByRecursion}
use Rattle.std.specs.FinMap as finite
use Rattle.std.specs.FinMap.Entries.{put, by_order}
use Rattle.std.specs.declared.cmp.Ordering.{Ordering}
use Rattle.std.specs.declared.cmp.Ordering.TheVariants.{Less, Equal, Greater}
use Rattle.std.proofs.lemmas.List.{map-append}
use Rattle.std.proofs.lemmas.List.Elements.{All-from_recursion, Contains-append_left, Contains-push}
use Rattle.std.proofs.lemmas.Bool.{ltb-true}
use Rattle.rel_base.specs.declared.access.Made.{Made}
use Rattle.rel_base.specs.declared.access.Read.{Read}
use Rattle.rel_base.specs.declared.access.Read.TheVariants.{Point}
use Rattle.rel_base.specs.declared.schema.TableDef.{TableDef}
use Rattle.rel_base.specs.declared.value.Value.{Value}
use Rattle.rel_base.specs.Access.{read_table, ReadFits, PartFits}
use Rattle.rel_base.specs.Schema.{KeyFits, RowFits, key_of_row}
use Rattle.rel_base.specs.Tables.{Tables, rows, ref_cmp, ref_cmp-total, ref_cmp-exact}
use Rattle.proc_syntax.specs.declared.tree.ProcDef.{ProcDef}
use Rattle.rel_base.specs.Among.{rows_in, rows_by, ReadFitsIn, StandsIn}
use Rattle.rel_base.proofs.Lists.{nil_of}
use Rattle.proc_syntax.specs.Laws.{OwnFit}
use Rattle.proc_syntax.specs.Meaning.{State, wrote, asked, block}
use Rattle.proc_syntax.specs.Run.{start}
use Rattle.proc_syntax.proofs.Framed.{state_of}
use Rattle.proc_syntax.proofs.Kept.{StepsKeep, kept_block}

-- ---- entries

-- what holds of each entry, and of a new one, holds after it is put
pub all_put : {X : Type 0} (P : (ℕ × List Value) × X → Type 0) (k : ℕ × List Value) (v : X) (es : List ((ℕ × List Value) × X)) → AllByRecursion P es → P (k, v) → AllByRecursion P (put ref_cmp k v es)
all_put P k v [] all new = (new, tt)
all_put P k v (e ∷ es) all new =
    elim (ref_cmp k e.0) as (λ o. ref_cmp k e.0 ≡ o → AllByRecursion P (by_order o ((k, v) ∷ e ∷ es) ((e.0, v) ∷ es) (e ∷ put ref_cmp k v es))) [
      | Less ↦ λ at_order. (new, all)
      | Equal ↦ λ at_order. (subst (λ x. P (x, v)) (ref_cmp-exact k e.0 at_order) new, all.1)
      | Greater ↦ λ at_order. (all.0, all_put P k v es all.1 new)
    ] refl

pub all_more : {X : Type 0} (P Q : X → Type 0) (xs : List X) → ((x : X) → P x → Q x) → AllByRecursion P xs → AllByRecursion Q xs
all_more P Q [] f all = tt
all_more P Q (x ∷ xs) f all = (f x all.0, all_more P Q xs f all.1)

pub all_push : {X : Type 0} (P : X → Type 0) (xs : List X) (x : X) → AllByRecursion P xs → P x → AllByRecursion P (xs ++ x ∷ [])
all_push P [] x all new = (new, tt)
all_push P (y ∷ ys) x all new = (all.0, all_push P ys x all.1 new)

-- and there is at most one entry more
put_longer : {X : Type 0} (k : ℕ × List Value) (v : X) (es : List ((ℕ × List Value) × X)) → length (put ref_cmp k v es) ≤ length es + 1
put_longer k v [] = omega arith
put_longer k v (e ∷ es) = longer_by (ref_cmp k e.0) ((k, v) ∷ e ∷ es) ((e.0, v) ∷ es) (e ∷ put ref_cmp k v es) (length (e ∷ es) + 1) (omega arith) (omega arith) (omega (arith, put_longer k v es))
  where
    longer_by : {Y : Type 0} (o : Ordering) (a b c : List Y) (n : ℕ) → length a ≤ n → length b ≤ n → length c ≤ n → length (by_order o a b c) ≤ n
    longer_by Less a b c n ha hb hc = ha
    longer_by Equal a b c n ha hb hc = hb
    longer_by Greater a b c n ha hb hc = hc

pub entries-empty : finite.entries (finite.empty {X = Option (List Value)} {R = ref_cmp}) ≡ []
entries-empty = nil_of _ (sym (finite.len-entries finite.empty) ∙ finite.len-empty ref_cmp (Option (List Value)))

at_some : {X : Type 0} (o : Option X) (x : X) (P : X → Type 0) → o ≡ Some x → P x → IsSomeAnd o P
at_some o x P e p = rw e p

-- ---- states

module _ (declared : List TableDef) (S : Tables) where
  -- a read fits, and has its rows
  abbrev pub Answered : Made → Type 0
  Answered made = ReadFitsIn declared made.read × (made.rows ≡ rows_in declared made.read S)

  -- what was written at a key fits
  abbrev pub OwnFits : (ℕ × List Value) × Option (List Value) → Type 0
  OwnFits own = IsSomeAnd (slice_get declared own.0.0) (λ def. KeyFits def own.0.1 × PartFits def own.0.1 own.1)

  -- a key was read at its point
  abbrev pub WasRead : List Made → (ℕ × List Value) × Option (List Value) → Type 0
  WasRead made own = Contains (map (λ m. m.read) made) (Point own.0.0 own.0.1)

  pub record Sound (st : State) : Type 0 where
    pub answered : AllByRecursion Answered st.made
    pub few : length st.made ≤ st.steps
    pub low : st.steps ≤ 100000
    pub fit : AllByRecursion OwnFits (finite.entries st.own)
    pub read : AllByRecursion (WasRead st.made) (finite.entries st.own)
    pub left : length (finite.entries st.own) ≤ length st.made

  -- after a step is counted there is room for one more read
  record Counted (st : State) : Type 0 where
    pub sound : Sound st
    pub room : length st.made < st.steps

  sound_counts : (st : State) → Sound st → nat_lt st.steps 100000 ≡ true → Counted (record st { steps = st.steps + 1 })
  sound_counts st s low =
      let below = ltb-true st.steps 100000 low in
      record { sound = record { answered = s.answered; few = omega (arith, s.few); low = omega (arith, below); fit = s.fit; read = s.read; left = s.left }; room = omega (arith, s.few) }

  read_more : (made : List Made) (m : Made) (own : (ℕ × List Value) × Option (List Value)) → WasRead made own → WasRead (made ++ m ∷ []) own
  read_more made m own h = subst (λ reads. Contains reads (Point own.0.0 own.0.1)) (sym (map-append (λ m. m.read) made (m ∷ []))) (Contains-append_left _ (m.read ∷ []) _ h)

  read_last : (made : List Made) (m : Made) (own : (ℕ × List Value) × Option (List Value)) → m.read ≡ Point own.0.0 own.0.1 → WasRead (made ++ m ∷ []) own
  read_last made m own e = subst (λ reads. Contains reads (Point own.0.0 own.0.1)) (sym (map-append (λ m. m.read) made (m ∷ []))) (subst (λ r. Contains (map (λ m. m.read) made ++ r ∷ []) (Point own.0.0 own.0.1)) (sym e) (Contains-push _ _))

  sound_reads : (st : State) (def : TableDef) (read : Read) → Counted st → slice_get declared (read_table read) ≡ Some def → ReadFits def read → Sound (asked st read (rows def read S))
  sound_reads st def read c here fits =
      let m : Made = record { read = read; rows = rows def read S } in
      record {
        answered = all_push Answered st.made m c.sound.answered (at_some _ def (λ d. ReadFits d read) here fits, ap (λ d. rows_by d read S) (sym here));
        few = omega (arith, c.room, length-append st.made (m ∷ []));
        low = c.sound.low;
        fit = c.sound.fit;
        read = all_more _ _ _ (read_more st.made m) c.sound.read;
        left = omega (arith, c.sound.left, length-append st.made (m ∷ []));
      }

  sound_writes : (st : State) (def : TableDef) (table : ℕ) (key : List Value) (row : Option (List Value)) → Counted st → slice_get declared table ≡ Some def → KeyFits def key → PartFits def key row
      → Sound (wrote (asked st (Point table key) (rows def (Point table key) S)) table key row)
  sound_writes st def table key row c here fits part =
      let s = sound_reads st def (Point table key) c here fits in
      let m : Made = record { read = Point table key; rows = rows def (Point table key) S } in
      let e = finite.entries-insert ref_cmp-total st.own (table, key) row in
      record {
        answered = s.answered;
        few = s.few;
        low = s.low;
        fit = rw e (all_put OwnFits (table, key) row _ s.fit (at_some _ def (λ d. KeyFits d key × PartFits d key row) here (fits, part)));
        read = rw e (all_put (WasRead (st.made ++ m ∷ [])) (table, key) row _ s.read (read_last st.made m ((table, key), row) refl));
        left = rw e (omega (arith, c.sound.left, length-append st.made (m ∷ []), put_longer (table, key) row (finite.entries st.own)));
      }

  sound_keeps : StepsKeep declared S Sound Counted
  sound_keeps = record {
    counts = sound_counts;
    rests = λ st c. c.sound;
    binds = λ st name binding s. record { answered = s.answered; few = s.few; low = s.low; fit = s.fit; read = s.read; left = s.left };
    reads = sound_reads;
    writes = sound_writes;
  }

  sound_start : (procedure : ProcDef) (values : List Value) (now : ℤ) → Sound (start procedure values now)
  sound_start procedure values now = record { answered = tt; few = omega arith; low = omega arith; fit = rw entries-empty tt; read = rw entries-empty tt; left = rw entries-empty (omega arith) }

  pub sound_run : (procedure : ProcDef) (values : List Value) (now : ℤ) → Sound (state_of (block declared S procedure.body (start procedure values now)))
  sound_run procedure values now = (kept_block declared S Sound Counted sound_keeps procedure.body (start procedure values now) (sound_start procedure values now)).is

-- what was written at a key stands under it
pub own_stand : (declared : List TableDef) (S : Tables) (procedure : ProcDef) (values : List Value) (now : ℤ) → OwnFit declared (state_of (block declared S procedure.body (start procedure values now))).own
own_stand declared S procedure values now = All-from_recursion (λ e. IfSome e.1 (StandsIn declared e.0)) _ (all_more _ _ _ stands (sound_run declared S procedure values now).fit)
  where
    part : (found : Option TableDef) (key : List Value) (row : Option (List Value)) → IsSomeAnd found (λ def. KeyFits def key × PartFits def key row) → IfSome row (λ r. IsSomeAnd found (λ def. RowFits def r × (key_of_row def r ≡ key)))
    part found key None h = tt
    part None key (Some row) h = absurd h
    part (Some def) key (Some row) h = h.1

    stands : (own : (ℕ × List Value) × Option (List Value)) → OwnFits declared S own → IfSome own.1 (StandsIn declared own.0)
    stands own h = part (slice_get declared own.0.0) own.0.1 own.1 h
