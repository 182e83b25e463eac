-- The laws of runs.
use Rattle.std.proofs.Common.{◌≡◌, ℕ, ℤ, ◌+◌, ◌≤◌, refl, ap, subst, sym, ◌∙◌, List, [], ◌∷◌, length, true, false, Bool, cond, map, Option, Some, None, arith, Contains, All, T, ◌==◌, inl, inr, ◌⊎◌}
use Rattle.std.specs.Prelude.{slice_get, IsSomeAnd, IsSome}
use Rattle.std.specs.List.{AllByRecursion, AllPairs, filter}
use Rattle.std.specs.Option.{option_and_then, option_map}
use Rattle.std.specs.FinMap as finite
use Rattle.std.specs.FinMap.Entries as entry
use Rattle.std.specs.FinMap.Entries.{below_all, is_sorted}
use Rattle.std.specs.Ordering.{is_lt, eq_by_cmp}
use Rattle.std.specs.Cmp.{Equal-is, eq_by_cmp_equiv}
use Rattle.std.specs.Cmp.Derive.{both_true}
use Rattle.std.specs.declared.cmp.Ordering.TheVariants.{Less}
use Rattle.std.proofs.lemmas.Bool.{eqb-true, eq-eqb, true≢false}
use Rattle.std.proofs.lemmas.Bool.Decides.{same_from_decides}
use Rattle.std.proofs.lemmas.List.Elements.{All-from_recursion, recursion_from_All, All-nil, All-contains}
use Rattle.std.proofs.lemmas.List.Kept.{AllPairs-cons}
use Rattle.proc_syntax.specs.declared.run.Ending.TheVariants as ending
use Rattle.rel_base.specs.declared.access.Made.{Made}
use Rattle.rel_base.specs.declared.access.Read.{Read}
use Rattle.rel_base.specs.declared.access.Read.TheVariants.{Point}
use Rattle.rel_base.specs.declared.access.Seen.{Seen}
use Rattle.rel_base.specs.declared.access.Write.{Write}
use Rattle.rel_base.specs.declared.schema.TableDef.{TableDef}
use Rattle.rel_base.specs.declared.value.Value.{Value}
use Rattle.rel_base.specs.Access.{PartFits, WriteFits}
use Rattle.rel_base.specs.Schema.{RowFits, KeyFits, key_of_row, kind_at}
use Rattle.rel_base.specs.Tables.{Tables, rows, rows_among, is_read, ref_cmp, ref_cmp-total, ref_cmp-exact, Finds, write_ref}
use Rattle.rel_base.specs.Value.{key_eq, key_cmp-total}
use Rattle.proc_syntax.specs.declared.call.Tx.{Tx}
use Rattle.proc_syntax.specs.declared.run.Ran.{Ran}
use Rattle.proc_syntax.specs.declared.tree.App.{App}
use Rattle.proc_syntax.specs.declared.tree.ProcDef.{ProcDef}
use Rattle.proc_syntax.specs.Declaring.{tables_of}
use Rattle.rel_base.specs.Among.{rows_in, rows_by, StandsIn, TablesFit, WriteFitsIn, ReadFitsIn}
use Rattle.proc_syntax.specs.Laws.{ReadsAreRows, EqualRowsGiveEqualRuns, ReadsFit, FewReads, FewWrites, WritesFit, WritesInOrder, WritesFind, WritesAreRead}
use Rattle.proc_syntax.specs.Values.{have_kinds}
use Rattle.proc_syntax.specs.Meaning.{Progress, Going, Stopped, block}
use Rattle.rel_base.specs.OwnWrites.{first_row}
use Rattle.rel_base.specs.NetWrites.{row_in, write_before, net_from, net}
use Rattle.rel_base.proofs.Bits.{first, first_true, is_Less, second, second_true}
use Rattle.proc_syntax.specs.Run.{ran, no_run, start, takes, called, procedure_named, run}
use Rattle.proc_syntax.proofs.Fits.{key_of_fit, kinds_held}
use Rattle.rel_base.proofs.KeyOrder.{same_key}
use Rattle.proc_syntax.proofs.Framed.{state_of, Agrees, framed_block}
use Rattle.proc_syntax.proofs.Sound.{Sound, Answered, OwnFits, WasRead, sound_run, all_more}

-- ---- what holds of each run that begins holds of each run

abbrev outcome : List TableDef → Tables → ProcDef → List Value → ℤ → Progress
outcome declared S procedure values now = block declared S procedure.body (start procedure values now)

of_cond : (P : Ran → Type 0) (b : Bool) (r : Ran) → P r → P no_run → P (cond b r no_run)
of_cond P true r h k = h
of_cond P false r h k = k

of_called : (P : Ran → Type 0) (app : App) (values : List Value) (now : ℤ) (S : Tables) → P no_run → ((procedure : ProcDef) → P (ran (tables_of app) S (outcome (tables_of app) S procedure values now))) → (o : Option ProcDef) → P (called app values now S o)
of_called P app values now S h k None = h
of_called P app values now S h k (Some procedure) = of_cond P (takes procedure values) _ (k procedure) h

of_run : (P : Ran → Type 0) (app : App) (tx : Tx) (time : ℤ) (S : Tables) → P no_run → ((procedure : ProcDef) → P (ran (tables_of app) S (outcome (tables_of app) S procedure tx.args time))) → P (run app tx time S)
of_run P app tx time S h k = of_called P app tx.args time S h k (procedure_named app tx.procedure)

reads_of : (declared : List TableDef) (S : Tables) (o : Progress) → (ran declared S o).reads ≡ (state_of o).made
reads_of declared S (Going st) = refl
reads_of declared S (Stopped st why) = refl

-- the reads of a run that begins are those of its state
module _ (P : Made → Type 0) (app : App) (tx : Tx) (time : ℤ) (S : Tables) (each : (m : Made) → Answered (tables_of app) S m → P m) where
  of_reads : All P (run app tx time S).reads
  of_reads = of_run (λ r. All P r.reads) app tx time S (All-nil P) (λ procedure.
      All-from_recursion P _ (rw (reads_of (tables_of app) S (outcome (tables_of app) S procedure tx.args time))
      (all_more (Answered (tables_of app) S) P _ each (sound_run (tables_of app) S procedure tx.args time).answered)))

pub reads_are_rows : ReadsAreRows
reads_are_rows app tx time S = of_reads (λ made. made.rows ≡ rows_in (tables_of app) made.read S) app tx time S (λ m a. a.1)

pub reads_fit : ReadsFit
reads_fit app tx time S = of_reads (λ made. ReadFitsIn (tables_of app) made.read) app tx time S (λ m a. a.0)

pub few_reads : FewReads
few_reads app tx time S = of_run (λ r. length r.reads ≤ 100000) app tx time S (omega arith) (λ procedure.
    let s = sound_run (tables_of app) S procedure tx.args time in
    rw (reads_of (tables_of app) S (outcome (tables_of app) S procedure tx.args time)) (omega (arith, s.few, s.low)))

one_longer : (ref : ℕ × List Value) (before after : Option (List Value)) (rest : List Write) (n : ℕ) → length rest ≤ n → length (write_before ref before after rest) ≤ n + 1
one_longer ref None None rest n le = omega (arith, le)
one_longer ref None (Some row) rest n le = omega (arith, le)
one_longer ref (Some row) after rest n le = omega (arith, le)

net_longer : (declared : List TableDef) (S : Tables) (own : List ((ℕ × List Value) × Option (List Value))) → length (net_from declared S own) ≤ length own
net_longer declared S [] = omega arith
net_longer declared S (e ∷ es) =
    let le = one_longer e.0 (row_in declared S e.0) e.1 (net_from declared S es) (length es) (net_longer declared S es) in
    omega (arith, le)

few_of : (declared : List TableDef) (S : Tables) (o : Progress) → length (finite.entries (state_of o).own) ≤ 100000 → length (ran declared S o).writes ≤ 100000
few_of declared S (Going st) few = omega (arith, few, net_longer declared S (finite.entries st.own))
few_of declared S (Stopped st why) few = omega arith

pub few_writes : FewWrites
few_writes app tx time S = of_run (λ r. length r.writes ≤ 100000) app tx time S (omega arith) (λ procedure.
    let s = sound_run (tables_of app) S procedure tx.args time in
    few_of (tables_of app) S (outcome (tables_of app) S procedure tx.args time) (omega (arith, s.left, s.few, s.low)))

-- ---- the frame law

module _ (declared : List TableDef) (S S' : Tables) where
  along : (made : List Made) → AllByRecursion (Answered declared S) made → AllByRecursion (λ m. rows_in declared m.read S' ≡ rows_in declared m.read S) made → Agrees declared S' made
  along [] a h = tt
  along (m ∷ made) a h = (a.0.1 ∙ sym h.0, along made a.1 h.1)

  row_by : (found : Option TableDef) (ref : ℕ × List Value) (S : Tables) → option_and_then (λ def. first_row (rows def (Point ref.0 ref.1) S)) found ≡ first_row (rows_by found (Point ref.0 ref.1) S)
  row_by None ref S = refl
  row_by (Some def) ref S = refl

  abbrev Same : Read → Type 0
  Same read = rows_in declared read S' ≡ rows_in declared read S

  same_reads : (made : List Made) → AllByRecursion (λ m. Same m.read) made → AllByRecursion Same (map (λ m. m.read) made)
  same_reads [] h = tt
  same_reads (m ∷ made) h = (h.0, same_reads made h.1)

  same_row : (made : List Made) → AllByRecursion (λ m. Same m.read) made → (own : (ℕ × List Value) × Option (List Value)) → WasRead declared S made own → row_in declared S' own.0 ≡ row_in declared S own.0
  same_row made h own was =
      row_by (slice_get declared own.0.0) own.0 S' ∙ ap first_row (All-contains Same _ _ (All-from_recursion Same _ (same_reads made h)) was) ∙ sym (row_by (slice_get declared own.0.0) own.0 S)

  same_net : (made : List Made) → AllByRecursion (λ m. Same m.read) made → (es : List ((ℕ × List Value) × Option (List Value)))
      → AllByRecursion (WasRead declared S made) es → net_from declared S' es ≡ net_from declared S es
  same_net made h [] was = refl
  same_net made h (own ∷ rest) was =
      ap (λ before. write_before own.0 before own.1 (net_from declared S' rest)) (same_row made h own was.0)
      ∙ ap (write_before own.0 (row_in declared S own.0) own.1) (same_net made h rest was.1)

  abbrev good : List Made → List Write → Ran
  good made writes = record { reads = made; writes = writes; ending = ending.Good }

  same_ran : (o : Progress) → Sound declared S (state_of o) → AllByRecursion (λ m. Same m.read) (state_of o).made → ran declared S' o ≡ ran declared S o
  same_ran (Going st) s h = ap (good st.made) (same_net st.made h _ s.read)
  same_ran (Stopped st why) s h = refl

  same_outcome : (procedure : ProcDef) (values : List Value) (now : ℤ) → All (λ m. Same m.read) (ran declared S (outcome declared S procedure values now)).reads
      → ran declared S' (outcome declared S' procedure values now) ≡ ran declared S (outcome declared S procedure values now)
  same_outcome procedure values now h =
      let o = outcome declared S procedure values now in
      let sound = sound_run declared S procedure values now in
      let same : AllByRecursion (λ m. Same m.read) (state_of o).made = rw (reads_of declared S o) at (recursion_from_All (λ m. Same m.read) _ h) in
      ap (ran declared S') ((framed_block declared S S' procedure.body (start procedure values now)).same (along (state_of o).made sound.answered same)) ∙ same_ran o sound same

pub equal_runs : EqualRowsGiveEqualRuns
equal_runs app tx time S S' = by_procedure (procedure_named app tx.procedure)
  where
    by_fit : (b : Bool) (r r' : Ran) → (All (λ m. Same (tables_of app) S S' m.read) r.reads → r' ≡ r) → All (λ m. Same (tables_of app) S S' m.read) (cond b r no_run).reads → cond b r' no_run ≡ cond b r no_run
    by_fit true r r' same h = same h
    by_fit false r r' same h = refl

    by_procedure : (o : Option ProcDef) → All (λ m. Same (tables_of app) S S' m.read) (called app tx.args time S o).reads → called app tx.args time S' o ≡ called app tx.args time S o
    by_procedure None h = refl
    by_procedure (Some procedure) h = by_fit (takes procedure tx.args) _ _ (same_outcome (tables_of app) S S' procedure tx.args time) h

-- ---- net writes

writes_of : (P : List Write → Type 0) (declared : List TableDef) (S : Tables) (o : Progress) → P [] → P (net declared S (state_of o).own) → P (ran declared S o).writes
writes_of P declared S (Going st) h k = k
writes_of P declared S (Stopped st why) h k = h

-- what holds of the net writes of each run that begins holds of the writes of each run
of_writes : (P : List Write → Type 0) (app : App) (tx : Tx) (time : ℤ) (S : Tables) → P []
    → ((procedure : ProcDef) → P (net (tables_of app) S (state_of (outcome (tables_of app) S procedure tx.args time)).own)) → P (run app tx time S).writes
of_writes P app tx time S h k = of_run (λ r. P r.writes) app tx time S h (λ procedure. writes_of P (tables_of app) S (outcome (tables_of app) S procedure tx.args time) h (k procedure))

-- what holds of the write of each own entry holds of the net writes
module _ (declared : List TableDef) (S : Tables) (P : Write → Type 0) where
  each_write : (ref : ℕ × List Value) (before after : Option (List Value)) (rest : List Write)
      → (IsSome before ⊎ IsSome after → P (record { table = ref.0; key = ref.1; before = before; after = after })) → AllByRecursion P rest → AllByRecursion P (write_before ref before after rest)
  each_write ref None None rest h all = all
  each_write ref None (Some row) rest h all = (h (inr refl), all)
  each_write ref (Some row) None rest h all = (h (inl refl), all)
  each_write ref (Some row) (Some new) rest h all = (h (inl refl), all)

  each_net : (Q : (ℕ × List Value) × Option (List Value) → Type 0) (es : List ((ℕ × List Value) × Option (List Value)))
      → ((own : (ℕ × List Value) × Option (List Value)) → Q own → IsSome (row_in declared S own.0) ⊎ IsSome own.1 → P (record { table = own.0.0; key = own.0.1; before = row_in declared S own.0; after = own.1 }))
      → AllByRecursion Q es → AllByRecursion P (net_from declared S es)
  each_net Q [] f all = tt
  each_net Q (own ∷ rest) f all = each_write own.0 (row_in declared S own.0) own.1 _ (f own all.0) (each_net Q rest f all.1)

no_pairs : {X : Type 0} (R : X → X → Type 0) → AllPairs R []
no_pairs R = λ i j d lt below. absurd (omega (arith, below))

module _ (declared : List TableDef) (S : Tables) where
  abbrev Above : ℕ × List Value → Write → Type 0
  Above ref write = ref_cmp ref (write_ref write) ≡ Less

  abbrev Ordered : Write → Write → Type 0
  Ordered a b = ref_cmp (write_ref a) (write_ref b) ≡ Less

  above_net : (ref : ℕ × List Value) (es : List ((ℕ × List Value) × Option (List Value))) → T (below_all ref_cmp ref es) → AllByRecursion (Above ref) (net_from declared S es)
  above_net ref [] h = tt
  above_net ref (own ∷ rest) h =
      each_write declared S (Above ref) own.0 (row_in declared S own.0) own.1 _ (λ there. is_Less _ (first _ _ h)) (above_net ref rest (second (is_lt (ref_cmp ref own.0)) _ h))

  ordered_write : (ref : ℕ × List Value) (before after : Option (List Value)) (rest : List Write) → AllByRecursion (Above ref) rest → AllPairs Ordered rest → AllPairs Ordered (write_before ref before after rest)
  ordered_write ref None None rest above pairs = pairs
  ordered_write ref None (Some row) rest above pairs = AllPairs-cons Ordered (record { table = ref.0; key = ref.1; before = None; after = Some row }) rest (All-from_recursion (Above ref) rest above) pairs
  ordered_write ref (Some row) None rest above pairs = AllPairs-cons Ordered (record { table = ref.0; key = ref.1; before = Some row; after = None }) rest (All-from_recursion (Above ref) rest above) pairs
  ordered_write ref (Some row) (Some new) rest above pairs = AllPairs-cons Ordered (record { table = ref.0; key = ref.1; before = Some row; after = Some new }) rest (All-from_recursion (Above ref) rest above) pairs

  ordered_net : (es : List ((ℕ × List Value) × Option (List Value))) → T (is_sorted ref_cmp es) → AllPairs (λ a b. ref_cmp (write_ref a) (write_ref b) ≡ Less) (net_from declared S es)
  ordered_net [] h = no_pairs Ordered
  ordered_net (own ∷ rest) h =
      ordered_write own.0 (row_in declared S own.0) own.1 _ (above_net own.0 rest (first _ _ h)) (ordered_net rest (second (below_all ref_cmp own.0 rest) _ h))

pub writes_in_order : WritesInOrder
writes_in_order app tx time S =
    of_writes (AllPairs (λ a b. ref_cmp (write_ref a) (write_ref b) ≡ Less)) app tx time S (no_pairs (λ a b. ref_cmp (write_ref a) (write_ref b) ≡ Less)) (λ procedure. ordered_net (tables_of app) S _ (finite.entries_sorted (state_of (outcome (tables_of app) S procedure tx.args time)).own))

-- ---- point reads of tables whose rows stand under their keys

module _ (declared : List TableDef) (def : TableDef) (table : ℕ) (key : List Value) (here : slice_get declared table ≡ Some def) where
  stands : (e : (ℕ × List Value) × Seen) → StandsIn declared e.0 e.1.row → table ≡ e.0.0 → RowFits def e.1.row × (key_of_row def e.1.row ≡ e.0.1)
  stands e h same =
      let place : slice_get declared e.0.0 ≡ Some def = subst (λ t. slice_get declared t ≡ Some def) same here in
      rw place at h

  pub covers_is : (e : (ℕ × List Value) × Seen) → StandsIn declared e.0 e.1.row → is_read def (Point table key) e ≡ eq_by_cmp ref_cmp (table, key) e.0
  covers_is e h = same_from_decides (is_read def (Point table key) e) (eq_by_cmp ref_cmp (table, key) e.0) (by_row, from_row) (by_ref, from_ref)
    where
      by_row : is_read def (Point table key) e ≡ true → (table, key) ≡ e.0
      by_row reads =
          let at_table = eqb-true table e.0.0 (first_true _ _ reads) in
          let at_key = same_key (key_of_row def e.1.row) key (second_true (table == e.0.0) _ reads) in
          let under = sym at_key ∙ (stands e h at_table).1 in
          λ i. (at_table i, under i)

      from_row : (table, key) ≡ e.0 → is_read def (Point table key) e ≡ true
      from_row same =
          let at_table = ap (λ r. r.0) same in
          let under : key_of_row def e.1.row ≡ key = (stands e h at_table).1 ∙ sym (ap (λ r. r.1) same) in
          both_true (eq-eqb table e.0.0 at_table) (subst (λ k. key_eq k key ≡ true) (sym under) ((eq_by_cmp_equiv key_cmp-total).refl key))

      by_ref : eq_by_cmp ref_cmp (table, key) e.0 ≡ true → (table, key) ≡ e.0
      by_ref equal = ref_cmp-exact (table, key) e.0 ((Equal-is (ref_cmp (table, key) e.0)).0 equal)

      from_ref : (table, key) ≡ e.0 → eq_by_cmp ref_cmp (table, key) e.0 ≡ true
      from_ref same = subst (λ r. eq_by_cmp ref_cmp (table, key) r ≡ true) same ((eq_by_cmp_equiv ref_cmp-total).refl (table, key))

  abbrev pub StandsAt : (ℕ × List Value) × Seen → Type 0
  StandsAt e = StandsIn declared e.0 e.1.row

  -- the first row that a point read gets is the row of its key
  pub first_is : (es : List ((ℕ × List Value) × Seen)) → AllByRecursion StandsAt es → first_row (rows_among def (Point table key) es) ≡ option_map (λ seen. seen.row) (entry.find ref_cmp (table, key) es)
  first_is [] h = refl
  first_is (e ∷ es) h =
      ap (λ b. first_row (map (λ x. x.1) (cond b (e ∷ filter (is_read def (Point table key)) es) (filter (is_read def (Point table key)) es)))) (covers_is e h.0)
      ∙ (elim (eq_by_cmp ref_cmp (table, key) e.0)
      as (λ b. first_row (map (λ x. x.1) (cond b (e ∷ filter (is_read def (Point table key)) es) (filter (is_read def (Point table key)) es)))
      ≡ option_map (λ seen. seen.row) (cond b (Some e.1) (entry.find ref_cmp (table, key) es)))
      [ true ↦ refl | false ↦ first_is es h.1 ])

  -- and fits
  pub first_fits : (es : List ((ℕ × List Value) × Seen)) → AllByRecursion StandsAt es → PartFits def key (first_row (rows_among def (Point table key) es))
  first_fits [] h = tt
  first_fits (e ∷ es) h =
      elim (is_read def (Point table key) e)
      as (λ b. is_read def (Point table key) e ≡ b → PartFits def key (first_row (map (λ x. x.1) (cond b (e ∷ filter (is_read def (Point table key)) es) (filter (is_read def (Point table key)) es))))) [
        | true ↦ λ reads. ((stands e h.0 (eqb-true table e.0.0 (first_true _ _ reads))).0, same_key _ _ (second_true (table == e.0.0) _ reads))
        | false ↦ λ misses. first_fits es h.1
      ] refl

module _ (declared : List TableDef) (S : Tables) (fit : TablesFit declared S) where
  all_stand : AllByRecursion (λ e. StandsIn declared e.0 e.1.row) (finite.entries S)
  all_stand = recursion_from_All (λ e. StandsIn declared e.0 e.1.row) (finite.entries S) fit

  -- the row before of an own entry's write is the row of its key
  finds : (own : (ℕ × List Value) × Option (List Value)) → OwnFits declared S own → option_map (λ seen. seen.row) (finite.get S own.0) ≡ row_in declared S own.0
  finds own h = by_def (slice_get declared own.0.0) refl h
    where
      by_def : (found : Option TableDef) → slice_get declared own.0.0 ≡ found → IsSomeAnd found (λ def. KeyFits def own.0.1 × PartFits def own.0.1 own.1)
          → option_map (λ seen. seen.row) (finite.get S own.0) ≡ option_and_then (λ def. first_row (rows def (Point own.0.0 own.0.1) S)) found
      by_def None here h = absurd h
      by_def (Some def) here h = ap (option_map (λ seen. seen.row)) (finite.get-entries S own.0) ∙ sym (first_is declared def own.0.0 own.0.1 here (finite.entries S) all_stand)

  write_fits : (own : (ℕ × List Value) × Option (List Value)) → OwnFits declared S own → IsSome (row_in declared S own.0) ⊎ IsSome own.1
      → WriteFitsIn declared (record { table = own.0.0; key = own.0.1; before = row_in declared S own.0; after = own.1 })
  write_fits own h there = by_def (slice_get declared own.0.0) refl h there
    where
      by_def : (found : Option TableDef) → slice_get declared own.0.0 ≡ found → IsSomeAnd found (λ def. KeyFits def own.0.1 × PartFits def own.0.1 own.1)
          → IsSome (option_and_then (λ def. first_row (rows def (Point own.0.0 own.0.1) S)) found) ⊎ IsSome own.1
          → IsSomeAnd found (λ def. WriteFits def (record { table = own.0.0; key = own.0.1; before = option_and_then (λ def. first_row (rows def (Point own.0.0 own.0.1) S)) found; after = own.1 }))
      by_def None here h there = absurd h
      by_def (Some def) here h there = record { some = there; before = first_fits declared def own.0.0 own.0.1 here (finite.entries S) all_stand; after = h.1 }

pub writes_fit : WritesFit
writes_fit app tx time S fit =
    let declared = tables_of app in
    of_writes (All (WriteFitsIn declared)) app tx time S (All-nil _) (λ procedure.
    All-from_recursion _ _ (each_net declared S (WriteFitsIn declared) (OwnFits declared S) _ (write_fits declared S fit) (sound_run declared S procedure tx.args time).fit))

pub writes_find : WritesFind
writes_find app tx time S fit =
    let declared = tables_of app in
    of_writes (All (λ write. Finds (finite.get S (write_ref write)) write)) app tx time S (All-nil _) (λ procedure.
    All-from_recursion _ _ (each_net declared S (λ write. Finds (finite.get S (write_ref write)) write) (OwnFits declared S) _ (λ own h there. finds declared S fit own h) (sound_run declared S procedure tx.args time).fit))

-- each own key of a run that ends was read
abbrev AreRead : Ran → Type 0
AreRead r = All (λ write. Contains (map (λ made. made.read) r.reads) (Point write.table write.key)) r.writes

pub writes_are_read : WritesAreRead
writes_are_read app tx time S = of_run AreRead app tx time S (All-nil _) (λ procedure. by_outcome (outcome (tables_of app) S procedure tx.args time) (sound_run (tables_of app) S procedure tx.args time))
  where
    by_outcome : (o : Progress) → Sound (tables_of app) S (state_of o) → AreRead (ran (tables_of app) S o)
    by_outcome (Going st) sound =
        All-from_recursion _ _ (each_net (tables_of app) S (λ write. Contains (map (λ made. made.read) st.made) (Point write.table write.key)) (WasRead (tables_of app) S st.made) _ (λ own was there. was) sound.read)
    by_outcome (Stopped st why) sound = All-nil _

-- a key that does not fit has no row in tables that fit
pub no_unfit : (declared : List TableDef) (def : TableDef) (table : ℕ) (key : List Value) (S : Tables) → slice_get declared table ≡ Some def → TablesFit declared S
    → have_kinds (map (kind_at def) def.key) key ≡ false → first_row (rows def (Point table key) S) ≡ None
no_unfit declared def table key S here fit unfit =
    by_row (first_row (rows def (Point table key) S)) (first_fits declared def table key here (finite.entries S) (recursion_from_All (λ e. StandsIn declared e.0 e.1.row) (finite.entries S) fit))
  where
    by_row : (row : Option (List Value)) → PartFits def key row → row ≡ None
    by_row None h = refl
    by_row (Some row) h =
        let fits : KeyFits def key = subst (KeyFits def) h.1 (key_of_fit def row h.0) in
        let holds : have_kinds (map (kind_at def) def.key) key ≡ true = kinds_held _ _ fits in
        absurd (true≢false (sym holds ∙ unfit))
