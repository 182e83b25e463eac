-- The transactions of a block, run one after another in a serial order, make the runs that they made on the tables before the block.
use Rattle.std.proofs.Common.{All, List, None, Option, Some, [], ap, arith, false, inl, inr, map, not, refl, subst, sym, ⊎_elim, ◌∙◌, ◌≡◌, ◌∷◌, ℕ}
use Rattle.node_model.specs.Edges.{edge, touches}
use Rattle.node_model.specs.History.{SealedBlock}
use Rattle.node_model.specs.Order.{IsSerialOrder}
use Rattle.node_model.specs.declared.result.Committed.{Committed}
use Rattle.proc_syntax.proofs.Runs.{equal_runs, writes_find, writes_fit, writes_in_order}
use Rattle.proc_syntax.specs.Declaring.{tables_of}
use Rattle.proc_syntax.specs.declared.call.Block.{Block}
use Rattle.proc_syntax.specs.declared.call.Tx.{Tx}
use Rattle.proc_syntax.specs.declared.run.Ran.{Ran}
use Rattle.proc_syntax.specs.declared.tree.App.{App}
use Rattle.rel_base.specs.Among.{TablesFit, WriteFitsIn, rows_in}
use Rattle.rel_base.specs.Late.{hits_in}
use Rattle.rel_base.specs.Tables.{Finds, Tables, ref_cmp, ref_cmp-total, set_stamped, write_ref}
use Rattle.rel_base.specs.declared.access.Made.{Made}
use Rattle.rw_graph.proofs.Lists.{In, Pairs, each_at, pairs_both, pairs_from, pairs_weaker}
use Rattle.serial_order.proofs.Each.{all_at, all_from}
use Rattle.serial_laws.proofs.Admitted.{Rises}
use Rattle.serial_laws.proofs.Fitting.{AreMade, made_fit, made_more}
use Rattle.serial_order.proofs.Picked.{picks_from_permutation, picks_in, picks_pairs}
use Rattle.serial_order.proofs.Searches.{and_right, any_false}
use Rattle.serial_laws.proofs.Stories.{IsStory, KeysApart, each_stamp, own_story, puts_commute, rows_stay}
use Rattle.serial_laws.specs.Replay.{IsRecorded, after_run, committed_run, replay, run_on, stamps, tx_at}
use Rattle.serial_order.proofs.Taken.{Picks, Takes, here, nothing, pick, takes_in, takes_pairs, there}
use Rattle.std.proofs.lemmas.Bool.Decides.{eqb_tells}
use Rattle.std.proofs.lemmas.Cmp.{tied_itself}
use Rattle.std.proofs.lemmas.List.Elements.{All-nil}
use Rattle.std.specs.Bool.{nat_eq}
use Rattle.std.specs.FinMap as finite
use Rattle.std.specs.List.{list_any}
use Rattle.std.specs.Prelude.{◌≢◌}
use Rattle.std.specs.declared.cmp.Ordering.TheVariants.{Equal, Less}
use Rattle.node_model.specs.History.{time_at}

-- ---- one run, by whether there is a transaction

module _ (app : App) (chain : List SealedBlock) where
  pub frame : (tx : Option Tx) (S T : Tables) → All (λ made. rows_in (tables_of app) made.read T ≡ rows_in (tables_of app) made.read S) (run_on app chain S tx).reads → run_on app chain T tx ≡ run_on app chain S tx
  frame None S T same = refl
  frame (Some tx) S T same = equal_runs app tx (time_at tx.height chain) S T same

  pub found : (tx : Option Tx) (S : Tables) → TablesFit (tables_of app) S → All (λ write. Finds (finite.get S (write_ref write)) write) (run_on app chain S tx).writes
  found None S fit = All-nil (λ write. Finds (finite.get S (write_ref write)) write)
  found (Some tx) S fit = writes_find app tx (time_at tx.height chain) S fit

  fits : (tx : Option Tx) (S : Tables) → TablesFit (tables_of app) S → All (WriteFitsIn (tables_of app)) (run_on app chain S tx).writes
  fits None S fit = All-nil (WriteFitsIn (tables_of app))
  fits (Some tx) S fit = writes_fit app tx (time_at tx.height chain) S fit

  pub once : (tx : Option Tx) (S : Tables) → Pairs (λ v u. write_ref v ≢ write_ref u) (run_on app chain S tx).writes
  once None S = tt
  once (Some tx) S = pairs_weaker (λ a b. ref_cmp (write_ref a) (write_ref b) ≡ Less) (λ a b. write_ref a ≢ write_ref b)
      (λ a b less same. not_less _ (tied_itself ref_cmp-total (write_ref b)) (subst (λ ref. ref_cmp ref (write_ref b) ≡ Less) same less))
      (run_on app chain S (Some tx)).writes (pairs_from _ _ (writes_in_order app tx (time_at tx.height chain) S))
    where
      not_less : (o : _) → o ≡ Equal → o ≡ Less → ⊥
      not_less o tied less = cc

module _ (app : App) (chain : List SealedBlock) (block : Block) where
  abbrev pub ran_at : Tables → ℕ → Ran
  ran_at S pos = run_on app chain S (tx_at block.txs pos)

  -- tables with a transaction's net writes put at its position
  abbrev pub with_writes : Tables → Committed → Tables
  with_writes S done = set_stamped S (stamps block.number done.pos done.writes)

  -- the tables after the writes of transactions, one after another
  abbrev pub after : List Committed → Tables → Tables
  after [] S = S
  after (done ∷ rest) S = after rest (with_writes S done)

  -- its run on some tables is that on the tables of its own height, and what is recorded of it
  pub record RunsAgain (S : Tables) (done : Committed) : Type 0 where
    pub same : ran_at S done.pos ≡ committed_run app chain block done
    pub recorded : IsRecorded (committed_run app chain block done) done

  pub writes_of : (S : Tables) (done : Committed) → RunsAgain S done → (ran_at S done.pos).writes ≡ done.writes
  writes_of S done runs = ap (λ (ran : Ran). ran.writes) runs.same ∙ runs.recorded.writes

  reads_of : (S : Tables) (done : Committed) → RunsAgain S done → (ran_at S done.pos).reads ≡ done.reads
  reads_of S done runs = ap (λ (ran : Ran). ran.reads) runs.same ∙ runs.recorded.reads

  pub their_fits : (S : Tables) → TablesFit (tables_of app) S → (done : Committed) → RunsAgain S done → All (WriteFitsIn (tables_of app)) done.writes
  their_fits S fit done runs = subst (All (WriteFitsIn (tables_of app))) (writes_of S done runs) (fits app chain (tx_at block.txs done.pos) S fit)

  pub their_story : (S : Tables) → TablesFit (tables_of app) S → (done : Committed) → RunsAgain S done → IsStory (stamps block.number done.pos done.writes) S
  their_story S fit done runs =
      subst (λ writes. IsStory (stamps block.number done.pos writes) S) (writes_of S done runs)
      (own_story block.number done.pos (ran_at S done.pos).writes S
      (all_at (λ write. Finds (finite.get S (write_ref write)) write) (ran_at S done.pos).writes (found app chain (tx_at block.txs done.pos) S fit)) (once app chain (tx_at block.txs done.pos) S))

  -- a transaction without an edge to another runs as before once the other's writes are put
  run_kept : (t u : Committed) (S : Tables) → TablesFit (tables_of app) S → RunsAgain S t → RunsAgain S u → touches (tables_of app) t.reads u.writes ≡ false → RunsAgain (with_writes S u) t
  run_kept t u S fit runs_t runs_u apart = record {
    same = frame app chain (tx_at block.txs t.pos) S (with_writes S u) (all_from (λ made. rows_in (tables_of app) made.read (with_writes S u) ≡ rows_in (tables_of app) made.read S) (ran_at S t.pos).reads (λ made h.
        rows_stay (tables_of app) made.read (stamps block.number u.pos u.writes) S (their_story S fit u runs_u) (each_stamp block.number u.pos (λ s. hits_in (tables_of app) made.read s.1.write ≡ false) u.writes (λ v k.
        any_false (hits_in (tables_of app) made.read) u.writes
        (any_false (λ (m : Made). list_any (hits_in (tables_of app) m.read) u.writes) t.reads apart made (subst (In made) (reads_of S t runs_t) h)) v k))))
        ∙ runs_t.same;
    recorded = runs_t.recorded;
  }

  replays : (list : List Committed) (S : Tables) → AreMade (tables_of app) block.number S → ((t : Committed) → In t list → RunsAgain S t) → Pairs (λ u t. touches (tables_of app) t.reads u.writes ≡ false) list
      → replay app chain block S (map (λ done. done.pos) list) ≡ record { runs = map (committed_run app chain block) list; tables = after list S }
  replays [] S made runs apart = refl
  replays (u ∷ rest) S made runs apart =
      let fit = made_fit (tables_of app) block.number S made in
      ap (λ (ran : Ran). after_run ran (replay app chain block (set_stamped S (stamps block.number u.pos (ran_at S u.pos).writes)) (map (λ done. done.pos) rest))) (runs u (inl refl)).same
      ∙ ap (λ writes. after_run (committed_run app chain block u) (replay app chain block (set_stamped S (stamps block.number u.pos writes)) (map (λ done. done.pos) rest))) (writes_of S u (runs u (inl refl)))
      ∙ ap (after_run (committed_run app chain block u)) (replays rest (with_writes S u) (made_more (tables_of app) block.number u.pos u.writes S made (their_fits S fit u (runs u (inl refl))))
      (λ t h. run_kept t u S fit (runs t (inr h)) (runs u (inl refl)) (each_at (λ t. touches (tables_of app) t.reads u.writes ≡ false) rest apart.0 t h)) apart.1)

  -- ---- the tables at the end

  abbrev pub Apart : Committed → Committed → Type 0
  Apart t u = KeysApart t.writes u.writes

  after_takes : {u : Committed} (set rest : List Committed) → Takes u set rest → Pairs Apart set → (S : Tables) → after set S ≡ after rest (with_writes S u)
  after_takes set rest here apart S = refl
  after_takes {u} set rest (there {x = x} {xs = xs} {rest = more} t) apart S =
      after_takes xs more t apart.1 (with_writes S x)
      ∙ ap (after more) (puts_commute block.number x.pos u.pos x.writes u.writes S (each_at (Apart x) xs apart.0 u (takes_in xs more t)))

  after_picks : (set list : List Committed) → Picks set list → Pairs Apart set → (S : Tables) → after set S ≡ after list S
  after_picks set list nothing apart S = refl
  after_picks set list (pick {u = u} {rest = rest} {list = more} t p) apart S =
      after_takes set rest t apart S ∙ after_picks rest more p (takes_pairs Apart set rest t apart) (with_writes S u)

  -- ---- the block

  -- the committed transactions of a block, on the tables before it
  pub record AreOfBlock (S : Tables) (committed : List Committed) : Type 0 where
    pub made : AreMade (tables_of app) block.number S
    pub rise : Pairs Rises committed
    pub apart : Pairs Apart committed
    pub runs : (t : Committed) → In t committed → RunsAgain S t

  no_touch : (t u : Committed) → u.pos ≢ t.pos → edge (tables_of app) t u ≡ false → touches (tables_of app) t.reads u.writes ≡ false
  no_touch t u differ e =
      and_right (not (nat_eq t.pos u.pos)) _ (⊎_elim (λ same. absurd (differ (sym same.1))) (λ other. ap not other.0) (eqb_tells t.pos u.pos)) e

  pub block_replays : (S : Tables) (committed list : List Committed) → AreOfBlock S committed → IsSerialOrder (edge (tables_of app)) committed list
      → replay app chain block S (map (λ done. done.pos) list) ≡ record { runs = map (committed_run app chain block) list; tables = after committed S }
  block_replays S committed list are order =
      let far : Pairs (λ t u. t.pos ≢ u.pos) committed = pairs_weaker Rises (λ t u. t.pos ≢ u.pos) (λ x y lt e. omega (arith, lt, e)) committed are.rise in
      let picks = picks_from_permutation (λ (t : Committed). t.pos) committed list far order.permutation in
      let apart = pairs_both (λ u t. u.pos ≢ t.pos) (λ u t. edge (tables_of app) t u ≡ false) (λ u t. touches (tables_of app) t.reads u.writes ≡ false) (λ u t differ e. no_touch t u differ e) list
      (picks_pairs (λ t u. t.pos ≢ u.pos) (λ x y differ e. differ (sym e)) committed list picks far) (pairs_from (λ u t. edge (tables_of app) t u ≡ false) list order.forward) in
      replays list S are.made (λ t h. are.runs t (picks_in committed list picks t h)) apart
      ∙ ap (λ T. record { runs = map (committed_run app chain block) list; tables = T }) (sym (after_picks committed list picks are.apart S))
