-- A chain grows by a block, and the laws of each block of it.
use Rattle.std.proofs.Common.{All, List, None, Some, [], ap, append_assoc, arith, inl, inr, length, map, refl, subst, sym, ⊎_elim, ◌+◌, ◌++◌, ◌∙◌, ◌≡◌, ◌∷◌, ℕ}
use Rattle.node_model.specs.Decide.{fault_outcome, run_at}
use Rattle.node_model.specs.Edges.{edge}
use Rattle.node_model.specs.Fold.{fold, fold_from, seal}
use Rattle.node_model.specs.History.{SealedBlock, history_of, placed_of, snapshot, stamped_of, time_at}
use Rattle.node_model.specs.Order.{order}
use Rattle.node_model.specs.declared.result.Committed.{Committed}
use Rattle.proc_check.proofs.Typed_runs.{checked_runs}
use Rattle.proc_check.specs.Laws.{IsTyped}
use Rattle.proc_syntax.specs.Declaring.{tables_of}
use Rattle.proc_syntax.specs.declared.call.Block.{Block}
use Rattle.proc_syntax.specs.declared.run.Ending.TheVariants.{Faulted, Good, IllTyped}
use Rattle.proc_syntax.specs.declared.run.Ending.{Ending}
use Rattle.proc_syntax.specs.declared.tree.App.{App}
use Rattle.rel_base.specs.Among.{WriteFitsIn}
use Rattle.rel_base.specs.Late.{late}
use Rattle.rel_base.specs.Tables.{Finds, HistoryFits, Stamped, Tables, no_tables, set_stamped, write_ref, writes_between}
use Rattle.rel_base.specs.declared.access.Write.{Write}
use Rattle.rel_base.specs.declared.schema.TableDef.{TableDef}
use Rattle.rw_graph.proofs.Firsts.{in_append}
use Rattle.rw_graph.proofs.Lists.{In, Pairs, each_at, each_from}
use Rattle.serial_order.proofs.Each.{all_at, all_from}
use Rattle.serial_laws.proofs.Admitted.{order_is_serial}
use Rattle.serial_laws.proofs.Fitting.{FitsAt, fits_stamps, made_fit, tables_fit}
use Rattle.serial_laws.proofs.Folding.{admitted, at_end, of_block}
use Rattle.serial_laws.proofs.Past.{ByBlock, IsPast, run_stays, whole}
use Rattle.serial_laws.proofs.Replaying.{Apart, AreOfBlock, after, block_replays, found, once, ran_at, their_fits, with_writes, writes_of}
use Rattle.serial_laws.proofs.Stories.{IsStory, each_stamp, find_kept, own_story, set_append, story_append}
use Rattle.serial_laws.specs.Chained.{AreNumbered, IsNext}
use Rattle.serial_laws.specs.Laws.{CommittedAreAdmitted, CommittedAreRecorded, CommittedEndWell, RunsStay, SerialOrdersReplay, TheOrderReplays}
use Rattle.serial_laws.specs.Replay.{IsRecorded, committed_run, own_run, run_on, stamps, tx_at}
use Rattle.std.proofs.lemmas.List.Elements.{All-append, All-nil}
use Rattle.std.proofs.lemmas.List.{append-nil, map-append}
use Rattle.std.proofs.lemmas.Simd.{map-map}
use Rattle.std.specs.FinMap as finite
use Rattle.std.specs.Prelude.{◌-◌, ◌≢◌}

-- ---- the stamps of a block

-- the writes of committed transactions, each with the block's number and its position
all_stamps : ℕ → List Committed → List Stamped
all_stamps number [] = []
all_stamps number (done ∷ rest) = stamps number done.pos done.writes ++ all_stamps number rest

stamped_is : (number : ℕ) (committed : List Committed) → map (λ placed. (number, placed)) (placed_of committed) ≡ all_stamps number committed
unfolding all_stamps
stamped_is number [] = refl
stamped_is number (done ∷ rest) =
    map-append (λ placed. (number, placed)) (map (λ write. record { pos = done.pos; write = write }) done.writes) (placed_of rest)
    ∙ ap (λ front. front ++ map (λ placed. (number, placed)) (placed_of rest)) (map-map (λ placed. (number, placed)) (λ write. record { pos = done.pos; write = write }) done.writes)
    ∙ ap (λ back. stamps number done.pos done.writes ++ back) (stamped_is number rest)

pub history_grown : (chain : List SealedBlock) (block : SealedBlock) → history_of (chain ++ block ∷ []) ≡ history_of chain ++ stamped_of block
history_grown [] block = append-nil (stamped_of block)
history_grown (first ∷ chain) block = ap (λ rest. stamped_of first ++ rest) (history_grown chain block) ∙ sym (append_assoc (stamped_of first) (history_of chain) (stamped_of block))

at_number : (number : ℕ) (committed : List Committed) (s : Stamped) → In s (all_stamps number committed) → s.0 ≡ number
unfolding all_stamps
at_number number [] s h = absurd h
at_number number (done ∷ rest) s h = ⊎_elim
    (λ k. each_stamp number done.pos (λ s. s.0 ≡ number) done.writes (λ v l. refl) s k)
    (λ k. at_number number rest s k)
    (in_append (stamps number done.pos done.writes) (all_stamps number rest) s h)

pairs_of : {M : Type 0} (R : M → M → Type 0) (xs : List M) → ((x : M) → In x xs → (y : M) → In y xs → R x y) → Pairs R xs
pairs_of R [] f = tt
pairs_of R (x ∷ xs) f = (each_from (R x) xs (λ y h. f x (inl refl) y (inr h)), pairs_of R xs (λ y h z k. f y (inr h) z (inr k)))

in_front : {M : Type 0} (xs ys : List M) (x : M) → In x xs → In x (xs ++ ys)
in_front [] ys x h = absurd h
in_front (z ∷ xs) ys x (inl e) = inl e
in_front (z ∷ xs) ys x (inr h) = inr (in_front xs ys x h)

pairs_append : {M : Type 0} (R : M → M → Type 0) (xs ys : List M) → Pairs R xs → Pairs R ys → ((x : M) → In x xs → (y : M) → In y ys → R x y) → Pairs R (xs ++ ys)
pairs_append R [] ys p q f = q
pairs_append R (x ∷ xs) ys p q f =
    (each_from (R x) (xs ++ ys) (λ y h. ⊎_elim (λ k. each_at (R x) xs p.0 y k) (λ k. f x (inl refl) y k) (in_append xs ys y h)), pairs_append R xs ys p.1 q (λ y h. f y (inr h)))

fits_all : (tables : List TableDef) (number : ℕ) (committed : List Committed) → ((t : Committed) → In t committed → All (WriteFitsIn tables) t.writes) → HistoryFits tables (all_stamps number committed)
unfolding all_stamps
fits_all tables number [] fits = All-nil (FitsAt tables)
fits_all tables number (done ∷ rest) fits =
    All-append (FitsAt tables) (stamps number done.pos done.writes) (all_stamps number rest) (fits_stamps tables number done.pos done.writes (fits done (inl refl))) (fits_all tables number rest (λ t h. fits t (inr h)))

module _ (app : App) (chain : List SealedBlock) (block : Block) where
  after_is : (committed : List Committed) (S : Tables) → set_stamped S (all_stamps block.number committed) ≡ after app chain block committed S
  unfolding all_stamps
  after_is [] S = refl
  after_is (done ∷ rest) S = set_append (stamps block.number done.pos done.writes) (all_stamps block.number rest) S ∙ after_is rest (with_writes app chain block S done)

  story_all : (committed : List Committed) (S : Tables) → ((t : Committed) → In t committed → (v : Write) → In v t.writes → Finds (finite.get S (write_ref v)) v)
      → ((t : Committed) → In t committed → Pairs (λ v u. write_ref v ≢ write_ref u) t.writes) → Pairs (Apart app chain block) committed → IsStory (all_stamps block.number committed) S
  unfolding all_stamps
  story_all [] S found once apart = tt
  story_all (t ∷ ts) S found once apart =
      story_append (stamps block.number t.pos t.writes) (all_stamps block.number ts) S (own_story block.number t.pos t.writes S (found t (inl refl)) (once t (inl refl)))
      (story_all ts (with_writes app chain block S t)
      (λ u h v k. find_kept block.number t.pos t.writes S v (λ x l e. each_at (Apart app chain block t) ts apart.0 u h x l v k (sym e)) (found u (inr h) v k))
      (λ u h. once u (inr h)) apart.1)

  block_story : (committed : List Committed) (S : Tables) → AreOfBlock app chain block S committed → IsStory (all_stamps block.number committed) S
  block_story committed S are =
      let fit = made_fit (tables_of app) block.number S are.made in
      story_all committed S
      (λ t h v k. all_at (λ write. Finds (finite.get S (write_ref write)) write) (ran_at app chain block S t.pos).writes (found app chain (tx_at block.txs t.pos) S fit) v (subst (In v) (sym (writes_of app chain block S t (are.runs t h))) k))
      (λ t h. subst (Pairs (λ v u. write_ref v ≢ write_ref u)) (writes_of app chain block S t (are.runs t h)) (once app chain (tx_at block.txs t.pos) S))
      are.apart

  -- ---- the chain with the block

  module _ (last : ℕ) (past : IsPast (tables_of app) last chain) (next : block.number ≡ last + 1) where
    sealed_history : history_of (chain ++ seal app chain block ∷ []) ≡ history_of chain ++ all_stamps block.number (seal app chain block).committed
    sealed_history = history_grown chain (seal app chain block) ∙ ap (λ back. history_of chain ++ back) (stamped_is block.number (seal app chain block).committed)

    pub grown : IsPast (tables_of app) block.number (chain ++ seal app chain block ∷ [])
    grown =
        let committed : List Committed = (seal app chain block).committed in
        let are = of_block app chain block last past next in
        let fit = made_fit (tables_of app) block.number (snapshot last chain) are.made in
        let H : List Stamped = history_of chain in
        let W : List Stamped = all_stamps block.number committed in
        record {
          story = subst (λ l. IsStory l no_tables) (sym sealed_history) (story_append H W no_tables past.story (subst (IsStory W) (whole (tables_of app) last chain past last (omega arith)) (block_story committed (snapshot last chain) are)));
          fits = subst (HistoryFits (tables_of app)) (sym sealed_history) (All-append (FitsAt (tables_of app)) H W past.fits
              (fits_all (tables_of app) block.number committed (λ t h. their_fits app chain block (snapshot last chain) fit t (are.runs t h))));
          sorted = subst (Pairs ByBlock) (sym sealed_history) (pairs_append ByBlock H W past.sorted
              (pairs_of ByBlock W (λ x h y k. let low = at_number block.number committed x h in let high = at_number block.number committed y k in omega (arith, low, high)))
              (λ x h y k. let low = past.upto x h in let high = at_number block.number committed y k in omega (arith, low, high, next)));
          upto = λ s h. ⊎_elim (λ k. let low = past.upto s k in omega (arith, low, next)) (λ k. let here = at_number block.number committed s k in omega (arith, here))
              (in_append H W s (subst (In s) sealed_history h));
        }

    -- the tables after the block are those before it with the writes of what committed
    pub reaches : after app chain block (seal app chain block).committed (snapshot last chain) ≡ snapshot block.number (chain ++ seal app chain block ∷ [])
    reaches =
        sym (after_is (seal app chain block).committed (snapshot last chain))
        ∙ ap (λ S. set_stamped S (all_stamps block.number (seal app chain block).committed)) (whole (tables_of app) last chain past last (omega arith))
        ∙ sym (set_append (history_of chain) (all_stamps block.number (seal app chain block).committed) no_tables)
        ∙ ap (set_stamped no_tables) (sym sealed_history)
        ∙ sym (whole (tables_of app) block.number (chain ++ seal app chain block ∷ []) grown block.number (omega arith))

-- ---- chains of blocks

no_past : (tables : List TableDef) → IsPast tables 0 []
no_past tables = record { story = tt; fits = All-nil (FitsAt tables); sorted = tt; upto = λ s h. absurd h }

past_from : (app : App) (blocks : List Block) (chain : List SealedBlock) (last : ℕ) → IsPast (tables_of app) last chain → AreNumbered (last + 1) blocks → IsPast (tables_of app) (last + length blocks) (fold_from app chain blocks)
past_from app [] chain last past numbered = subst (λ n. IsPast (tables_of app) n chain) end past
  where
    end : last ≡ last + 0
    end = omega arith
past_from app (block ∷ rest) chain last past numbered =
    let end : (last + 1) + length rest ≡ last + length (block ∷ rest) = omega arith in
    subst (λ n. IsPast (tables_of app) n (fold_from app (chain ++ seal app chain block ∷ []) rest)) end
    (past_from app rest (chain ++ seal app chain block ∷ []) (last + 1) (subst (λ n. IsPast (tables_of app) n (chain ++ seal app chain block ∷ [])) numbered.0 (grown app chain block last past numbered.0)) numbered.1)

pub fold_more : (app : App) (blocks : List Block) (block : Block) (chain : List SealedBlock) → fold_from app chain (blocks ++ block ∷ []) ≡ fold_from app chain blocks ++ seal app (fold_from app chain blocks) block ∷ []
fold_more app [] block chain = refl
fold_more app (first ∷ rest) block chain = fold_more app rest block (chain ++ seal app chain first ∷ [])

module _ (app : App) (blocks : List Block) (block : Block) (is_next : IsNext blocks block) where
  past : IsPast (tables_of app) (length blocks) (fold app blocks)
  past =
      let count : 0 + length blocks ≡ length blocks = omega arith in
      subst (λ n. IsPast (tables_of app) n (fold app blocks)) count (past_from app blocks [] 0 (no_past (tables_of app)) is_next.before)

  below : block.number - 1 ≡ length blocks
  below = let e = is_next.next in omega (arith, e)

  pub block_of : AreOfBlock app (fold app blocks) block (snapshot (block.number - 1) (fold app blocks)) (seal app (fold app blocks) block).committed
  block_of = subst (λ n. AreOfBlock app (fold app blocks) block (snapshot n (fold app blocks)) (seal app (fold app blocks) block).committed) (sym below) (of_block app (fold app blocks) block (length blocks) past is_next.next)

  pub tables_after : after app (fold app blocks) block (seal app (fold app blocks) block).committed (snapshot (block.number - 1) (fold app blocks)) ≡ snapshot block.number (fold app (blocks ++ block ∷ []))
  tables_after =
      ap (λ n. after app (fold app blocks) block (seal app (fold app blocks) block).committed (snapshot n (fold app blocks))) below
      ∙ reaches app (fold app blocks) block (length blocks) past is_next.next ∙ ap (snapshot block.number) (sym (fold_more app blocks block []))

pub runs_stay : RunsStay
runs_stay app blocks block next tx early =
    let e : block.number - 1 ≡ length blocks = below app blocks block next in
    ap (λ n. run_on app (fold app blocks) (snapshot n (fold app blocks)) (Some tx)) e
    ∙ run_stays app (length blocks) (fold app blocks) (past app blocks block next) tx
    (subst (λ n. late (tables_of app) (map (λ made. made.read) (run_at app (fold app blocks) tx).reads) (writes_between tx.height n (history_of (fold app blocks))) ≡ None) e early)

pub committed_are_recorded : CommittedAreRecorded
committed_are_recorded app blocks block next =
    all_from (λ done. IsRecorded (committed_run app (fold app blocks) block done) done) (seal app (fold app blocks) block).committed (λ t h. ((block_of app blocks block next).runs t h).recorded)

-- a run that ended in no fault and is typed ended well
ended_well : (ending : Ending) → IsTyped ending → fault_outcome ending ≡ None → ending ≡ Good
ended_well Good typed e = refl
ended_well (Faulted fault) typed e = cc
ended_well IllTyped typed e = absurd typed

pub committed_end_well : CommittedEndWell
committed_end_well app blocks block next checked =
    all_from (λ done. (committed_run app (fold app blocks) block done).ending ≡ Good) (seal app (fold app blocks) block).committed (λ t h.
    let b = (at_end app (fold app blocks) block (length blocks) (past app blocks block next) next.next).begin t h in
    ended_well _ (subst (λ found. IsTyped (own_run app (fold app blocks) found).ending) (sym b.there)
    (checked_runs app b.tx (time_at b.tx.height (fold app blocks)) (snapshot b.tx.height (fold app blocks)) checked b.can
    (tables_fit (tables_of app) b.tx.height (history_of (fold app blocks)) (past app blocks block next).fits)))
    ((block_of app blocks block next).runs t h).recorded.no_fault)

pub serial_orders_replay : SerialOrdersReplay
serial_orders_replay app blocks block next list serial =
    block_replays app (fold app blocks) block (snapshot (block.number - 1) (fold app blocks)) (seal app (fold app blocks) block).committed list (block_of app blocks block next) serial
    ∙ ap (λ T. record { runs = map (committed_run app (fold app blocks) block) list; tables = T }) (tables_after app blocks block next)

pub committed_are_admitted : CommittedAreAdmitted
committed_are_admitted app blocks block next = admitted app (fold app blocks) block (length blocks) (past app blocks block next) next.next

pub the_order_replays : TheOrderReplays
the_order_replays app blocks block next =
    let committed : List Committed = (seal app (fold app blocks) block).committed in
    serial_orders_replay app blocks block next (order (edge (tables_of app)) committed) (order_is_serial app.exact (tables_of app) committed (committed_are_admitted app blocks block next))
