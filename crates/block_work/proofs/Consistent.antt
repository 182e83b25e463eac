-- What a block in work keeps, as it grows.
use Rattle.std.proofs.Common.{All, Bool, List, [], ap, arith, false, length, refl, subst, sym, true, ◌++◌, ◌+◌, ◌<◌, ◌∙◌, ◌≡◌, ◌≤◌, ◌∷◌, ◌^◌, ℕ}
use Rattle.std.proofs.lemmas.List.Elements.{All-append, All-cons, All-map, All-nil, All-same, All-weaker, recursion_from_All}
use Rattle.std.proofs.lemmas.List.Kept.{AllPairs-cons}
use Rattle.std.proofs.lemmas.List.{length-append, length-map, map-append}
use Rattle.std.specs.List.{AllByRecursion}
use Rattle.std.specs.Prelude.{AllPairs, IsTrue}
use Rattle.block_digest.specs.Codable.{HasFewKey}
use Rattle.conflict_rules.specs.Marking.{IsDirectoryOf}
use Rattle.block_work.specs.Block.{CanCommitWith, IsConsistent, KeepsEdges, StandInOrder}
use Rattle.block_work.specs.Causes.{AreOwnEdges}
use Rattle.block_work.specs.declared.block.BlockInWork.{BlockInWork}
use Rattle.node_model.specs.Danger.{danger, danger_by}
use Rattle.node_model.specs.Edges.{comes_from, edge_at, leads_to}
use Rattle.node_model.specs.declared.outcome.Outcome.TheVariants as outcome
use Rattle.node_model.specs.declared.result.Committed.{Committed}
use Rattle.node_model.specs.declared.result.Told.{Told}
use Rattle.proc_syntax.specs.declared.run.Ran.{Ran}
use Rattle.rel_base.specs.Among.{WriteFitsIn}
use Rattle.rel_base.specs.declared.schema.TableDef.{TableDef}
use Rattle.row_sets.specs.Versions.{are_rising}
use Rattle.rw_graph.proofs.Shown.{are_among, danger_shown, grown}
use Rattle.rw_graph.specs.Fitting.{IsMember, ReadsFit}
use Rattle.rw_graph.specs.Graph.{has_edge, positions_of, with_position}
use Rattle.rw_graph.specs.Held.{holds}
use Rattle.rw_graph.specs.Laws.{places}
use Rattle.rw_graph.specs.Sets.{AreAmong, is_among}
use Rattle.rw_graph.specs.declared.edge_set.EdgeSet.{EdgeSet}
use Rattle.rw_graph.specs.declared.edges.Edges.{Edges}

-- ---- positions

pub low_below : (tables : List TableDef) (low high : ℕ) (committed : List Committed) → StandInOrder tables low committed high → low ≤ high
low_below tables low high [] are = are
low_below tables low high (done ∷ rest) are = let below = low_below tables done.pos high rest are.3 in omega (arith, are.0, below)

abbrev IsBetween : ℕ → ℕ → Committed → Type 0
IsBetween low high done = (low < done.pos) × (done.pos ≤ high)

all_between : (tables : List TableDef) (low high : ℕ) (committed : List Committed) → StandInOrder tables low committed high → All (IsBetween low high) committed
all_between tables low high [] are = All-nil (IsBetween low high)
all_between tables low high (done ∷ rest) are =
    let below = low_below tables done.pos high rest are.3 in
    All-cons (IsBetween low high) done rest (are.0, below)
    (All-weaker (IsBetween done.pos high) (IsBetween low high) (λ other between. let above = between.0 in let first = are.0 in (omega (arith, first, above), between.1)) rest (all_between tables done.pos high rest are.3))

all_under : (tables : List TableDef) (high pos : ℕ) (committed : List Committed) → StandInOrder tables 0 committed high → high < pos → All (λ done. done.pos < pos) committed
all_under tables high pos committed are above =
    All-weaker (IsBetween 0 high) (λ done. done.pos < pos) (λ done between. let within = between.1 in omega (arith, within, above)) committed (all_between tables 0 high committed are)

-- the positions of a block stand below the next one
pub all_above : (tables : List TableDef) (work : BlockInWork) (pos : ℕ) → IsConsistent tables work → pos ≡ length work.outcomes.items + 1 → All (λ other. other < pos) (positions_of work.edges)
all_above tables work pos is next =
    subst (All (λ other. other < pos)) (sym is.edges.positions)
    (All-map (λ other. other < pos) (λ done. done.pos) work.committed.items (all_under tables (length work.outcomes.items) pos work.committed.items is.committed (omega (arith, next))))

pub rising : (tables : List TableDef) (low high : ℕ) (committed : List Committed) → StandInOrder tables low committed high → AllPairs (λ earlier later. earlier.pos < later.pos) committed
rising tables low high [] are = λ i j d lt within. absurd (omega (arith, within))
rising tables low high (done ∷ rest) are =
    AllPairs-cons (λ (earlier later : Committed). earlier.pos < later.pos) done rest
    (All-weaker (IsBetween done.pos high) (λ later. done.pos < later.pos) (λ later between. between.0) rest (all_between tables done.pos high rest are.3)) (rising tables done.pos high rest are.3)

each_member : (tables : List TableDef) (low high : ℕ) (committed : List Committed) → StandInOrder tables low committed high → high ≤ 1024
    → AllByRecursion (λ done. ReadsFit tables done.reads) committed → All (IsMember tables) committed
each_member tables low high [] are upto reads = All-nil (IsMember tables)
each_member tables low high (done ∷ rest) are upto reads =
    let below = low_below tables done.pos high rest are.3 in
    let above = are.0 in
    All-cons (IsMember tables) done rest (record { counts = omega (arith, above); upto = omega (arith, below, upto); reads = reads.0; writes = are.1 })
    (each_member tables done.pos high rest are.3 upto reads.1)

pub are_members : (tables : List TableDef) (work : BlockInWork) → IsConsistent tables work → length work.outcomes.items < 1024 → All (IsMember tables) work.committed.items
are_members tables work is few =
    each_member tables 0 (length work.outcomes.items) work.committed.items is.committed (omega (arith, few)) (recursion_from_All (λ done. ReadsFit tables done.reads) work.committed.items is.reads)

-- one more committed transaction, at a position above the others
in_order_grown : (tables : List TableDef) (low high : ℕ) (committed : List Committed) (done : Committed) → StandInOrder tables low committed high → high < done.pos
    → All (WriteFitsIn tables) done.writes → IsTrue (are_rising done.writes) → StandInOrder tables low (committed ++ done ∷ []) done.pos
in_order_grown tables low high [] done are above fit rise = (omega (arith, are, above), fit, rise, omega arith)
in_order_grown tables low high (first ∷ rest) done are above fit rise = (are.0, are.1, are.2, in_order_grown tables first.pos high rest done are.3 above fit rise)

-- no more committed transactions, and a higher end
pub in_order_longer : (tables : List TableDef) (low high higher : ℕ) (committed : List Committed) → StandInOrder tables low committed high → high ≤ higher → StandInOrder tables low committed higher
in_order_longer tables low high higher [] are le = omega (arith, are, le)
in_order_longer tables low high higher (first ∷ rest) are le = (are.0, are.1, are.2, in_order_longer tables first.pos high higher rest are.3 le)

-- there are no more committed transactions than positions
pub fewer : (tables : List TableDef) (low high : ℕ) (committed : List Committed) → StandInOrder tables low committed high → low + length committed ≤ high
fewer tables low high [] are = omega (arith, are)
fewer tables low high (done ∷ rest) are =
    let others = fewer tables done.pos high rest are.3 in
    let above = are.0 in
    omega (arith, others, above)

-- ---- the danger of a transaction

among_set : (set : EdgeSet) (committed : List Committed) (held test : ℕ → Bool) → positions_of set ≡ places committed → ((pos : ℕ) → held pos ≡ test pos) → AreAmong (places committed) test → AreAmong (positions_of set) held
among_set set committed held test same is among = λ number holds. subst (λ list. is_among list number ≡ true) (sym same) (among number (sym (is number) ∙ holds))

module _ (tables : List TableDef) (work : BlockInWork) (ran : Ran) (edges : Edges) (is : IsConsistent tables work) where
  pub out_among : ((pos : ℕ) → holds edges.out pos ≡ leads_to tables work.committed.items ran.reads pos) → AreAmong (positions_of work.edges) (holds edges.out)
  out_among out = among_set work.edges work.committed.items (holds edges.out) (leads_to tables work.committed.items ran.reads) is.edges.positions out (are_among tables work.committed.items ran.reads ran.writes).0

  pub into_among : ((pos : ℕ) → holds edges.into pos ≡ comes_from tables work.committed.items ran.writes pos) → AreAmong (positions_of work.edges) (holds edges.into)
  into_among into =
      among_set work.edges work.committed.items (holds edges.into) (comes_from tables work.committed.items ran.writes) is.edges.positions into (are_among tables work.committed.items ran.reads ran.writes).1

  pub danger_is : (exact : Bool) → ((pos : ℕ) → holds edges.out pos ≡ leads_to tables work.committed.items ran.reads pos)
      → ((pos : ℕ) → holds edges.into pos ≡ comes_from tables work.committed.items ran.writes pos)
      → danger_by (λ pos. pos) (has_edge work.edges) (holds edges.out) (holds edges.into) exact (positions_of work.edges) ≡ danger exact tables work.committed.items ran.reads ran.writes
  danger_is exact out into =
      (λ i. danger_by (λ pos. pos) (λ from to. is.edges.edges from to i) (λ pos. out pos i) (λ pos. into pos i) exact (is.edges.positions i))
      ∙ danger_shown exact tables work.committed.items ran.reads ran.writes (rising tables 0 (length work.outcomes.items) work.committed.items is.committed)

-- a block of few transactions has few positions
pub few_positions : (tables : List TableDef) (work : BlockInWork) → IsConsistent tables work → length work.outcomes.items < 1024 → length (positions_of work.edges) < 2 ^ 32
few_positions tables work is few =
    let all = fewer tables 0 (length work.outcomes.items) work.committed.items is.committed in
    let same : length (positions_of work.edges) ≡ length work.committed.items = ap length is.edges.positions ∙ length-map work.committed.items (λ done. done.pos) in
    omega (arith, all, same, few)

-- ---- a block that grows

abbrev HasFew : Committed → Type 0
HasFew done = length done.writes ≤ 100000

abbrev HasKey : Told → Type 0
HasKey told = HasFewKey told.outcome

-- nothing but the room for it has changed
pub same_consistent : (tables : List TableDef) (old new : BlockInWork) → new.outcomes.items ≡ old.outcomes.items → new.committed.items ≡ old.committed.items
    → ((all : List Committed) → IsDirectoryOf all old.directory → IsDirectoryOf all new.directory)
    → positions_of new.edges ≡ positions_of old.edges → ((from to : ℕ) → has_edge new.edges from to ≡ has_edge old.edges from to) → IsConsistent tables old → IsConsistent tables new
same_consistent tables old new outcomes committed directory positions edges is = record {
  committed = subst (λ high. StandInOrder tables 0 new.committed.items high) (sym (ap length outcomes)) (subst (λ all. StandInOrder tables 0 all (length old.outcomes.items)) (sym committed) is.committed);
  reads = All-same (λ done. ReadsFit tables done.reads) new.committed.items old.committed.items committed is.reads;
  few = All-same HasFew new.committed.items old.committed.items committed is.few;
  keys = All-same HasKey new.outcomes.items old.outcomes.items outcomes is.keys;
  directory = directory new.committed.items (subst (λ all. IsDirectoryOf all old.directory) (sym committed) is.directory);
  edges = record {
    positions = positions ∙ is.edges.positions ∙ sym (ap places committed);
    edges = λ from to. edges from to ∙ is.edges.edges from to ∙ sym (ap (λ all. edge_at tables all from to) committed);
  };
}

module _ (tables : List TableDef) (old new : BlockInWork) (is : IsConsistent tables old) where
  more_keys : (told : Told) → new.outcomes.items ≡ old.outcomes.items ++ told ∷ [] → HasFewKey told.outcome → All HasKey new.outcomes.items
  more_keys told outcomes key =
      All-same HasKey new.outcomes.items (old.outcomes.items ++ told ∷ []) outcomes (All-append HasKey old.outcomes.items (told ∷ []) is.keys (All-cons HasKey told [] key (All-nil HasKey)))

  -- a transaction was aborted
  pub after_abort : (told : Told) → HasFewKey told.outcome → new.outcomes.items ≡ old.outcomes.items ++ told ∷ [] → new.committed ≡ old.committed → new.directory ≡ old.directory → new.edges ≡ old.edges
      → IsConsistent tables new
  after_abort told key outcomes committed directory edges =
      let longer : length new.outcomes.items ≡ length old.outcomes.items + 1 = ap length outcomes ∙ length-append old.outcomes.items (told ∷ []) in
      let same : new.committed.items ≡ old.committed.items = ap (λ all. all.items) committed in
      record {
        committed = subst (λ high. StandInOrder tables 0 new.committed.items high) (sym longer)
            (subst (λ done. StandInOrder tables 0 done (length old.outcomes.items + 1)) (sym same)
            (in_order_longer tables 0 (length old.outcomes.items) (length old.outcomes.items + 1) old.committed.items is.committed (omega arith)));
        reads = All-same (λ done. ReadsFit tables done.reads) new.committed.items old.committed.items same is.reads;
        few = All-same HasFew new.committed.items old.committed.items same is.few;
        keys = more_keys told outcomes key;
        directory = subst (λ kept. IsDirectoryOf new.committed.items kept) (sym directory) (subst (λ done. IsDirectoryOf done old.directory) (sym same) is.directory);
        edges = subst (λ set. KeepsEdges tables new.committed.items set) (sym edges) (subst (λ done. KeepsEdges tables done old.edges) (sym same) is.edges);
      }

  keeps_more : (pos : ℕ) (ran : Ran) (own : Edges) → length old.outcomes.items < pos → AreOwnEdges tables old.committed.items ran own → positions_of new.edges ≡ positions_of old.edges ++ pos ∷ []
      → ((from to : ℕ) → has_edge new.edges from to ≡ with_position (has_edge old.edges) pos (holds own.out) (holds own.into) from to)
      → KeepsEdges tables (old.committed.items ++ record { pos = pos; reads = ran.reads; writes = ran.writes } ∷ []) new.edges
  keeps_more pos ran own above are positions edges = let done : Committed = record { pos = pos; reads = ran.reads; writes = ran.writes } in record {
    positions = positions ∙ ap (λ list. list ++ pos ∷ []) is.edges.positions ∙ sym (map-append (λ (done : Committed). done.pos) old.committed.items (done ∷ []));
    edges = λ from to. edges from to
        ∙ (λ i. with_position (λ p q. is.edges.edges p q i) pos (λ p. are.out p i) (λ p. are.into p i) from to)
        ∙ grown tables old.committed.items done (all_under tables (length old.outcomes.items) pos old.committed.items is.committed above) from to;
  }

  -- a transaction committed
  pub after_commit : (id : List ℕ) (pos : ℕ) (ran : Ran) (own : Edges) → CanCommitWith tables old ran own → pos ≡ length old.outcomes.items + 1
      → new.outcomes.items ≡ old.outcomes.items ++ record { id = id; outcome = outcome.Committed } ∷ []
      → new.committed.items ≡ old.committed.items ++ record { pos = pos; reads = ran.reads; writes = ran.writes } ∷ []
      → ((all : List Committed) (at : ℕ) → length all ≡ length old.committed.items → IsDirectoryOf all old.directory
      → IsDirectoryOf (all ++ record { pos = at; reads = ran.reads; writes = ran.writes } ∷ []) new.directory)
      → positions_of new.edges ≡ positions_of old.edges ++ pos ∷ []
      → ((from to : ℕ) → has_edge new.edges from to ≡ with_position (has_edge old.edges) pos (holds own.out) (holds own.into) from to)
      → IsConsistent tables new
  after_commit id pos ran own can next outcomes more directory positions edges =
      let done : Committed = record { pos = pos; reads = ran.reads; writes = ran.writes } in
      let told : Told = record { id = id; outcome = outcome.Committed } in
      let longer : length new.outcomes.items ≡ pos = ap length outcomes ∙ length-append old.outcomes.items (told ∷ []) ∙ sym next in
      record {
        committed = subst (λ high. StandInOrder tables 0 new.committed.items high) (sym longer)
            (subst (λ all. StandInOrder tables 0 all pos) (sym more)
            (in_order_grown tables 0 (length old.outcomes.items) old.committed.items done is.committed (omega (arith, next)) can.fits.writes can.fits.rise));
        reads = All-same (λ done. ReadsFit tables done.reads) new.committed.items (old.committed.items ++ done ∷ []) more
            (All-append (λ (done : Committed). ReadsFit tables done.reads) old.committed.items (done ∷ []) is.reads
            (All-cons (λ (done : Committed). ReadsFit tables done.reads) done [] can.fits.reads (All-nil (λ (done : Committed). ReadsFit tables done.reads))));
        few = All-same HasFew new.committed.items (old.committed.items ++ done ∷ []) more
            (All-append HasFew old.committed.items (done ∷ []) is.few (All-cons HasFew done [] can.fits.few_writes (All-nil HasFew)));
        keys = more_keys told outcomes tt;
        directory = subst (λ all. IsDirectoryOf all new.directory) (sym more) (directory old.committed.items pos refl is.directory);
        edges = subst (λ all. KeepsEdges tables all new.edges) (sym more) (keeps_more pos ran own (omega (arith, next)) can.own positions edges);
      }

-- ---- no transaction yet

pub consistent_at_start : (tables : List TableDef) (work : BlockInWork) → work.outcomes.items ≡ [] → work.committed.items ≡ [] → IsDirectoryOf [] work.directory → positions_of work.edges ≡ []
    → ((from to : ℕ) → has_edge work.edges from to ≡ false) → IsConsistent tables work
consistent_at_start tables work outcomes none directory positions edges = record {
  committed = subst (λ all. StandInOrder tables 0 all (length work.outcomes.items)) (sym none) (omega arith);
  reads = All-same (λ done. ReadsFit tables done.reads) work.committed.items [] none (All-nil (λ (done : Committed). ReadsFit tables done.reads));
  few = All-same HasFew work.committed.items [] none (All-nil HasFew);
  keys = All-same HasKey work.outcomes.items [] outcomes (All-nil HasKey);
  directory = subst (λ all. IsDirectoryOf all work.directory) (sym none) directory;
  edges = record {
    positions = positions ∙ sym (ap places none);
    edges = λ from to. edges from to ∙ sym (ap (λ all. edge_at tables all from to) none);
  };
}
