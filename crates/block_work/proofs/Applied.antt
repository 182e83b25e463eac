-- The writes of a block are applied, and the chain has one block more.
use Rattle.std.proofs.Common.{All, List, [], ap, append_assoc, arith, inl, inr, length, refl, subst, sym, ◌++◌, ◌+◌, ◌<◌, ◌∙◌, ◌≡◌, ◌≤◌, ◌∷◌, ℕ}
use Rattle.std.proofs.lemmas.List.Elements.{All-append, All-map, All-nil, All-same, All-weaker}
use Rattle.std.proofs.lemmas.List.{length-append}
use Rattle.block_work.proofs.Grown.{results_grown, stamps_placed}
use Rattle.block_work.specs.Block.{StandInOrder, sealed_of}
use Rattle.block_work.specs.Chain.{ResultsFrom, HoldsChain, StoreFits, IsUpTo, stamps}
use Rattle.block_digest.proofs.CommittedWrites.{placed_length}
use Rattle.block_work.specs.Results.{last_digest}
use Rattle.block_work.specs.declared.block.BlockInWork.{BlockInWork}
use Rattle.node_model.specs.Fold.{block_result}
use Rattle.node_model.specs.History.{SealedBlock, history_of, placed_of}
use Rattle.node_model.specs.declared.result.BlockResult.{BlockResult}
use Rattle.node_model.specs.declared.result.Committed.{Committed}
use Rattle.proc_syntax.specs.declared.tree.App.{App}
use Rattle.rel_base.specs.Among.{WriteFitsIn}
use Rattle.rel_base.specs.Tables.{HistoryFits, Stamped}
use Rattle.rel_base.specs.declared.access.Write.{Write}
use Rattle.rel_base.specs.declared.schema.TableDef.{TableDef}
use Rattle.rel_base.proofs.Lists.{all_of}
use Rattle.row_sets.specs.Versions.{IsBefore, stamped_at}
use Rattle.serial_laws.proofs.Growing.{history_grown}

-- ---- places

before_at : (number low pos : ℕ) (stamped : Stamped) → low < pos → IsUpTo number low stamped → IsBefore (record { block = number; pos = pos }) stamped
before_at number low pos stamped lt (inl below) = inl below
before_at number low pos stamped lt (inr here) = inr (here.0, omega (arith, lt, here.1))

pub all_before : (number low pos : ℕ) (history : List Stamped) → low < pos → All (IsUpTo number low) history → All (IsBefore (record { block = number; pos = pos })) history
all_before number low pos history lt all = All-weaker (IsUpTo number low) (IsBefore (record { block = number; pos = pos })) (λ stamped. before_at number low pos stamped lt) history all

higher_at : (number low pos : ℕ) (stamped : Stamped) → low < pos → IsUpTo number low stamped → IsUpTo number pos stamped
higher_at number low pos stamped lt (inl below) = inl below
higher_at number low pos stamped lt (inr here) = inr (here.0, omega (arith, lt, here.1))

up_to_itself : (number pos : ℕ) (write : Write) → IsUpTo number pos (number, record { pos = pos; write = write })
up_to_itself number pos write = inr (refl, omega arith)

all_up_to : (number low pos : ℕ) (history : List Stamped) (writes : List Write) → low < pos → All (IsUpTo number low) history
    → All (IsUpTo number pos) (history ++ stamped_at (record { block = number; pos = pos }) writes)
all_up_to number low pos history writes lt all =
    All-append (IsUpTo number pos) history (stamped_at (record { block = number; pos = pos }) writes)
    (All-weaker (IsUpTo number low) (IsUpTo number pos) (λ stamped. higher_at number low pos stamped lt) history all)
    (All-map (IsUpTo number pos) (λ write. (number, record { pos = pos; write = write })) writes (all_of (λ (write : Write). IsUpTo number pos (number, record { pos = pos; write = write })) (λ write. up_to_itself number pos write) writes))

pub none_yet : (number : ℕ) (history : List Stamped) → All (λ stamped. stamped.0 < number) history → All (IsUpTo number 0) history
none_yet number history all = All-weaker (λ stamped. stamped.0 < number) (IsUpTo number 0) (λ stamped below. inl below) history all

-- ---- one transaction after another

-- what the next transaction asks of the store
pub may_apply : (defs : List TableDef) (number last high spare : ℕ) (history : List Stamped) (done : Committed) (left rest : List Committed)
    → left ≡ done ∷ rest → StandInOrder defs last left high → length (placed_of left) ≤ spare
    → StandInOrder defs last (done ∷ rest) high × (length done.writes + length (placed_of rest) ≤ spare)
may_apply defs number last high spare history done left rest next are room = (
  subst (λ xs. StandInOrder defs last xs high) next are,
  subst (λ n. n ≤ spare) (ap (λ xs. length (placed_of xs)) next ∙ placed_length done rest) room,
)

-- the writes of the next transaction are applied
pub one_applied : (defs defs' : List TableDef) (number last high spare spare' : ℕ) (history history' whole : List Stamped) (done : Committed) (left rest : List Committed)
    → StandInOrder defs last left high → All (IsUpTo number last) history → history ++ stamps number left ≡ whole → length (placed_of left) ≤ spare
    → left ≡ done ∷ rest → defs' ≡ defs → history' ≡ history ++ stamped_at (record { block = number; pos = done.pos }) done.writes → spare' + length done.writes ≡ spare
    → StandInOrder defs' done.pos rest high × All (IsUpTo number done.pos) history' × (history' ++ stamps number rest ≡ whole) × (length (placed_of rest) ≤ spare')
one_applied defs defs' number last high spare spare' history history' whole done left rest are up_to is room next same wrote used =
    let may = may_apply defs number last high spare history done left rest next are room in
    let enough = may.1 in (
      subst (λ ds. StandInOrder ds done.pos rest high) (sym same) (may.0).3,
      All-same (IsUpTo number done.pos) history' (history ++ stamped_at (record { block = number; pos = done.pos }) done.writes) wrote (all_up_to number last done.pos history done.writes (may.0).0 up_to),
      ap (λ before. before ++ stamps number rest) wrote
          ∙ append_assoc history (stamped_at (record { block = number; pos = done.pos }) done.writes) (stamps number rest)
          ∙ ap (λ xs. history ++ stamps number xs) (sym next) ∙ is,
      omega (arith, used, enough),
    )

-- ---- the chain with the block

pub holds_more : (tables : List TableDef) (chain : List SealedBlock) (history history' : List Stamped) (results results' : List BlockResult) (work : BlockInWork) → HoldsChain tables chain history results
    → history' ≡ history ++ stamps work.number work.committed.items
    → results' ≡ results ++ block_result tables (last_digest results) (sealed_of work) ∷ []
    → HoldsChain tables (chain ++ sealed_of work ∷ []) history' results'
holds_more tables chain history history' results results' work holds wrote made = record {
  writes = wrote ∙ ap (λ before. before ++ stamps work.number work.committed.items) holds.writes
      ∙ ap (λ after. history_of chain ++ after) (stamps_placed work.number work.committed.items)
      ∙ sym (history_grown chain (sealed_of work));
  results = made ∙ ap (λ before. before ++ block_result tables (last_digest before) (sealed_of work) ∷ []) holds.results
      ∙ sym (results_grown tables chain (sealed_of work));
}

-- ---- what is needed of the store

abbrev FitsAt : List TableDef → Stamped → Type 0
FitsAt tables stamped = WriteFitsIn tables stamped.1.write

abbrev NotAbove : ℕ → Stamped → Type 0
NotAbove number stamped = stamped.0 ≤ number

itself : (number pos : ℕ) (write : Write) → NotAbove number (number, record { pos = pos; write = write })
itself number pos write = omega arith

fits_stamped : (tables : List TableDef) (number : ℕ) (committed : List Committed) (low high : ℕ) → StandInOrder tables low committed high → HistoryFits tables (stamps number committed)
fits_stamped tables number [] low high are = All-nil (FitsAt tables)
fits_stamped tables number (done ∷ rest) low high are =
    All-append (FitsAt tables) (stamped_at (record { block = number; pos = done.pos }) done.writes) (stamps number rest)
    (All-map (FitsAt tables) (λ write. (number, record { pos = done.pos; write = write })) done.writes are.1) (fits_stamped tables number rest done.pos high are.3)

at_number : (number : ℕ) (committed : List Committed) → All (λ stamped. stamped.0 ≤ number) (stamps number committed)
at_number number [] = All-nil (NotAbove number)
at_number number (done ∷ rest) =
    All-append (NotAbove number) (stamped_at (record { block = number; pos = done.pos }) done.writes) (stamps number rest)
    (All-map (NotAbove number) (λ write. (number, record { pos = done.pos; write = write })) done.writes
    (all_of (λ (write : Write). NotAbove number (number, record { pos = done.pos; write = write })) (λ write. itself number done.pos write) done.writes)) (at_number number rest)

numbered_more : (number : ℕ) (results : List BlockResult) (last : BlockResult) → ResultsFrom number results → last.number ≡ number + length results → ResultsFrom number (results ++ last ∷ [])
numbered_more number [] last are next = (omega (arith, next), tt)
numbered_more number (first ∷ rest) last are next = (are.0, numbered_more (number + 1) rest last are.1 (omega (arith, next)))

pub still_fits : (app : App) (tables tables' : List TableDef) (history history' : List Stamped) (results results' : List BlockResult) (last : BlockResult) (number high : ℕ) (committed : List Committed)
    → StoreFits app tables history results → StandInOrder tables 0 committed high → number ≡ length results + 1 → last.number ≡ number
    → tables' ≡ tables → history' ≡ history ++ stamps number committed → results' ≡ results ++ last ∷ []
    → StoreFits app tables' history' results'
still_fits app tables tables' history history' results results' last number high committed store are next named same wrote made =
    let longer : length results' ≡ length results + 1 = ap length made ∙ length-append results (last ∷ []) in
    record {
      declared = same ∙ store.declared;
      fits = subst (λ defs. HistoryFits defs history') (sym same)
          (All-same (FitsAt tables) history' (history ++ stamps number committed) wrote (All-append (FitsAt tables) history (stamps number committed) store.fits (fits_stamped tables number committed 0 high are)));
      below = All-same (NotAbove (length results')) history' (history ++ stamps number committed) wrote
          (All-append (NotAbove (length results')) history (stamps number committed)
          (All-weaker (λ (stamped : Stamped). stamped.0 ≤ length results) (λ stamped. stamped.0 ≤ length results') (λ stamped below. omega (arith, below, longer)) history store.below)
          (All-weaker (λ (stamped : Stamped). stamped.0 ≤ number) (λ stamped. stamped.0 ≤ length results') (λ stamped below. omega (arith, below, next, longer)) (stamps number committed) (at_number number committed)));
      numbered = subst (ResultsFrom 1) (sym made) (numbered_more 1 results last store.numbered (omega (arith, next, named)));
    }

pub all_below : (history : List Stamped) (count number : ℕ) → number ≡ count + 1 → All (λ stamped. stamped.0 ≤ count) history → All (λ stamped. stamped.0 < number) history
all_below history count number next all = All-weaker (λ (stamped : Stamped). stamped.0 ≤ count) (λ stamped. stamped.0 < number) (λ stamped below. omega (arith, below, next)) history all
