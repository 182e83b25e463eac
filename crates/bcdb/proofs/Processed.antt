-- A node that is given blocks one after another, and processes those up to a height.
use Rattle.std.proofs.Common.{IfSome, List, None, Option, Some, [], ap, arith, length, length-append, refl, subst, sym, take, ◌+◌, ◌++◌, ◌<◌, ◌∙◌, ◌≡◌, ◌≤◌, ◌∷◌, ℕ}
use Rattle.std.proofs.lemmas.List.{take-append-le, take_all}
use Rattle.bcdb.proofs.Sooner.{count_fold}
use Rattle.bcdb.specs.Folds.{Folds, HasFolded, HoldsFirst, all_blocks, app_of}
use Rattle.bcdb.specs.Reading.{HasRead}
use Rattle.bcdb.specs.declared.folding.Folded.{Folded}
use Rattle.bcdb.specs.declared.folding.Folding.{Folding}
use Rattle.block_work.specs.Chain.{StoreFits}
use Rattle.block_work.specs.Ids.{AreUpTo}
use Rattle.block_work.specs.declared.ids.IdIndex.{IdIndex}
use Rattle.chain_file.specs.Chain.{chain}
use Rattle.chain_file.specs.Files.{FilesAreNumbered}
use Rattle.chain_file.specs.Following.{WasFed}
use Rattle.chain_file.specs.Numbered.{NumberedFrom}
use Rattle.checkpoint.proofs.Folding.{results_length}
use Rattle.edge_traits.specs.Shelf.{Files}
use Rattle.node_model.specs.Fold.{fold, no_digest}
use Rattle.node_model.specs.declared.result.BlockResult.{BlockResult}
use Rattle.plain_node.specs.Holding.{HoldsFold}
use Rattle.proc_syntax.specs.Declaring.{tables_of}
use Rattle.proc_syntax.specs.declared.call.Block.{Block}
use Rattle.proc_syntax.specs.declared.chain_fault.ChainFault.{ChainFault}
use Rattle.proc_syntax.specs.declared.tree.App.{App}
use Rattle.rel_base.specs.Tables.{Stamped}
use Rattle.rel_base.specs.declared.schema.TableDef.{TableDef}

-- before the first block it holds the fold of none
pub none_held : (height : ℕ) (own : App) (tables : List TableDef) (history : List Stamped) (ids : IdIndex) (results : List BlockResult) → StoreFits own tables history results → AreUpTo (length results) ids
    → HoldsFold own [] history ids results → HoldsFirst height [] 0 own tables history ids results
none_held height own tables history ids results fits upto holds =
    let none : take height [] ≡ [] = take_all height [] (omega (arith)) in
    record {
      count = refl;
      fits = fits;
      upto = upto;
      holds = subst (λ (bs : List Block). HoldsFold own bs history ids results) (sym none) holds;
    }

-- it has as many results as it processed blocks
pub held_long : (height : ℕ) (blocks : List Block) (taken : ℕ) (own : App) (tables : List TableDef) (history : List Stamped) (ids : IdIndex) (results : List BlockResult) → HoldsFirst height blocks taken own tables history ids results
    → length results ≡ length (take height blocks)
held_long height blocks taken own tables history ids results has =
    ap length has.holds.chain.results ∙ results_length (tables_of own) no_digest (fold own (take height blocks)) ∙ count_fold own (take height blocks)

-- so a block up to the height is its next
pub next_number : (height number : ℕ) (blocks : List Block) (taken : ℕ) (own : App) (tables : List TableDef) (history : List Stamped) (ids : IdIndex) (results : List BlockResult)
    → HoldsFirst height blocks taken own tables history ids results → number ≡ taken + 1 → number ≤ height → number ≡ length results + 1
next_number height number blocks taken own tables history ids results has is low =
    let long = held_long height blocks taken own tables history ids results has in
    let count = has.count in
    let whole : length (take height blocks) ≡ length blocks = ap length (take_all height blocks (omega (arith, low, is, count))) in
    omega (arith, is, count, long, whole)

-- which it processes
pub next_held : (height : ℕ) (block : Block) (taken : ℕ) (own now : App) (tables defs : List TableDef) (history later : List Stamped) (ids more : IdIndex) (results made : List BlockResult)
    → block.number ≡ taken + 1 → block.number ≤ height → now ≡ own → StoreFits now defs later made → AreUpTo (length made) more
    → ((blocks : List Block) → HoldsFold own blocks history ids results → HoldsFold own (blocks ++ block ∷ []) later more made)
    → (blocks : List Block) → HoldsFirst height blocks taken own tables history ids results → HoldsFirst height (blocks ++ block ∷ []) block.number now defs later more made
next_held height block taken own now tables defs history later ids more results made is low same fits upto step blocks has =
    let count = has.count in
    let long = length-append blocks (block ∷ []) in
    let whole : take height blocks ≡ blocks = take_all height blocks (omega (arith, low, is, count)) in
    let longer : take height (blocks ++ block ∷ []) ≡ blocks ++ block ∷ [] = take_all height (blocks ++ block ∷ []) (omega (arith, low, is, count, long)) in
    record {
      count = omega (arith, is, count, long);
      fits = fits;
      upto = upto;
      holds = subst (λ (app : App). HoldsFold app (take height (blocks ++ block ∷ [])) later more made) (sym same)
          (subst (λ (bs : List Block). HoldsFold own bs later more made) (sym longer)
          (step blocks (subst (λ (bs : List Block). HoldsFold own bs history ids results) whole has.holds)));
    }

-- and one above the height changes nothing of it
pub passed_held : (height : ℕ) (block : Block) (taken : ℕ) (own : App) (tables : List TableDef) (history : List Stamped) (ids : IdIndex) (results : List BlockResult)
    → block.number ≡ taken + 1 → height < block.number
    → (blocks : List Block) → HoldsFirst height blocks taken own tables history ids results → HoldsFirst height (blocks ++ block ∷ []) block.number own tables history ids results
passed_held height block taken own tables history ids results is high blocks has =
    let count = has.count in
    let long = length-append blocks (block ∷ []) in
    record {
      count = omega (arith, is, count, long);
      fits = has.fits;
      upto = has.upto;
      holds = subst (λ (bs : List Block). HoldsFold own bs history ids results) (sym (take-append-le height blocks (block ∷ []) (omega (arith, high, is, count)))) has.holds;
    }

-- where fewer blocks than the height were given, all of them are held
pub all_held : (blocks : List Block) (taken : ℕ) (own : App) (tables : List TableDef) (history : List Stamped) (ids : IdIndex) (results : List BlockResult) → taken ≤ all_blocks
    → HoldsFirst all_blocks blocks taken own tables history ids results → HoldsFold own blocks history ids results
all_held blocks taken own tables history ids results low has =
    let count = has.count in
    subst (λ (bs : List Block). HoldsFold own bs history ids results) (take_all all_blocks blocks (omega (arith, low, count))) has.holds

-- ---- numbers

-- the block after some numbered ones has the next number
pub number_after : (n : ℕ) (before : List Block) (block : Block) (rest : List Block) → NumberedFrom n (before ++ block ∷ rest) → block.number ≡ n + length before
number_after n [] block rest numbered = omega (arith, numbered.0)
number_after n (first ∷ before) block rest numbered = let is = number_after (n + 1) before block rest numbered.1 in omega (arith, is)

-- ---- a file

whole : (told : Option Files) (name bytes : List ℕ) (met : Option ChainFault) → (chain bytes).1 ≡ met → IfSome told (λ files. bytes ≡ files name)
    → IfSome told (λ files. chain (files name) ≡ ((chain bytes).0, met))
whole None name bytes met is same = tt
whole (Some files) name bytes met is same = ap chain (sym same) ∙ ap (λ (found : Option ChainFault). ((chain bytes).0, found)) is

stopped : (told : Option Files) (name bytes : List ℕ) (found : ChainFault) (met : Option ChainFault) → met ≡ Some found → IfSome told (λ files. chain (files name) ≡ ((chain bytes).0, Some found))
    → IfSome told (λ files. chain (files name) ≡ ((chain bytes).0, met))
stopped None name bytes found met is stops = tt
stopped (Some files) name bytes found met is stops = stops ∙ ap (λ (end : Option ChainFault). ((chain bytes).0, end)) (sym is)

-- once a file was read, the blocks that were given are those before its first fault
pub folds_end : (told : Option Files) (name : List ℕ) (folding : Folding) (stop met : Option ChainFault) → FilesAreNumbered
    → (stop ≡ None → (bytes : List ℕ) → WasFed folding.reader bytes → (chain bytes).1 ≡ met) → ((found : ChainFault) → stop ≡ Some found → met ≡ Some found) → HasRead told name (HasFolded folding) stop
    → (blocks : List Block) × ((NumberedFrom 1 blocks
    × HoldsFirst folding.height blocks folding.taken folding.node.chain.app.value.app folding.node.chain.versions.0 folding.node.chain.versions.1.0 folding.node.ids folding.node.chain.blocks)
    × IfSome told (λ files. chain (files name) ≡ (blocks, met)))
folds_end told name folding None met numbered ends stops read =
    ((chain read.bytes).0, ((numbered read.bytes, read.follows.holds), whole told name read.bytes met (ends refl read.bytes read.follows.fed) read.whole))
folds_end told name folding (Some found) met numbered ends stops read =
    ((chain read.bytes).0, ((numbered read.bytes, read.follows.holds), stopped told name read.bytes found met (stops found refl) read.stops))

-- so all of its blocks are held that are at most as high as any can be
pub folds_held : (blocks : List Block) (folded : Folded) → Folds all_blocks blocks folded → HoldsFold (app_of folded) blocks folded.node.chain.versions.1.0 folded.node.ids folded.node.chain.blocks
folds_held blocks folded folds =
    all_held blocks folded.taken (app_of folded) folded.node.chain.versions.0 folded.node.chain.versions.1.0 folded.node.ids folded.node.chain.blocks folds.few folds.holds

-- what never changes
abbrev run_app : App → Option (App × ℕ) → App
run_app other None = other
run_app other (Some run) = run.0

abbrev run_height : Option (App × ℕ) → ℕ
run_height None = 0
run_height (Some run) = run.1

pub same_app : (now old : App) (height first : ℕ) → ◌≡◌ {A = Option (App × ℕ)} (Some (now, height)) (Some (old, first)) → now ≡ old
same_app now old height first same = ap (run_app old) same

pub same_height : (now old : App) (height first : ℕ) → ◌≡◌ {A = Option (App × ℕ)} (Some (now, height)) (Some (old, first)) → height ≡ first
same_height now old height first same = ap run_height same
