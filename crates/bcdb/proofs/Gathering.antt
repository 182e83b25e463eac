-- What arrives at nodes that are numbered one after another, node by node.
use Rattle.std.proofs.Common.{IfSome, List, None, Option, Some, [], ap, append-nil, append_assoc, arith, length, length-append, refl, suc, sym, zero, ◌+◌, ◌++◌, ◌<◌, ◌∙◌, ◌≡◌, ◌≤◌, ◌∷◌, ℕ}
use Rattle.std.specs.Prelude.{Err, Ok, Result}
use Rattle.bcdb.proofs.Planning.{allows_first, allows_rest, calls_sound, keeps_plan, one_turn, rose_first, rose_rest, turn_first, turn_rest}
use Rattle.bcdb.specs.ArrivalFiles.{all_arrived, arrived_before, arrived_in, file_at}
use Rattle.bcdb.specs.Plan.{AllowsPlan, AreSound, CallsFile, Counted, PlannedFile, RoseAt, RoseIn, arrivals_plan, planned_if}
use Rattle.bcdb.specs.declared.fault.FilesFault.TheVariants as fault
use Rattle.bcdb.specs.declared.fault.FilesFault.{FilesFault}
use Rattle.bcdb.specs.declared.refusal.BadArrivals.{BadArrivals}
use Rattle.edge_traits.specs.Causes.{Counts, Keeps, Leave}
use Rattle.edge_traits.specs.Shelf.{Files}
use Rattle.proc_syntax.specs.declared.call.Tx.{Tx}

-- what arrives at the first nodes, and then what comes of the others
abbrev pub before_all : List (List Tx) → Result (List (List Tx)) BadArrivals → Result (List (List Tx)) BadArrivals
before_all made (Err bad) = Err bad
before_all made (Ok others) = Ok (made ++ others)

-- The files of the nodes before one were read, and so many are left. What is left decides on all, its files may be read, and a read that fails of these is
-- one of all.
pub record Gathers (prefix : Option (List ℕ)) (nodes : ℕ) (told : Option Files) (may_read : Leave) (node : ℕ) (made : List (List Tx)) (left : ℕ) : Type 0 where
  pub count : length made + left ≡ nodes
  pub place : node ≡ length made + 1
  pub allows : AllowsPlan (arrivals_plan prefix node left) told may_read
  pub comes : IfSome told (λ files. all_arrived prefix 1 nodes files ≡ before_all made (all_arrived prefix node left files))
  pub rose : (before now : Counts) → RoseAt (arrivals_plan prefix node left) before now → RoseAt (arrivals_plan prefix 1 nodes) before now
  pub turns : (before now : Counts) → IfSome told (λ files. RoseIn (arrivals_plan prefix node left) files before now) → IfSome told (λ files. RoseIn (arrivals_plan prefix 1 nodes) files before now)

-- ---- the first node, and one after another

-- what comes of all is what comes after none
after_none : (others : Result (List (List Tx)) BadArrivals) → others ≡ before_all [] others
after_none (Ok others) = refl
after_none (Err bad) = refl

none_comes : (prefix : Option (List ℕ)) (nodes : ℕ) (told : Option Files) → IfSome told (λ files. all_arrived prefix 1 nodes files ≡ before_all [] (all_arrived prefix 1 nodes files))
none_comes prefix nodes None = tt
none_comes prefix nodes (Some files) = after_none (all_arrived prefix 1 nodes files)

pub gathers_none : (prefix : Option (List ℕ)) (nodes : ℕ) (told : Option Files) (may_read : Leave) → AllowsPlan (arrivals_plan prefix 1 nodes) told may_read
    → (left : ℕ) × Gathers prefix nodes told may_read 1 [] left
gathers_none prefix nodes told may_read allows =
    (nodes, record { count = omega arith; place = refl; allows = allows; comes = none_comes prefix nodes told; rose = λ before now rose. rose; turns = λ before now turn. turn })

-- what was read of one more node
after_one : (made : List (List Tx)) (node : ℕ) (txs : List Tx) (others : Result (List (List Tx)) BadArrivals) → before_all made (arrived_before node (Ok txs) others) ≡ before_all (made ++ txs ∷ []) others
after_one made node txs (Ok others) = ap Ok (sym (append_assoc made (txs ∷ []) others))
after_one made node txs (Err bad) = refl

one_comes : (prefix : Option (List ℕ)) (nodes : ℕ) (told : Option Files) (node left : ℕ) (made : List (List Tx)) (txs : List Tx) → IfSome told (λ files. arrived_in (file_at prefix node) files ≡ Ok txs)
    → IfSome told (λ files. all_arrived prefix 1 nodes files ≡ before_all made (all_arrived prefix node (suc left) files))
    → IfSome told (λ files. all_arrived prefix 1 nodes files ≡ before_all (made ++ txs ∷ []) (all_arrived prefix (node + 1) left files))
one_comes prefix nodes None node left made txs is comes = tt
one_comes prefix nodes (Some files) node left made txs is comes =
    comes ∙ ap (λ (found : Result (List Tx) ℕ). before_all made (arrived_before node found (all_arrived prefix (node + 1) left files))) is
    ∙ after_one made node txs (all_arrived prefix (node + 1) left files)

module _ (prefix : Option (List ℕ)) (nodes : ℕ) (told : Option Files) (may_read : Leave) (node : ℕ) (made : List (List Tx)) where
  abbrev here : List PlannedFile
  here = planned_if CallsFile (file_at prefix node)

  -- at a node that there is, one is left
  one_left : (left : ℕ) → Gathers prefix nodes told may_read node made left → node ≤ nodes → (rest : ℕ) × Gathers prefix nodes told may_read node made (suc rest)
  one_left zero g within = absurd (omega (arith, within, g.count, g.place))
  one_left (suc rest) g within = (rest, g)

  abbrev Stands : Type 0
  Stands = (left : ℕ) × Gathers prefix nodes told may_read node made left

  pub may_read_node : Stands → node ≤ nodes → AllowsPlan (planned_if CallsFile (file_at prefix node)) told may_read
  may_read_node g within = let one = one_left g.0 g.1 within in allows_first here (arrivals_plan prefix (node + 1) one.0) told may_read one.1.allows

  one_more : (new : Leave) (txs : List Tx) (rest : ℕ) → Gathers prefix nodes told may_read node made (suc rest) → IfSome told (λ files. arrived_in (file_at prefix node) files ≡ Ok txs) → Keeps may_read new
      → Gathers prefix nodes told new (node + 1) (made ++ txs ∷ []) rest
  one_more new txs rest g is keeps =
      let sound : IfSome told (AreSound here) = calls_sound told (file_at prefix node) txs is in
      let size : length (made ++ txs ∷ []) ≡ length made + 1 = length-append made (txs ∷ []) in
      let others = arrivals_plan prefix (node + 1) rest in
      record {
        count = omega (arith, size, g.count);
        place = omega (arith, size, g.place);
        allows = keeps_plan others told may_read new keeps (allows_rest here others told may_read g.allows sound);
        comes = one_comes prefix nodes told node rest made txs is g.comes;
        rose = λ before now risen. g.rose before now (rose_rest here others before now risen);
        turns = λ before now turn. g.turns before now (turn_rest told here others before now sound turn);
      }

  pub gathers_more : (new : Leave) (txs : List Tx) → Stands → node ≤ nodes → IfSome told (λ files. arrived_in (file_at prefix node) files ≡ Ok txs) → Keeps may_read new
      → (left : ℕ) × Gathers prefix nodes told new (node + 1) (made ++ txs ∷ []) left
  gathers_more new txs g within is keeps = let one = one_left g.0 g.1 within in (one.0, one_more new txs one.0 one.1 is keeps)

  -- a file with a fault is the first
  bad_comes : (told : Option Files) (rest line : ℕ) → IfSome told (λ files. all_arrived prefix 1 nodes files ≡ before_all made (all_arrived prefix node (suc rest) files))
      → IfSome told (λ files. arrived_in (file_at prefix node) files ≡ Err line) → IfSome told (λ files. all_arrived prefix 1 nodes files ≡ Err (record { node = node; line = line }))
  bad_comes None rest line comes is = tt
  bad_comes (Some files) rest line comes is =
      comes ∙ ap (λ (found : Result (List Tx) ℕ). before_all made (arrived_before node found (all_arrived prefix (node + 1) rest files))) is

  pub is_bad : (line : ℕ) → Stands → node ≤ nodes → IfSome told (λ files. arrived_in (file_at prefix node) files ≡ Err line)
      → IfSome told (λ files. all_arrived prefix 1 nodes files ≡ Err (record { node = node; line = line }))
  is_bad line g within is = let one = one_left g.0 g.1 within in bad_comes told one.0 line one.1.comes is

  -- a read of it that failed is one of the run, and in its turn
  pub rose_at : (before now : Counts) → Stands → node ≤ nodes → RoseAt (planned_if CallsFile (file_at prefix node)) before now → RoseAt (arrivals_plan prefix 1 nodes) before now
  rose_at before now g within rose =
      let one = one_left g.0 g.1 within in one.1.rose before now (rose_first here (arrivals_plan prefix (node + 1) one.0) before now rose)

  pub rose_in : (before now : Counts) → Stands → node ≤ nodes → RoseAt (planned_if CallsFile (file_at prefix node)) before now
      → IfSome told (λ files. RoseIn (arrivals_plan prefix 1 nodes) files before now)
  rose_in before now g within rose =
      let one = one_left g.0 g.1 within in
      one.1.turns before now (turn_first told here (arrivals_plan prefix (node + 1) one.0) before now (one_turn told CallsFile (file_at prefix node) before now rose))

  -- what a failed read of it makes of the run
  pub failed_counts : (T U : Type 0) (why : FilesFault) (before now : Counts) → Stands → node ≤ nodes
      → Counted {T = T} (Err why) (RoseAt (planned_if CallsFile (file_at prefix node)) before now) before now
      → Counted {T = U} (Err why) (RoseAt (arrivals_plan prefix 1 nodes) before now) before now
  failed_counts T U fault.Failed before now g within counted = rose_at before now g within counted
  failed_counts T U fault.NoMemory before now g within counted = counted

  pub failed_turns : {U : Type 0} (T : Type 0) (result : Result U FilesFault) (why : FilesFault) (before now : Counts) → Stands → node ≤ nodes
      → Counted {T = T} (Err why) (RoseAt (planned_if CallsFile (file_at prefix node)) before now) before now → result ≡ Err why → result ≡ Err fault.Failed
      → IfSome told (λ files. RoseIn (arrivals_plan prefix 1 nodes) files before now)
  failed_turns T result fault.Failed before now g within counted same is = rose_in before now g within counted
  failed_turns T result fault.NoMemory before now g within counted same is = absurd (cc)

  -- after the last node all is read
  none_left : (left : ℕ) → Gathers prefix nodes told may_read node made left → nodes < node → Gathers prefix nodes told may_read node made zero
  none_left zero g past = g
  none_left (suc rest) g past = absurd (omega (arith, past, g.count, g.place))

  all_come : (told : Option Files) → IfSome told (λ files. all_arrived prefix 1 nodes files ≡ before_all made (all_arrived prefix node zero files))
      → IfSome told (λ files. all_arrived prefix 1 nodes files ≡ Ok made)
  all_come None comes = tt
  all_come (Some files) comes = comes ∙ ap Ok (append-nil made)

  pub all_read : Stands → nodes < node → IfSome told (λ files. all_arrived prefix 1 nodes files ≡ Ok made)
  all_read g past = all_come told (none_left g.0 g.1 past).comes

  pub all_counted : Stands → nodes < node → length made ≡ nodes
  all_counted g past = let none = none_left g.0 g.1 past in omega (arith, none.count)
