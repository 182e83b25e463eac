-- Passes that are split off and joined.
use Rattle.std.proofs.Common.{All, List, [], ap, length, length-append, subst, suc, sym, zero, ◌+◌, ◌++◌, ◌∙◌, ◌≡◌, ◌∷◌, ℕ}
use Rattle.std.proofs.lemmas.List.Elements.{All-append, All-cons, All-nil}
use Rattle.std.proofs.lemmas.Option.{none-some}
use mathlib.Core.List.{IsPrefix}
use Rattle.cluster_run.proofs.Following.{holder_goes}
use Rattle.cluster_run.specs.Arrivals.{arrived}
use Rattle.cluster_run.specs.Standing.{HasNone, SameBlocks, state_seen}
use Rattle.node_core.specs.Core.{Core}
use Rattle.node_model.specs.Journals.{IsLegal, delivered, world}
use Rattle.node_model.specs.World.{Holds, HoldsNone, Job, World}
use Rattle.node_model.specs.declared.journal.Entry.{Entry}
use Rattle.node_shared.proofs.Turns.{turns_find_own}
use Rattle.node_shared.specs.Turn.{IsFound, IsLook}
use Rattle.proc_syntax.specs.declared.tree.App.{App}
use Rattle.rel_base.proofs.Stories.{prefix_self, prefix_trans}
use Rattle.rel_base.specs.declared.storied.Storied.{Ghosts}
use Rattle.schedule_laws.proofs.Lasting.{others_leave}
use Rattle.schedule_laws.specs.Scheduled.{block_in}
use Rattle.schedule_laws.specs.Stable.{IsLater, entries_by}
use Rattle.turn_lock.specs.Passes.{IsNewPass, IsSameHolder, IsSamePass, mine, pass_base, pass_number, seen}
use Rattle.turn_lock.specs.declared.lock.TurnLock.{TurnLock}
use Rattle.turn_lock.specs.declared.pass.Pass.{Pass}

-- a list of which each has a property gains one that has it
pub all_more : {X : Type 0} (P : X → Type 0) (xs ys : List X) (x : X) → ys ≡ xs ++ x ∷ [] → All P xs → P x → All P ys
all_more P xs ys x is all last = subst (All P) (sym is) (All-append P xs (x ∷ []) all (All-cons P x [] last (All-nil P)))

-- a list that gains one
pub counts_one : {X : Type 0} (xs ys : List X) (x : X) → ys ≡ xs ++ x ∷ [] → length ys ≡ length xs + 1
counts_one xs ys x is = ap length is ∙ length-append xs (x ∷ [])

-- a list of which each has a value gains one that has it
pub all_snoc : {X Y : Type 0} (xs ys : List X) (x : X) (of : X → Y) (value : Y) → ys ≡ xs ++ x ∷ [] → All (λ one. of one ≡ value) xs → of x ≡ value → All (λ one. of one ≡ value) ys
all_snoc xs ys x of value = all_more (λ one. of one ≡ value) xs ys x

none_of_none : (actor number : ℕ) (job : Job) → Holds [] actor number job → ⊥
none_of_none actor zero job holds = none-some job holds.stands
none_of_none actor (suc place) job holds = none-some job holds.stands

-- an actor with no entry holds no job
quiet_none : (app : App) (journal : List Entry) (actor : ℕ) → IsLegal app journal → entries_by actor journal ≡ [] → HoldsNone (world app journal) actor
quiet_none app journal actor legal quiet number job holds = none_of_none actor number job (((others_leave app [] journal actor legal quiet).held number job).1 holds)

module _ {ghosts : Ghosts Core App Entry} where
  -- a pass that has seen more, and made nothing meanwhile
  module _ (old new : Pass Core App Entry ghosts) (same : IsSameHolder old new) (has : HasNone old) (found : IsFound (pass_base old) (pass_number old) (seen old) (mine old) (seen new)) (mine_same : mine new ≡ mine old) where
    later : IsLater (pass_base old) (pass_number old) (state_seen old) (world (pass_base old) (seen new))
    later = turns_find_own (pass_base old) (pass_number old) (seen old) (mine old) (seen new) has.true_to.own found

    state_is : state_seen new ≡ world (pass_base old) (seen new)
    state_is = ap (λ (a : App). world a (seen new)) same.same_base

    none_there : HoldsNone (world (pass_base old) (seen new)) (pass_number old)
    none_there number job holds = has.none number job ((later.held number job).1 holds)

    more_none : HasNone new
    more_none = record {
      true_to = record {
        legal = subst (λ (a : App). IsLegal a (seen new)) (sym same.same_base) found.legal;
        own = subst (λ n. entries_by n (seen new) ≡ mine new) (sym same.same_number) (found.own ∙ sym mine_same);
        brought = ap arrived mine_same ∙ has.true_to.brought;
      };
      none = subst (HoldsNone (state_seen new)) (sym same.same_number) (subst (λ (w : World). HoldsNone w (pass_number old)) (sym state_is) none_there);
    }

    more_blocks : pass_number old ≡ 0 → SameBlocks old new
    more_blocks zero_is = record {
      delivered_same = ap delivered mine_same;
      in_work_same = ap (λ (w : World). block_in w.work) state_is ∙ ap block_in (later.own_work zero_is);
    }

  -- ---- a split

  module _ (old new : Pass Core App Entry ghosts) (same : IsSameHolder old new) (has : HasNone old) (seen_same : seen new ≡ seen old) (mine_same : mine new ≡ mine old) where
    found_same : IsFound (pass_base old) (pass_number old) (seen old) (mine old) (seen new)
    found_same = record {
      legal = subst (IsLegal (pass_base old)) (sym seen_same) has.true_to.legal;
      later = subst (IsPrefix (seen old)) (sym seen_same) (prefix_self (seen old));
      own = ap (entries_by (pass_number old)) seen_same ∙ has.true_to.own;
    }

    pub split_none : HasNone new
    split_none = more_none old new same has found_same mine_same

    pub split_blocks : pass_number old ≡ 0 → SameBlocks old new
    split_blocks = more_blocks old new same has found_same mine_same

  -- the new pass holds nothing
  pub new_none : (old other : Pass Core App Entry ghosts) (lock : TurnLock Core App Entry) (number : ℕ) → HasNone old → IsNewPass lock other number (pass_base old) (seen old) → entries_by (pass_number other) (seen other) ≡ mine other → HasNone other
  new_none old other lock number has new own =
      let legal : IsLegal (pass_base other) (seen other) =
      subst (λ (a : App). IsLegal a (seen other)) (sym new.base_is) (subst (IsLegal (pass_base old)) (sym new.seen_is) has.true_to.legal) in
      record {
        true_to = record { legal = legal; own = own; brought = ap arrived new.none_mine };
        none = quiet_none (pass_base other) (seen other) (pass_number other) legal (own ∙ new.none_mine);
      }

  -- ---- a join, and a look after it

  module _ (old mid new : Pass Core App Entry ghosts) (joined : IsSameHolder old mid) (looked : IsSamePass mid new) (has : HasNone old) (longer : IsPrefix (seen old) (seen mid)) (mine_same : mine mid ≡ mine old) (look : IsLook mid new) where
    both_same : IsSameHolder old new
    both_same = holder_goes joined looked

    found_both : IsFound (pass_base old) (pass_number old) (seen old) (mine old) (seen new)
    found_both = record {
      legal = subst (λ (a : App). IsLegal a (seen new)) joined.same_base look.found.legal;
      later = prefix_trans (seen old) (seen mid) (seen new) longer look.found.later;
      own = subst (λ n. entries_by n (seen new) ≡ mine old) joined.same_number (look.found.own ∙ mine_same);
    }

    pub join_none : HasNone new
    join_none = more_none old new both_same has found_both (look.same ∙ mine_same)

    pub join_blocks : pass_number old ≡ 0 → SameBlocks old new
    join_blocks = more_blocks old new both_same has found_both (look.same ∙ mine_same)
