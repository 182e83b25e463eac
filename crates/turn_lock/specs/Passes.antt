-- What a pass shows to contracts.
use Rattle.std.specs.Prelude.{◌≡◌, ℕ, List, [], ◌++◌, Option, Some, None, IsSome}
use Rattle.std.proofs.Common.{sym, true≢false}
use Rattle.rel_base.specs.declared.storied.Storied.{Ghosts}
use Rattle.turn_lock.specs.Ledger.{Ledger}
use Rattle.turn_lock.specs.declared.pass.Pass.{Pass}
use Rattle.turn_lock.specs.declared.lock.TurnLock.{TurnLock}
use Rattle.turn_lock.specs.declared.rule.Stage.TheVariants.{Idle, Out}

-- the base in an option that has one
abbrev pub the_base : {Base : Type 0} (base : Option Base) → IsSome base → Base
the_base (Some base) is = base
the_base None is = absurd (true≢false (sym is))

module _ {Value Base Entry : Type 0} {ghosts : Ghosts Value Base Entry} where
  -- the pass is one of this lock
  abbrev pub IsPassOf : TurnLock Value Base Entry → Pass Value Base Entry ghosts → Type 0
  IsPassOf lock pass = pass.seat.table_id ≡ lock.table.shared.table_id

  -- the number, which no other pass of the lock has; that of the first pass is 0
  abbrev pub pass_number : Pass Value Base Entry ghosts → ℕ
  pass_number pass = pass.number

  -- the base of the lock's value
  abbrev pub pass_base : Pass Value Base Entry ghosts → Base
  pass_base pass = the_base pass.seat.me.0.base pass.stands.based

  -- a story that the lock's value had, and with which its story begins from then on
  abbrev pub seen : Pass Value Base Entry ghosts → List Entry
  seen pass = pass.seat.me.0.seen

  -- the entries of the pass's number, all of which the pass has made
  abbrev pub mine : Pass Value Base Entry ghosts → List Entry
  mine pass = pass.seat.me.0.mine

  -- the value is out with the caller of this pass
  abbrev pub HoldsTurn : Pass Value Base Entry ghosts → Type 0
  HoldsTurn pass = pass.seat.me.0.stage ≡ Out

  abbrev pub HoldsNoTurn : Pass Value Base Entry ghosts → Type 0
  HoldsNoTurn pass = pass.seat.me.0.stage ≡ Idle

  -- a pass of this lock that has no turn
  abbrev pub IsIdle : TurnLock Value Base Entry → Pass Value Base Entry ghosts → Type 0
  IsIdle lock pass = IsPassOf lock pass × HoldsNoTurn pass

  -- of number 0: how many passes it has split off
  abbrev pub made : Pass Value Base Entry ghosts → ℕ
  made pass = pass.seat.me.0.made

  -- of number 0: how many of these it has not joined
  abbrev pub left : Pass Value Base Entry ghosts → ℕ
  left pass = pass.seat.me.0.left

  -- of number 0: the passes that it has joined, with what each had made
  abbrev pub joined : Pass Value Base Entry ghosts → Ledger Entry
  joined pass = pass.seat.me.0.joined

-- one list of entries gains what another gains
abbrev pub Gains : {Entry : Type 0} → List Entry → List Entry → List Entry → List Entry → Type 0
Gains {Entry} story story' own own' = (news : List Entry) → story' ≡ story ++ news → own' ≡ own ++ news

-- the lock, the number and the base are as they were
pub record IsSameHolder {Value Base Entry : Type 0} {ghosts : Ghosts Value Base Entry} (old new : Pass Value Base Entry ghosts) : Type 0 where
  pub same_lock : new.seat.table_id ≡ old.seat.table_id
  pub same_number : new.number ≡ old.number
  pub same_base : pass_base new ≡ pass_base old

-- and so are the counts of passes that were made and that are left, and those that were joined
pub record IsSamePass {Value Base Entry : Type 0} {ghosts : Ghosts Value Base Entry} (old new : Pass Value Base Entry ghosts) : Type 0 where
  pub same_lock : new.seat.table_id ≡ old.seat.table_id
  pub same_number : new.number ≡ old.number
  pub same_base : pass_base new ≡ pass_base old
  pub same_made : new.seat.me.0.made ≡ old.seat.me.0.made
  pub same_left : new.seat.me.0.left ≡ old.seat.me.0.left
  pub same_joined : new.seat.me.0.joined ≡ old.seat.me.0.joined

-- a pass that has made nothing yet: of this lock, with this number and base, it has seen this story and has no turn
pub record IsNewPass {Value Base Entry : Type 0} {ghosts : Ghosts Value Base Entry} (lock : TurnLock Value Base Entry) (pass : Pass Value Base Entry ghosts) (number : ℕ) (base : Base) (story : List Entry) : Type 0 where
  pub of_lock : pass.seat.table_id ≡ lock.table.shared.table_id
  pub number_is : pass.number ≡ number
  pub base_is : pass_base pass ≡ base
  pub seen_is : pass.seat.me.0.seen ≡ story
  pub none_mine : pass.seat.me.0.mine ≡ []
  pub no_turn : pass.seat.me.0.stage ≡ Idle
  pub none_made : pass.seat.me.0.made ≡ 0
  pub none_left : pass.seat.me.0.left ≡ 0
  pub none_joined : pass.seat.me.0.joined ≡ []
