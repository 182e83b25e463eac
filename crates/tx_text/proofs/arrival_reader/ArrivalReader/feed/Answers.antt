use Rattle.std.proofs.Common.{◌≡◌, ◌++◌, ap, subst, sym, refl, List, ℕ, Ok, Err, IsOk, Result}
use Rattle.proc_syntax.specs.declared.call.Tx.{Tx}
use Rattle.tx_text.specs.Arrivals.{arrived}
use Rattle.tx_text.specs.Feeding.{WasFed, so_far}
use Rattle.tx_text.specs.Listing.{Far}
use Rattle.tx_text.proofs.Fed.{goes_on, stays_stopped}
use Rattle.tx_text.proofs.arrival_reader.ArrivalReader.feed.Goals as goal

pub returns-in-Stopped-clause-follows : goal.returns-in-Stopped-clause-follows
returns-in-Stopped-clause-follows c = λ bytes follows. stays_stopped c.args.self.now.state c.in-Stopped.line bytes c.args.piece.now c.in-Stopped.is follows

pub returns-in-Stopped-clause-fed : goal.returns-in-Stopped-clause-fed
returns-in-Stopped-clause-fed c = λ bytes follows. stays_stopped c.args.self.now.state c.in-Stopped.line bytes c.args.piece.now c.in-Stopped.is follows

-- how far the bytes go with the piece
fed : (c : goal.In-Ok) (bytes : List ℕ) → WasFed c.args.self.now bytes
    → arrived (bytes ++ c.args.piece.now) ≡ Ok (record { line = c.go_on.new.line; items = so_far (arrived bytes) ++ c.in-Ok.txs; rest = c.go_on.new.held })
fed c bytes follows = goes_on c.args.self.now.state c.in-Open.line c.in-Open.held bytes c.args.piece.now _ c.in-Open.is c.in-Ok.ensures.given follows

pub returns-in-Ok-clause-follows : goal.returns-in-Ok-clause-follows
returns-in-Ok-clause-follows c = λ bytes follows. (so_far (arrived bytes) ++ c.in-Ok.txs, fed c bytes follows)

pub returns-in-Ok-clause-fed : goal.returns-in-Ok-clause-fed
returns-in-Ok-clause-fed c = λ bytes follows. (subst (λ (far : Result (Far Tx) ℕ). IsOk far) (sym (fed c bytes follows)) refl, ap so_far (fed c bytes follows))

-- the line of the fault
stopped : (c : goal.Joined-self-2) (bytes : List ℕ) → WasFed c.args.self.now bytes → arrived (bytes ++ c.args.piece.now) ≡ Err c.in-Err-Bad.line
stopped c bytes follows =
    goes_on c.args.self.now.state c.in-Open.line c.in-Open.held bytes c.args.piece.now (Err c.in-Err-Bad.line) c.in-Open.is (rw c.in-Err-Bad.field-0-is at c.in-Err-Bad.ensures.given) follows

pub returns-in-Err-Bad-clause-follows : goal.returns-in-Err-Bad-clause-follows
returns-in-Err-Bad-clause-follows c = stopped c

pub returns-in-Err-Bad-clause-fed : goal.returns-in-Err-Bad-clause-fed
returns-in-Err-Bad-clause-fed c = stopped c
