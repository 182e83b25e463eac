use Rattle.std.proofs.Common.{◌≡◌, ◌++◌, ◌∙◌, None, ap, cond, refl, true, false, sym, subst}
use Rattle.proc_syntax.specs.Declaring.{tables_of}
use Rattle.proc_syntax.specs.Run.{run}
use Rattle.proc_run.specs.MachineView.{Agrees, IsNextWant, IsSound, MachineView, given_of, read_of}
use Rattle.proc_run.proofs.Sounds.{none_wanted, sound_told, want_fits, next_told}
use Rattle.proc_run.proofs.machine.Machine.next.Goals as goal

pub invariant_of-self : goal.invariant_of-self
invariant_of-self c =
    let m = c.self.inside in
    let before : IsSound m.app.value.app m.tx m.time m.number m.phase m.spots.items m.run false = rw c.if-self.false at c.self.invariant in
    let goes = rw c.deref.ensures at (c.go_to_read.ensures.sound m.tx m.time) in
    rw c.if-self.false (goes before)

pub invariant_of-self-in_err-want : goal.invariant_of-self-in_err-want
invariant_of-self-in_err-want c =
    let m = c.self.inside in
    let before : IsSound m.app.value.app m.tx m.time m.number m.phase m.spots.items m.run false = rw c.if-self.false at c.self.invariant in
    let goes = rw c.deref.ensures at (c.go_to_read.ensures.sound m.tx m.time) in
    rw c.if-self.false (goes before)

pub invariant_of-self-2 : goal.invariant_of-self-2
invariant_of-self-2 c =
    let m = c.self.inside in
    let before : IsSound m.app.value.app m.tx m.time m.number m.phase m.spots.items m.run false = rw c.if-self.false at c.self.invariant in
    let goes = rw c.deref.ensures at (c.go_to_read.ensures.sound m.tx m.time) in
    sound_told m.app.value.app m.tx m.time m.number c.go_to_read.new.phase c.go_to_read.new.spots.items c.go_to_read.new.run true (goes before) c.in_ok-go_to_read.ensures.waits

pub returns-clause-fits : goal.returns-clause-fits
returns-clause-fits c =
    let m = c.self.inside in
    let before : IsSound m.app.value.app m.tx m.time m.number m.phase m.spots.items m.run false = rw c.if-self.false at c.self.invariant in
    let goes = rw c.deref.ensures at (c.go_to_read.ensures.sound m.tx m.time) in
    let sound : IsSound m.app.value.app m.tx m.time m.number c.go_to_read.new.phase c.go_to_read.new.spots.items c.go_to_read.new.run false = goes before in
    rw (c.in_ok-want.ensures, ← c.self.view_is) (want_fits (tables_of m.app.value.app) c.go_to_read.new.phase sound.fits)

pub returns-clause-reads : goal.returns-clause-reads
returns-clause-reads c = λ S a.
    let m = c.self.inside in
    let before : IsSound m.app.value.app m.tx m.time m.number m.phase m.spots.items m.run false = rw c.if-self.false at c.self.invariant in
    let goes = rw c.deref.ensures at (c.go_to_read.ensures.sound m.tx m.time) in
    let sound : IsSound m.app.value.app m.tx m.time m.number c.go_to_read.new.phase c.go_to_read.new.spots.items c.go_to_read.new.run false = goes before in
    let b : Agrees (tables_of m.app.value.app) S (m.run.made.items ++ given_of m.phase) = subst (λ told. Agrees (tables_of told.app) S told.fed) (sym c.self.view_is) a in
    rw (c.in_ok-want.ensures, ← c.self.view_is)
    (next_told m.app.value.app m.tx m.time m.number c.go_to_read.new.phase c.go_to_read.new.spots.items c.go_to_read.new.run false (m.run.made.items ++ given_of m.phase) S sound c.in_ok-go_to_read.ensures.waits (sym c.go_to_read.ensures.fed) b)

pub returns-then-self-clause-reads : goal.returns-then-self-clause-reads
returns-then-self-clause-reads c = λ S a.
    let m = c.self.inside in
    let app = m.app.value.app in
    let b : Agrees (tables_of app) S (m.run.made.items ++ given_of m.phase) = subst (λ told. Agrees (tables_of told.app) S told.fed) (sym c.self.view_is) a in
    let asks : cond m.told (read_of m.phase) None ≡ None = ap (λ (told : MachineView). told.asks) c.self.view_is ∙ c.requires in
    let none : read_of m.phase ≡ None = rw c.if-self.true at asks in
    rw (← c.self.view_is)
    (subst (λ w. IsNextWant w (tables_of app) S (m.run.made.items ++ given_of m.phase) (run app m.tx m.time S).reads) (none_wanted m.phase none)
    (next_told app m.tx m.time m.number m.phase m.spots.items m.run m.told (m.run.made.items ++ given_of m.phase) S c.self.invariant (c.self.invariant.waiting c.if-self.true) refl b))
