-- A held job, and what its machine tells.
use Rattle.std.proofs.Common.{Bool, None, Option, Some, ap, false, refl, subst, sym, true, ◌||◌, ◌∙◌, ◌≡◌}
use Rattle.std.proofs.lemmas.Bool.{false≢true}
use Rattle.node_core.specs.InHand.{IsInHand, run_on}
use Rattle.proc_run.specs.MachineView.{Agrees, IsNextWant, Tells, MachineView, WantFits}
use Rattle.proc_run.specs.declared.state.Want.TheVariants as want
use Rattle.proc_run.specs.declared.state.Want.{Want}
use Rattle.proc_syntax.specs.Declaring.{tables_of}
use Rattle.proc_syntax.specs.declared.call.Tx.{Tx}
use Rattle.rel_base.specs.Tables.{Tables}
use Rattle.rel_base.specs.declared.access.Read.{Read}

-- what a machine answers is the next of its run
abbrev IsRight : Want → MachineView → Type 0
IsRight answer told = (tables : Tables) → Agrees (tables_of told.app) tables told.fed → IsNextWant answer (tables_of told.app) tables told.fed (run_on told tables).reads

-- the machine asks for a read
pub asked : (tx : Tx) (old new : MachineView) (wants : Option Read) (ended cut : Bool) (answer : Want) (read : Read) → IsInHand tx old wants ended cut → ended ≡ false → cut ≡ false
    → answer ≡ want.Rows read → Tells answer old new → IsRight answer old → WantFits (tables_of old.app) answer → IsInHand tx new (Some read) ended cut
asked tx old new wants ended cut answer read hand goes whole is tells right fits =
    let tells_so : Tells (want.Rows read) old new = subst (λ a. Tells a old new) is tells in
    subst (λ told. IsInHand tx told (Some read) ended cut) (sym tells_so) (record {
      same = hand.same;
      asks = refl;
      ends = sym goes;
      next = subst (λ a. IsRight a old) is right;
      fits = subst (λ a. WantFits (tables_of old.app) a) is fits;
      all = λ e. absurd (false≢true (sym goes ∙ e));
      idle = λ e. absurd (false≢true (sym (ap (λ b. b || ended) whole ∙ goes) ∙ e));
    })

-- the machine has come to its end
pub at_end : (tx : Tx) (old new : MachineView) (wants : Option Read) (ended cut : Bool) (answer : Want) → IsInHand tx old wants ended cut → wants ≡ None
    → answer ≡ want.Ended → Tells answer old new → IsRight answer old → IsInHand tx new wants true cut
at_end tx old new wants ended cut answer hand none is tells right =
    let tells_so : Tells want.Ended old new = subst (λ a. Tells a old new) is tells in
    subst (λ told. IsInHand tx told wants true cut) (sym tells_so) (record {
      same = hand.same;
      asks = hand.asks;
      ends = refl;
      next = hand.next;
      fits = hand.fits;
      all = λ e. subst (λ a. IsRight a old) is right;
      idle = λ e. none;
    })
