use Rattle.std.proofs.Common.{arith}
use Rattle.std.proofs.lemmas.Grind.{common_steps}
use Rattle.std.proofs.Common.{ap, subst, sym, ◌∙◌, ◌≡◌}
use Rattle.turn_lock.specs.Passes.{mine, pass_base, pass_number, seen}
use Rattle.node_core.specs.Core.{Core, IsHeld}
use Rattle.node_shared.specs.Turn.{IsFound}
use Rattle.node_shared.proofs.Turns.{found_held, found_of}
use Rattle.node_shared.proofs.shared.SharedNode.release.Goals as goal

pub give_up-requires : goal.give_up-requires
give_up-requires g c =
    let p = c.args.pass.now in
    let s = c.deref_mut-core.result.now in
    let same : s ≡ c.take-held.result.value = c.deref_mut-core.ensures.value in
    let base : s.app ≡ pass_base p = ap (λ (core : Core). core.app) same ∙ c.take-held.ensures.base in
    let held : IsHeld (record { app = s.app; journal = seen p }) c.args.work = subst (λ a. IsHeld (record { app = a; journal = seen p }) c.args.work) (sym base) c.requires.held in
    let found : IsFound s.app (pass_number p) (seen p) (mine p) s.journal =
    found_of c.take-held.result.value s (pass_number p) (seen p) (mine p) same c.journal_len.ensures.legal c.take-held.ensures.later c.take-held.ensures.own in
    record { held = found_held s.app (pass_number p) (seen p) (mine p) s.journal c.number.ensures.own found c.args.work c.requires.own held }

pub returns-clause-later : goal.returns-clause-later
returns-clause-later g c = grind (arith, common_steps)
