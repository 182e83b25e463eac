use Rattle.std.proofs.Common.{ap, sym, ◌∙◌}
use Rattle.std.specs.Prelude.{is_some}
use Rattle.block_work.proofs.Answering.{on_ok_then}
use Rattle.block_work.proofs.Places.{adds_new}
use Rattle.block_work.proofs.ids.IdIndex.insert.Goals as goal
use Rattle.block_work.specs.declared.ids.IdIndex.{IdIndex}

-- it had no place
pub returns-clause-added : goal.returns-clause-added
returns-clause-added c =
    let now : IdIndex = record { places = c.insert.new.self } in
    on_ok_then c.insert.result _ _ c.insert.ensures.set
    (adds_new c.args.self.now now c.args.id c.args.place (sym (c.is_some.ensures ∙ ap is_some c.find.ensures) ∙ c.if-is_some.false))
