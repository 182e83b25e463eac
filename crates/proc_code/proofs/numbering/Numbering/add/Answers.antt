use Rattle.std.proofs.Common.{sym, ◌∙◌}
use Rattle.proc_code.proofs.Numbered.{added, taken_off}
use Rattle.proc_code.proofs.numbering.Numbering.add.Goals as goal

pub invariant_of-self-in-Ok : goal.invariant_of-self-in-Ok
invariant_of-self-in-Ok c =
    added c.self.inside.names c.push.new.self c.args.name.now c.in_ok-key.key c.in_ok-copy.field-0 c.len-number.result c.self.inside.numbers c.insert.new.self
    c.self.invariant (sym c.contains_key.ensures ∙ c.if-contains_key.false) c.in_ok-key.ensures c.in_ok-copy.ensures c.len-number.ensures c.in_ok-push.ensures.ok c.in-Ok.ensures.updates

pub invariant_of-self-in-Err : goal.invariant_of-self-in-Err
invariant_of-self-in-Err c =
    taken_off c.self.inside.names c.push.new.self c.pop.new.self c.in_ok-copy.field-0 c.pop.result c.self.inside.numbers c.insert.new.self
    c.self.invariant c.in_ok-push.ensures.ok c.pop.ensures c.in-Err.ensures.err
