use Rattle.std.proofs.Common.{◌≡◌, ap, rules, ◌∙◌, Some}
use Rattle.std.specs.Prelude.{slice_set}
use Rattle.std.proofs.lemmas.List.{map-set}
use Rattle.rel_base.specs.declared.value.Value.TheVariants.{Int}
use Rattle.proc_syntax.specs.declared.run.Binding.TheVariants.{Plain}
use Rattle.direct_run.specs.Scope.{binding_of, bindings_of}
use Rattle.direct_run.proofs.scope.put_number.Goals as goal

pub returns-then-slot-len : goal.returns-then-slot-len
returns-then-slot-len c =
    let is : binding_of c.be_number.new.variable ≡ Some (Plain (Int c.args.number)) = search rules in
    map-set binding_of c.args.slots.now.items c.args.slot c.be_number.new.variable ∙ ap (slice_set (bindings_of c.args.slots.now.items) c.args.slot) is
