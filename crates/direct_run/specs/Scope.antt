-- What variables stand for, as the meaning of code has it.
use Rattle.std.specs.Prelude.{List, map, Option, Some, None}
use Rattle.proc_syntax.specs.declared.run.Binding.{Binding}
use Rattle.proc_syntax.specs.declared.run.Binding.TheVariants as binding
use Rattle.proc_code.specs.declared.slots.Environment.{Environment}
use Rattle.direct_run.specs.declared.scope.Scope.{Scope}
use Rattle.direct_run.specs.declared.scope.Slot.{Slot}
use Rattle.direct_run.specs.declared.scope.Slot.TheVariants as slot

-- a row is held, whoever owns it
abbrev pub binding_of : Slot → Option Binding
binding_of slot.Nothing = None
binding_of (slot.Plain v) = Some (binding.Plain v)
binding_of (slot.Lent table row) = Some (binding.Held table row.now)
binding_of (slot.Owned table row) = Some (binding.Held table row)

abbrev pub bindings_of : List Slot → List (Option Binding)
bindings_of slots = map binding_of slots

abbrev pub environment_of : Scope → Environment
environment_of scope = record { slots = bindings_of scope.slots.items; time = scope.time }
