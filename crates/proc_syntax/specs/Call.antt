-- Whether a call can begin.
use Rattle.std.specs.Prelude.{List, cond, Option, Some, None}
use Rattle.std.specs.Option.{option_map_or}
use Rattle.rel_base.specs.declared.value.Value.{Value}
use Rattle.proc_syntax.specs.declared.call.CallFault.{CallFault}
use Rattle.proc_syntax.specs.declared.call.CallFault.TheVariants as fault
use Rattle.proc_syntax.specs.declared.call.Tx.{Tx}
use Rattle.proc_syntax.specs.declared.tree.App.{App}
use Rattle.proc_syntax.specs.declared.tree.ProcDef.{ProcDef}
use Rattle.proc_syntax.specs.Run.{procedure_named, takes}

-- no procedure has the name; or the arguments differ from the parameters of the first one that has it
abbrev pub call_fault : App → Tx → Option CallFault
call_fault app tx = option_map_or (λ procedure. cond (takes procedure tx.args) None (Some fault.BadArguments)) (procedure_named app tx.procedure) (Some fault.UnknownProcedure)

-- the same by the procedure of the name, as proofs have it
abbrev pub fault_at : Option ProcDef → List Value → Option CallFault
fault_at found values = option_map_or (λ procedure. cond (takes procedure values) None (Some fault.BadArguments)) found (Some fault.UnknownProcedure)
