use Rattle.std.proofs.Common.{◌≡◌, ◌+◌, ℕ, List, [], ◌++◌, Option, Some, None, Ok, Err, IfOk, length, sym, ◌∙◌, ap, subst}
use Rattle.proc_syntax.specs.declared.call.Tx.{Tx}
use Rattle.proc_syntax.specs.declared.chain_fault.ChainKind.{ChainKind}
use Rattle.tx_text.specs.Parts.{line_text}
use Rattle.chain_file.specs.declared.step.StepFault.{StepFault}
use Rattle.chain_file.specs.declared.step.StepFault.TheVariants as stop
use Rattle.chain_file.specs.declared.form.FileForm.{FileForm}
use Rattle.chain_file.specs.Chain.{Walked}
use Rattle.chain_file.specs.Following.{Knows}
use Rattle.chain_file.specs.Onward.{GivesTold, told_within}
use Rattle.chain_file.specs.Resumed.{Resumes, going_at}
use Rattle.chain_file.proofs.Resumed.{walk_ends, walk_stops, walk_tx}
use Rattle.chain_file.proofs.resume.read_more.Goals as goal

pub returns-in-Ok-None-clause-resumes : goal.returns-in-Ok-None-clause-resumes
returns-in-Ok-None-clause-resumes c = λ kept digits known before knows.
    let g = c.loop-line.block in
    let line : List ℕ = c.in-Some.line.now in
    let inv = c.loop-line.invariant.1 kept digits known before knows in
    let told : told_within (g.before + length g.txs) line ≡ Ok None =
    ap (λ (n : ℕ). told_within n line) (sym c.len.ensures) ∙ c.in-Ok-None.ensures.told ∙ ap (λ (found : Option Tx). Ok found) c.in-Ok-None.field-0-is in
    let e = walk_ends (going_at kept c.args.going digits known) kept g c.args.bytes.now c.loop-line.rest.now line c.in-Some.after.now digits inv.0 (c.loop-line.invariant.0 ∙ before) inv.2 c.in-Some.ensures.parts told in
    subst (λ (w : Walked). IfOk c.end_going.result (λ more. Resumes kept more w)) (sym e) (c.end_going.ensures.resumes kept digits inv.0 inv.1)

abbrev stopped_at : ℕ → ChainKind → Walked
stopped_at line k = ([], Err (record { line = line; kind = k }))

pub returns-in-Err-Kind-clause-resumes : goal.returns-in-Err-Kind-clause-resumes
returns-in-Err-Kind-clause-resumes c = λ kept digits known before knows.
    let g = c.loop-line.block in
    let line : List ℕ = c.in-Some.line.now in
    let inv = c.loop-line.invariant.1 kept digits known before knows in
    let stops : GivesTold (Err (stop.Kind c.in-Err-Kind.kind)) (told_within c.len.result line) =
    subst (λ (s : StepFault). GivesTold (Err s) (told_within c.len.result line)) c.in-Err-Kind.field-0-is c.in-Err-Kind.ensures.told in
    let told : told_within (g.before + length g.txs) line ≡ Err c.in-Err-Kind.kind = ap (λ (n : ℕ). told_within n line) (sym c.len.ensures) ∙ stops in
    walk_stops (going_at kept c.args.going digits known) kept g c.in-Err-Kind.kind c.args.bytes.now c.loop-line.rest.now line c.in-Some.after.now digits inv.0 (c.loop-line.invariant.0 ∙ before) inv.2 c.in-Some.ensures.parts told
    ∙ ap (stopped_at g.line) (sym c.in-Err-Kind.kind-is)

pub loop-line-preserved : goal.loop-line-preserved
loop-line-preserved c =
    let g = c.loop-line.block in
    let next = c.add_tx.new.self in
    let on = c.in_ok-add_tx-in-Ok-Some.ensures in
    let line : List ℕ = c.in-Some.line.now in
    let told : told_within (g.before + length g.txs) line ≡ Ok (Some c.in-Ok-Some.tx) =
    ap (λ (n : ℕ). told_within n line) (sym c.len.ensures) ∙ c.in-Ok-Some.ensures.told ∙ ap (λ (found : Option Tx). Ok found) c.in-Ok-Some.field-0-is in (
      on.place.3 ∙ c.loop-line.invariant.0,
      λ kept digits known before knows.
          let inv = c.loop-line.invariant.1 kept digits known before knows in (
            inv.0 ++ line_text line,
            subst (λ (f : FileForm). Knows f.kind next.hashes digits (inv.0 ++ line_text line)) (sym on.place.0) (on.hashes digits inv.0 inv.1),
            walk_tx (going_at kept c.args.going digits known) kept g next c.in-Ok-Some.tx c.args.bytes.now c.loop-line.rest.now line c.in-Some.after.now digits inv.0 (c.loop-line.invariant.0 ∙ before) inv.2 c.in-Some.ensures.parts told
                (record { form = on.place.0; count = on.place.1; time = on.place.2; line = on.line; txs = on.txs }),
          ),
    )
