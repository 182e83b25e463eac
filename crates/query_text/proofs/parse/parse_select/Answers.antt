use Rattle.std.proofs.Common.{◌≡◌, ◌∙◌, Err, sym, ap, subst}
use Rattle.proc_parse.specs.Tokens.{tokens_of}
use Rattle.query_plan.specs.declared.fault.AskFault.{AskFault}
use Rattle.query_plan.specs.declared.select.Select.{Select}
use Rattle.query_text.specs.Faults.{IfSyntax, RefusedIn, ViableIn}
use Rattle.proc_parse.specs.Faults.{position_of}
use Rattle.query_text.specs.Grammar.{query}
use Rattle.query_text.specs.Walk.{syntax}
use Rattle.query_text.proofs.Texts.{text_refused, text_viable}
use Rattle.query_text.proofs.Unrefused.{walk_gives}
use Rattle.query_text.proofs.parse.parse_select.Goals as goal

pub returns-clause-refused : goal.returns-clause-refused
returns-clause-refused c =
    let text = c.args.text.now in
    let same : tokens_of text ≡ c.as_slice.result.now = ap tokens_of (sym c.as_bytes.ensures.value) ∙ sym c.in_ok-tokens.ensures ∙ sym c.as_slice.ensures in
    let stopped : query (tokens_of text) ≡ Err c.in-Err-At.rest.now = ap query same ∙ (rw c.in-Err-At.field-0-is at c.in-Err-At.ensures) in
    let is : c.syntax.result ≡ syntax (position_of c.in-Err-At.rest.now) = rw c.in-Err-At.field-0-is at c.syntax.ensures in
    subst (λ (fault : AskFault). IfSyntax {A = Select} (Err fault) (RefusedIn text)) (sym is) (λ short. text_refused text c.in-Err-At.rest.now stopped)

pub returns-clause-viable : goal.returns-clause-viable
returns-clause-viable c =
    let text = c.args.text.now in
    let same : tokens_of text ≡ c.as_slice.result.now = ap tokens_of (sym c.as_bytes.ensures.value) ∙ sym c.in_ok-tokens.ensures ∙ sym c.as_slice.ensures in
    let stopped : query (tokens_of text) ≡ Err c.in-Err-At.rest.now = ap query same ∙ (rw c.in-Err-At.field-0-is at c.in-Err-At.ensures) in
    let is : c.syntax.result ≡ syntax (position_of c.in-Err-At.rest.now) = rw c.in-Err-At.field-0-is at c.syntax.ensures in
    subst (λ (fault : AskFault). IfSyntax {A = Select} (Err fault) (ViableIn text)) (sym is) (λ short. text_viable text c.in-Err-At.rest.now stopped)

pub returns-in-Ok-clause-over : goal.returns-in-Ok-clause-over
returns-in-Ok-clause-over c = walk_gives c.args.tables.now c.as_slice.result.now _ _ c.walk.result c.in-Ok.ensures c.walk.ensures
