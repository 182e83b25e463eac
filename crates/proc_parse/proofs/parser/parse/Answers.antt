use Rattle.std.proofs.Common.{◌≡◌, ◌∙◌, Err, sym, ap, subst}
use Rattle.proc_parse.specs.declared.parser.ParseFault.{ParseFault}
use Rattle.proc_parse.specs.Tokens.{tokens_of}
use Rattle.proc_parse.specs.Grammar.{application}
use Rattle.proc_parse.specs.Faults.{IfSyntax, IsBehindViable, IsRefused}
use Rattle.proc_parse.proofs.Halts.{text_refused}
use Rattle.proc_parse.proofs.ViableText.{text_viable}
use Rattle.proc_parse.proofs.parser.parse.Goals as goal

pub returns-clause-refused : goal.returns-clause-refused
returns-clause-refused c =
    let stopped : application (tokens_of c.args.text.now) ≡ Err c.in-Err-At.rest.now =
    ap application (sym c.in_ok-tokens.ensures ∙ sym c.as_slice.ensures) ∙ (rw c.in-Err-At.field-0-is at c.in-Err-At.ensures) in
    subst (λ (fault : ParseFault). IfSyntax (Err fault) (λ line col. IsRefused (tokens_of c.args.text.now) line col)) (sym c.fault_at.ensures)
    (text_refused c.args.text.now c.in-Err-At.rest.now stopped)

pub returns-clause-viable : goal.returns-clause-viable
returns-clause-viable c =
    let stopped : application (tokens_of c.args.text.now) ≡ Err c.in-Err-At.rest.now =
    ap application (sym c.in_ok-tokens.ensures ∙ sym c.as_slice.ensures) ∙ (rw c.in-Err-At.field-0-is at c.in-Err-At.ensures) in
    subst (λ (fault : ParseFault). IfSyntax (Err fault) (λ line col. IsBehindViable (tokens_of c.args.text.now) line col)) (sym c.fault_at.ensures)
    (text_viable c.args.text.now c.in-Err-At.rest.now stopped)
