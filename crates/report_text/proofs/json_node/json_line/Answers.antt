use Rattle.std.proofs.Common.{◌∙◌, ◌++◌, ap, codes}
use Rattle.std.specs.Option.{option_copied}
use Rattle.json.specs.Print.{print}
use Rattle.serde_json.proofs.Texts.{print-outline}
use Rattle.report_text.specs.JsonReport.{report_json}
use Rattle.report_text.specs.JsonTokens.{tokens_of}
use Rattle.report_text.proofs.json_node.json_line.Goals as goal

-- the tokens of the report are printed as its compact text
pub returns : goal.returns
returns c =
    let report = report_json c.args.look.now c.args.tables.now c.args.nodes.now (option_copied c.args.stop) in
    let written = c.in_ok-put_report.ensures ∙ ap (λ tokens. tokens ++ tokens_of report) c.new-json.ensures in
    c.in_ok-push.ensures ∙ ap (λ text. text ++ codes "\n") (c.into_text-out.ensures ∙ ap print written ∙ print-outline report)
