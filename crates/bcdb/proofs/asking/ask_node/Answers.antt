use Rattle.std.proofs.Common.{rules}
use Rattle.bcdb.proofs.Asked.{answers_select}
use Rattle.proc_syntax.specs.Declaring.{tables_of}
use Rattle.bcdb.proofs.asking.ask_node.Goals as goal

pub returns : goal.returns
returns g c =
    let node = c.args.node.now in
    answers_select (tables_of node.chain.app.value.app) c.args.question.text.now (g.V.Versions.history node.chain.versions) c.args.sealed c.args.question.height c.args.select.now c.ask.result c.requires.reads search rules
