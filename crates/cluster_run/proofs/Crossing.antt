-- What of an application may cross threads: `search` alone runs out of steps at types as large as these, so each gets its lemmas, as a field and whole.
use denote.Param.Send.{IsSend, IsSync, sendable}
use Rattle.std.proofs.Crossing.{crosses}
use Rattle.std.proofs.option.Option.TheSendSync as option
use Rattle.proc_check.specs.contracts.checked.Checked as Checked
use Rattle.proc_code.proofs.tree.Action.TheLaws.TheKnot as action
use Rattle.proc_code.proofs.tree.Term.TheLaws.TheKnot as term
use Rattle.proc_code.specs.contracts.tree.Action as Action
use Rattle.proc_code.specs.contracts.tree.AppCode as AppCode
use Rattle.proc_code.specs.contracts.tree.Term as Term
use Rattle.proc_syntax.proofs.tree.Expr.TheLaws.TheKnot as expr
use Rattle.proc_syntax.proofs.tree.Named.TheSendSync as named
use Rattle.proc_syntax.proofs.tree.Op.TheSendSync as op
use Rattle.proc_syntax.proofs.tree.Stmt.TheLaws.TheKnot as stmt
use Rattle.proc_syntax.specs.contracts.tree.App as App
use Rattle.proc_syntax.specs.contracts.tree.Expr as Expr
use Rattle.proc_syntax.specs.contracts.tree.Stmt as Stmt
use Rattle.rel_base.proofs.boxed.Boxed.TheSendSync as boxed
use Rattle.rel_base.proofs.list.List.TheSendSync as list
use Rattle.rel_base.proofs.name.Name.TheSendSync as name
use Rattle.rel_base.proofs.text.Str.TheSendSync as text
use Rattle.rel_base.proofs.value.Value.TheSendSync as value

pub ruleset sends = (option.the_send, option.the_field_send, list.the_send, boxed.the_send, named.the_send, named.the_field_send, value.the_send, value.the_field_send, text.the_send, name.the_send, op.the_send, op.the_field_send)

pub ruleset syncs = (option.the_sync, option.the_field_sync, list.the_sync, boxed.the_sync, named.the_sync, named.the_field_sync, value.the_sync, value.the_field_sync, text.the_sync, name.the_sync, op.the_sync, op.the_field_sync)

expr_field_send : IsSend Expr.the_field.row
expr_field_send = search (sends, expr.crosses, crosses, sendable) depth 60 fits 20000

pub expr_send : IsSend Expr.the_row
expr_send = search (expr_field_send, expr.crosses, crosses, sendable) depth 60 fits 20000

expr_field_sync : IsSync Expr.the_field.row
expr_field_sync = search (syncs, expr.crosses, crosses, sendable) depth 60 fits 20000

pub expr_sync : IsSync Expr.the_row
expr_sync = search (expr_field_sync, expr.crosses, crosses, sendable) depth 60 fits 20000

stmt_field_send : IsSend Stmt.the_field.row
stmt_field_send = search (sends, expr_field_send, expr_send, stmt.crosses, crosses, sendable) depth 60 fits 20000

pub stmt_send : IsSend Stmt.the_row
stmt_send = search (stmt_field_send, stmt.crosses, crosses, sendable) depth 60 fits 20000

stmt_field_sync : IsSync Stmt.the_field.row
stmt_field_sync = search (syncs, expr_field_sync, expr_sync, stmt.crosses, crosses, sendable) depth 60 fits 20000

pub stmt_sync : IsSync Stmt.the_row
stmt_sync = search (stmt_field_sync, stmt.crosses, crosses, sendable) depth 60 fits 20000

term_field_send : IsSend Term.the_field.row
term_field_send = search (sends, term.crosses, crosses, sendable) depth 60 fits 20000

pub term_send : IsSend Term.the_row
term_send = search (term_field_send, term.crosses, crosses, sendable) depth 60 fits 20000

term_field_sync : IsSync Term.the_field.row
term_field_sync = search (syncs, term.crosses, crosses, sendable) depth 60 fits 20000

pub term_sync : IsSync Term.the_row
term_sync = search (term_field_sync, term.crosses, crosses, sendable) depth 60 fits 20000

action_field_send : IsSend Action.the_field.row
action_field_send = search (sends, term_field_send, term_send, action.crosses, crosses, sendable) depth 60 fits 20000

pub action_send : IsSend Action.the_row
action_send = search (action_field_send, action.crosses, crosses, sendable) depth 60 fits 20000

action_field_sync : IsSync Action.the_field.row
action_field_sync = search (syncs, term_field_sync, term_sync, action.crosses, crosses, sendable) depth 60 fits 20000

pub action_sync : IsSync Action.the_row
action_sync = search (action_field_sync, action.crosses, crosses, sendable) depth 60 fits 20000

code_field_send : IsSend AppCode.the_field.row
code_field_send = search (sends, action_send, crosses, sendable) depth 60 fits 20000

pub code_send : IsSend AppCode.the_row
code_send = search (code_field_send, crosses, sendable) depth 60 fits 20000

code_field_sync : IsSync AppCode.the_field.row
code_field_sync = search (syncs, action_sync, crosses, sendable) depth 60 fits 20000

pub code_sync : IsSync AppCode.the_row
code_sync = search (code_field_sync, crosses, sendable) depth 60 fits 20000

app_field_send : IsSend App.the_field.row
app_field_send = search (sends, stmt_send, crosses, sendable) depth 60 fits 20000

pub app_send : IsSend App.the_row
app_send = search (app_field_send, crosses, sendable) depth 60 fits 20000

app_field_sync : IsSync App.the_field.row
app_field_sync = search (syncs, stmt_sync, crosses, sendable) depth 60 fits 20000

pub app_sync : IsSync App.the_row
app_sync = search (app_field_sync, crosses, sendable) depth 60 fits 20000

checked_field_send : IsSend Checked.the_field.row
checked_field_send = search (sends, app_field_send, code_field_send, crosses, sendable) depth 60 fits 20000

pub checked_send : IsSend Checked.the_row
checked_send = search (checked_field_send, crosses, sendable) depth 60 fits 20000

checked_field_sync : IsSync Checked.the_field.row
checked_field_sync = search (syncs, app_field_sync, code_field_sync, crosses, sendable) depth 60 fits 20000

pub checked_sync : IsSync Checked.the_row
checked_sync = search (checked_field_sync, crosses, sendable) depth 60 fits 20000
