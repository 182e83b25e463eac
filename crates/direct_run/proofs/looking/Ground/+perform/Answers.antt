use Rattle.std.proofs.Common.{◌≡◌, ◌∙◌, ℕ, List, Option, Err, Ok, Some, ap, cond, drop, rules, subst, sym}
use Rattle.std.specs.Prelude.{slice_set}
use Rattle.proc_syntax.specs.Steps.{each_held, with_rows}
use Rattle.rel_base.specs.declared.schema.TableDef.{TableDef}
use Rattle.rel_base.specs.Tables.{Tables}
use Rattle.proc_code.specs.declared.tree.Action.{Action}
use Rattle.proc_code.specs.declared.tree.Action.TheFolds.{the_lemmas}
use Rattle.proc_code.specs.Coded.{Slots, State, do_action, do_all, hold}
use Rattle.proc_syntax.specs.declared.run.Binding.TheVariants.{Held}
use Rattle.direct_run.specs.Runs.{state_of}
use Rattle.direct_run.specs.Scope.{bindings_of}
use Rattle.direct_run.specs.Steps.{Chooses, Ends, Spans}
use Rattle.direct_run.specs.Sums.{IsHeld}
use Rattle.direct_run.proofs.Adding.{held_there, row_done}
use Rattle.direct_run.proofs.Choices.{each, for_goes, for_stops, fork, if_goes, if_stops}
use Rattle.direct_run.proofs.looking.Ground.+perform.Goals as goal

pub perform-returns-in_err-test-in-If-clause-ends : goal.perform-returns-in_err-test-in-If-clause-ends
perform-returns-in_err-test-in-If-clause-ends g t c =
    let self = c.args.self.now in
    let S = g.S.Snapshot.tables self.source.now in
    let st = state_of c.args.run.now in
    let e = c.in_err-test-in-If.field-0.0 in
    let meant = fork self.tables.now self.columns.now S st c.in-If.test c.in-If.then c.in-If.other in
    let chose : Chooses (Err e) st meant = subst (λ r. Chooses r st meant) c.in_err-test-in-If.was c.test.ensures in
    let same : c.from_residual.result ≡ Err e = search rules in
    subst (λ r. Ends r st (do_action self.tables.now self.columns.now S c.args.action.now st)) (sym same)
    (subst (λ a. Ends (Err e) st (do_action self.tables.now self.columns.now S a st)) (sym c.in-If.is) (if_stops self.tables.now self.columns.now S st c.in-If.test c.in-If.then c.in-If.other e chose))

pub perform-returns-then-branch-clause-ends : goal.perform-returns-then-branch-clause-ends
perform-returns-then-branch-clause-ends g t c =
    let self = c.args.self.now in
    let S = g.S.Snapshot.tables self.source.now in
    let st = state_of c.args.run.now in
    let all = do_all self.tables.now self.columns.now S in
    let first = c.in_ok-test-in-If.field-0 in
    let meant = fork self.tables.now self.columns.now S st c.in-If.test c.in-If.then c.in-If.other in
    let chose : Chooses (Ok first) st meant = subst (λ r. Chooses r st meant) c.in_ok-test-in-If.was c.test.ensures in
    let goes : all c.in-If.then st ≡ do_action self.tables.now self.columns.now S c.args.action.now st =
    ap (λ b. cond b (all c.in-If.then st) (all c.in-If.other st)) (sym c.if-branch.true)
    ∙ if_goes self.tables.now self.columns.now S st c.in-If.test c.in-If.then c.in-If.other first chose ∙ ap (λ a. do_action self.tables.now self.columns.now S a st) (sym c.in-If.is) in
    subst (Ends c.perform_all.result (state_of c.perform_all.new.run)) goes
    (subst (λ block. Ends c.perform_all.result (state_of c.perform_all.new.run) (all block st)) c.as_slice.ensures c.perform_all.ensures.ends)

pub perform-returns-else-branch-clause-ends : goal.perform-returns-else-branch-clause-ends
perform-returns-else-branch-clause-ends g t c =
    let self = c.args.self.now in
    let S = g.S.Snapshot.tables self.source.now in
    let st = state_of c.args.run.now in
    let all = do_all self.tables.now self.columns.now S in
    let first = c.in_ok-test-in-If.field-0 in
    let meant = fork self.tables.now self.columns.now S st c.in-If.test c.in-If.then c.in-If.other in
    let chose : Chooses (Ok first) st meant = subst (λ r. Chooses r st meant) c.in_ok-test-in-If.was c.test.ensures in
    let goes : all c.in-If.other st ≡ do_action self.tables.now self.columns.now S c.args.action.now st =
    ap (λ b. cond b (all c.in-If.then st) (all c.in-If.other st)) (sym c.if-branch.false)
    ∙ if_goes self.tables.now self.columns.now S st c.in-If.test c.in-If.then c.in-If.other first chose ∙ ap (λ a. do_action self.tables.now self.columns.now S a st) (sym c.in-If.is) in
    subst (Ends c.perform_all-else-branch.result (state_of c.perform_all-else-branch.new.run)) goes
    (subst (λ block. Ends c.perform_all-else-branch.result (state_of c.perform_all-else-branch.new.run) (all block st)) c.as_slice-else-branch.ensures c.perform_all-else-branch.ensures.ends)

pub perform-returns-in_err-table-in-For-clause-ends : goal.perform-returns-in_err-table-in-For-clause-ends
perform-returns-in_err-table-in-For-clause-ends g t c =
    let self = c.args.self.now in
    let S = g.S.Snapshot.tables self.source.now in
    let st = state_of c.args.run.now in
    let e = c.in_err-table-in-For.field-0.0 in
    let meant = each self.tables.now self.columns.now S st c.in-For.slot c.in-For.table c.in-For.column c.in-For.low c.in-For.high c.in-For.body in
    let spans : Spans self.tables.now S c.in-For.slot (Err e) st meant = subst (λ r. Spans self.tables.now S c.in-For.slot r st meant) c.in_err-table-in-For.was (c.span.ensures S c.in-For.slot) in
    let same : c.from_residual-in_err-table-in-For.result ≡ Err e = search rules in
    subst (λ r. Ends r st (do_action self.tables.now self.columns.now S c.args.action.now st)) (sym same)
    (subst (λ a. Ends (Err e) st (do_action self.tables.now self.columns.now S a st)) (sym c.in-For.is)
    (for_stops self.tables.now self.columns.now S st c.in-For.slot c.in-For.table c.in-For.column c.in-For.low c.in-For.high c.in-For.body e spans))

pub perform-visit-requires : goal.perform-visit-requires
perform-visit-requires g t c κs within = (
  search (rules, the_lemmas),
  (
    within,
    (
      c.requires.declared,
      (
        c.requires.fit,
        (
          c.requires.found,
          let self = c.args.self.now in
              let S = g.S.Snapshot.tables self.source.now in
              let st = state_of c.args.run.now in
              let meant = each self.tables.now self.columns.now S st c.in-For.slot c.in-For.table c.in-For.column c.in-For.low c.in-For.high c.in-For.body in
              let spans : Spans self.tables.now S c.in-For.slot (Ok (c.in_ok-table-in-For.table, c.in_ok-table-in-For.read)) st meant =
              subst (λ r. Spans self.tables.now S c.in-For.slot r st meant) c.in_ok-table-in-For.was (c.span.ensures S c.in-For.slot) in
              spans.0,
        ),
      ),
    ),
  ),
)

pub perform-returns-in_ok-table-in-For-clause-ends : goal.perform-returns-in_ok-table-in-For-clause-ends
perform-returns-in_ok-table-in-For-clause-ends g t c =
    let self = c.args.self.now in
    let S = g.S.Snapshot.tables self.source.now in
    let st = state_of c.args.run.now in
    let table = c.in_ok-table-in-For.table in
    let read = c.in_ok-table-in-For.read in
    let meant = each self.tables.now self.columns.now S st c.in-For.slot c.in-For.table c.in-For.column c.in-For.low c.in-For.high c.in-For.body in
    let spans : Spans self.tables.now S c.in-For.slot (Ok (table, read)) st meant = subst (λ r. Spans self.tables.now S c.in-For.slot r st meant) c.in_ok-table-in-For.was (c.span.ensures S c.in-For.slot) in
    subst (Ends c.visit.result (state_of c.visit.new.run))
    (for_goes self.tables.now self.columns.now S st c.in-For.slot c.in-For.table c.in-For.column c.in-For.low c.in-For.high c.in-For.body table read spans ∙ ap (λ a. do_action self.tables.now self.columns.now S a st) (sym c.in-For.is))
    (subst (λ body. Ends c.visit.result (state_of c.visit.new.run) (with_rows S table.def.now read st (each_held (hold c.in-For.slot table.number) (do_all self.tables.now self.columns.now S body)))) c.as_slice-in-For.ensures c.visit.ensures.ends)

-- a row's turn: what was added up is a part of the block
turned : (declared : List TableDef) (columns own : List (List (Option ℕ))) (S : Tables) (block : List Action) (left : List Action) (st : State) (slots slots-held : Slots) (reached : State)
    → own ≡ columns → slots ≡ slots-held → do_all declared own S left reached ≡ do_all declared own S block (record st { environment = record st.environment { slots = slots } })
    → do_all declared columns S left reached ≡ do_all declared columns S block (record st { environment = record st.environment { slots = slots-held } })
turned declared columns own S block left st slots slots-held reached same held does =
    subst (λ own. do_all declared own S left reached ≡ do_all declared own S block (record st { environment = record st.environment { slots = slots } })) same does
    ∙ ap (λ slots. do_all declared columns S block (record st { environment = record st.environment { slots = slots } })) held

pub visit_row-returns-then-done-body-clause-ends : goal.visit_row-returns-then-done-body-clause-ends
visit_row-returns-then-done-body-clause-ends g t c =
    let self = c.args.self.now in
    let S = g.S.Snapshot.tables self.source.now in
    let turn = c.args.turn in
    let block = c.args.body.now in
    let before = state_of c.args.run.now in
    let reached = state_of c.add_up-done.new.run in
    let held : IsHeld (bindings_of c.put.new.slots.items) turn.slot turn.table c.args.row.now =
    subst (λ slots. IsHeld slots turn.slot turn.table c.args.row.now) (sym c.put.ensures) (held_there before.environment.slots turn.slot (Held turn.table c.args.row.now)) in
    let does = (c.add_up-done.ensures.does block c.requires.begins held).1 self.tables.now S in
    row_done self.tables.now self.columns.now S block c.add_up-done.result (hold turn.slot turn.table c.args.row.now before) reached (search rules)
    (turned self.tables.now self.columns.now turn.columns.now S block (drop c.add_up-done.result block) before (bindings_of c.put.new.slots.items) (slice_set before.environment.slots turn.slot (Some (Held turn.table c.args.row.now))) reached c.requires.columns c.put.ensures does)

pub visit_row-returns-clause-ends : goal.visit_row-returns-clause-ends
visit_row-returns-clause-ends g t c =
    let self = c.args.self.now in
    let S = g.S.Snapshot.tables self.source.now in
    let turn = c.args.turn in
    let block = c.args.body.now in
    let before = state_of c.args.run.now in
    let reached = state_of c.add_up-done.new.run in
    let held : IsHeld (bindings_of c.put.new.slots.items) turn.slot turn.table c.args.row.now =
    subst (λ slots. IsHeld slots turn.slot turn.table c.args.row.now) (sym c.put.ensures) (held_there before.environment.slots turn.slot (Held turn.table c.args.row.now)) in
    let does = (c.add_up-done.ensures.does block c.requires.begins held).1 self.tables.now S in
    subst (Ends c.perform_from.result (state_of c.perform_from.new.run))
    (turned self.tables.now self.columns.now turn.columns.now S block (drop c.add_up-done.result block) before (bindings_of c.put.new.slots.items) (slice_set before.environment.slots turn.slot (Some (Held turn.table c.args.row.now))) reached c.requires.columns c.put.ensures does)
    c.perform_from.ensures.ends
