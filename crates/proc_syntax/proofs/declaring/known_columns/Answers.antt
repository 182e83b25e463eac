use Rattle.std.proofs.Common.{◌≡◌, ◌∙◌, ◌∷◌, ◌++◌, ◌+◌, ◌<◌, [], List, None, Some, ap, append_assoc, drop, length, rules, slice_index_or, sym, ℕ}
use Rattle.std.proofs.lemmas.List.{drop_more}
use Rattle.std.specs.List.{cons_option}
use Rattle.proc_syntax.specs.Declaring.{known_columns}
use Rattle.proc_syntax.proofs.declaring.known_columns.Goals as goal
use Rattle.proc_syntax.proofs.declaring.known_columns.Goals.{in-Some+in_ok-push-in-Some, in-None}

pub loop-named-preserved : goal.loop-named-preserved
loop-named-preserved c =
    let before : List ℕ = c.loop-named.numbers in
    let rest : List ℕ = known_columns c.args.columns.now (drop (c.loop-named.named-index + 1) c.args.names.now) in
    let within : c.loop-named.named-index < length c.args.names.now = search rules in
    let here : slice_index_or c.args.names.now c.loop-named.named-index c.named-item.result ≡ c.named-item.result = search rules in
    let left : drop c.loop-named.named-index c.args.names.now ≡ c.named-item.result ∷ drop (c.loop-named.named-index + 1) c.args.names.now =
    drop_more c.args.names.now c.loop-named.named-index c.named-item.result within ∙ ap (λ named. named ∷ drop (c.loop-named.named-index + 1) c.args.names.now) here in
    let next : cons_option c.column_number.result rest ≡ known_columns c.args.columns.now (drop c.loop-named.named-index c.args.names.now) =
    ap (λ found. cons_option found rest) c.column_number.ensures ∙ sym (ap (known_columns c.args.columns.now) left) in
    elim c.match-column_number.branch [
      | in-Some+in_ok-push-in-Some w ↦
          let some : c.column_number.result ≡ Some w.in-Some.number = search rules in
          let grown : c.match-column_number.numbers ≡ before ++ w.in-Some.number ∷ [] = search rules in
          ap (λ front. front ++ rest) grown ∙ append_assoc before (w.in-Some.number ∷ []) rest ∙ ap (λ more. before ++ more) (sym (ap (λ found. cons_option found rest) some) ∙ next) ∙ c.loop-named.invariant
      | in-None w ↦
          let none : c.column_number.result ≡ None = search rules in
          let kept : c.match-column_number.numbers ≡ before = search rules in
          ap (λ front. front ++ rest) kept ∙ ap (λ more. before ++ more) (sym (ap (λ found. cons_option found rest) none) ∙ next) ∙ c.loop-named.invariant
    ]
