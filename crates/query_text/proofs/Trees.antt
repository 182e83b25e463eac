-- What a query that was read has: few sources, and one where it has items.
use Rattle.std.proofs.Common.{◌≡◌, ◌≤◌, ◌+◌, ℕ, zero, suc, List, [], ◌∷◌, ◌++◌, length, length-append, Option, Some, None, Ok, Err, refl, subst, sym, ◌∙◌, arith}
use Rattle.proc_parse.specs.declared.token.Token.{Token}
use Rattle.proc_parse.specs.declared.token.Sign.TheVariants as sign
use Rattle.proc_parse.specs.declared.token.Word.TheVariants as word
use Rattle.proc_parse.specs.Grammar.{is_end}
use Rattle.proc_parse.specs.Phrases.{ended, the_sign, the_word}
use Rattle.proc_parse.specs.Reading.{Read, Reader, ◌>>=◌, behind, done, expect, if_past, on_read, past}
use Rattle.query_text.specs.Grammar.{by_list, col, columns, conditions, finish, items, number, query, select_list, select_upto, selected_of, source}
use Rattle.query_text.specs.Lists.{list_upto, separates, upto_from}
use Rattle.query_text.specs.declared.keyword.Keyword.TheVariants as keyword
use Rattle.query_text.specs.declared.lists.Separator.{Separator}
use Rattle.query_text.specs.declared.lists.Separator.TheVariants as separator
use Rattle.query_text.specs.declared.tree.SelectText.{SelectText}
use Rattle.query_text.specs.declared.tree.SelectedText.{SelectedText}
use Rattle.query_text.specs.declared.tree.SelectedText.TheVariants as selected
use Rattle.query_text.specs.declared.tree.SourceText.{SourceText}

-- items are of one source
abbrev pub OneWhere : SelectedText → ℕ → Type 0
OneWhere (selected.Items groups items) n = n ≡ 1
OneWhere (selected.Columns columns) n = Unit {0}

pub record IsTree (select : SelectText) : Type 0 where
  pub few : length select.sources ≤ 4
  pub one : OneWhere select.selected (length select.sources)

-- what was read by one reader after another
record Both {A B : Type 0} (r : Read A) (f : A → Reader B) (y : B × List Token) : Type 0 where
  first : A × List Token
  read : r ≡ Ok first
  then_read : f first.0 first.1 ≡ Ok y

both : {A B : Type 0} → (r : Read A) (f : A → Reader B) (y : B × List Token) → on_read r f ≡ Ok y → Both r f y
both (Ok x) f y e = record { first = x; read = refl; then_read = e }
both (Err rest) f y e = absurd cc

was_done : {A : Type 0} → (x : A) (ts : List Token) (y : A × List Token) → done x ts ≡ Ok y → y.0 ≡ x
was_done x ts y e = cc

past_few : {A : Type 0} → (o : Option (List Token)) (go : Reader (List A)) (xs : List A) (ts : List Token) (y : List A × List Token) (n : ℕ)
    → ((rest : List Token) → go rest ≡ Ok y → length y.0 ≤ n) → length xs ≤ n → if_past o go (done xs ts) ≡ Ok y → length y.0 ≤ n
past_few (Some rest) go xs ts y n f h e = f rest e
past_few None go xs ts y n f h e = subst (λ zs. length zs ≤ n) (sym (was_done xs ts y e)) h

upto_few : {A : Type 0} → (by : Separator) (element : Reader A) (more : ℕ) (items : List A) (ts : List Token) (y : List A × List Token) → upto_from by element more items ts ≡ Ok y → length y.0 ≤ length items + more
upto_few by element zero items ts y e = absurd cc
upto_few {A = A} by element (suc more) items ts y e =
    let next : A → Reader (List A) = λ x. behind (separates by) (upto_from by element more (items ++ x ∷ [])) (done (items ++ x ∷ [])) in
    let b = both (element ts) next y e in
    let longer : length (items ++ b.first.0 ∷ []) ≡ length items + 1 = length-append items (b.first.0 ∷ []) in
    past_few (past (separates by) b.first.1) (upto_from by element more (items ++ b.first.0 ∷ [])) (items ++ b.first.0 ∷ []) b.first.1 y (length items + suc more)
    (λ rest k. let few = upto_few by element more (items ++ b.first.0 ∷ []) rest y k in omega (arith, few, longer)) (omega (arith, longer)) b.then_read

columns_one : (n : ℕ) (ts : List Token) (y : SelectedText × List Token) → columns 16 ts ≡ Ok y → OneWhere y.0 n
columns_one n ts y e =
    let b = both (select_list 16 col ts) (λ cs. done (selected.Columns cs)) y e in
    subst (λ s. OneWhere s n) (sym (was_done (selected.Columns b.first.0) b.first.1 y b.then_read)) tt

one_where : (s : SelectedText) → OneWhere s 1
one_where (selected.Items groups items) = refl
one_where (selected.Columns columns) = tt

selected_one : (sources : List SourceText) (ts : List Token) (y : SelectedText × List Token) → selected_of 16 sources ts ≡ Ok y → OneWhere y.0 (length sources)
selected_one [] ts y e = columns_one 0 ts y e
selected_one (s ∷ []) ts y e = one_where y.0
selected_one (s ∷ t ∷ sources) ts y e = columns_one (length (s ∷ t ∷ sources)) ts y e

pub query_tree : (ts : List Token) (y : SelectText × List Token) → query ts ≡ Ok y → IsTree y.0
query_tree ts y e =
    let whole = both (select_upto 4 16 ts) finish y e in
    let end = both (expect is_end whole.first.1) (λ _. done whole.first.0) y whole.then_read in
    let from = both (the_word word.From ts) (λ _. list_upto separator.Join source 4 >>= λ sources. conditions 16 >>= λ comparisons. selected_of 16 sources >>= λ chosen.
    by_list 16 keyword.Order number >>= λ order. ended sign.Semicolon (record { sources = sources; comparisons = comparisons; selected = chosen; order = order })) whole.first whole.read in
    let sources = both (list_upto separator.Join source 4 from.first.1) (λ sources. conditions 16 >>= λ comparisons. selected_of 16 sources >>= λ chosen.
    by_list 16 keyword.Order number >>= λ order. ended sign.Semicolon (record { sources = sources; comparisons = comparisons; selected = chosen; order = order })) whole.first from.then_read in
    let comparisons = both (conditions 16 sources.first.1) (λ comparisons. selected_of 16 sources.first.0 >>= λ chosen.
    by_list 16 keyword.Order number >>= λ order. ended sign.Semicolon (record { sources = sources.first.0; comparisons = comparisons; selected = chosen; order = order })) whole.first sources.then_read in
    let chosen = both (selected_of 16 sources.first.0 comparisons.first.1) (λ chosen.
    by_list 16 keyword.Order number >>= λ order. ended sign.Semicolon (record { sources = sources.first.0; comparisons = comparisons.first.0; selected = chosen; order = order })) whole.first comparisons.then_read in
    let order = both (by_list 16 keyword.Order number chosen.first.1) (λ order. ended sign.Semicolon
    (record { sources = sources.first.0; comparisons = comparisons.first.0; selected = chosen.first.0; order = order })) whole.first chosen.then_read in
    let closed = both (the_sign sign.Semicolon order.first.1) (λ _. done
    (record { sources = sources.first.0; comparisons = comparisons.first.0; selected = chosen.first.0; order = order.first.0 })) whole.first order.then_read in
    let is : whole.first.0 ≡ record { sources = sources.first.0; comparisons = comparisons.first.0; selected = chosen.first.0; order = order.first.0 } =
    was_done _ closed.first.1 whole.first closed.then_read in
    subst IsTree (sym (was_done whole.first.0 end.first.1 y end.then_read ∙ is)) record {
      few = upto_few separator.Join source 4 [] from.first.1 sources.first sources.read;
      one = selected_one sources.first.0 comparisons.first.1 chosen.first chosen.read;
    }
