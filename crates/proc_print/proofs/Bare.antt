-- A reader looks at no place: without their places the tokens are read as the same tree, without its line numbers.
use Rattle.std.proofs.Common.{◌≡◌, ℕ, zero, suc, List, [], ◌∷◌, ◌++◌, length, map, Bool, true, false, cond, Option, Some, None, Ok, Err, refl, sym, ap, ◌∙◌}
use Rattle.std.specs.Option.{option_map}
use Rattle.std.proofs.lemmas.List.{map-append, length-map}
use Rattle.proc_syntax.specs.declared.tree.Op.{Op}
use Rattle.proc_syntax.specs.declared.tree.Expr.{Expr}
use Rattle.proc_syntax.specs.declared.tree.Expr.TheVariants as expr
use Rattle.proc_parse.specs.declared.token.Token.{Token}
use Rattle.proc_parse.specs.declared.token.Lexeme.{Lexeme}
use Rattle.proc_parse.specs.declared.token.Sign.TheVariants as sign
use Rattle.proc_parse.specs.Words.{is_sign}
use Rattle.proc_parse.specs.Reading.{Read, Reader, on_read, ◌>>=◌, done, refuse, if_past, begins, behind, before, by_first, expect, one, if_found}
use Rattle.proc_parse.specs.Lists.{list_from, list_of, many_from, many_of}
use Rattle.proc_parse.specs.Expressions.{op_before, if_op, with_op, without_op, chain_from, chain_of}
use Rattle.proc_print.specs.Unlined.{unlined_expr}
use Rattle.proc_print.proofs.UnlinedTrees.{unlined_two}

abbrev pub bare : Token → Token
bare t = record { lexeme = t.lexeme; line = 0; col = 0; start = 0; end = 0 }

abbrev pub bared : List Token → List Token
bared ts = map bare ts

-- what is read, without lines and places
abbrev pub read_bare : {A : Type 0} → (A → A) → Read A → Read A
read_bare un (Ok x) = Ok (un x.0, bared x.1)
read_bare un (Err rest) = Err (bared rest)

-- the second reader reads tokens without places as the first reads them with
pub record IsBare {A : Type 0} (un : A → A) (p q : Reader A) : Type 0 where
  pub same : (ts : List Token) → q (bared ts) ≡ read_bare un (p ts)

pub bare_done : {A : Type 0} → (un : A → A) (x y : A) → y ≡ un x → IsBare un (done x) (done y)
bare_done un x y e = record { same = λ ts. ap (λ y. Ok (y, bared ts)) e }

pub bare_refuse : {A : Type 0} → (un : A → A) → IsBare un refuse refuse
bare_refuse un = record { same = λ ts. refl }

read_then : {A B : Type 0} → (un : A → A) (un' : B → B) (r : Read A) (f g : A → Reader B) → ((x : A) → IsBare un' (f x) (g (un x))) → on_read (read_bare un r) g ≡ read_bare un' (on_read r f)
read_then un un' (Ok x) f g h = (h x.0).same x.1
read_then un un' (Err rest) f g h = refl

pub bare_then : {A B : Type 0} → (un : A → A) (un' : B → B) (p q : Reader A) (f g : A → Reader B) → IsBare un p q → ((x : A) → IsBare un' (f x) (g (un x))) → IsBare un' (p >>= f) (q >>= g)
bare_then {A = A} un un' p q f g hp hf = record { same = λ ts. ap (λ (r : Read A). on_read r g) (hp.same ts) ∙ read_then un un' (p ts) f g hf }

past_by : {A : Type 0} → (un : A → A) (b : Bool) (ts : List Token) (go go' : Reader A) (stay stay' : Read A) → IsBare un go go' → stay' ≡ read_bare un stay
    → if_past (cond b (Some (bared ts)) None) go' stay' ≡ read_bare un (if_past (cond b (Some ts) None) go stay)
past_by un true ts go go' stay stay' hg hs = hg.same ts
past_by un false ts go go' stay stay' hg hs = hs

behind_same : {A : Type 0} → (un : A → A) (test : Lexeme → Bool) (go go' stay stay' : Reader A) → IsBare un go go' → IsBare un stay stay' → (ts : List Token)
    → behind test go' stay' (bared ts) ≡ read_bare un (behind test go stay ts)
behind_same un test go go' stay stay' hg hs [] = hs.same []
behind_same un test go go' stay stay' hg hs (t ∷ ts) = past_by un (test t.lexeme) ts go go' (stay (t ∷ ts)) (stay' (bared (t ∷ ts))) hg (hs.same (t ∷ ts))

pub bare_behind : {A : Type 0} → (un : A → A) (test : Lexeme → Bool) (go go' stay stay' : Reader A) → IsBare un go go' → IsBare un stay stay' → IsBare un (behind test go stay) (behind test go' stay')
bare_behind un test go go' stay stay' hg hs = record { same = behind_same un test go go' stay stay' hg hs }

choice_by : {A : Type 0} → (un : A → A) (b : Bool) (go go' stay stay' : Read A) → go' ≡ read_bare un go → stay' ≡ read_bare un stay → cond b go' stay' ≡ read_bare un (cond b go stay)
choice_by un true go go' stay stay' hg hs = hg
choice_by un false go go' stay stay' hg hs = hs

begins_bare : (test : Lexeme → Bool) (ts : List Token) → begins test (bared ts) ≡ begins test ts
begins_bare test [] = refl
begins_bare test (t ∷ ts) = refl

pub bare_before : {A : Type 0} → (un : A → A) (test : Lexeme → Bool) (go go' stay stay' : Reader A) → IsBare un go go' → IsBare un stay stay' → IsBare un (before test go stay) (before test go' stay')
bare_before un test go go' stay stay' hg hs = record {
  same = λ ts.
      ap (λ b. cond b (go' (bared ts)) (stay' (bared ts))) (begins_bare test ts)
      ∙ choice_by un (begins test ts) (go ts) (go' (bared ts)) (stay ts) (stay' (bared ts)) (hg.same ts) (hs.same ts);
}

pub bare_first : {A H : Type 0} → (un : A → A) (head : List Token → H) (go go' : H → Reader A) → ((ts : List Token) → head (bared ts) ≡ head ts) → ((h : H) → IsBare un (go h) (go' h))
    → IsBare un (by_first head go) (by_first head go')
bare_first un head go go' e h = record { same = λ ts. ap (λ h. go' h (bared ts)) (e ts) ∙ (h (head ts)).same ts }

-- ---- one token

found_by : {A : Type 0} → (un : A → A) (o o' : Option A) (t : Token) (ts : List Token) → o' ≡ option_map un o → if_found o' (bare t) (bared ts) ≡ read_bare un (if_found o t ts)
found_by {A = A} un (Some x) o' t ts e = ap (λ (o : Option A). if_found o (bare t) (bared ts)) e
found_by {A = A} un None o' t ts e = ap (λ (o : Option A). if_found o (bare t) (bared ts)) e

one_same : {A : Type 0} → (un : A → A) (meaning : Token → Option A) → ((t : Token) → meaning (bare t) ≡ option_map un (meaning t)) → (ts : List Token)
    → one meaning (bared ts) ≡ read_bare un (one meaning ts)
one_same un meaning h [] = refl
one_same un meaning h (t ∷ ts) = found_by un (meaning t) (meaning (bare t)) t ts (h t)

pub bare_one : {A : Type 0} → (un : A → A) (meaning : Token → Option A) → ((t : Token) → meaning (bare t) ≡ option_map un (meaning t)) → IsBare un (one meaning) (one meaning)
bare_one un meaning h = record { same = one_same un meaning h }

abbrev pub same_unit : Unit {0} → Unit {0}
same_unit u = tt

pub bare_expect : (test : Lexeme → Bool) → IsBare same_unit (expect test) (expect test)
bare_expect test = bare_behind same_unit test (done tt) (done tt) refuse refuse (bare_done same_unit tt tt refl) (bare_refuse same_unit)

-- ---- operators

op_by : {A : Type 0} → (un : A → A) (o : Option Op) (t : Token) (ts : List Token) (go go' : Op → Reader A) (stay stay' : A) → stay' ≡ un stay → ((o : Op) → IsBare un (go o) (go' o))
    → if_op (op_before o (bared ts)) go' stay' (bared (t ∷ ts)) ≡ read_bare un (if_op (op_before o ts) go stay (t ∷ ts))
op_by un None t ts go go' stay stay' e h = ap (λ y. Ok (y, bared (t ∷ ts))) e
op_by un (Some o) t ts go go' stay stay' e h = (h o).same ts

op_same : {A : Type 0} → (un : A → A) (ops : Lexeme → Option Op) (go go' : Op → Reader A) (stay stay' : A) → stay' ≡ un stay → ((o : Op) → IsBare un (go o) (go' o)) → (ts : List Token)
    → with_op ops go' stay' (bared ts) ≡ read_bare un (with_op ops go stay ts)
op_same un ops go go' stay stay' e h [] = ap (λ y. Ok (y, [])) e
op_same un ops go go' stay stay' e h (t ∷ ts) = op_by un (ops t.lexeme) t ts go go' stay stay' e h

pub bare_op : {A : Type 0} → (un : A → A) (ops : Lexeme → Option Op) (go go' : Op → Reader A) (stay stay' : A) → stay' ≡ un stay → ((o : Op) → IsBare un (go o) (go' o))
    → IsBare un (with_op ops go stay) (with_op ops go' stay')
bare_op un ops go go' stay stay' e h = record { same = op_same un ops go go' stay stay' e h }

no_op_by : (o : Option Op) (t : Token) (ts : List Token) (left left' : Expr) → left' ≡ unlined_expr left
    → if_op {A = Expr} (op_before o (bared ts)) (λ _ _. Err (bared (t ∷ ts))) left' (bared (t ∷ ts))
    ≡ read_bare unlined_expr (if_op {A = Expr} (op_before o ts) (λ _ _. Err (t ∷ ts)) left (t ∷ ts))
no_op_by None t ts left left' e = ap (λ y. Ok (y, bared (t ∷ ts))) e
no_op_by (Some o) t ts left left' e = refl

no_op_same : (ops : Lexeme → Option Op) (left left' : Expr) → left' ≡ unlined_expr left → (ts : List Token) → without_op ops left' (bared ts) ≡ read_bare unlined_expr (without_op ops left ts)
no_op_same ops left left' e [] = ap (λ y. Ok (y, [])) e
no_op_same ops left left' e (t ∷ ts) = no_op_by (ops t.lexeme) t ts left left' e

bare_chain_from : (ops : Lexeme → Option Op) (operand : Reader Expr) → IsBare unlined_expr operand operand → (more : ℕ) (left left' : Expr) → left' ≡ unlined_expr left
    → IsBare unlined_expr (chain_from ops operand more left) (chain_from ops operand more left')
bare_chain_from ops operand h zero left left' e = record { same = no_op_same ops left left' e }
bare_chain_from ops operand h (suc more) left left' e =
    bare_op unlined_expr ops (λ o. operand >>= λ right. chain_from ops operand more (expr.Two o left right)) (λ o. operand >>= λ right. chain_from ops operand more (expr.Two o left' right)) left left' e
    (λ o. bare_then unlined_expr unlined_expr operand operand (λ right. chain_from ops operand more (expr.Two o left right)) (λ right. chain_from ops operand more (expr.Two o left' right)) h
    (λ right. bare_chain_from ops operand h more (expr.Two o left right) (expr.Two o left' (unlined_expr right))
    (ap (λ l. expr.Two o l (unlined_expr right)) e ∙ sym (unlined_two o left right))))

pub bare_chain : (ops : Lexeme → Option Op) (operand : Reader Expr) → IsBare unlined_expr operand operand → IsBare unlined_expr (chain_of ops operand) (chain_of ops operand)
bare_chain ops operand h = bare_then unlined_expr unlined_expr operand operand (λ left. chain_from ops operand 32 left) (λ left. chain_from ops operand 32 left) h
    (λ left. bare_chain_from ops operand h 32 left (unlined_expr left) refl)

-- ---- lists

bare_list_from : {A : Type 0} → (un : A → A) (item item' : Reader A) → IsBare un item item' → (steps : ℕ) (items items' : List A) → items' ≡ map un items
    → IsBare (map un) (list_from item steps items) (list_from item' steps items')
bare_list_from un item item' h zero items items' e = bare_refuse (map un)
bare_list_from un item item' h (suc steps) items items' e =
    bare_then un (map un) item item' (λ x. behind (is_sign sign.Comma) (list_from item steps (items ++ x ∷ [])) (done (items ++ x ∷ [])))
    (λ x. behind (is_sign sign.Comma) (list_from item' steps (items' ++ x ∷ [])) (done (items' ++ x ∷ []))) h
    (λ x. let more : items' ++ un x ∷ [] ≡ map un (items ++ x ∷ []) = ap (λ is. is ++ un x ∷ []) e ∙ sym (map-append un items (x ∷ [])) in
    bare_behind (map un) (is_sign sign.Comma) (list_from item steps (items ++ x ∷ [])) (list_from item' steps (items' ++ un x ∷ [])) (done (items ++ x ∷ [])) (done (items' ++ un x ∷ []))
    (bare_list_from un item item' h steps (items ++ x ∷ []) (items' ++ un x ∷ []) more) (bare_done (map un) (items ++ x ∷ []) (items' ++ un x ∷ []) more))

pub bare_list : {A : Type 0} → (un : A → A) (item item' : Reader A) → IsBare un item item' → IsBare (map un) (list_of item) (list_of item')
bare_list un item item' h = record {
  same = λ ts. ap (λ n. list_from item' n [] (bared ts)) (length-map ts bare) ∙ (bare_list_from un item item' h (length ts) [] [] refl).same ts;
}

bare_many_from : {A : Type 0} → (un : A → A) (test : Lexeme → Bool) (item item' : Reader A) → IsBare un item item' → (steps : ℕ) (items items' : List A) → items' ≡ map un items
    → IsBare (map un) (many_from test item steps items) (many_from test item' steps items')
bare_many_from un test item item' h zero items items' e = bare_done (map un) items items' e
bare_many_from un test item item' h (suc steps) items items' e =
    bare_before (map un) test (item >>= λ x. many_from test item steps (items ++ x ∷ [])) (item' >>= λ x. many_from test item' steps (items' ++ x ∷ [])) (done items) (done items')
    (bare_then un (map un) item item' (λ x. many_from test item steps (items ++ x ∷ [])) (λ x. many_from test item' steps (items' ++ x ∷ [])) h
    (λ x. bare_many_from un test item item' h steps (items ++ x ∷ []) (items' ++ un x ∷ []) (ap (λ is. is ++ un x ∷ []) e ∙ sym (map-append un items (x ∷ [])))))
    (bare_done (map un) items items' e)

pub bare_many : {A : Type 0} → (un : A → A) (test : Lexeme → Bool) (item item' : Reader A) → IsBare un item item' → IsBare (map un) (many_of test item) (many_of test item')
bare_many un test item item' h = record {
  same = λ ts. ap (λ n. many_from test item' n [] (bared ts)) (length-map ts bare) ∙ (bare_many_from un test item item' h (length ts) [] [] refl).same ts;
}
