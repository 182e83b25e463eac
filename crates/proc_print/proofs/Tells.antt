-- What a reader reads has the tokens of its tree.
use Rattle.std.proofs.Common.{◌≡◌, ℕ, zero, suc, List, [], ◌∷◌, ◌++◌, length, Bool, true, false, cond, Option, Some, None, Ok, Err, refl, sym, ap, ◌∙◌}
use Rattle.proc_syntax.specs.declared.tree.Op.{Op}
use Rattle.proc_syntax.specs.declared.tree.Expr.{Expr}
use Rattle.proc_syntax.specs.declared.tree.Expr.TheVariants as expr
use Rattle.proc_parse.specs.declared.token.Token.{Token}
use Rattle.proc_parse.specs.declared.token.Lexeme.{Lexeme}
use Rattle.proc_parse.specs.declared.token.Lexeme.TheVariants as lexeme
use Rattle.proc_parse.specs.declared.token.Word.{Word}
use Rattle.proc_parse.specs.declared.token.Sign.{Sign}
use Rattle.proc_parse.specs.declared.token.Sign.TheVariants as sign
use denote.Enum.Bare.{same_true}
use Rattle.proc_parse.specs.contracts.token.Word as a_word
use Rattle.proc_parse.specs.contracts.token.Sign as a_sign
use Rattle.proc_print.specs.Laws.{lexemes}
use Rattle.proc_parse.specs.Words.{is_word, is_sign}
use Rattle.proc_parse.specs.Reading.{Read, Reader, on_read, ◌>>=◌, ◌>>◌, done, refuse, if_past, begins, behind, before, by_first, expect, one, if_found}
use Rattle.proc_parse.specs.Lists.{list_from, list_of, many_from, many_of}
use Rattle.proc_parse.specs.Phrases.{the_word, the_sign}
use Rattle.proc_parse.specs.Expressions.{op_before, op_at, if_op, with_op, chain_from, chain_of}
use Rattle.proc_print.proofs.Spoken.{Spoken, silent, say_sign, say_more, say_listed, say_all, op_lexeme, say_expr}
use Rattle.proc_print.proofs.SpokenTrees.{said_two}

-- the tokens were those of the tree, after what was said before
abbrev pub Told : {A : Type 0} → Spoken → (A → Spoken) → List Token → Read A → Type 0
Told heard say ts (Ok x) = heard (lexemes ts) ≡ say x.0 (lexemes x.1)
Told heard say ts (Err rest) = Unit {0}

pub record Tells {A : Type 0} (heard : Spoken) (say : A → Spoken) (p : Reader A) : Type 0 where
  pub told : (ts : List Token) → Told heard say ts (p ts)

-- what follows a phrase has its tokens before it
abbrev pub after : {A : Type 0} → Spoken → (A → Spoken) → A → Spoken
after heard say x r = heard (say x r)

pub tells_done : {A : Type 0} → (heard : Spoken) (say : A → Spoken) (x : A) → ((r : List Lexeme) → heard r ≡ say x r) → Tells heard say (done x)
tells_done heard say x h = record { told = λ ts. h (lexemes ts) }

pub tells_refuse : {A : Type 0} → (heard : Spoken) (say : A → Spoken) → Tells heard say (refuse {A = A})
tells_refuse heard say = record { told = λ ts. tt }

told_more : {A : Type 0} → (heard : Spoken) (say : A → Spoken) (few ts : List Token) (now : Spoken) (r : Read A) → heard (lexemes ts) ≡ now (lexemes few)
    → Told now say few r → Told heard say ts r
told_more heard say few ts now (Ok x) e h = e ∙ h
told_more heard say few ts now (Err rest) e h = tt

told_then : {A B : Type 0} → (heard : Spoken) (own : A → Spoken) (say : B → Spoken) (ts : List Token) (r : Read A) (f : A → Reader B)
    → Told silent own ts r → ((x : A) → Tells (after heard own x) say (f x)) → Told heard say ts (on_read r f)
told_then heard own say ts (Ok x) f h k = told_more heard say x.1 ts (after heard own x.0) (f x.0 x.1) (ap heard h) ((k x.0).told x.1)
told_then heard own say ts (Err rest) f h k = tt

pub tells_then : {A B : Type 0} → (heard : Spoken) (own : A → Spoken) (say : B → Spoken) (p : Reader A) (f : A → Reader B)
    → Tells silent own p → ((x : A) → Tells (after heard own x) say (f x)) → Tells heard say (p >>= f)
tells_then heard own say p f hp hf = record { told = λ ts. told_then heard own say ts (p ts) f (hp.told ts) hf }

told_heard : {A : Type 0} → (heard : Spoken) (own : A → Spoken) (ts : List Token) (r : Read A) → Told silent own ts r → Told heard (after heard own) ts r
told_heard heard own ts (Ok x) h = ap heard h
told_heard heard own ts (Err rest) h = tt

-- what is said before a phrase stands before its tokens
pub tells_heard : {A : Type 0} → (heard : Spoken) (own : A → Spoken) (p : Reader A) → Tells silent own p → Tells heard (after heard own) p
tells_heard heard own p h = record { told = λ ts. told_heard heard own ts (p ts) (h.told ts) }

-- ---- by the next token

told_past : {A : Type 0} → (b : Bool) (heard : Spoken) (l : Lexeme) (say : A → Spoken) (t : Token) (ts : List Token) (go : Reader A) (stay : Read A) → (b ≡ true → t.lexeme ≡ l)
    → Tells (λ r. heard (l ∷ r)) say go → Told heard say (t ∷ ts) stay → Told heard say (t ∷ ts) (if_past (cond b (Some ts) None) go stay)
told_past true heard l say t ts go stay is hg hs =
    told_more heard say ts (t ∷ ts) (λ r. heard (l ∷ r)) (go ts) (ap (λ l. heard (l ∷ lexemes ts)) (is refl)) (hg.told ts)
told_past false heard l say t ts go stay is hg hs = hs

told_behind : {A : Type 0} → (test : Lexeme → Bool) (l : Lexeme) → ((m : Lexeme) → test m ≡ true → m ≡ l) → (heard : Spoken) (say : A → Spoken) (go stay : Reader A)
    → Tells (λ r. heard (l ∷ r)) say go → Tells heard say stay → (ts : List Token) → Told heard say ts (behind test go stay ts)
told_behind test l is heard say go stay hg hs [] = hs.told []
told_behind test l is heard say go stay hg hs (t ∷ ts) = told_past (test t.lexeme) heard l say t ts go (stay (t ∷ ts)) (is t.lexeme) hg (hs.told (t ∷ ts))

pub tells_behind : {A : Type 0} → (test : Lexeme → Bool) (l : Lexeme) → ((m : Lexeme) → test m ≡ true → m ≡ l) → (heard : Spoken) (say : A → Spoken) (go stay : Reader A)
    → Tells (λ r. heard (l ∷ r)) say go → Tells heard say stay → Tells heard say (behind test go stay)
tells_behind test l is heard say go stay hg hs = record { told = told_behind test l is heard say go stay hg hs }

told_choice : {A : Type 0} → (b : Bool) (heard : Spoken) (say : A → Spoken) (ts : List Token) (go stay : Read A) → Told heard say ts go → Told heard say ts stay → Told heard say ts (cond b go stay)
told_choice true heard say ts go stay hg hs = hg
told_choice false heard say ts go stay hg hs = hs

pub tells_before : {A : Type 0} → (test : Lexeme → Bool) (heard : Spoken) (say : A → Spoken) (go stay : Reader A) → Tells heard say go → Tells heard say stay → Tells heard say (before test go stay)
tells_before test heard say go stay hg hs = record { told = λ ts. told_choice (begins test ts) heard say ts (go ts) (stay ts) (hg.told ts) (hs.told ts) }

pub tells_first : {A H : Type 0} → (head : List Token → H) (go : H → Reader A) (heard : Spoken) (say : A → Spoken) → ((h : H) → Tells heard say (go h)) → Tells heard say (by_first head go)
tells_first head go heard say hg = record { told = λ ts. (hg (head ts)).told ts }

-- words and signs

pub that_word : (w : Word) (m : Lexeme) → is_word w m ≡ true → m ≡ lexeme.Word w
that_word w (lexeme.Word v) h = ap lexeme.Word (same_true a_word.the_type tt v w h)
that_word w (lexeme.Name v) h = absurd cc
that_word w (lexeme.Int v) h = absurd cc
that_word w (lexeme.Text v) h = absurd cc
that_word w (lexeme.Bytes v) h = absurd cc
that_word w (lexeme.Sign v) h = absurd cc
that_word w lexeme.Bad h = absurd cc
that_word w lexeme.End h = absurd cc

pub that_sign : (s : Sign) (m : Lexeme) → is_sign s m ≡ true → m ≡ lexeme.Sign s
that_sign s (lexeme.Word v) h = absurd cc
that_sign s (lexeme.Name v) h = absurd cc
that_sign s (lexeme.Int v) h = absurd cc
that_sign s (lexeme.Text v) h = absurd cc
that_sign s (lexeme.Bytes v) h = absurd cc
that_sign s (lexeme.Sign v) h = ap lexeme.Sign (same_true a_sign.the_type tt v s h)
that_sign s lexeme.Bad h = absurd cc
that_sign s lexeme.End h = absurd cc

pub tells_expect : (test : Lexeme → Bool) (l : Lexeme) → ((m : Lexeme) → test m ≡ true → m ≡ l) → Tells silent (λ _ r. l ∷ r) (expect test)
tells_expect test l is =
    tells_behind test l is silent (λ _ r. l ∷ r) (done tt) refuse (tells_done (λ r. l ∷ r) (λ _ r. l ∷ r) tt (λ r. refl)) (tells_refuse silent (λ _ r. l ∷ r))

pub tells_word : {A : Type 0} → (heard : Spoken) (say : A → Spoken) (w : Word) (next : Reader A) → Tells (λ r. heard (lexeme.Word w ∷ r)) say next → Tells heard say (the_word w >> next)
tells_word heard say w next h = tells_then heard (λ _ r. lexeme.Word w ∷ r) say (the_word w) (λ _. next) (tells_expect (is_word w) (lexeme.Word w) (that_word w)) (λ _. h)

pub tells_sign : {A : Type 0} → (heard : Spoken) (say : A → Spoken) (s : Sign) (next : Reader A) → Tells (λ r. heard (lexeme.Sign s ∷ r)) say next → Tells heard say (the_sign s >> next)
tells_sign heard say s next h = tells_then heard (λ _ r. lexeme.Sign s ∷ r) say (the_sign s) (λ _. next) (tells_expect (is_sign s) (lexeme.Sign s) (that_sign s)) (λ _. h)

-- ---- one token

-- what holds of a value, if there is one
abbrev pub Where : {A : Type 0} → Option A → (A → Type 0) → Type 0
Where None P = Unit {0}
Where (Some x) P = P x

told_found : {A : Type 0} → (say : A → Spoken) (o : Option A) (t : Token) (ts : List Token) → Where o (λ x. (r : List Lexeme) → t.lexeme ∷ r ≡ say x r)
    → Told silent say (t ∷ ts) (if_found o t ts)
told_found say (Some x) t ts h = h (lexemes ts)
told_found say None t ts h = tt

told_one : {A : Type 0} → (say : A → Spoken) (meaning : Token → Option A) → ((t : Token) → Where (meaning t) (λ x. (r : List Lexeme) → t.lexeme ∷ r ≡ say x r))
    → (ts : List Token) → Told silent say ts (one meaning ts)
told_one say meaning h [] = tt
told_one say meaning h (t ∷ ts) = told_found say (meaning t) t ts (h t)

pub tells_one : {A : Type 0} → (say : A → Spoken) (meaning : Token → Option A) → ((t : Token) → Where (meaning t) (λ x. (r : List Lexeme) → t.lexeme ∷ r ≡ say x r))
    → Tells silent say (one meaning)
tells_one say meaning h = record { told = told_one say meaning h }

-- ---- operators

told_op_by : {A : Type 0} → (heard : Spoken) (say : A → Spoken) (o : Option Op) (t : Token) (ts : List Token) (go : Op → Reader A) (stay : A) → Where o (λ o. t.lexeme ≡ op_lexeme o)
    → ((o : Op) → Tells (λ r. heard (op_lexeme o ∷ r)) say (go o)) → ((r : List Lexeme) → heard r ≡ say stay r)
    → Told heard say (t ∷ ts) (if_op (op_before o ts) go stay (t ∷ ts))
told_op_by heard say None t ts go stay is hg hs = hs (lexemes (t ∷ ts))
told_op_by heard say (Some o) t ts go stay is hg hs =
    told_more heard say ts (t ∷ ts) (λ r. heard (op_lexeme o ∷ r)) (go o ts) (ap (λ l. heard (l ∷ lexemes ts)) is) ((hg o).told ts)

told_op : {A : Type 0} → (heard : Spoken) (say : A → Spoken) (ops : Lexeme → Option Op) → ((m : Lexeme) → Where (ops m) (λ o. m ≡ op_lexeme o)) → (go : Op → Reader A) (stay : A)
    → ((o : Op) → Tells (λ r. heard (op_lexeme o ∷ r)) say (go o)) → ((r : List Lexeme) → heard r ≡ say stay r) → (ts : List Token) → Told heard say ts (with_op ops go stay ts)
told_op heard say ops is go stay hg hs [] = hs []
told_op heard say ops is go stay hg hs (t ∷ ts) = told_op_by heard say (ops t.lexeme) t ts go stay (is t.lexeme) hg hs

pub tells_op : {A : Type 0} → (heard : Spoken) (say : A → Spoken) (ops : Lexeme → Option Op) → ((m : Lexeme) → Where (ops m) (λ o. m ≡ op_lexeme o)) → (go : Op → Reader A) (stay : A)
    → ((o : Op) → Tells (λ r. heard (op_lexeme o ∷ r)) say (go o)) → ((r : List Lexeme) → heard r ≡ say stay r) → Tells heard say (with_op ops go stay)
tells_op heard say ops is go stay hg hs = record { told = told_op heard say ops is go stay hg hs }

told_no_op : (heard : Spoken) (o : Option (Op × List Token)) (left : Expr) (ts : List Token) → ((r : List Lexeme) → heard r ≡ say_expr left r)
    → Told heard say_expr ts (if_op {A = Expr} o (λ _ _. Err ts) left ts)
told_no_op heard None left ts h = h (lexemes ts)
told_no_op heard (Some found) left ts h = tt

tells_chain_from : (ops : Lexeme → Option Op) → ((m : Lexeme) → Where (ops m) (λ o. m ≡ op_lexeme o)) → (operand : Reader Expr) → Tells silent say_expr operand
    → (more : ℕ) (heard : Spoken) (left : Expr) → ((r : List Lexeme) → heard r ≡ say_expr left r) → Tells heard say_expr (chain_from ops operand more left)
tells_chain_from ops is operand l zero heard left h = record { told = λ ts. told_no_op heard (op_at ops ts) left ts h }
tells_chain_from ops is operand l (suc more) heard left h =
    tells_op heard say_expr ops is (λ o. operand >>= λ right. chain_from ops operand more (expr.Two o left right)) left
    (λ o. tells_then (λ r. heard (op_lexeme o ∷ r)) say_expr say_expr operand (λ right. chain_from ops operand more (expr.Two o left right)) l
    (λ right. tells_chain_from ops is operand l more (λ r. heard (op_lexeme o ∷ say_expr right r)) (expr.Two o left right)
    (λ r. h (op_lexeme o ∷ say_expr right r) ∙ sym (said_two o left right r)))) h

pub tells_chain : (ops : Lexeme → Option Op) → ((m : Lexeme) → Where (ops m) (λ o. m ≡ op_lexeme o)) → (operand : Reader Expr) → Tells silent say_expr operand
    → Tells silent say_expr (chain_of ops operand)
tells_chain ops is operand l = tells_then silent say_expr say_expr operand (λ left. chain_from ops operand 32 left) l (λ left. tells_chain_from ops is operand l 32 (say_expr left) left (λ r. refl))

-- ---- lists

more_end : {A : Type 0} → (say : A → Spoken) (xs : List A) (y : A) (r : List Lexeme) → say_more say xs (say_sign sign.Comma (say y r)) ≡ say_more say (xs ++ y ∷ []) r
more_end say [] y r = refl
more_end say (x ∷ xs) y r = ap (λ r. say_sign sign.Comma (say x r)) (more_end say xs y r)

listed_end : {A : Type 0} → (say : A → Spoken) (xs : List A) (x y : A) (r : List Lexeme)
    → say_listed say (xs ++ x ∷ []) (say_sign sign.Comma (say y r)) ≡ say_listed say ((xs ++ x ∷ []) ++ y ∷ []) r
listed_end say [] x y r = refl
listed_end say (z ∷ xs) x y r = ap (λ r. say z r) (more_end say (xs ++ x ∷ []) y r)

tells_list_from : {A : Type 0} → (item : Reader A) (say : A → Spoken) → Tells silent say item → (steps : ℕ) (items : List A) (heard : Spoken)
    → ((x : A) (r : List Lexeme) → heard (say x r) ≡ say_listed say (items ++ x ∷ []) r) → Tells heard (say_listed say) (list_from item steps items)
tells_list_from item say l zero items heard h = tells_refuse heard (say_listed say)
tells_list_from item say l (suc steps) items heard h =
    tells_then heard say (say_listed say) item (λ x. behind (is_sign sign.Comma) (list_from item steps (items ++ x ∷ [])) (done (items ++ x ∷ []))) l
    (λ x. tells_behind (is_sign sign.Comma) (lexeme.Sign sign.Comma) (that_sign sign.Comma) (after heard say x) (say_listed say) (list_from item steps (items ++ x ∷ [])) (done (items ++ x ∷ []))
    (tells_list_from item say l steps (items ++ x ∷ []) (λ r. heard (say x (lexeme.Sign sign.Comma ∷ r)))
    (λ y r. h x (lexeme.Sign sign.Comma ∷ say y r) ∙ listed_end say items x y r))
    (tells_done (after heard say x) (say_listed say) (items ++ x ∷ []) (h x)))

pub tells_list : {A : Type 0} → (item : Reader A) (say : A → Spoken) → Tells silent say item → Tells silent (say_listed say) (list_of item)
tells_list item say l = record { told = λ ts. (tells_list_from item say l (length ts) [] silent (λ x r. refl)).told ts }

all_end : {A : Type 0} → (say : A → Spoken) (xs : List A) (x : A) (r : List Lexeme) → say_all say xs (say x r) ≡ say_all say (xs ++ x ∷ []) r
all_end say [] x r = refl
all_end say (y ∷ xs) x r = ap (λ r. say y r) (all_end say xs x r)

tells_many_from : {A : Type 0} → (test : Lexeme → Bool) (item : Reader A) (say : A → Spoken) → Tells silent say item → (steps : ℕ) (items : List A) (heard : Spoken)
    → ((r : List Lexeme) → heard r ≡ say_all say items r) → Tells heard (say_all say) (many_from test item steps items)
tells_many_from test item say l zero items heard h = tells_done heard (say_all say) items h
tells_many_from test item say l (suc steps) items heard h =
    tells_before test heard (say_all say) (item >>= λ x. many_from test item steps (items ++ x ∷ [])) (done items)
    (tells_then heard say (say_all say) item (λ x. many_from test item steps (items ++ x ∷ [])) l
    (λ x. tells_many_from test item say l steps (items ++ x ∷ []) (after heard say x) (λ r. h (say x r) ∙ all_end say items x r)))
    (tells_done heard (say_all say) items h)

pub tells_many : {A : Type 0} → (test : Lexeme → Bool) (item : Reader A) (say : A → Spoken) → Tells silent say item → Tells silent (say_all say) (many_of test item)
tells_many test item say l = record { told = λ ts. (tells_many_from test item say l (length ts) [] silent (λ r. refl)).told ts }
