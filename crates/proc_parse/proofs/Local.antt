-- What a token has decided stays, whatever follows that token.
use Rattle.std.proofs.Common.{◌≡◌, ℕ, zero, suc, ◌<◌, ◌≤◌, List, [], ◌∷◌, ◌++◌, length, Bool, true, false, cond, Option, Some, None, Ok, Err, refl, sym, ap, subst, ◌∙◌, length-append, append_assoc, ⊎_elim, arith}
use Rattle.std.proofs.lemmas.Bool.{cases_lt}
use Rattle.proc_syntax.specs.declared.tree.Op.{Op}
use Rattle.proc_syntax.specs.declared.tree.Expr.{Expr}
use Rattle.proc_syntax.specs.declared.tree.Expr.TheVariants as expr
use Rattle.proc_parse.specs.declared.token.Token.{Token}
use Rattle.proc_parse.specs.declared.token.Lexeme.{Lexeme}
use Rattle.proc_parse.specs.declared.token.Sign.TheVariants as sign
use Rattle.proc_parse.specs.Words.{is_sign}
use Rattle.proc_parse.specs.Reading.{Read, Reader, on_read, ◌>>=◌, done, refuse, if_past, begins, behind, before, by_first, expect, one, if_found, Shortens}
use Rattle.proc_parse.specs.Lists.{list_from, list_of, many_from, many_of}
use Rattle.proc_parse.specs.Expressions.{op_before, op_at, if_op, with_op, without_op, chain_from, chain_of}
use Rattle.proc_parse.proofs.Lists.{list_enough, many_enough}

-- the tokens that are left
abbrev pub left : {A : Type 0} → Read A → List Token
left (Ok x) = x.1
left (Err rest) = rest

-- the same with more tokens after
abbrev pub extend : {A : Type 0} → Read A → List Token → Read A
extend (Ok x) ys = Ok (x.0, x.1 ++ ys)
extend (Err rest) ys = Err (rest ++ ys)

-- the tokens from one of these on
pub record IsSuffix (rest xs : List Token) : Type 0 where
  pub front : List Token
  pub split : xs ≡ front ++ rest

suffix_self : (xs : List Token) → IsSuffix xs xs
suffix_self xs = record { front = []; split = refl }

suffix_more : (t : Token) (rest xs : List Token) → IsSuffix rest xs → IsSuffix rest (t ∷ xs)
suffix_more t rest xs h = record { front = t ∷ h.front; split = ap (λ ts. t ∷ ts) h.split }

suffix_both : (rest mid xs : List Token) → IsSuffix rest mid → IsSuffix mid xs → IsSuffix rest xs
suffix_both rest mid xs h k = record { front = k.front ++ h.front; split = k.split ∙ ap (λ ts. k.front ++ ts) h.split ∙ sym (append_assoc k.front h.front rest) }

pub record IsLocal {A : Type 0} (p : Reader A) : Type 0 where
  -- what was decided by a token stays
  pub stays : (xs ys : List Token) → 0 < length (left (p xs)) → p (xs ++ ys) ≡ extend (p xs) ys
  -- what was not takes all the tokens
  pub goes : (xs ys : List Token) → length (left (p xs)) ≤ 0 → length (left (p (xs ++ ys))) ≤ length ys
  pub within : (xs : List Token) → length (left (p xs)) ≤ length xs
  pub suffix : (xs : List Token) → IsSuffix (left (p xs)) xs

pub local_done : {A : Type 0} → (x : A) → IsLocal (done x)
local_done x = record { stays = λ xs ys k. refl; goes = λ xs ys k. omega (arith, length-append xs ys, k); within = λ xs. omega arith; suffix = suffix_self }

pub local_refuse : (A : Type 0) → IsLocal (refuse {A = A})
local_refuse A = record { stays = λ xs ys k. refl; goes = λ xs ys k. omega (arith, length-append xs ys, k); within = λ xs. omega arith; suffix = suffix_self }

-- ---- one reader after another

left_then : {A B : Type 0} → (r : Read A) (f : A → Reader B) → ((x : A) → IsLocal (f x)) → length (left (on_read r f)) ≤ length (left r)
left_then (Ok x) f lf = (lf x.0).within x.1
left_then (Err rest) f lf = omega arith

stays_then : {A B : Type 0} → (r q : Read A) (f : A → Reader B) → ((x : A) → IsLocal (f x)) → (ys : List Token) → (0 < length (left r) → q ≡ extend r ys)
    → 0 < length (left (on_read r f)) → on_read q f ≡ extend (on_read r f) ys
stays_then {A = A} (Ok x) q f lf ys h k = ap (λ (z : Read A). on_read z f) (h (omega (arith, (lf x.0).within x.1, k))) ∙ (lf x.0).stays x.1 ys k
stays_then {A = A} (Err rest) q f lf ys h k = ap (λ (z : Read A). on_read z f) (h k)

goes_some : {A B : Type 0} → (x : A) (rest : List Token) (q : Read A) (f : A → Reader B) → ((x : A) → IsLocal (f x)) → (ys : List Token) → q ≡ Ok (x, rest ++ ys)
    → length (left (f x rest)) ≤ 0 → length (left (on_read q f)) ≤ length ys
goes_some {A = A} x rest q f lf ys e k = subst (λ (z : Read A). length (left (on_read z f)) ≤ length ys) (sym e) ((lf x).goes rest ys k)

goes_then : {A B : Type 0} → (r q : Read A) (f : A → Reader B) → ((x : A) → IsLocal (f x)) → (ys : List Token) → (0 < length (left r) → q ≡ extend r ys)
    → (length (left r) ≤ 0 → length (left q) ≤ length ys) → length (left (on_read r f)) ≤ 0 → length (left (on_read q f)) ≤ length ys
goes_then (Ok (x, [])) q f lf ys h g k = omega (arith, left_then q f lf, g (omega arith))
goes_then (Ok (x, t ∷ ts)) q f lf ys h g k = goes_some x (t ∷ ts) q f lf ys (h (omega arith)) k
goes_then (Err rest) q f lf ys h g k = omega (arith, left_then q f lf, g k)

suffix_then : {A B : Type 0} → (r : Read A) (f : A → Reader B) → ((x : A) → IsLocal (f x)) → (xs : List Token) → IsSuffix (left r) xs → IsSuffix (left (on_read r f)) xs
suffix_then (Ok x) f lf xs h = suffix_both _ x.1 xs ((lf x.0).suffix x.1) h
suffix_then (Err rest) f lf xs h = h

pub local_then : {A B : Type 0} → (p : Reader A) (f : A → Reader B) → IsLocal p → ((x : A) → IsLocal (f x)) → IsLocal (p >>= f)
local_then p f lp lf = record {
  stays = λ xs ys k. stays_then (p xs) (p (xs ++ ys)) f lf ys (lp.stays xs ys) k;
  goes = λ xs ys k. goes_then (p xs) (p (xs ++ ys)) f lf ys (lp.stays xs ys) (lp.goes xs ys) k;
  within = λ xs. omega (arith, left_then (p xs) f lf, lp.within xs);
  suffix = λ xs. suffix_then (p xs) f lf xs (lp.suffix xs);
}

-- ---- by the next token

within_past : {A : Type 0} → (b : Bool) (t : Token) (xs : List Token) (go : Reader A) (stay : Read A) → IsLocal go → length (left stay) ≤ length (t ∷ xs)
    → length (left (if_past (cond b (Some xs) None) go stay)) ≤ length (t ∷ xs)
within_past true t xs go stay lg ls = omega (arith, lg.within xs)
within_past false t xs go stay lg ls = ls

stays_past : {A : Type 0} → (b : Bool) (xs ys : List Token) (go : Reader A) (stay stay' : Read A) → IsLocal go → (0 < length (left stay) → stay' ≡ extend stay ys)
    → 0 < length (left (if_past (cond b (Some xs) None) go stay)) → if_past (cond b (Some (xs ++ ys)) None) go stay' ≡ extend (if_past (cond b (Some xs) None) go stay) ys
stays_past true xs ys go stay stay' lg ls k = lg.stays xs ys k
stays_past false xs ys go stay stay' lg ls k = ls k

goes_past : {A : Type 0} → (b : Bool) (xs ys : List Token) (go : Reader A) (stay stay' : Read A) → IsLocal go → (length (left stay) ≤ 0 → length (left stay') ≤ length ys)
    → length (left (if_past (cond b (Some xs) None) go stay)) ≤ 0 → length (left (if_past (cond b (Some (xs ++ ys)) None) go stay')) ≤ length ys
goes_past true xs ys go stay stay' lg ls k = lg.goes xs ys k
goes_past false xs ys go stay stay' lg ls k = ls k

behind_within : {A : Type 0} → (test : Lexeme → Bool) (go stay : Reader A) → IsLocal go → IsLocal stay → (xs : List Token) → length (left (behind test go stay xs)) ≤ length xs
behind_within test go stay lg ls [] = ls.within []
behind_within test go stay lg ls (t ∷ xs) = within_past (test t.lexeme) t xs go (stay (t ∷ xs)) lg (ls.within (t ∷ xs))

behind_stays : {A : Type 0} → (test : Lexeme → Bool) (go stay : Reader A) → IsLocal go → IsLocal stay → (xs ys : List Token) → 0 < length (left (behind test go stay xs))
    → behind test go stay (xs ++ ys) ≡ extend (behind test go stay xs) ys
behind_stays test go stay lg ls [] ys k = absurd (omega (arith, ls.within [], k))
behind_stays test go stay lg ls (t ∷ xs) ys k = stays_past (test t.lexeme) xs ys go (stay (t ∷ xs)) (stay (t ∷ (xs ++ ys))) lg (ls.stays (t ∷ xs) ys) k

behind_goes : {A : Type 0} → (test : Lexeme → Bool) (go stay : Reader A) → IsLocal go → IsLocal stay → (xs ys : List Token) → length (left (behind test go stay xs)) ≤ 0
    → length (left (behind test go stay (xs ++ ys))) ≤ length ys
behind_goes test go stay lg ls [] ys k = behind_within test go stay lg ls ys
behind_goes test go stay lg ls (t ∷ xs) ys k = goes_past (test t.lexeme) xs ys go (stay (t ∷ xs)) (stay (t ∷ (xs ++ ys))) lg (ls.goes (t ∷ xs) ys) k

suffix_past : {A : Type 0} → (b : Bool) (t : Token) (xs : List Token) (go : Reader A) (stay : Read A) → IsLocal go → IsSuffix (left stay) (t ∷ xs)
    → IsSuffix (left (if_past (cond b (Some xs) None) go stay)) (t ∷ xs)
suffix_past true t xs go stay lg ls = suffix_more t _ xs (lg.suffix xs)
suffix_past false t xs go stay lg ls = ls

behind_suffix : {A : Type 0} → (test : Lexeme → Bool) (go stay : Reader A) → IsLocal go → IsLocal stay → (xs : List Token) → IsSuffix (left (behind test go stay xs)) xs
behind_suffix test go stay lg ls [] = ls.suffix []
behind_suffix test go stay lg ls (t ∷ xs) = suffix_past (test t.lexeme) t xs go (stay (t ∷ xs)) lg (ls.suffix (t ∷ xs))

pub local_behind : {A : Type 0} → (test : Lexeme → Bool) (go stay : Reader A) → IsLocal go → IsLocal stay → IsLocal (behind test go stay)
local_behind test go stay lg ls = record { stays = behind_stays test go stay lg ls; goes = behind_goes test go stay lg ls; within = behind_within test go stay lg ls; suffix = behind_suffix test go stay lg ls }

-- readers that the first token chooses among
first_stays : {A H : Type 0} → (head : List Token → H) (go : H → Reader A) → ((t : Token) (xs ys : List Token) → head (t ∷ xs) ≡ head (t ∷ ys)) → ((h : H) → IsLocal (go h))
    → (xs ys : List Token) → 0 < length (left (by_first head go xs)) → by_first head go (xs ++ ys) ≡ extend (by_first head go xs) ys
first_stays head go same lg [] ys k = absurd (omega (arith, (lg (head [])).within [], k))
first_stays head go same lg (t ∷ xs) ys k = ap (λ h. go h (t ∷ (xs ++ ys))) (same t (xs ++ ys) xs) ∙ (lg (head (t ∷ xs))).stays (t ∷ xs) ys k

first_goes : {A H : Type 0} → (head : List Token → H) (go : H → Reader A) → ((t : Token) (xs ys : List Token) → head (t ∷ xs) ≡ head (t ∷ ys)) → ((h : H) → IsLocal (go h))
    → (xs ys : List Token) → length (left (by_first head go xs)) ≤ 0 → length (left (by_first head go (xs ++ ys))) ≤ length ys
first_goes head go same lg [] ys k = (lg (head ys)).within ys
first_goes {H = H} head go same lg (t ∷ xs) ys k =
    subst (λ (h : H). length (left (go h (t ∷ (xs ++ ys)))) ≤ length ys) (same t xs (xs ++ ys)) ((lg (head (t ∷ xs))).goes (t ∷ xs) ys k)

pub local_first : {A H : Type 0} → (head : List Token → H) (go : H → Reader A) → ((t : Token) (xs ys : List Token) → head (t ∷ xs) ≡ head (t ∷ ys)) → ((h : H) → IsLocal (go h))
    → IsLocal (by_first head go)
local_first head go same lg = record { stays = first_stays head go same lg; goes = first_goes head go same lg; within = λ xs. (lg (head xs)).within xs; suffix = λ xs. (lg (head xs)).suffix xs }

local_choice : {A : Type 0} → (b : Bool) (go stay : Reader A) → IsLocal go → IsLocal stay → IsLocal (λ ts. cond b (go ts) (stay ts))
local_choice true go stay lg ls = lg
local_choice false go stay lg ls = ls

pub local_before : {A : Type 0} → (test : Lexeme → Bool) (go stay : Reader A) → IsLocal go → IsLocal stay → IsLocal (before test go stay)
local_before test go stay lg ls = local_first (begins test) (λ b ts. cond b (go ts) (stay ts)) (λ t xs ys. refl) (λ b. local_choice b go stay lg ls)

pub local_expect : (test : Lexeme → Bool) → IsLocal (expect test)
local_expect test = local_behind test (done tt) refuse (local_done tt) (local_refuse (Unit {0}))

-- ---- one token

found_stays : {A : Type 0} → (o : Option A) (t : Token) (xs ys : List Token) → if_found o t (xs ++ ys) ≡ extend (if_found o t xs) ys
found_stays (Some x) t xs ys = refl
found_stays None t xs ys = refl

found_goes : {A : Type 0} → (o : Option A) (t : Token) (xs ys : List Token) → length (left (if_found o t xs)) ≤ 0 → length (left (if_found o t (xs ++ ys))) ≤ length ys
found_goes (Some x) t xs ys k = omega (arith, length-append xs ys, k)
found_goes None t xs ys k = absurd (omega (arith, k))

found_suffix : {A : Type 0} → (o : Option A) (t : Token) (xs : List Token) → IsSuffix (left (if_found o t xs)) (t ∷ xs)
found_suffix (Some x) t xs = suffix_more t xs xs (suffix_self xs)
found_suffix None t xs = suffix_self (t ∷ xs)

suffix_within : (rest xs : List Token) → IsSuffix rest xs → length rest ≤ length xs
suffix_within rest xs h = omega (arith, ap length h.split, length-append h.front rest)

one_suffix : {A : Type 0} → (meaning : Token → Option A) (xs : List Token) → IsSuffix (left (one meaning xs)) xs
one_suffix meaning [] = suffix_self []
one_suffix meaning (t ∷ xs) = found_suffix (meaning t) t xs

one_stays : {A : Type 0} → (meaning : Token → Option A) (xs ys : List Token) → 0 < length (left (one meaning xs)) → one meaning (xs ++ ys) ≡ extend (one meaning xs) ys
one_stays meaning [] ys k = absurd (omega (arith, k))
one_stays meaning (t ∷ xs) ys k = found_stays (meaning t) t xs ys

one_goes : {A : Type 0} → (meaning : Token → Option A) (xs ys : List Token) → length (left (one meaning xs)) ≤ 0 → length (left (one meaning (xs ++ ys))) ≤ length ys
one_goes meaning [] ys k = suffix_within _ ys (one_suffix meaning ys)
one_goes meaning (t ∷ xs) ys k = found_goes (meaning t) t xs ys k

pub local_one : {A : Type 0} → (meaning : Token → Option A) → IsLocal (one meaning)
local_one meaning = record { stays = one_stays meaning; goes = one_goes meaning; within = λ xs. suffix_within _ xs (one_suffix meaning xs); suffix = one_suffix meaning }

-- ---- operators

op_stays_by : {A : Type 0} → (o : Option Op) (go : Op → Reader A) (stay : A) (t : Token) → ((o : Op) → IsLocal (go o)) → (xs ys : List Token)
    → 0 < length (left (if_op (op_before o xs) go stay (t ∷ xs))) → if_op (op_before o (xs ++ ys)) go stay (t ∷ (xs ++ ys)) ≡ extend (if_op (op_before o xs) go stay (t ∷ xs)) ys
op_stays_by None go stay t lg xs ys k = refl
op_stays_by (Some o) go stay t lg xs ys k = (lg o).stays xs ys k

op_goes_by : {A : Type 0} → (o : Option Op) (go : Op → Reader A) (stay : A) (t : Token) → ((o : Op) → IsLocal (go o)) → (xs ys : List Token)
    → length (left (if_op (op_before o xs) go stay (t ∷ xs))) ≤ 0 → length (left (if_op (op_before o (xs ++ ys)) go stay (t ∷ (xs ++ ys)))) ≤ length ys
op_goes_by None go stay t lg xs ys k = absurd (omega (arith, k))
op_goes_by (Some o) go stay t lg xs ys k = (lg o).goes xs ys k

op_suffix_by : {A : Type 0} → (o : Option Op) (go : Op → Reader A) (stay : A) (t : Token) → ((o : Op) → IsLocal (go o)) → (xs : List Token)
    → IsSuffix (left (if_op (op_before o xs) go stay (t ∷ xs))) (t ∷ xs)
op_suffix_by None go stay t lg xs = suffix_self (t ∷ xs)
op_suffix_by (Some o) go stay t lg xs = suffix_more t _ xs ((lg o).suffix xs)

op_suffix : {A : Type 0} → (ops : Lexeme → Option Op) (go : Op → Reader A) (stay : A) → ((o : Op) → IsLocal (go o)) → (xs : List Token) → IsSuffix (left (with_op ops go stay xs)) xs
op_suffix ops go stay lg [] = suffix_self []
op_suffix ops go stay lg (t ∷ xs) = op_suffix_by (ops t.lexeme) go stay t lg xs

op_stays : {A : Type 0} → (ops : Lexeme → Option Op) (go : Op → Reader A) (stay : A) → ((o : Op) → IsLocal (go o)) → (xs ys : List Token)
    → 0 < length (left (with_op ops go stay xs)) → with_op ops go stay (xs ++ ys) ≡ extend (with_op ops go stay xs) ys
op_stays ops go stay lg [] ys k = absurd (omega (arith, k))
op_stays ops go stay lg (t ∷ xs) ys k = op_stays_by (ops t.lexeme) go stay t lg xs ys k

op_goes : {A : Type 0} → (ops : Lexeme → Option Op) (go : Op → Reader A) (stay : A) → ((o : Op) → IsLocal (go o)) → (xs ys : List Token)
    → length (left (with_op ops go stay xs)) ≤ 0 → length (left (with_op ops go stay (xs ++ ys))) ≤ length ys
op_goes ops go stay lg [] ys k = suffix_within _ ys (op_suffix ops go stay lg ys)
op_goes ops go stay lg (t ∷ xs) ys k = op_goes_by (ops t.lexeme) go stay t lg xs ys k

pub local_op : {A : Type 0} → (ops : Lexeme → Option Op) (go : Op → Reader A) (stay : A) → ((o : Op) → IsLocal (go o)) → IsLocal (with_op ops go stay)
local_op ops go stay lg = record {
  stays = op_stays ops go stay lg;
  goes = op_goes ops go stay lg;
  within = λ xs. suffix_within _ xs (op_suffix ops go stay lg xs);
  suffix = op_suffix ops go stay lg;
}

no_op_stays_by : {A : Type 0} → (o : Option Op) (stay : A) (t : Token) (xs ys : List Token)
    → if_op {A = A} (op_before o (xs ++ ys)) (λ _ _. Err (t ∷ (xs ++ ys))) stay (t ∷ (xs ++ ys)) ≡ extend (if_op {A = A} (op_before o xs) (λ _ _. Err (t ∷ xs)) stay (t ∷ xs)) ys
no_op_stays_by None stay t xs ys = refl
no_op_stays_by (Some o) stay t xs ys = refl

no_op_left : {A : Type 0} → (o : Option (Op × List Token)) (stay : A) (ts : List Token) → left (if_op {A = A} o (λ _ _. Err ts) stay ts) ≡ ts
no_op_left None stay ts = refl
no_op_left (Some found) stay ts = refl

no_op_stays : {A : Type 0} → (ops : Lexeme → Option Op) (stay : A) (xs ys : List Token) → 0 < length (left (without_op ops stay xs))
    → without_op ops stay (xs ++ ys) ≡ extend (without_op ops stay xs) ys
no_op_stays ops stay [] ys k = absurd (omega (arith, k))
no_op_stays ops stay (t ∷ xs) ys k = no_op_stays_by (ops t.lexeme) stay t xs ys

pub local_no_op : {A : Type 0} → (ops : Lexeme → Option Op) (stay : A) → IsLocal (without_op ops stay)
local_no_op {A = A} ops stay = record {
  stays = no_op_stays ops stay;
  goes = λ xs ys k. omega (arith, k, ap length (no_op_left (op_at ops xs) stay xs), ap length (no_op_left (op_at ops (xs ++ ys)) stay (xs ++ ys)), length-append xs ys);
  within = λ xs. omega (arith, ap length (no_op_left (op_at ops xs) stay xs));
  suffix = λ xs. subst (λ rest. IsSuffix rest xs) (sym (no_op_left (op_at ops xs) stay xs)) (suffix_self xs);
}

local_chain_from : (ops : Lexeme → Option Op) (operand : Reader Expr) → IsLocal operand → (more : ℕ) (left : Expr) → IsLocal (chain_from ops operand more left)
local_chain_from ops operand l zero e = local_no_op ops e
local_chain_from ops operand l (suc more) e = local_op ops _ e (λ o. local_then operand _ l (λ right. local_chain_from ops operand l more (expr.Two o e right)))

pub local_chain : (ops : Lexeme → Option Op) (operand : Reader Expr) → IsLocal operand → IsLocal (chain_of ops operand)
local_chain ops operand l = local_then operand _ l (λ e. local_chain_from ops operand l 32 e)

-- ---- lists

local_list_from : {A : Type 0} → (item : Reader A) → IsLocal item → (steps : ℕ) (items : List A) → IsLocal (list_from item steps items)
local_list_from {A = A} item l zero items = local_refuse (List A)
local_list_from item l (suc steps) items =
    local_then item _ l (λ x. local_behind (is_sign sign.Comma) _ _ (local_list_from item l steps (items ++ x ∷ [])) (local_done (items ++ x ∷ [])))

local_many_from : {A : Type 0} → (test : Lexeme → Bool) (item : Reader A) → IsLocal item → (steps : ℕ) (items : List A) → IsLocal (many_from test item steps items)
local_many_from test item l zero items = local_done items
local_many_from test item l (suc steps) items =
    local_before test _ _ (local_then item _ l (λ x. local_many_from test item l steps (items ++ x ∷ []))) (local_done items)

-- a reader whose steps are as many as there are tokens
by_steps : {A : Type 0} → (p : ℕ → Reader A) → ((n m : ℕ) (ts : List Token) → length ts ≤ n → length ts ≤ m → p n ts ≡ p m ts) → ((n : ℕ) → IsLocal (p n)) → IsLocal (λ ts. p (length ts) ts)
by_steps {A = A} p enough l = record {
  stays = λ xs ys k.
      let same : p (length xs) xs ≡ p (length (xs ++ ys)) xs = enough (length xs) (length (xs ++ ys)) xs (omega arith) (omega (arith, length-append xs ys)) in
      (l (length (xs ++ ys))).stays xs ys (subst (λ (r : Read A). 0 < length (left r)) same k) ∙ ap (λ (r : Read A). extend r ys) (sym same);
  goes = λ xs ys k.
      let same : p (length xs) xs ≡ p (length (xs ++ ys)) xs = enough (length xs) (length (xs ++ ys)) xs (omega arith) (omega (arith, length-append xs ys)) in
      (l (length (xs ++ ys))).goes xs ys (subst (λ (r : Read A). length (left r) ≤ 0) same k);
  within = λ xs. (l (length xs)).within xs;
  suffix = λ xs. (l (length xs)).suffix xs;
}

pub local_list : {A : Type 0} → (item : Reader A) → Shortens item → IsLocal item → IsLocal (list_of item)
local_list item short l = by_steps (λ n. list_from item n []) (λ n m ts h k. list_enough item short n m [] ts h k) (λ n. local_list_from item l n [])

pub local_many : {A : Type 0} → (test : Lexeme → Bool) (item : Reader A) → Shortens item → IsLocal item → IsLocal (many_of test item)
local_many test item short l = by_steps (λ n. many_from test item n []) (λ n m ts h k. many_enough test item short n m [] ts h k) (λ n. local_many_from test item l n [])

-- ---- the first bad token

no_rest : (t u : Token) (s r : List Token) → (u ∷ s) ++ r ≡ t ∷ r → (u ≡ t) × (s ≡ [])
no_rest t u [] r e = (cc, refl)
no_rest t u (v ∷ s) r e = absurd (omega (arith, ap length e, length-append s r))

bad_from : {A : Type 0} → (q : Read A) (t : Token) (r more : List Token) → 0 < length (left q) → extend q r ≡ Err (t ∷ r) → extend q more ≡ Err (t ∷ more)
bad_from (Ok x) t r more h e = cc
bad_from (Err []) t r more h e = absurd (omega (arith, h))
bad_from (Err (u ∷ s)) t r more h e =
    let f : (u ∷ s) ++ r ≡ t ∷ r = cc in
    let n = no_rest t u s r f in
    ap (λ z. Err (z ++ more)) (ap (λ v. v ∷ s) n.0 ∙ ap (λ v. t ∷ v) n.1)

-- the first bad token is bad whatever follows it
pub bad_stays : {A : Type 0} → (p : Reader A) → IsLocal p → (front : List Token) (t : Token) (r more : List Token) → p (front ++ (t ∷ r)) ≡ Err (t ∷ r) → p (front ++ (t ∷ more)) ≡ Err (t ∷ more)
bad_stays {A = A} p lp front t r more e =
    let xs = front ++ (t ∷ []) in
    let f : p (xs ++ r) ≡ Err (t ∷ r) = ap p (append_assoc front (t ∷ []) r) ∙ e in
    ⊎_elim
    (λ lt. ap p (sym (append_assoc front (t ∷ []) more)) ∙ lp.stays xs more lt ∙ bad_from (p xs) t r more lt (sym (lp.stays xs r lt) ∙ f))
    (λ le. absurd (omega (arith, lp.goes xs r le, ap (λ (z : Read A). length (left z)) f)))
    (cases_lt 0 (length (left (p xs))))
