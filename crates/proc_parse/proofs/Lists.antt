-- Lists of phrases, a phrase at a time.
use Rattle.std.proofs.Common.{◌≡◌, ℕ, zero, suc, ◌<◌, ◌≤◌, List, [], ◌∷◌, ◌++◌, length, Bool, true, false, cond, Option, Some, None, Ok, Err, refl, sym, ap, subst, ◌∙◌, arith}
use Rattle.proc_parse.specs.declared.token.Token.{Token}
use Rattle.proc_parse.specs.declared.token.Lexeme.{Lexeme}
use Rattle.proc_parse.specs.declared.token.Sign.TheVariants as sign
use Rattle.proc_parse.specs.Words.{is_sign}
use Rattle.proc_parse.specs.Reading.{Read, Reader, on_read, past, if_past, done, begins, behind, IsShorter, Shortens}
use Rattle.proc_parse.specs.Lists.{list_from, many_from}

-- of no tokens nothing is read
none_of : {A B : Type 0} → (ts : List Token) (r : Read A) (f : A → Reader B) → IsShorter ts r → length ts ≤ 0 → on_read r f ≡ Err ts
none_of [] (Ok x) f h e = absurd (omega (arith, h))
none_of [] (Err []) f h e = refl
none_of [] (Err (t ∷ rest)) f h e = absurd (omega (arith, h))
none_of (t ∷ ts) r f h e = absurd (omega (arith, e))

-- readers that agree on fewer tokens
past_same : {A : Type 0} → (test : Lexeme → Bool) (after ts : List Token) (go go' : Reader A) (stay : Read A) → length after < length ts
    → ((next : List Token) → length next < length ts → go next ≡ go' next) → if_past (past test after) go stay ≡ if_past (past test after) go' stay
past_same test [] ts go go' stay h same = refl
past_same {A = A} test (t ∷ after) ts go go' stay h same =
    elim (test t.lexeme) as (λ b. if_past {A = A} (cond b (Some after) None) go stay ≡ if_past (cond b (Some after) None) go' stay)
    [ true ↦ same after (omega (arith, h)) | false ↦ refl ]

read_same : {A B : Type 0} → (ts : List Token) (r : Read A) (f g : A → Reader B) → IsShorter ts r
    → ((x : A) (rest : List Token) → length rest < length ts → f x rest ≡ g x rest) → on_read r f ≡ on_read r g
read_same ts (Ok x) f g h same = same x.0 x.1 h
read_same ts (Err rest) f g h same = refl

-- as many steps as tokens are enough
pub list_enough : {A : Type 0} → (item : Reader A) → Shortens item → (n m : ℕ) (items : List A) (ts : List Token) → length ts ≤ n → length ts ≤ m
    → list_from item n items ts ≡ list_from item m items ts
list_enough item short zero zero items ts h k = refl
list_enough item short zero (suc m) items ts h k = sym (none_of ts (item ts) _ (short.shorter ts) h)
list_enough item short (suc n) zero items ts h k = none_of ts (item ts) _ (short.shorter ts) k
list_enough item short (suc n) (suc m) items ts h k =
    read_same ts (item ts) _ _ (short.shorter ts) (λ x rest l. past_same (is_sign sign.Comma) rest ts _ _ _ l
    (λ next s. list_enough item short n m (items ++ x ∷ []) next (omega (arith, s, h)) (omega (arith, s, k))))

-- after a comma the rest of a list
abbrev pub list_more : {A : Type 0} → Reader A → List A → A → Reader (List A)
list_more item items x = behind (is_sign sign.Comma) (λ next. list_from item (length next) (items ++ x ∷ []) next) (done (items ++ x ∷ []))

-- a list is a phrase, and after a comma a list
pub list_step : {A : Type 0} → (item : Reader A) → Shortens item → (items : List A) (ts : List Token)
    → list_from item (length ts) items ts ≡ on_read (item ts) (list_more item items)
list_step item short items [] = sym (none_of [] (item []) _ (short.shorter []) (omega arith))
list_step item short items (t ∷ ts) =
    read_same (t ∷ ts) (item (t ∷ ts)) _ _ (short.shorter (t ∷ ts)) (λ x rest l. past_same (is_sign sign.Comma) rest (t ∷ ts) _ _ _ l
    (λ next s. list_enough item short (length ts) (length next) (items ++ x ∷ []) next (omega (arith, s)) (omega arith)))

-- the comma after a phrase
pub list_next : {A : Type 0} → (item : Reader A) → Shortens item → (items more : List A) (ts after next : List Token) (x : A)
    → item ts ≡ Ok (x, after) → Some next ≡ past (is_sign sign.Comma) after → more ≡ items ++ x ∷ [] → list_from item (length next) more next ≡ list_from item (length ts) items ts
list_next {A = A} item short items more ts after next x e c m =
    ap (λ items. list_from item (length next) items next) m
    ∙ ap (λ (o : Option (List Token)). if_past {A = List A} o (λ next. list_from item (length next) (items ++ x ∷ []) next) (Ok (items ++ x ∷ [], after))) c
    ∙ ap (λ (r : Read A). on_read r (list_more item items)) (sym e)
    ∙ sym (list_step item short items ts)

-- the last phrase
pub list_last : {A : Type 0} → (item : Reader A) → Shortens item → (items more : List A) (ts after : List Token) (x : A)
    → item ts ≡ Ok (x, after) → None ≡ past (is_sign sign.Comma) after → more ≡ items ++ x ∷ [] → list_from item (length ts) items ts ≡ Ok (more, after)
list_last {A = A} item short items more ts after x e c m =
    list_step item short items ts
    ∙ ap (λ (r : Read A). on_read r (list_more item items)) e
    ∙ ap (λ (o : Option (List Token)). if_past {A = List A} o (λ next. list_from item (length next) (items ++ x ∷ []) next) (Ok (items ++ x ∷ [], after))) (sym c)
    ∙ ap (λ items. Ok (items, after)) (sym m)

same_before : {A : Type 0} → (b : Bool) (go go' stay : Read A) → go ≡ go' → cond b go stay ≡ cond b go' stay
same_before true go go' stay e = e
same_before false go go' stay e = refl

-- of no tokens none begins a phrase
none_before : {A : Type 0} → (test : Lexeme → Bool) (ts : List Token) (go stay : Read A) → length ts ≤ 0 → cond (begins test ts) go stay ≡ stay
none_before test [] go stay e = refl
none_before test (t ∷ ts) go stay e = absurd (omega (arith, e))

pub many_enough : {A : Type 0} → (test : Lexeme → Bool) (item : Reader A) → Shortens item → (n m : ℕ) (items : List A) (ts : List Token) → length ts ≤ n → length ts ≤ m
    → many_from test item n items ts ≡ many_from test item m items ts
many_enough test item short zero zero items ts h k = refl
many_enough test item short zero (suc m) items ts h k = sym (none_before test ts (on_read (item ts) (λ x. many_from test item m (items ++ x ∷ []))) (Ok (items, ts)) h)
many_enough test item short (suc n) zero items ts h k = none_before test ts (on_read (item ts) (λ x. many_from test item n (items ++ x ∷ []))) (Ok (items, ts)) k
many_enough test item short (suc n) (suc m) items ts h k =
    same_before (begins test ts) _ _ (Ok (items, ts)) (read_same ts (item ts) _ _ (short.shorter ts)
    (λ x rest l. many_enough test item short n m (items ++ x ∷ []) rest (omega (arith, l, h)) (omega (arith, l, k))))

-- after a phrase the rest of them
abbrev pub many_more : {A : Type 0} → (Lexeme → Bool) → Reader A → List A → A → Reader (List A)
many_more test item items x rest = many_from test item (length rest) (items ++ x ∷ []) rest

pub many_step : {A : Type 0} → (test : Lexeme → Bool) (item : Reader A) → Shortens item → (items : List A) (ts : List Token)
    → many_from test item (length ts) items ts ≡ cond (begins test ts) (on_read (item ts) (many_more test item items)) (Ok (items, ts))
many_step test item short items [] = refl
many_step test item short items (t ∷ ts) =
    same_before (test t.lexeme) _ _ (Ok (items, t ∷ ts)) (read_same (t ∷ ts) (item (t ∷ ts)) _ _ (short.shorter (t ∷ ts))
    (λ x rest l. many_enough test item short (length ts) (length rest) (items ++ x ∷ []) rest (omega (arith, l)) (omega arith)))

-- one more phrase
pub many_next : {A : Type 0} → (test : Lexeme → Bool) (item : Reader A) → Shortens item → (items more : List A) (ts after : List Token) (x : A)
    → begins test ts ≡ true → item ts ≡ Ok (x, after) → more ≡ items ++ x ∷ [] → many_from test item (length after) more after ≡ many_from test item (length ts) items ts
many_next {A = A} test item short items more ts after x b e m =
    ap (λ items. many_from test item (length after) items after) m
    ∙ ap (λ (r : Read A). on_read r (many_more test item items)) (sym e)
    ∙ ap (λ b. cond b (on_read (item ts) (many_more test item items)) (Ok (items, ts))) (sym b)
    ∙ sym (many_step test item short items ts)

-- what is wrong with a phrase
pub many_stop : {A : Type 0} → (test : Lexeme → Bool) (item : Reader A) → Shortens item → (items : List A) (ts rest : List Token)
    → begins test ts ≡ true → item ts ≡ Err rest → many_from test item (length ts) items ts ≡ Err rest
many_stop {A = A} test item short items ts rest b e =
    many_step test item short items ts
    ∙ ap (λ b. cond b (on_read (item ts) (many_more test item items)) (Ok (items, ts))) b
    ∙ ap (λ (r : Read A). on_read r (many_more test item items)) e

-- no more
pub many_last : {A : Type 0} → (test : Lexeme → Bool) (item : Reader A) → Shortens item → (items : List A) (ts : List Token)
    → begins test ts ≡ false → many_from test item (length ts) items ts ≡ Ok (items, ts)
many_last {A = A} test item short items ts b =
    many_step test item short items ts
    ∙ ap (λ b. cond b (on_read (item ts) (many_more test item items)) (Ok (items, ts))) b

-- what is read takes a token
pub ok_shorter : {A : Type 0} → (item : Reader A) → Shortens item → (ts after : List Token) (x : A) → item ts ≡ Ok (x, after) → length after < length ts
ok_shorter {A = A} item short ts after x e = subst (λ (r : Read A). IsShorter ts r) e (short.shorter ts)
